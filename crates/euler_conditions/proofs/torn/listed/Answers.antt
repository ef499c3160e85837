use Rattle.euler_conditions.proofs.Prelude.{ℕ, ◌+◌, ◌-◌, ◌/◌, ◌<◌, ◌≤◌, length, get_or, sym, ap, ◌∙◌, arith, lists, listed_at, below_middle, above_middle, not_found}
use Rattle.euler_conditions.proofs.torn.listed.Goals as goal

pub returns-then-face-f : goal.returns-then-face-f
returns-then-face-f c =
    let fs = c.args.faces.now in let mid : ℕ = c.search.low + (c.search.high - c.search.low) / 2 in
    let inside : mid < length fs = omega arith in
    sym (ap (lists fs) (sym c.if-face-f.true ∙ c.get-face.ensures) ∙ listed_at fs mid inside)

pub search-preserved-then-face-f-2 : goal.search-preserved-then-face-f-2
search-preserved-then-face-f-2 c =
    let fs = c.args.faces.now in let mid : ℕ = c.search.low + (c.search.high - c.search.low) / 2 in
    let inside : mid < length fs = omega arith in
    let less : get_or fs mid 0 < c.args.f = omega (arith, c.get-face.ensures) in
    record { within = omega arith; order = omega arith; below = below_middle fs c.args.f mid c.requires inside less; above = c.search.invariant.above }

pub search-preserved : goal.search-preserved
search-preserved c =
    let fs = c.args.faces.now in let mid : ℕ = c.search.low + (c.search.high - c.search.low) / 2 in
    let more : c.args.f < get_or fs mid 0 = omega (arith, c.get-face.ensures) in
    record { within = omega arith; order = omega arith; below = c.search.invariant.below; above = above_middle fs c.args.f mid c.requires more }

pub returns : goal.returns
returns c =
    let same : c.search.high ≤ c.search.low = omega arith in
    not_found c.args.faces.now c.args.f c.search.low c.search.invariant.below (λ k l m. c.search.invariant.above k (omega arith) m)
