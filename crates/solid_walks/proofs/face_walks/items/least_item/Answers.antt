use Rattle.solid_walks.proofs.Prelude.{◌≤◌, ◌∙◌, ap, sym, subst, ℕ, List, [], ◌∷◌, ◌++◌, length, arith, inl, inr, IsIn, least, cycle_of, has_half, IsIn_push}
use Rattle.solid_walks.proofs.face_walks_laws.HalfCodes.{coded, edge_fits}
use Rattle.solid_walks.proofs.face_walks_laws.CycleWalks.{seen, least_is, lesser_in, start_seen, item_there, same_cycle, cycle_apart, item_in, goes_on, comes_back}
use Rattle.solid_walks.proofs.face_walks.items.least_item.Goals as goal

pub code-first-requires : goal.code-first-requires
code-first-requires c = edge_fits c.args.arena.now.model c.requires.sound c.args.h c.requires.there

pub round-init : goal.round-init
round-init c =
    let M = c.args.arena.now.model in
    let h = c.code-first.result in
    let hs = cycle_of M h in
    let there = ap (has_half M) c.code-first.ensures ∙ c.requires.there in
    let apart = cycle_apart M c.requires.sound h there in
    let i = item_in M c.requires.sound h there in
    record {
      at_in = i;
      least_in = i;
      below = λ x s. elim (IsIn_push x h [] (subst (IsIn x) (start_seen h hs apart i) s)) [ inl none ↦ absurd (omega arith) | inr e ↦ omega arith ];
    }

-- what has been met with one item more is no less than the least, old or new
below_more : (a b c : ℕ) (xs : List ℕ) → c ≤ a → c ≤ b → ((x : ℕ) → IsIn x xs → a ≤ x) → (x : ℕ) → IsIn x (xs ++ b ∷ []) → c ≤ x
below_more a b c xs l m h x i = elim (IsIn_push x b xs i) [ inl j ↦ (let k : a ≤ x = h x j in omega arith) | inr e ↦ omega arith ]

pub next_code-at-requires-clause-there : goal.next_code-at-requires-clause-there
next_code-at-requires-clause-there c =
    let M = c.args.arena.now.model in
    item_there M c.requires.sound c.code-first.result (ap (has_half M) c.code-first.ensures ∙ c.requires.there) c.round.at c.round.invariant.at_in

pub returns-then-at-first-clause-there : goal.returns-then-at-first-clause-there
returns-then-at-first-clause-there c =
    let M = c.args.arena.now.model in
    ap (has_half M) (coded c.of_code.result c.round.least c.of_code.ensures)
    ∙ item_there M c.requires.sound c.code-first.result (ap (has_half M) c.code-first.ensures ∙ c.requires.there) c.round.least c.round.invariant.least_in

pub returns-then-at-first-clause-same_loop : goal.returns-then-at-first-clause-same_loop
returns-then-at-first-clause-same_loop c =
    let M = c.args.arena.now.model in
    ap (cycle_of M) (coded c.of_code.result c.round.least c.of_code.ensures)
    ∙ same_cycle M c.requires.sound c.code-first.result (ap (has_half M) c.code-first.ensures ∙ c.requires.there) c.round.least c.round.invariant.least_in
    ∙ ap (cycle_of M) c.code-first.ensures

pub returns-then-at-first-clause-least : goal.returns-then-at-first-clause-least
returns-then-at-first-clause-least c =
    let M = c.args.arena.now.model in
    let h = c.code-first.result in
    let there = ap (has_half M) c.code-first.ensures ∙ c.requires.there in
    let back = comes_back M c.requires.sound h there c.round.at c.next_code-at.result c.round.invariant.at_in (λ _. c.next_code-at.ensures.next) c.if-at-first.true in
    coded c.of_code.result c.round.least c.of_code.ensures
    ∙ least_is h (cycle_of M h) (cycle_apart M c.requires.sound h there) (item_in M c.requires.sound h there) c.round.least c.round.invariant.least_in
    (λ x i. c.round.invariant.below x (subst (IsIn x) (sym back.1) i))
    ∙ ap (λ x. least (cycle_of M x)) c.code-first.ensures

pub round-smaller : goal.round-smaller
round-smaller c =
    let M = c.args.arena.now.model in
    let on = goes_on M c.requires.sound c.code-first.result (ap (has_half M) c.code-first.ensures ∙ c.requires.there) c.round.at c.next_code-at.result c.round.invariant.at_in (λ _. c.next_code-at.ensures.next) c.if-at-first.false in
    omega (arith, ap length on.1)

pub round-preserved : goal.round-preserved
round-preserved c =
    let M = c.args.arena.now.model in
    let h = c.code-first.result in
    let on = goes_on M c.requires.sound h (ap (has_half M) c.code-first.ensures ∙ c.requires.there) c.round.at c.next_code-at.result c.round.invariant.at_in (λ _. c.next_code-at.ensures.next) c.if-at-first.false in
    record {
      at_in = on.0;
      least_in = lesser_in (cycle_of M h) c.round.least c.next_code-at.result c.min-least.result c.min-least.ensures c.round.invariant.least_in on.0;
      below = λ x i. below_more c.round.least c.next_code-at.result c.min-least.result (seen h (cycle_of M h) c.round.at) (omega arith) (omega arith) c.round.invariant.below x (subst (IsIn x) on.2 i);
    }
