use Rattle.split_checks.proofs.Prelude.{◌≡◌, ◌∙◌, ℕ, Bool, true, false, not, ◌&&◌, ◌||◌, [], ◌∷◌, map, Option, Some, None, IfSome, is_none, is_some, refl, sym, ap, int_eq, code, Plane, Point, Model, same_point, place_point, is_up_and_down, in_pairs, sorted, up_first, Pair}
use Rattle.split_checks.specs.Cuts.{codes}
use Rattle.split_checks.proofs.face_pairs_laws.Meetings.{two_paired}
use Rattle.split_checks.proofs.face_pairs.pairs.only_pair.Goals as goal

associated : (a b c : Bool) → a && (b && c) ≡ a && b && c
associated true b c = refl
associated false b c = refl

-- two points compared are the two that they are
compared : (q r x y : Point) (b : Bool) → q ≡ x → r ≡ y → b ≡ int_eq q.x r.x && (int_eq q.y r.y && int_eq q.z r.z) → same_point x y ≡ b
compared q r x y b is_x is_y e = sym (e ∙ associated (int_eq q.x r.x) (int_eq q.y r.y) (int_eq q.z r.z) ∙ (λ i. same_point (is_x i) (is_y i)))

none_or_some : {X : Type 0} (o : Option X) → is_none o ≡ not (is_some o)
none_or_some None = refl
none_or_some (Some x) = refl

one_pair : (M : Model) (p : Plane) (h k : ℕ) (o : Option Pair) → is_some o ≡ is_up_and_down M p (h, k) → IfSome o (λ q. codes q ≡ up_first M p (h, k))
    → IfSome o (λ q. codes q ∷ [] ≡ map (up_first M p) (in_pairs (sorted M p (h ∷ k ∷ []))))
one_pair M p h k None e f = tt
one_pair M p h k (Some q) e f = ap (λ (r : ℕ × ℕ). r ∷ []) f ∙ two_paired M p h k (sym e)

pub returns-then-eq-clause-crossed : goal.returns-then-eq-clause-crossed
returns-then-eq-clause-crossed c =
    let M = c.args.arena.now.model in let p = c.args.plane in let h = code c.args.first in let k = code c.args.second in
    let met : same_point (place_point M p h) (place_point M p k) ≡ true = compared c.place_point-met.result c.place_point.result _ _ c.eq.result c.place_point-met.ensures.is c.place_point.ensures.is c.eq.ensures ∙ c.if-eq.true in
    sym (ap (λ b. b || not (is_up_and_down M p (h, k))) met)

pub returns-clause-crossed : goal.returns-clause-crossed
returns-clause-crossed c =
    let M = c.args.arena.now.model in let p = c.args.plane in
    let apart : same_point (place_point M p (code c.args.first)) (place_point M p (code c.args.second)) ≡ false = compared c.place_point-met.result c.place_point.result _ _ c.eq.result c.place_point-met.ensures.is c.place_point.ensures.is c.eq.ensures ∙ c.if-eq.false in
    none_or_some c.up_and_down.result ∙ sym (λ i. apart i || not (sym c.up_and_down.ensures.differ i))

pub returns-clause-pair : goal.returns-clause-pair
returns-clause-pair c = one_pair c.args.arena.now.model c.args.plane (code c.args.first) (code c.args.second) c.up_and_down.result c.up_and_down.ensures.differ c.up_and_down.ensures.pair
