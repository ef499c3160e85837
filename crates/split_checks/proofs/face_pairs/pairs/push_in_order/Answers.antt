use Rattle.split_checks.proofs.Prelude.{◌≡◌, ◌∙◌, ℕ, [], List, ◌∷◌, ◌++◌, ◌&&◌, map, refl, sym, ap, subst, append_assoc, list_all, map-append, HalfEdge, in_pairs, is_up_and_down, up_first, codes, AreThere, Key, places_of, Pair}
use Rattle.split_checks.proofs.face_pairs_laws.Taken.{last_alone, none_left, pair_fails, second_there, two_taken}
use Rattle.split_checks.proofs.face_pairs.pairs.push_in_order.Goals as goal

pub returns-in_default-pop_first-clause-pairs : goal.returns-in_default-pop_first-clause-pairs
returns-in_default-pop_first-clause-pairs c =
    let none : c.pop_first.new.self.entries ≡ [] = none_left c.pop_first.new.self.entries _ refl c.in_default-pop_first.ensures.variant.1 in
    λ _. last_alone c.args.arena.now.model c.args.plane (map codes c.pairs.pairs.items) _ c.pairs.left.entries c.pop_first.new.self.entries (c.in-Some.field-0-0, c.in-Some.first) c.in-Some.ensures.removal none c.pairs.invariant.made

pub pairs-preserved : goal.pairs-preserved
pairs-preserved c =
    let M = c.args.arena.now.model in let p = c.args.plane in let test = is_up_and_down M p in let up = up_first M p in
    let es = c.pairs.left.entries in let left = c.pop_first-in-Some.new.self.entries in let had = map codes c.pairs.pairs.items in
    let is : es ≡ (c.in-Some.field-0-0, c.in-Some.first) ∷ (c.in-Some-pop_first.field-0-0, c.in-Some-pop_first.second) ∷ left =
    c.in-Some.ensures.removal ∙ ap (λ (fs : List (Key × HalfEdge)). (c.in-Some.field-0-0, c.in-Some.first) ∷ fs) c.in-Some-pop_first.ensures.removal in
    let rest = map up (in_pairs (places_of left)) in
    record {
      sides = c.up_and_down.ensures.sides;
      there = (subst (λ (fs : List (Key × HalfEdge)). AreThere M (places_of fs)) is c.pairs.invariant.there).1.1;
      differ = sym (ap (λ (fs : List (Key × HalfEdge)). list_all test (in_pairs (places_of fs))) is ∙ ap (λ b. b && list_all test (in_pairs (places_of left))) (sym c.in-Some-up_and_down.ensures.differ)) ∙ c.pairs.invariant.differ;
      made = ap (λ (ps : List Pair). map codes ps ++ rest) c.in_ok-push.ensures.items ∙ ap (λ (qs : List (ℕ × ℕ)). qs ++ rest) (map-append codes c.pairs.pairs.items _) ∙ append_assoc had _ rest
          ∙ ap (λ (q : ℕ × ℕ). had ++ q ∷ rest) c.in-Some-up_and_down.ensures.pair ∙ ap (λ (fs : List (Key × HalfEdge)). had ++ map up (in_pairs (places_of fs))) (sym is) ∙ c.pairs.invariant.made;
    }

pub up_and_down-requires-clause-second : goal.up_and_down-requires-clause-second
up_and_down-requires-clause-second c =
    let both = two_taken _ _ _ _ _ c.in-Some.ensures.removal c.in-Some-pop_first.ensures.removal in
    second_there c.args.arena.now.model _ _ _ _ both c.pairs.invariant.there

pub returns-in_default-up_and_down-clause-crossed : goal.returns-in_default-up_and_down-clause-crossed
returns-in_default-up_and_down-clause-crossed c =
    let two = two_taken _ _ _ _ _ c.in-Some.ensures.removal c.in-Some-pop_first.ensures.removal in
    pair_fails c.args.arena.now.model c.args.plane _ _ _ _ _ two c.pairs.invariant.differ c.in_default-up_and_down.ensures.differ
