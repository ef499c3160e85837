-- Places that are taken two by two.
use Rattle.split_checks.proofs.Prelude.{◌≡◌, ℕ, ◌<◌, Bool, not, List, [], ◌∷◌, ◌++◌, map, length, refl, sym, ap, ◌∙◌, arith, true, false, true≢false, subst, append-nil, list_all, Plane, HalfEdge, code, Model, has_half, in_pairs, is_up_and_down, up_first, AreThere, Key, places_of}

-- a place that is left alone makes no pair
pub last_alone : (M : Model) (p : Plane) (made all : List (ℕ × ℕ)) (es more : List (Key × HalfEdge)) (e : Key × HalfEdge) → es ≡ e ∷ more → more ≡ []
    → made ++ map (up_first M p) (in_pairs (places_of es)) ≡ all → made ≡ all
last_alone M p made all es more e is none done =
    sym (append-nil made) ∙ sym (ap (λ fs. made ++ map (up_first M p) (in_pairs (places_of fs))) (is ∙ ap (λ (fs : List (Key × HalfEdge)). e ∷ fs) none)) ∙ done

-- a list that has no first item is empty
pub none_left : {X : Type 0} (es : List X) (n : ℕ) → n ≡ length es → (0 < n → false ≡ true) → es ≡ []
none_left [] n e some = refl
none_left (x ∷ xs) n e some = absurd (true≢false (sym (some (omega (arith, e)))))

-- the first two items of a list
pub two_taken : {X : Type 0} (xs more left : List X) (a b : X) → xs ≡ a ∷ more → more ≡ b ∷ left → xs ≡ a ∷ b ∷ left
two_taken {X} xs more left a b e f = e ∙ ap (λ (ys : List X). a ∷ ys) f

-- the second of two places is there
pub second_there : (M : Model) (es left : List (Key × HalfEdge)) (a b : Key × HalfEdge) → es ≡ a ∷ b ∷ left → AreThere M (places_of es) → has_half M (code b.1) ≡ true
second_there M es left a b is there = (subst (λ (fs : List (Key × HalfEdge)). AreThere M (places_of fs)) is there).1.0

-- where two places aren't one up and one down, not all pairs are
pub pair_fails : (M : Model) (p : Plane) (es left : List (Key × HalfEdge)) (a b : Key × HalfEdge) (all : Bool) → es ≡ a ∷ b ∷ left → list_all (is_up_and_down M p) (in_pairs (places_of es)) ≡ all
    → false ≡ is_up_and_down M p (code a.1, code b.1) → true ≡ not all
pair_fails M p es left a b all is same differ = grind arith
