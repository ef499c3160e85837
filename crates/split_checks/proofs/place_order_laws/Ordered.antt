-- What it says of cut places that they are in order.
use Rattle.split_checks.proofs.Prelude.{◌≡◌, ℕ, true, List, [], ◌∷◌, Option, Some, None, MatchOption, refl, sym, ap, ◌∙◌, subst, arith, Plane, IsIn, HalfEdge, Model, Sound, HasHalf, code-half, boundary, loops_of, is_place, places, sorted_in, sorted, items_there, IsFaceAlong, AreThere, Key, ArePlacesAlong, entries_of, places_of}
use Rattle.split_checks.proofs.cut_places_laws.Lists.{of_picked}
use Rattle.split_checks.proofs.cut_places_laws.Walks.{all_there}

pub at_some : {X : Type 0} (o : Option X) (x : X) (P : Type 0) (Q : X → Type 0) → o ≡ Some x → MatchOption o P Q → Q x
at_some o x P Q e h = subst (λ y. MatchOption y P Q) e h

pub at_none : {X : Type 0} (o : Option X) (P : Type 0) (Q : X → Type 0) → o ≡ None → MatchOption o P Q → P
at_none o P Q e h = subst (λ y. MatchOption y P Q) e h

module _ (M : Model) (p : Plane) where
  -- the entries of places hold these
  pub held_places : (hs : List ℕ) → places_of (entries_of M p hs) ≡ hs
  held_places [] = refl
  held_places (h ∷ hs) = λ i. code-half h i ∷ held_places hs i

  there_sorted_in : (h : ℕ) (ks : List ℕ) → HasHalf M h → AreThere M ks → AreThere M (sorted_in M p h ks)
  there_sorted_in h [] t ts = (t, tt)
  there_sorted_in h (k ∷ ks) t ts = grind (arith, there_sorted_in h ks t ts.1)

  there_sorted : (hs : List ℕ) → AreThere M hs → AreThere M (sorted M p hs)
  there_sorted [] ts = tt
  there_sorted (h ∷ hs) ts = there_sorted_in h (sorted M p hs) ts.0 (there_sorted hs ts.1)

  -- places in order are there
  module _ (hs : List ℕ) (es : List (Key × HalfEdge)) (placed : es ≡ entries_of M p (sorted M p hs)) where
    pub held_in_order : places_of es ≡ sorted M p hs
    held_in_order = ap places_of placed ∙ held_places (sorted M p hs)

    pub order_there : (along : List ℕ) → ArePlacesAlong M p along hs → AreThere M (places_of es)
    order_there along whole = subst (AreThere M) (sym held_in_order) (there_sorted hs (all_there M hs (λ h i. (whole h i).there)))

  -- ---- the cut places of a face

  module _ (f : ℕ) where
    of_place : (h : ℕ) → IsIn h (places M p f) → IsIn h (boundary M f) × (is_place M p h ≡ true)
    unfolding places
    of_place h i = of_picked (is_place M p) h (boundary M f) i

    item_there : Sound M → (h : ℕ) → IsIn h (boundary M f) → HasHalf M h
    unfolding boundary
    item_there sound h i = items_there M sound (loops_of M f) h i

    pub places_along : (along : List ℕ) → Sound M → IsFaceAlong M p along f → ArePlacesAlong M p along (places M p f)
    places_along along sound face h i = let o = of_place h i in record { there = item_there sound h o.0; place = o.1; crossing = face h o.0 }
