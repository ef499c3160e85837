-- A walk over half-edges that adds the mates of those that don't reach above a plane.
use Rattle.split_sections.proofs.Prelude.{◌≡◌, ℕ, Bool, true, false, cond, List, [], ◌∷◌, ◌++◌, map, filter, refl, ap, ◌∙◌, arith, filter-append, map-append, count-append, IsRotation, SameItems, mate, Plane, Model, low_mates, stays_low}

-- those of a list in two parts
pub mates_joined : (M : Model) (p : Plane) (hs ks : List ℕ) → low_mates M p (hs ++ ks) ≡ low_mates M p hs ++ low_mates M p ks
mates_joined M p hs ks = ap (map mate) (filter-append (stays_low M p) hs ks) ∙ map-append mate (filter (stays_low M p) hs) (filter (stays_low M p) ks)

-- those of a ring from any of its items on
pub mates_turned : (M : Model) (p : Plane) (hs ks : List ℕ) → IsRotation hs ks → SameItems (low_mates M p ks) (low_mates M p hs)
mates_turned M p hs ks r x = grind (arith, mates_joined, count-append)

-- the mate of one half-edge
pub one_mate : (M : Model) (p : Plane) (h : ℕ) (b : Bool) → stays_low M p h ≡ b → low_mates M p (h ∷ []) ≡ cond b (mate h ∷ []) []
one_mate M p h b e = ap (λ c. map mate (cond c (h ∷ []) [])) e ∙ either b where
  either : (b : Bool) → map mate (cond b (h ∷ []) []) ≡ cond b (mate h ∷ []) []
  either true = refl
  either false = refl

-- some more are met, and the rest is still to come
pub more_met : (now had more rest all : List ℕ) → SameItems now (had ++ more) → SameItems (had ++ (more ++ rest)) all → SameItems (now ++ rest) all
more_met now had more rest all e same x = omega (arith, e x, same x, count-append x now rest, count-append x had more, count-append x had (more ++ rest), count-append x more rest)
