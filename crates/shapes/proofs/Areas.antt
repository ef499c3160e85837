-- Sums of cross products over half-edges, joined and turned.
use Rattle.shapes.proofs.Prelude.{◌≡◌, ℕ, List, [], ◌∷◌, ◌++◌, sym, ap, ◌∙◌, Point, moved, cross, IsRotation, Model, moved_none, moved_twice, none_moved, same_vector, start, finish, area}
use Rattle.std.proofs.Math.IntN.{+ℤ_comm}

pub moved_turned : (p q : Point) → moved p q ≡ moved q p
moved_turned p q = same_vector _ _ (+ℤ_comm p.x q.x) (+ℤ_comm p.y q.y) (+ℤ_comm p.z q.z)

pub area-append : (M : Model) (hs ks : List ℕ) → area M (hs ++ ks) ≡ moved (area M hs) (area M ks)
area-append M [] ks = sym (none_moved (area M ks))
area-append M (h ∷ hs) ks = ap (moved (cross (start M h) (finish M h))) (area-append M hs ks) ∙ sym (moved_twice (cross (start M h) (finish M h)) (area M hs) (area M ks))

-- a loop's sum doesn't depend on where it starts
pub area_turned : (M : Model) (hs ks : List ℕ) → IsRotation hs ks → area M hs ≡ area M ks
area_turned M hs ks r = (λ i. area M (r.here i)) ∙ area-append M r.front r.back ∙ moved_turned (area M r.front) (area M r.back) ∙ sym (area-append M r.back r.front) ∙ (λ i. area M (sym r.there i))

pub area_push : (M : Model) (hs : List ℕ) (h : ℕ) → area M (hs ++ h ∷ []) ≡ moved (area M hs) (cross (start M h) (finish M h))
area_push M hs h = area-append M hs (h ∷ []) ∙ ap (moved (area M hs)) (moved_none (cross (start M h) (finish M h)))
