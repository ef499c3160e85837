-- Paths of half-edges, each of which ends where the next one starts; the loops of a sound model are closed ones.
use Rattle.shapes.proofs.Prelude.{◌≡◌, ℕ, List, [], ◌∷◌, refl, sym, ap, ◌∙◌, Point, origin, IsIn, head_or, IsPath, IsRing, Model, items_of, content, point_of, after, Sound, in-holds, IsIn_rest, IsIn_head, light, start, finish}

-- where a path begins that ends at e
abbrev pub begins : Model → List ℕ → Point → Point
begins M [] e = e
begins M (h ∷ hs) e = start M h

-- each half-edge ends where the next one starts, and the last one at e
abbrev pub IsPathTo : Model → List ℕ → Point → Type 0
IsPathTo M [] e = Unit {0}
IsPathTo M (h ∷ hs) e = (finish M h ≡ begins M hs e) × IsPathTo M hs e

-- a closed path
abbrev pub IsClosed : Model → List ℕ → Type 0
IsClosed M hs = IsPathTo M hs (begins M hs origin)

module _ (M : Model) (next : ℕ → ℕ) where
  heads : (hs : List ℕ) (d : ℕ) → start M (head_or d hs) ≡ begins M hs (start M d)
  heads [] d = refl
  heads (h ∷ hs) d = refl

  -- where next leads from each half-edge to one that starts at its end
  path_leads : (hs : List ℕ) (d : ℕ) → IsPath next hs d → ((h : ℕ) → IsIn h hs → finish M h ≡ start M (next h)) → IsPathTo M hs (start M d)
  path_leads [] d p meet = tt
  path_leads (h ∷ hs) d p meet = (meet h (IsIn_head h hs) ∙ ap (start M) p.0 ∙ heads hs d, path_leads hs d p.1 (λ g i. meet g (IsIn_rest g h hs i)))

  pub ring_closed : (hs : List ℕ) → IsRing next hs → ((h : ℕ) → IsIn h hs → finish M h ≡ start M (next h)) → IsClosed M hs
  ring_closed [] r meet = tt
  ring_closed (h ∷ hs) r meet = path_leads (h ∷ hs) h r meet

module _ (M : Model) (sound : Sound M) where
  pub loop_closed : (l : ℕ) → IsClosed M (items_of (content M l))
  loop_closed l = ring_closed M (after M) (items_of (content M l)) (light M sound l).1
      (λ h i. ap (point_of M) (sym (sound.ends_meet h (sound.only_edges h l (in-holds h (content M l) i)))))
