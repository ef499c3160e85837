-- The corners of some loops and of some faces, loop by loop; and the half-edges of a solid.
use Rattle.shapes.proofs.Prelude.{◌≡◌, ℕ, List, [], ◌∷◌, ◌++◌, refl, sym, ap, ◌∙◌, arith, append_assoc, eqb_tells, IsIn, IsApart, Model, items_of, content, loop_of, solid_of, Sound, HasHalf, face_at, count-append, tick_same, tick_other, IsIn_or_not, cycle_there, loop_there, items_in, loops_of, vertices_on, vertices_in, corners, corners_in, loops_in}
use Rattle.shapes.proofs.walks.FaceLoops.{different_items, items_counted, items_there}
use Rattle.shapes.proofs.walks.SolidFaces.{solid_loops, all_loops_apart, loop_in_solid, solid_has_loop}

pub vertices_joined : (M : Model) (ls ks : List ℕ) → vertices_in M (ls ++ ks) ≡ vertices_in M ls ++ vertices_in M ks
vertices_joined M [] ks = refl
vertices_joined M (l ∷ ls) ks = ap (λ vs. vertices_on M (content M l) ++ vs) (vertices_joined M ls ks) ∙ sym (append_assoc (vertices_on M (content M l)) (vertices_in M ls) (vertices_in M ks))

pub corners_are : (M : Model) (fs : List ℕ) → corners_in M fs ≡ vertices_in M (loops_in M fs)
unfolding corners
corners_are M [] = refl
corners_are M (f ∷ fs) = ap (λ vs. vertices_in M (loops_of M f) ++ vs) (corners_are M fs) ∙ sym (vertices_joined M (loops_of M f) (loops_in M fs))

-- a vertex on some loops is on one of them
pub on_one : (M : Model) (ls : List ℕ) (v : ℕ) → IsIn v (vertices_in M ls) → (l : ℕ) × IsIn l ls × IsIn v (vertices_on M (content M l))
on_one M [] v i = absurd (omega arith)
on_one M (l ∷ ls) v i = grind (arith, IsIn_or_not, tick_same, count-append, on_one M ls v)

-- an item of the list of one loop stands in that of some loops with it
pub in_some : (f : ℕ → List ℕ) (all : List ℕ → List ℕ) → ((l : ℕ) (ls : List ℕ) → all (l ∷ ls) ≡ f l ++ all ls) → (ls : List ℕ) (l x : ℕ) → IsIn l ls → IsIn x (f l) → IsIn x (all ls)
in_some f all step [] l x i j = absurd (omega arith)
in_some f all step (k ∷ ls) l x i j = grind (arith, eqb_tells, count-append, tick_other, in_some f all step ls l x)

-- so does a vertex on one loop
pub on_some : (M : Model) (ls : List ℕ) (l v : ℕ) → IsIn l ls → IsIn v (vertices_on M (content M l)) → IsIn v (vertices_in M ls)
on_some M = in_some (λ l. vertices_on M (content M l)) (vertices_in M) (λ l ls. refl)

-- ---- the half-edges of a solid

module _ (M : Model) (sound : Sound M) (s : ℕ) where
  abbrev pub solid_halves : List ℕ
  solid_halves = items_in M (solid_loops M sound s)

  pub halves_apart : IsApart solid_halves
  halves_apart = (different_items M sound (solid_loops M sound s) (all_loops_apart M sound s)).apart

  -- are those whose face is of the solid
  pub half_solid : (x : ℕ) → IsIn x solid_halves → HasHalf M x × (solid_of M (face_at M x) ≡ s)
  half_solid x i = (items_there M sound (solid_loops M sound s) x i, (loop_in_solid M sound s (loop_of M x) (omega (arith, i, items_counted M sound (solid_loops M sound s) x))).1)

  pub solid_half : (x : ℕ) → HasHalf M x → solid_of M (face_at M x) ≡ s → IsIn x solid_halves
  solid_half x t e = in_some (λ l. items_of (content M l)) (items_in M) (λ l ls. refl) (solid_loops M sound s) (loop_of M x) x (solid_has_loop M sound s (loop_of M x) (loop_there M sound x t) e) (cycle_there M sound x t)
