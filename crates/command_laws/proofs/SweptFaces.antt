-- The faces of a sweep of a face without rings: its one loop is swept as each loop of a face with rings is.
use Rattle.command_laws.proofs.Prelude.{◌≡◌, ◌≢◌, ℕ, ◌+◌, ◌<◌, List, [], ◌∷◌, ◌++◌, None, refl, sym, ap, subst, ◌∙◌, arith, length, map, Point, Model, items_of, content, outer, solid_of, rings_of, Sound, same_outer, start, loops_of, growing, prism_refusal, prism_model, prism_from, next_place, IsPathOf, corner_points, nth, all_moved, side_over, IsFaceOf, loop_points}
use Rattle.euler_operators.specs.Table as table
use Rattle.command_laws.proofs.Outlines.{points_are, plane_is}
use Rattle.command_laws.proofs.Standing.{faces_stand}
use Rattle.command_laws.proofs.SweptAlone.{prism_keeps_shapes}
use Rattle.command_laws.proofs.SweptRings.{prism_is, Z_sound, whole, l_path, loop_then, loop_there, tops_some, side_at, face_low, same_row, far_face}
use Rattle.command_laws.proofs.SweptSides.{along_cycle}

module _ (M : Model) (f : ℕ) (d : Point) (sound : Sound M) (goes : prism_refusal M f d ≡ None) (plain : rings_of M f ≡ []) where
  abbrev Z : Model
  Z = (prism_from f d (growing M) (loops_of M f)).model

  one_loop : loops_of M f ≡ [] ++ outer M f ∷ []
  unfolding loops_of
  one_loop = ap (λ rs. outer M f ∷ rs) plain

  path : IsPathOf M f (outer M f) (items_of (content M (outer M f)))
  path = l_path M f d sound goes [] [] (outer M f) one_loop

  pub before_points : corner_points M f ≡ map (start M) (items_of (content M (outer M f)))
  before_points = points_are M f (outer M f) (items_of (content M (outer M f))) plain refl path.content

  same_points : loop_points M (outer M f) ≡ corner_points M f
  same_points = along_cycle M (outer M f) (items_of (content M (outer M f))) path.content ∙ sym before_points

  pub model_far : IsFaceOf (prism_model M f d) f (solid_of M f) (all_moved d (corner_points M f))
  model_far =
      let w = far_face M f d sound goes in
      let none = (whole M f d sound goes).rings f (face_low M f d sound goes) ∙ plain in
      let out = same_outer M Z f (same_row M f d sound goes) in
      let is = loop_then M f d sound goes [] [] (outer M f) one_loop in
      subst (λ N. IsFaceOf N f (solid_of M f) (all_moved d (corner_points M f))) (sym (prism_is M f d sound goes)) (record {
        there = w.there;
        solid = w.solid;
        plain = none;
        points = w.points;
        plane = plane_is Z f (outer M f) _ none out is (Z_sound M f d sound goes) (loop_there M f d sound goes [] [] (outer M f) one_loop) (tops_some M f d sound goes [] [] (outer M f) one_loop) (all_moved d (corner_points M f)) w.points;
      })

  pub model_sides : (i : ℕ) → let ps = corner_points M f in i < length ps → IsFaceOf (prism_model M f d) (table.greatest M.faces + 1 + i) (solid_of M f) (side_over d (nth ps i) (nth ps (next_place (length ps) i)))
  model_sides i m = let ps = corner_points M f in subst (λ N. IsFaceOf N (table.greatest M.faces + 1 + i) (solid_of M f) (side_over d (nth ps i) (nth ps (next_place (length ps) i)))) (sym (prism_is M f d sound goes))
      (subst (λ n. IsFaceOf Z (n + 1 + i) (solid_of M f) (side_over d (nth ps i) (nth ps (next_place (length ps) i)))) (none (table.greatest M.faces))
      (subst (λ qs. i < length qs → IsFaceOf Z (table.greatest M.faces + 0 + 1 + i) (solid_of M f) (side_over d (nth qs i) (nth qs (next_place (length qs) i)))) same_points (side_at M f d sound goes [] [] (outer M f) one_loop i) m)) where
        none : (n : ℕ) → n + 0 ≡ n
        none n = omega arith

-- each other face stands as it did
pub model_other : (M : Model) (f : ℕ) (d : Point) → Sound M → prism_refusal M f d ≡ None → (k s : ℕ) (ps : List Point) → k ≢ f → IsFaceOf M k s ps → IsFaceOf (prism_model M f d) k s ps
model_other M f d sound goes k s ps ne was = faces_stand M (prism_model M f d) k s ps (prism_keeps_shapes M f d sound goes k was.there ne) was
