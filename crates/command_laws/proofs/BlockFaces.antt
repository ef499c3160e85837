-- The six faces of a block.
use Rattle.command_laws.proofs.Prelude.{◌≡◌, ℕ, ◌+◌, ◌<◌, ℤ, None, sym, ap, subst, ◌∙◌, arith, refl, Point, Model, solid_of, Sound, taken_in, lamina_model, lamina_face, prism_model, next_place, base_of, block_refusal, block_model, blocks_have_bases, bases_rise, lamina_is_sound, held, nth, all_moved, side_over, turned_back, up_by, last_face, IsFaceOf, BlockHasTopAndBottom, BlockHasFourSides, BlockTakesSixFaces}
use Rattle.euler_operators.specs.Table as table
use Rattle.command_laws.proofs.SweptLoops.{face_counted}
use Rattle.command_laws.proofs.SweptFaces.{model_far, model_sides, model_other}
use Rattle.command_laws.proofs.SweptRings.{model_counted}
use Rattle.command_laws.proofs.LaminaFaces.{lamina_faces, lamina_counted}

module _ (M : Model) (s : ℕ) (p : Point) (dx dy dz : ℤ) (sound : Sound M) (goes : block_refusal M s p dx dy dz ≡ None) where
  abbrev base : Model
  base = lamina_model M s (base_of p dx dy)

  base_sound : Sound base
  base_sound = lamina_is_sound M s (base_of p dx dy) sound (blocks_have_bases M s p dx dy dz goes)

  base_faces : IsFaceOf base (lamina_face M) s (base_of p dx dy) × IsFaceOf base ((taken_in M).face + 2) s (turned_back (base_of p dx dy))
  base_faces = lamina_faces M s (base_of p dx dy) sound (blocks_have_bases M s p dx dy dz goes)

  block_is : block_model M s p dx dy dz ≡ prism_model base (lamina_face M) (up_by dz)
  unfolding block_model
  block_is = refl

  top : IsFaceOf (prism_model base (lamina_face M) (up_by dz)) (lamina_face M) s (all_moved (up_by dz) (base_of p dx dy))
  top = subst (λ u. IsFaceOf (prism_model base (lamina_face M) (up_by dz)) (lamina_face M) u (all_moved (up_by dz) (base_of p dx dy))) base_faces.0.solid
      (subst (λ ps. IsFaceOf (prism_model base (lamina_face M) (up_by dz)) (lamina_face M) (solid_of base (lamina_face M)) (all_moved (up_by dz) ps)) base_faces.0.points
      (model_far base (lamina_face M) (up_by dz) base_sound (bases_rise M s p dx dy dz sound goes) base_faces.0.plain))

  bottom : IsFaceOf (prism_model base (lamina_face M) (up_by dz)) ((taken_in M).face + 2) s (turned_back (base_of p dx dy))
  bottom = model_other base (lamina_face M) (up_by dz) base_sound (bases_rise M s p dx dy dz sound goes) ((taken_in M).face + 2) s (turned_back (base_of p dx dy)) (λ e. absurd (omega (arith, e))) base_faces.1

  side : (i : ℕ) → i < 4 → IsFaceOf (prism_model base (lamina_face M) (up_by dz)) (table.greatest M.faces + 3 + i) s (side_over (up_by dz) (nth (base_of p dx dy) i) (nth (base_of p dx dy) (next_place 4 i)))
  side i l =
      let one = model_sides base (lamina_face M) (up_by dz) base_sound (bases_rise M s p dx dy dz sound goes) base_faces.0.plain i in
      let two = lamina_counted M s (base_of p dx dy) in let three = bases_rise M s p dx dy dz sound goes in
      grind (arith, two, table.greatest M.faces, table.greatest base.faces, base_faces.0.solid, base_faces.0.points, one, three, base_faces.0.plain)

  counted : table.greatest (prism_model base (lamina_face M) (up_by dz)).faces ≡ table.greatest M.faces + 6
  counted =
      let one = model_counted base (lamina_face M) (up_by dz) base_sound (bases_rise M s p dx dy dz sound goes) in
      grind (arith, one, bases_rise M s p dx dy dz sound goes, lamina_counted M s (base_of p dx dy), base_faces.0.points, table.greatest M.faces)

pub block_has_top_and_bottom : BlockHasTopAndBottom
block_has_top_and_bottom before after s p dx dy dz sound made =
    let one = block_is (held before) s p dx dy dz sound made.0 in let two = bottom (held before) s p dx dy dz sound made.0 in
    grind (arith, made, one, held before, face_counted (held before), top (held before) s p dx dy dz sound made.0, two)

pub block_has_four_sides : BlockHasFourSides
block_has_four_sides before after s p dx dy dz i sound made l =
    subst (λ N. IsFaceOf N (last_face before + 3 + i) s (side_over (up_by dz) (nth (base_of p dx dy) i) (nth (base_of p dx dy) (next_place 4 i)))) (sym (ap held made.1 ∙ block_is (held before) s p dx dy dz sound made.0)) (side (held before) s p dx dy dz sound made.0 i l)

pub block_takes_six_faces : BlockTakesSixFaces
block_takes_six_faces before after s p dx dy dz sound made = ap last_face made.1 ∙ ap (λ (N : Model). table.greatest N.faces) (block_is (held before) s p dx dy dz sound made.0) ∙ counted (held before) s p dx dy dz sound made.0
