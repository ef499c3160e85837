-- The solids that are there after each command.
use Rattle.command_laws.proofs.Prelude.{◌≡◌, ℕ, ℤ, pos, List, None, is_some, ap, ◌∙◌, Point, Model, solid_of, Sound, Has, get-put_here, get-remove_here, get-remove_other, glue_refusal, glue_model, lamina_model, lamina_face, vector, base_of, block_model, held}
use Rattle.euler_operators.specs.Table as table
use Rattle.shapes.proofs.glue.Facts.{glue_goes}
use Rattle.sweeps_laws.proofs.prism.Accepted.{face_there}
use Rattle.command_laws.specs.Solids.{BlocksAreThere, LaminasAreThere, SweptAreThere, SweepsKeepSolids, GluesJoinSolids}
use Rattle.command_laws.proofs.Kept.{prism_keeps}

pub lamina_there : (M : Model) (s : ℕ) (ps : List Point) → Has (lamina_model M s ps).solids s
unfolding lamina_model
lamina_there M s ps = ap is_some (get-put_here M.solids s tt)

pub block_there : (M : Model) (s : ℕ) (p : Point) (dx dy dz : ℤ) → Has (block_model M s p dx dy dz).solids s
unfolding block_model
block_there M s p dx dy dz = ap (λ t. table.has t s) (prism_keeps (lamina_model M s (base_of p dx dy)) (lamina_face M) (vector (pos 0) (pos 0) dz)).solids ∙ lamina_there M s (base_of p dx dy)

first_stays : (M : Model) (f g : ℕ) → Sound M → glue_refusal M f g ≡ None → Has (glue_model M f g).solids (solid_of M f)
unfolding glue_model
first_stays M f g sound e = let goes = glue_goes M f g e in ap is_some (get-remove_other M.solids (solid_of M g) (solid_of M f) goes.solids_apart) ∙ sound.faces_of_solids f goes.f_there

second_goes : (M : Model) (f g : ℕ) → table.get (glue_model M f g).solids (solid_of M g) ≡ None
unfolding glue_model
second_goes M f g = get-remove_here M.solids (solid_of M g)

-- ---- the laws

pub blocks_are_there : BlocksAreThere
blocks_are_there before after s p dx dy dz made = ap (λ m. table.has (held m).solids s) made.1 ∙ block_there (held before) s p dx dy dz

pub laminas_are_there : LaminasAreThere
laminas_are_there before after s ps made = ap (λ m. table.has (held m).solids s) made.1 ∙ lamina_there (held before) s ps

pub sweeps_keep_solids : SweepsKeepSolids
sweeps_keep_solids before after f d made = ap (λ m. (held m).solids) made.1 ∙ (prism_keeps (held before) f d).solids

pub swept_are_there : SweptAreThere
swept_are_there before after f d sound made = ap (λ t. table.has t (solid_of (held before) f)) (sweeps_keep_solids before after f d made)
    ∙ sound.faces_of_solids f (face_there (held before) f d sound made.0)

pub glues_join_solids : GluesJoinSolids
glues_join_solids before after f g sound made = (
  ap (λ m. table.has (held m).solids (solid_of (held before) f)) made.1 ∙ first_stays (held before) f g sound made.0,
  ap (λ m. table.has (held m).solids (solid_of (held before) g)) made.1 ∙ ap is_some (second_goes (held before) f g),
)
