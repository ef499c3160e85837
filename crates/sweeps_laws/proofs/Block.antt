-- The six volumes of a block and of a lamina, and of the other solids.
use Rattle.sweeps_laws.proofs.Prelude.{◌≡◌, ℕ, suc, ℤ, pos, ◌-ℤ◌, true, false, nat_eq, List, [], None, is_some, refl, sym, ap, subst, ◌∙◌, arith, true≢false, length, get_or, ◌-◌, ne_eqb, Point, dot, Model, no_point, solid_of, faces_of, Sound, all_where_none, none_add, second_corner, third_corner, fourth_corner, rectangle_flat, rectangle_raised, solid_row, taken_in, lamina_refusal, lamina_at, lamina_model, lamina_face, prism_model, vector, base_of, block_model, normal, is_flat, six_volume, BlockMeasures, BlockKeepsOthers, LaminaMeasures, FlatLaminasMeasureNothing, LaminaKeepsOthers}
use Rattle.euler_operators.specs.Table as table
use Rattle.sweeps_laws.proofs.lamina.Walk.{lamina_goes}
use Rattle.sweeps_laws.proofs.lamina.Blocks.{block_goes}
use Rattle.sweeps_laws.proofs.BlockOps.{goes, base_sound, rise}
use Rattle.sweeps_laws.proofs.Whole.{sweep_adds, sweep_keeps_others}
use Rattle.sweeps_laws.proofs.swept.Bounds.{taken_free}
use Rattle.sweeps_laws.proofs.LaminaVolumes.{lamina_volume, flat_volume, base, base_normal, base_volume}
use Rattle.sweeps_laws.proofs.LaminaRows.{solid_one, lamina_keeps}

-- a solid that isn't there has no face
no_faces : (M : Model) (s : ℕ) → Sound M → table.has M.solids s ≡ false → faces_of M s ≡ []
no_faces M s sound free = all_where_none (λ _ row. nat_eq row.solid s) M.faces (λ k row at. ne_eqb row.solid s (λ e. true≢false (sym (sound.faces_of_solids k (ap is_some at)) ∙ ap (table.has M.solids) (solid_row M k row at ∙ e) ∙ free)))

pub lamina_is : (M : Model) (s : ℕ) (ps : List Point) → lamina_model M s ps ≡ lamina_at M (taken_in M) s ps
unfolding lamina_model
lamina_is M s ps = refl

-- a lamina has three points or more, and its solid is new
lamina_new : (M : Model) (s : ℕ) (ps : List Point) → Sound M → lamina_refusal M s ps ≡ None → (length ps ≡ suc (suc (suc (length ps - 3)))) × (table.has M.solids s ≡ false)
lamina_new M s ps sound e = let goes = lamina_goes M s ps sound e in (omega (arith, goes.many), ap is_some goes.solid_free)

pub lamina_measures : LaminaMeasures
lamina_measures M s ps sound e = let g = lamina_new M s ps sound e in
    subst (λ N. six_volume N s ≡ dot (get_or ps 0 no_point) (normal N (lamina_face M)) -ℤ dot (get_or ps 1 no_point) (normal N (lamina_face M))) (sym (lamina_is M s ps))
    (lamina_volume s ps (length ps - 3) g.0 (taken_free M sound) (no_faces M s sound g.1))

pub flat_laminas_measure_nothing : FlatLaminasMeasureNothing
flat_laminas_measure_nothing M s ps sound e = let g = lamina_new M s ps sound e in
    subst (λ N. is_flat N (lamina_face M) ≡ true → six_volume N s ≡ pos 0) (sym (lamina_is M s ps))
    (flat_volume s ps (length ps - 3) g.0 (taken_free M sound) (no_faces M s sound g.1))

-- other solids keep their six volumes
pub lamina_keeps_others : LaminaKeepsOthers
lamina_keeps_others M s ps u sound e ne = ap (λ x. six_volume x u) (lamina_is M s ps) ∙ lamina_keeps M (taken_in M) s ps (omega (arith, (lamina_goes M s ps sound e).many)) (taken_free M sound) u ne

-- ---- blocks

block_is : (M : Model) (s : ℕ) (p : Point) (dx dy dz : ℤ) → block_model M s p dx dy dz ≡ prism_model (lamina_model M s (base_of p dx dy)) (lamina_face M) (vector (pos 0) (pos 0) dz)
unfolding block_model
block_is M s p dx dy dz = refl

base_solid : (M : Model) (s : ℕ) (p : Point) (dx dy : ℤ) → solid_of (lamina_model M s (base_of p dx dy)) (lamina_face M) ≡ s
base_solid M s p dx dy = ap (λ N. solid_of N (lamina_face M)) (lamina_is M s (base_of p dx dy)) ∙ solid_one M (taken_in M) s (base_of p dx dy)

-- six times the product of its sizes
pub block_volume : BlockMeasures
block_volume M s p dx dy dz sound e =
    let none = no_faces M s sound (block_goes M s p dx dy dz e).solid_free in
    let adds = sweep_adds (lamina_model M s (base_of p dx dy)) (lamina_face M) (vector (pos 0) (pos 0) dz) (base_sound M s p dx dy dz sound e) (rise M s p dx dy dz sound e) in
    grind (arith, second_corner, third_corner, fourth_corner, taken_free, base_solid, block_is, lamina_is, adds, none, rectangle_flat, none_add, base, base_normal, base_volume, rectangle_raised)

pub block_keeps_others : BlockKeepsOthers
block_keeps_others M s p dx dy dz u sound e ne =
    ap (λ x. six_volume x u) (block_is M s p dx dy dz)
    ∙ sweep_keeps_others (lamina_model M s (base_of p dx dy)) (lamina_face M) (vector (pos 0) (pos 0) dz) u (base_sound M s p dx dy dz sound e) (rise M s p dx dy dz sound e) (λ o. ne (o ∙ base_solid M s p dx dy))
    ∙ lamina_keeps_others M s (base_of p dx dy) u sound (goes M s p dx dy dz sound e) ne
