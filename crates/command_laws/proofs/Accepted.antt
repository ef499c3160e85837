-- When a block and a glue are accepted.
use Rattle.command_laws.proofs.Prelude.{◌≡◌, ◌≤◌, ℕ, arith, nat_le, true, not, List, is_some, refl, sym, ap, ◌∙◌, true≢false, nat_eq, map, reverse, ne_eqb, nat_tests, Point, Model, LoopContent, lone, cycle, items_of, content, face_of, outer, solid_of, Sound, Has, is_empty, is_lone, has_rings, ◌also◌, none_refuses, left_numbers_hold, block_conditions, start, least_lone, faces_of_both, taken_in, first_such, is_flat, early_glue_conditions, glue_conditions, outline, has_repeats, is_rotation, held, IsClosedFlat, IsFaceOf}
use Rattle.gluing.proofs.glue_checks_laws.Known.{both_closed, both_flat}
use Rattle.command_laws.specs.Accepted.{BlocksFit, GluesFit}
use Rattle.command_laws.proofs.Outlines.{points_are}

-- ---- a block

within : (k n : ℕ) → k ≤ n → nat_le k n ≡ true
within k n l = grind (arith, nat_tests)

pub blocks_fit : BlocksFit
unfolding block_conditions taken_in
blocks_fit m s p dx dy dz number free x y z near far left = grind (arith, none_refuses, within, left.faces, left.loops, left.edges, left.vertices)

-- ---- a glue

module _ (M : Model) (sound : Sound M) (f s : ℕ) (ps : List Point) (face : IsFaceOf M f s ps) (flat : IsClosedFlat M s) where
  outline_is : outline M f ≡ ps
  outline_is = outline_of_cycle (content M (outer M f)) refl where
    own : Has M.loops (outer M f) × (face_of M (outer M f) ≡ f)
    own = sound.outers_there f face.there

    outline_of_cycle : (c : LoopContent) → content M (outer M f) ≡ c → outline M f ≡ ps
    outline_of_cycle (lone v) e = absurd (true≢false (ap is_lone (sym e) ∙ flat.closed (outer M f) own.0 (ap (solid_of M) own.1 ∙ face.solid)))
    outline_of_cycle (cycle hs) e = ap (λ c. map (start M) (items_of c)) e ∙ sym (points_are M f (outer M f) hs face.plain refl e) ∙ face.points

  ringless : not (has_rings M f) ≡ true
  unfolding has_rings
  ringless = ap (λ rs. not (not (is_empty rs))) face.plain

pub glues_fit : GluesFit
unfolding glue_conditions early_glue_conditions taken_in
glues_fit m f g s t ps qs sound first second apart flat_s flat_t once_f once_g turned left =
    let M = held m in
    let out_f = outline_is M sound f s ps first flat_s in
    let out_g = outline_is M sound g t qs second flat_t in
    none_refuses (glue_conditions M f g) (sound.faces_fit f first.there also sound.faces_fit g second.there also first.there also second.there
    also ap not ((λ i. nat_eq (first.solid i) (second.solid i)) ∙ ne_eqb s t apart)
    also ringless M sound f s ps first flat_s also ringless M sound g t qs second flat_t
    also ap (λ o. not (is_some o)) ((λ i. least_lone M (faces_of_both M (first.solid i) (second.solid i))) ∙ both_closed M sound s t flat_s flat_t)
    also ap (λ o. not (is_some o)) ((λ i. first_such (λ k. not (is_flat M k)) (faces_of_both M (first.solid i) (second.solid i))) ∙ both_flat M sound s t flat_s flat_t)
    also ap not (ap has_repeats out_f ∙ once_f) also ap not (ap has_repeats out_g ∙ once_g)
    also ((λ i. is_rotation (out_f i) (reverse (out_g i))) ∙ turned)
    also left_numbers_hold (taken_in M) _ left)
