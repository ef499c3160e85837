-- The caps of a whole split.
use Rattle.command_laws.proofs.Prelude.{◌≡◌, [], false, get_or, map, sym, subst, moved, normal, negated, holes_in, is_hole, faces_above, with_drawings, held, IsCapOf, area_below, cap, cycles_of, sum_of}
use Rattle.euler_operators.specs.Table as table
use Rattle.command_laws.specs.Caps.{CapsHaveNormals, CapsStand, HolesAreClosed}
use Rattle.command_laws.proofs.caps_laws.PartCaps.{both_caps, both_gone, normals_told}
use Rattle.command_laws.proofs.splits_laws.Whole.{after_is, after_sound, can}

-- ---- the caps of cycle i

pub caps_stand : CapsStand
caps_stand before after s p t i sound made l outer =
    let k = cap (held before) s p i in
    let d = with_drawings (held before) s p in
    subst (λ A. IsCapOf A p s k.lower × IsCapOf A p t k.upper) (sym (after_is before after s p t sound made))
    (both_caps d (faces_above d.model p s) s p t (can before after s p t sound made) i l (after_sound before after s p t sound made) outer)

pub holes_are_closed : HolesAreClosed
holes_are_closed before after s p t i sound made l hole =
    let k = cap (held before) s p i in
    let d = with_drawings (held before) s p in
    subst (λ A. (table.has A.faces k.lower ≡ false) × (table.has A.faces k.upper ≡ false)) (sym (after_is before after s p t sound made))
    (both_gone d (faces_above d.model p s) s p t (can before after s p t sound made) i l hole)

pub caps_have_normals : CapsHaveNormals
caps_have_normals before after s p t i sound made l outer =
    let k = cap (held before) s p i in
    let d = with_drawings (held before) s p in
    let cs = cycles_of (held before) s p in
    subst (λ A. (is_hole d.model p (get_or cs i []) ≡ false) × (normal A k.lower ≡ moved (sum_of (map (area_below d.model) (holes_in d.model p cs))) (area_below d.model (get_or cs i []))) × (normal A k.upper ≡ negated (normal A k.lower)))
    (sym (after_is before after s p t sound made))
    (normals_told d (faces_above d.model p s) s p t (can before after s p t sound made) i l outer)
