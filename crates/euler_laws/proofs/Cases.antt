-- Every operator keeps a sound model sound, and its inverse is accepted after it and takes it back: by cases.
use Rattle.euler_laws.proofs.Prelude.{◌≡◌, None, Model, Sound, first_false, effect, inverse, Op, Mvfs, Kvfs, Mev, Kev, Mef, Kef, Kemr, Mekr, Kfmrh, Mfkrh, RingIn, RingOut, Outer, Merge, Part}
use Rattle.euler_laws.proofs.shared.Lawful.{IsLawful}
use Rattle.euler_laws.proofs.kev.Kev.{mev_lawful, kev_lawful}
use Rattle.euler_laws.proofs.mef.Kef.{mef_lawful, kef_lawful}
use Rattle.euler_laws.proofs.kemr.Kemr.{kemr_lawful}
use Rattle.euler_laws.proofs.mekr.Mekr.{mekr_lawful}
use Rattle.euler_laws.proofs.faces.Solids.{mvfs_lawful, kvfs_lawful}
use Rattle.euler_laws.proofs.faces.RingIn.{ring_in_lawful}
use Rattle.euler_laws.proofs.faces.RingOut.{ring_out_lawful, outer_lawful}
use Rattle.euler_laws.proofs.faces.Kfmrh.{kfmrh_lawful, mfkrh_lawful}
use Rattle.euler_laws.proofs.merge.Part.{merge_lawful, part_lawful}

lawful : (op : Op) → IsLawful op
lawful (Mvfs s f l v p) = mvfs_lawful s f l v p
lawful (Kvfs s) = kvfs_lawful s
lawful (Mev c d h v p) = mev_lawful c d h v p
lawful (Kev h) = kev_lawful h
lawful (Mef g k h f l) = mef_lawful g k h f l
lawful (Kef h) = kef_lawful h
lawful (Kemr h l) = kemr_lawful h l
lawful (Mekr c d h) = mekr_lawful c d h
lawful (Kfmrh f g) = kfmrh_lawful f g
lawful (Mfkrh l f) = mfkrh_lawful l f
lawful (RingIn l f) = ring_in_lawful l f
lawful (RingOut l f) = ring_out_lawful l f
lawful (Outer l f) = outer_lawful l f
lawful (Merge s t) = merge_lawful s t
lawful (Part s t fs) = part_lawful s t fs

-- an accepted operator keeps a sound model sound
pub effect_keeps_sound : (M : Model) (op : Op) → Sound M → first_false M op ≡ None → Sound (effect M op)
effect_keeps_sound M op sound e = (lawful op M sound e).sound

-- its inverse is accepted in the model after
pub inverse_goes : (M : Model) (op : Op) → Sound M → first_false M op ≡ None → first_false (effect M op) (inverse M op) ≡ None
inverse_goes M op sound e = (lawful op M sound e).goes

-- and gives the model before
pub inverse_undoes : (M : Model) (op : Op) → Sound M → first_false M op ≡ None → effect (effect M op) (inverse M op) ≡ M
inverse_undoes M op sound e = (lawful op M sound e).undone
