-- A solid that no operator of a list touches stands as it stood: by cases of the operators, and by the list.
use Rattle.untouched_solids.proofs.Prelude.{◌≡◌, ◌≢◌, ℕ, ◌||◌, false, nat_eq, [], ◌∷◌, None, refl, sym, ap, subst, ◌∙◌, true≢false, eq-eqb, At, Lone, code, Model, Sound, lists, first_false, effect, or_true, Op, Mvfs, Kvfs, Mev, Kev, Mef, Kef, Kemr, Mekr, Kfmrh, Mfkrh, RingIn, RingOut, Outer, Merge, Part, effect_keeps_sound, mvfs_goes, kvfs_goes, mev_goes, lone_goes, mixed_first, mixed_second, kev_goes, mef_goes, kef_goes, kemr_goes, join_goes, kfmrh_goes, mfkrh_goes, ring_in_goes, ring_out_goes, outer_goes_so, merge_goes, part_goes, mekr_is}
use Rattle.untouched_solids.specs.Laws.{touched, UntouchedStay}
use Rattle.untouched_solids.proofs.Stands.{Frame, stands}
use Rattle.untouched_solids.proofs.Frames as frames

-- what a list of one or two doesn't have is none of them
one_apart : {s u : ℕ} → lists (s ∷ []) u ≡ false → s ≢ u
one_apart {s} {u} e z = true≢false (sym (ap (λ b. b || false) (eq-eqb s u z)) ∙ e)

two_apart : {s t u : ℕ} → lists (s ∷ t ∷ []) u ≡ false → (s ≢ u) × (t ≢ u)
two_apart {s} {t} {u} e = (
  λ z. true≢false (sym (ap (λ b. b || (nat_eq t u || false)) (eq-eqb s u z)) ∙ e),
  λ z. true≢false (sym (ap (λ b. nat_eq s u || (b || false)) (eq-eqb t u z) ∙ or_true (nat_eq s u)) ∙ e),
)

frame : (M : Model) (op : Op) (u : ℕ) → Sound M → first_false M op ≡ None → lists (touched M op) u ≡ false → Frame M (effect M op) u
unfolding effect touched
frame M (Mvfs s f l v p) u sound e a = frames.frame-mvfs sound (mvfs_goes M s f l v p e) (one_apart a)
frame M (Kvfs s) u sound e a = frames.frame-kvfs sound (kvfs_goes M s e) (one_apart a)
frame M (Mev (At g) (At k) h v p) u sound e a = frames.frame-mev_at sound (mev_goes M g k h v p e) (one_apart a)
frame M (Mev (At g) (Lone l) h v p) u sound e a = absurd (mixed_first M g l h v p sound e)
frame M (Mev (Lone l) (At k) h v p) u sound e a = absurd (mixed_second M l k h v p sound e)
frame M (Mev (Lone l) (Lone d) h v p) u sound e a = frames.frame-mev_lone sound (lone_goes M l d h v p e) (one_apart a)
frame M (Kev h) u sound e a = frames.frame-kev sound (kev_goes M h sound e) (one_apart a)
frame M (Mef g k h f l) u sound e a = frames.frame-mef sound (mef_goes M g k h f l e) (one_apart a)
frame M (Kef h) u sound e a = frames.frame-kef sound (kef_goes M h e) (one_apart a)
frame M (Kemr h l) u sound e a = frames.frame-kemr sound (kemr_goes M h l e) (one_apart a)
frame M (Mekr c d h) u sound e a = subst (λ X. Frame M X u) (sym (mekr_is M c d (code h))) (frames.frame-join sound (join_goes M c d h sound e) (one_apart a))
frame M (Kfmrh f g) u sound e a = frames.frame-kfmrh sound (kfmrh_goes M f g e) (one_apart a)
frame M (Mfkrh l f) u sound e a = frames.frame-mfkrh sound (mfkrh_goes M l f e) (one_apart a)
frame M (RingIn l f) u sound e a = frames.frame-ring_in sound (ring_in_goes M l f e).0 (one_apart a)
frame M (RingOut l f) u sound e a = frames.frame-ring_out sound (ring_out_goes M l f e) (one_apart a)
frame M (Outer l f) u sound e a = frames.frame-take_outer sound (outer_goes_so M l f e) (one_apart a)
frame M (Merge s t) u sound e a = frames.frame-merge sound (merge_goes M s t e) (two_apart a).0 (two_apart a).1
frame M (Part s t fs) u sound e a = frames.frame-part sound (part_goes M s t fs sound e) (two_apart a).0 (two_apart a).1

pub untouched_stay : UntouchedStay
untouched_stay M [] u sound goes none = record { same = refl; volume = refl }
untouched_stay M (op ∷ ops) u sound goes none =
    let now = effect_keeps_sound M op sound goes.0 in
    let one = stands sound now (frame M op u sound goes.0 none.0) in let more = untouched_stay (effect M op) ops u now goes.1 none.1 in
    record { same = more.same ∙ one.same; volume = more.volume ∙ one.volume }
