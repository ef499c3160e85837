-- The numbers that an accepted operator makes lie in range, and room that is made one number after another.
use Rattle.low_euler.proofs.Prelude.{◌≡◌, ℕ, ◌≤◌, true, List, [], ◌∷◌, None, Result, OnOk, IsOk, refl, sym, ap, ◌∙◌, arith, nat_tests, on_ok_weaker, HalfEdge, code, edge_of, Kind, Model, Sound, is_number, first_false, Store, HasGrown, Op, edge_of-code, mvfs_goes, mev_holds, mef_goes, kemr_goes, join_goes, mfkrh_goes, part_goes, AllRoom, made, AllFit, KeepsRoom}
use Rattle.euler_operators.specs.declared.Op.TheVariants as op

-- the numbers that an operator makes are in range where its conditions hold
edge_fits : (h : HalfEdge) → is_number (edge_of (code h)) ≡ true → is_number h.edge ≡ true
edge_fits h fits = ap is_number (sym (edge_of-code h)) ∙ fits

pub made_fit : (M : Model) (o : Op) → Sound M → first_false M o ≡ None → AllFit (made o)
made_fit M (op.Mvfs s f l v p) sound e = let goes = mvfs_goes M s f l v p e in (goes.solid_fits, (goes.face_fits, (goes.loop_fits, (goes.vertex_fits, tt))))
made_fit M (op.Kvfs s) sound e = tt
made_fit M (op.Mev c d h v p) sound e = let holds = mev_holds M c d h v p e in (edge_fits h holds.edge_fits, (holds.vertex_fits, tt))
made_fit M (op.Kev h) sound e = tt
made_fit M (op.Mef g k h f l) sound e = let goes = mef_goes M g k h f l e in (edge_fits h goes.edge_fits, (goes.face_fits, (goes.loop_fits, tt)))
made_fit M (op.Kef h) sound e = tt
made_fit M (op.Kemr h l) sound e = ((kemr_goes M h l e).loop_fits, tt)
made_fit M (op.Mekr c d h) sound e = (edge_fits h (join_goes M c d h sound e).edge_fits, tt)
made_fit M (op.Kfmrh f g) sound e = tt
made_fit M (op.Mfkrh l f) sound e = ((mfkrh_goes M l f e).face_fits, tt)
made_fit M (op.RingIn l f) sound e = tt
made_fit M (op.RingOut l f) sound e = tt
made_fit M (op.Outer l f) sound e = tt
made_fit M (op.Merge s t) sound e = tt
made_fit M (op.Part s t fs) sound e = ((part_goes M s t fs sound e).t_fits, tt)

-- a number in range, as bounds
pub least : (n : ℕ) → is_number n ≡ true → 1 ≤ n
least n e = grind (arith, nat_tests)

-- room that is there stays, and growth goes on
pub grown_same : (s : Store) → HasGrown s s
grown_same s = record { model = refl; loose = refl; kept = λ kind n h. h }

grown_more : (r s t : Store) → HasGrown r s → HasGrown s t → HasGrown r t
grown_more r s t g h = record { model = h.model ∙ g.model; loose = h.loose ∙ g.loose; kept = λ kind n there. h.kept kind n (g.kept kind n there) }

pub room_kept : (s t : Store) (ks : List (Kind × ℕ)) → KeepsRoom s t → AllRoom s ks → AllRoom t ks
room_kept s t [] keeps all = tt
room_kept s t (k ∷ ks) keeps all = (keeps k.0 k.1 all.0, room_kept s t ks keeps all.1)

-- what a call says that makes the room of some numbers: nothing else changes, and it fails only where some room wasn't there
abbrev pub MakesRoom : {E : Type 0} → Result (Unit {0}) E → Store → Store → List (Kind × ℕ) → Type 0
MakesRoom result s t ks = record { grown : HasGrown s t; ok : OnOk result (AllRoom t ks); known : AllRoom s ks → IsOk result }

-- the room of one number is made, and then that of the others
pub makes_more : {E : Type 0} (result : Result (Unit {0}) E) (r s t : Store) (k : Kind × ℕ) (ks : List (Kind × ℕ)) →
    HasGrown r s → AllRoom s (k ∷ []) → MakesRoom result s t ks → MakesRoom result r t (k ∷ ks)
makes_more result r s t k ks grown there others = record {
  grown = grown_more r s t grown others.grown;
  ok = on_ok_weaker result (λ room. (others.grown.kept k.0 k.1 there.0, room)) others.ok;
  known = λ all. others.known (room_kept r s ks grown.kept all.1);
}
