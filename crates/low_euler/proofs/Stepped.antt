-- An operator whose room was made is accepted then, and steps on.
use Rattle.low_euler.proofs.Prelude.{◌≡◌, ℕ, List, None, refl, sym, subst, ap, ◌∙◌, Point, Corner, HalfEdge, Model, Sound, first_false, effect, inverse, Op, Mvfs, Kvfs, Mev, Kev, Mef, Kef, Merge, Part, Store, has_room, HasGrown, IsReady, HasRoomFor, Accepts, after, made, IsStepped}
use Rattle.low_euler.proofs.Made.{grown_same}
use Rattle.low_euler.proofs.Undone.{ready_after, keeps_room, room_after}

pub accepted_grown : (r s : Store) (o : Op) → IsReady r → first_false r.model o ≡ None → HasGrown r s → HasRoomFor s o → Accepts s o
accepted_grown r s o ready holds grown room = record {
  ready = record { sound = subst Sound (sym grown.model) ready.sound; bare = grown.loose ∙ ready.bare };
  holds = ap (λ (M : Model). first_false M o) grown.model ∙ holds;
  room = room;
}

pub stepped_grown : (r s t : Store) (o i : Op) → IsReady r → first_false r.model o ≡ None → HasGrown r s → HasRoomFor s o → t ≡ after s o → i ≡ inverse r.model o → HasRoomFor s i → IsStepped r o t
stepped_grown r s t o i ready holds grown room is back inverse_room = record {
  model = ap (λ (x : Store). x.model) is ∙ ap (λ (M : Model). effect M o) grown.model;
  ready = subst IsReady (sym is) (ready_after s o (accepted_grown r s o ready holds grown room));
  kept = λ kind n there. ap (λ (x : Store). has_room x kind n) is ∙ keeps_room s (effect s.model o) kind n (grown.kept kind n there);
  room = subst (λ (x : Store). HasRoomFor x o) (sym is) (room_after s o (made o) room);
  inverse_room = subst (λ (x : Store). HasRoomFor x (inverse r.model o)) (sym is) (room_after s o (made (inverse r.model o)) (subst (HasRoomFor s) back inverse_room));
}

-- where no room has to be made
pub stepped_so : (r t : Store) (o : Op) → IsReady r → first_false r.model o ≡ None → HasRoomFor r o → HasRoomFor r (inverse r.model o) → t ≡ after r o → IsStepped r o t
stepped_so r t o ready holds room inverse_room is = stepped_grown r r t o (inverse r.model o) ready holds (grown_same r) room is refl inverse_room

-- the inverses that name no more than the operator does
module _ (M : Model) where
  pub mvfs_back : (s f l v : ℕ) (p : Point) → Kvfs s ≡ inverse M (Mvfs s f l v p)
  unfolding inverse
  mvfs_back s f l v p = refl

  pub mev_back : (c d : Corner) (h : HalfEdge) (v : ℕ) (p : Point) → Kev h ≡ inverse M (Mev c d h v p)
  unfolding inverse
  mev_back c d h v p = refl

  pub mef_back : (g k h : HalfEdge) (f l : ℕ) → Kef h ≡ inverse M (Mef g k h f l)
  unfolding inverse
  mef_back g k h f l = refl

  pub part_back : (s t : ℕ) (fs : List ℕ) → Merge s t ≡ inverse M (Part s t fs)
  unfolding inverse
  part_back s t fs = refl
