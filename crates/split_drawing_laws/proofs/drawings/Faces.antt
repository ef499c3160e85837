-- Whole faces drawn, one after the other.
use Rattle.split_drawing_laws.proofs.Prelude.{◌≡◌, ℕ, ◌+◌, Bool, true, false, cond, nat_eq, nat_lt, ◌&&◌, List, [], ◌∷◌, length, refl, sym, ap, ◌∙◌, subst, arith, eqb-true, Plane, IsApart, Model, content, has_rings, face_at, ring_in, Op, vertices_on, some_above, Drawing, stuck_at, all_joined, ring_free, all_drawn, rings_above, with_rings, drawn_between, draw_ops, ring_ops, share_ops, drawn_ops, join_ops, face_ops, DrawnIn, AreFreeForPairs, AreLeftForPairs, Fits, AllFit, Ready, Joining, Going, Leads, leads_none, leads_on}
use Rattle.split_drawing_laws.proofs.drawings.Drawn.{CanDraw, CanJoin, face_drawn, loops_joined}
use Rattle.split_drawing_laws.proofs.drawings.Pairs.{none_joined, drawn_newer}
use Rattle.split_drawing_laws.proofs.drawings.Passes.{either_now, Joins, joins_go, joins_keep, join_next_one, can_now, draws_keep, Draws, draws_go, draw_next_one, cut_off, room_as}
use Rattle.split_drawing_laws.proofs.drawings.Rings.{RingOf, Newer, AreRings, rings_keep, rings_move, rings_are, rings_apart}

-- being stuck changes nothing else
pub going_on : (M : Model) (f n : ℕ) (b : Bool) (d : Drawing) → Going M f d d.left n → Going M f (cond b (stuck_at f d) d) (cond b (stuck_at f d) d).left n
going_on M f n b d e = grind arith

pub fitting_on : (M : Model) (f g : ℕ) (b : Bool) (d : Drawing) → AllFit M f d.left → AllFit M f (cond b (stuck_at g d) d).left
fitting_on M f g b d e = grind arith

leading_on : (M : Model) (f : ℕ) (b : Bool) (d : Drawing) (ops : List Op) → Leads M d.model ops → Leads M (cond b (stuck_at f d) d).model ops
leading_on M f b d ops e = grind arith

-- ---- one face

pub record Gone (d D : Drawing) (f : ℕ) (ops : List Op) (n : ℕ) : Type 0 where
  pub leads : Leads d.model D.model ops
  pub drawn : DrawnIn d.model D.model f
  pub fresh : AreFreeForPairs D.model D.taken
  pub room : AreLeftForPairs D.taken n

-- with one pair the last face is a new one of f's solid
module _ (p : Plane) (f : ℕ) (q : ℕ × ℕ) (d : Drawing) (n : ℕ) (w : Ready p f (q ∷ []) d n) where
  abbrev held : Drawing
  held = record d { left = q ∷ [] }

  pub drawn_is : all_drawn f (ring_free f (q ∷ []) (all_joined (q ∷ []) d)) ≡ cut_off held q
  drawn_is = ap (λ x. all_drawn f (ring_free f (q ∷ []) x)) (join_next_one (record d { left = [] }) q w.alone) ∙ draw_next_one f held q w.alone

  pub can_alone : CanDraw d.model q.0 q.1 (d.taken.edge + 1) (d.taken.face + 1) (d.taken.loop + 1)
  can_alone = can_now d.model f w.sound held q [] n w.fit.0 (record { drawn = (none_joined d.model f w.sound).drawn; fresh = w.fresh; room = w.room }) w.alone

  newer_one : Newer d.model (all_drawn f (ring_free f (q ∷ []) (all_joined (q ∷ []) d))).model f (all_drawn f (ring_free f (q ∷ []) (all_joined (q ∷ []) d))).taken.face
  newer_one = subst (λ x. Newer d.model x.model f x.taken.face) (sym drawn_is)
      (subst (λ g. Newer d.model (cut_off held q).model g (d.taken.face + 1)) w.fit.0.u_face (drawn_newer d.model q.0 q.1 (d.taken.edge + 1) (d.taken.face + 1) (d.taken.loop + 1) can_alone))

pub newer_face : (p : Plane) (f : ℕ) (qs : List (ℕ × ℕ)) (d : Drawing) (n : ℕ) → Ready p f qs d n → length qs ≡ 1 →
    Newer d.model (all_drawn f (ring_free f qs (all_joined qs d))).model f (all_drawn f (ring_free f qs (all_joined qs d))).taken.face
newer_face p f [] d n w e = absurd (omega arith)
newer_face p f (q ∷ []) d n w e = newer_one p f q d n w
newer_face p f (q ∷ r ∷ qs) d n w e = absurd (omega arith)

module _ (p : Plane) (f : ℕ) (qs : List (ℕ × ℕ)) (d : Drawing) (n : ℕ) (w : Ready p f qs d n) where
  abbrev begun : Drawing
  begun = record d { left = [] }

  abbrev joined : Drawing
  joined = all_joined qs d

  abbrev stops : Bool
  stops = nat_lt 1 (length qs) && has_rings joined.model f

  abbrev free : Drawing
  free = ring_free f qs joined

  abbrev ended : Drawing
  ended = all_drawn f free

  pub begun_joining : Joining d.model f begun qs n
  begun_joining = record { joined = none_joined d.model f w.sound; fresh = w.fresh; room = room_as d.taken (length qs + n) (0 + length qs + n) (omega arith) w.room; pairs = tt }

  pub joins : Joins d.model f begun qs n
  joins = joins_go d.model f begun qs n w.fit begun_joining

  pub going : Going d.model f joined joined.left n
  going = grind (arith, joins, room_as)

  pub fitting : AllFit d.model f free.left
  fitting = fitting_on d.model f f stops joined joins.state.pairs

  pub going_free : Going d.model f free free.left n
  going_free = going_on d.model f n stops joined going

  draws : Draws d.model f free free.left n
  draws = draws_go d.model f free free.left n w.sound fitting going_free

  pub last : Going d.model f ended [] n
  last = draws.state

  room_last : AreLeftForPairs ended.taken n
  room_last = room_as ended.taken (0 + n) n (omega arith) last.room

  abbrev above : List ℕ
  above = rings_above ended.model p f

  pub are_rings : AreRings ended.model f above
  are_rings = rings_are ended.model f (λ l. some_above ended.model p (vertices_on ended.model (content ended.model l)))

  pub above_apart : IsApart above
  above_apart = rings_apart ended.model f (λ l. some_above ended.model p (vertices_on ended.model (content ended.model l)))

  abbrev Shared : Bool → Type 0
  Shared b = let S = cond b (record ended { model = with_rings ended.model above ended.taken.face }) ended in
      Leads ended.model S.model (cond b (ring_ops above ended.taken.face) []) × DrawnIn d.model S.model f × AreFreeForPairs S.model S.taken × AreLeftForPairs S.taken n

  shared : (b : Bool) → nat_eq (length qs) 1 ≡ b → Shared b
  shared true e = let m = rings_move d.model ended.model f ended.taken.face above ended.taken last.drawn are_rings above_apart (newer_face p f qs d n w (eqb-true (length qs) 1 e)) last.fresh in (m.leads, m.drawn, m.fresh, room_last)
  shared false e = (leads_none ended.model, last.drawn, last.fresh, room_last)

  pub face_goes : Gone d (drawn_between p f qs d) f (face_ops p f qs d) n
  face_goes =
      let s = shared (nat_eq (length qs) 1) refl in
      record {
        leads = leads_on d.model free.model (drawn_between p f qs d).model (join_ops begun qs) (drawn_ops p f qs free) (leading_on d.model f stops joined (join_ops begun qs) joins.leads)
            (leads_on free.model ended.model (drawn_between p f qs d).model (draw_ops f free free.left) (share_ops p f qs ended) draws.leads s.0);
        drawn = s.1;
        fresh = s.2;
        room = s.3;
      }

  -- what holds of a model, and stays as loops of f are joined, edges are drawn in f and its rings are moved, holds once f is drawn
  module _ (P : Model → Type 0) (join : (N : Model) (c k e : ℕ) → CanJoin N c k e → face_at N c ≡ f → P N → P (loops_joined N c k e))
      (draw : (N : Model) (q : ℕ × ℕ) (e g l : ℕ) → CanDraw N q.0 q.1 e g l → DrawnIn d.model N f → Fits d.model f q → P N → P (face_drawn N q.0 q.1 e g l))
      (move : (N : Model) (l k : ℕ) → DrawnIn d.model N f → RingOf N f l → Newer d.model N f k → P N → P (ring_in N l k)) where
    joined_keeps : P d.model → P joined.model
    joined_keeps = joins_keep d.model f (λ x rs. P x.model) (λ x q rs m fits u e a. a)
        (λ x q rs m fits u e a. either_now d.model f x q rs m fits u e P (λ c k can at to. join x.model c k (x.taken.edge + 1) can at a)) begun qs n w.fit begun_joining

    stopped_keeps : (b : Bool) → P joined.model → P (cond b (stuck_at f joined) joined).model
    stopped_keeps b e = grind arith

    ended_keeps : P free.model → P ended.model
    ended_keeps = draws_keep d.model f (λ x rs. P x.model) w.sound (λ x q rs m fits u e a. a)
        (λ x q rs m fits u e a. draw x.model q (x.taken.edge + 1) (x.taken.face + 1) (x.taken.loop + 1) (can_now d.model f w.sound x q rs m fits u e) u.drawn fits a) free free.left n fitting going_free

    shared_keeps : (b : Bool) → nat_eq (length qs) 1 ≡ b → P ended.model → P (cond b (record ended { model = with_rings ended.model above ended.taken.face }) ended).model
    shared_keeps true e a = rings_keep d.model f ended.taken.face P (λ N l. move N l ended.taken.face) ended.model above last.drawn are_rings above_apart (newer_face p f qs d n w (eqb-true (length qs) 1 e)) a
    shared_keeps false e a = a

    pub between_keeps : P d.model → P (drawn_between p f qs d).model
    between_keeps a = shared_keeps (nat_eq (length qs) 1) refl (ended_keeps (stopped_keeps stops (joined_keeps a)))
