-- The two passes over the pairs of a face.
use Rattle.split_drawing_laws.proofs.Prelude.{◌≡◌, ◌≢◌, ℕ, suc, ◌+◌, ◌<◌, Bool, true, false, cond, List, [], ◌∷◌, ◌++◌, length, None, refl, sym, ap, ◌∙◌, subst, arith, IsTrue, fold, eqb-true, length-append, Model, loop_of, is_number, Sound, face_at, effect, number_fits, Taken, Drawing, in_one_loop, join_next, draw_next, stuck_at, join_pair, draw_pair, join_ops, draw_ops, AreLeftForPairs, Fits, AllOf, AllFit, Joining, Going, Leads, leads_none, leads_on}
use Rattle.euler_operators.specs.Table as table
use Rattle.split_drawing_laws.proofs.drawings.Drawn.{CanDraw, CanJoin, face_drawn, loops_joined}
use Rattle.split_drawing_laws.proofs.drawings.Stays.{draw_free}
use Rattle.split_drawing_laws.proofs.drawings.Pairs.{pair_leads, joined_either, pair_joined, pair_fresh, draw_leads, pair_drawn}

-- and of each of the list with one more, of which it holds too
pub all_of_last : {X : Type 0} (P : X → Type 0) (xs : List X) (x : X) → AllOf P xs → P x → AllOf P (xs ++ x ∷ [])
all_of_last P [] x all last = (last, tt)
all_of_last P (y ∷ xs) x all last = (all.0, all_of_last P xs x all.1 last)

pub room_as : (c : Taken) (a b : ℕ) → a ≡ b → AreLeftForPairs c a → AreLeftForPairs c b
room_as c a b e = subst (AreLeftForPairs c) e

next_above : (a : ℕ) → a < a + 1
next_above a = omega arith

-- ---- first pass

pub join_next_one : (d : Drawing) (q : ℕ × ℕ) → in_one_loop d.model q ≡ true → join_next d q ≡ record d { left = d.left ++ q ∷ [] }
unfolding join_next
join_next_one d q e = ap (λ b. cond b (record d { left = d.left ++ q ∷ [] }) (record d { model = effect d.model (join_pair d.model q (d.taken.edge + 1)); taken = record d.taken { edge = d.taken.edge + 1 } })) e

pub join_next_two : (d : Drawing) (q : ℕ × ℕ) → in_one_loop d.model q ≡ false → join_next d q ≡ record d { model = effect d.model (join_pair d.model q (d.taken.edge + 1)); taken = record d.taken { edge = d.taken.edge + 1 } }
unfolding join_next
join_next_two d q e = ap (λ b. cond b (record d { left = d.left ++ q ∷ [] }) (record d { model = effect d.model (join_pair d.model q (d.taken.edge + 1)); taken = record d.taken { edge = d.taken.edge + 1 } })) e

-- one pair
module _ (M : Model) (f : ℕ) (d : Drawing) (q : ℕ × ℕ) (qs : List (ℕ × ℕ)) (n : ℕ) (fits : Fits M f q) (w : Joining M f d (q ∷ qs) n) where
  abbrev Next : Drawing → Type 0
  Next x = Leads d.model x.model (cond (in_one_loop d.model q) [] (join_pair d.model q (d.taken.edge + 1) ∷ [])) × Joining M f x qs n

  room_now : AreLeftForPairs d.taken (suc (length d.left + length qs + n))
  room_now = room_as d.taken (length d.left + length (q ∷ qs) + n) (suc (length d.left + length qs + n)) (omega arith) w.room

  kept : in_one_loop d.model q ≡ true → Next (join_next d q)
  kept e = grind (arith, join_next_one, leads_none, room_as, length-append, all_of_last)

  pub edge_free : table.get d.model.edges (d.taken.edge + 1) ≡ None
  edge_free = w.fresh.edges (d.taken.edge + 1) (next_above d.taken.edge)

  pub edge_fits_now : IsTrue (is_number (d.taken.edge + 1))
  edge_fits_now = number_fits (d.taken.edge + 1) (omega arith) (omega (arith, room_now.edges))

  pub either_now : in_one_loop d.model q ≡ false → (P : Model → Type 0) →
      ((c k : ℕ) → CanJoin d.model c k (d.taken.edge + 1) → face_at d.model c ≡ f → face_at d.model k ≡ f → P (loops_joined d.model c k (d.taken.edge + 1))) → P (effect d.model (join_pair d.model q (d.taken.edge + 1)))
  either_now e P = joined_either M d.model f q (d.taken.edge + 1) w.joined fits e edge_free edge_fits_now (λ op. P (effect d.model op))

  made : in_one_loop d.model q ≡ false → Next (join_next d q)
  made e = subst Next (sym (join_next_two d q e)) (
    subst (Leads d.model (effect d.model (join_pair d.model q (d.taken.edge + 1)))) (sym (ap (λ b. cond b [] (join_pair d.model q (d.taken.edge + 1) ∷ [])) e))
        (pair_leads M d.model f q (d.taken.edge + 1) w.joined fits e edge_free edge_fits_now),
    record {
      joined = pair_joined M d.model f q (d.taken.edge + 1) w.joined fits e edge_free edge_fits_now;
      fresh = pair_fresh M d.model f q (d.taken.edge + 1) w.joined fits e edge_free edge_fits_now d.taken (next_above d.taken.edge) w.fresh;
      room = record { faces = omega (arith, room_now.faces); loops = omega (arith, room_now.loops); edges = omega (arith, room_now.edges); vertices = room_now.vertices };
      pairs = w.pairs;
    },
  )

  pub join_one : Next (join_next d q)
  join_one = grind (arith, kept, made)

pub record Joins (M : Model) (f : ℕ) (d : Drawing) (qs : List (ℕ × ℕ)) (n : ℕ) : Type 0 where
  pub leads : Leads d.model (fold join_next d qs).model (join_ops d qs)
  pub state : Joining M f (fold join_next d qs) [] n

pub joins_go : (M : Model) (f : ℕ) (d : Drawing) (qs : List (ℕ × ℕ)) (n : ℕ) → AllFit M f qs → Joining M f d qs n → Joins M f d qs n
joins_go M f d [] n fit w = record { leads = leads_none d.model; state = w }
joins_go M f d (q ∷ qs) n fit w =
    let s = join_one M f d q qs n fit.0 w in
    let r : Joins M f (join_next d q) qs n = joins_go M f (join_next d q) qs n fit.1 s.1 in
    record {
      leads = leads_on d.model (join_next d q).model (fold join_next (join_next d q) qs).model (cond (in_one_loop d.model q) [] (join_pair d.model q (d.taken.edge + 1) ∷ [])) (join_ops (join_next d q) qs) s.0 r.leads;
      state = r.state;
    }

-- what each pair of the first pass keeps holds after it
pub joins_keep : (M : Model) (f : ℕ) (P : Drawing → List (ℕ × ℕ) → Type 0) →
    ((d : Drawing) (q : ℕ × ℕ) (qs : List (ℕ × ℕ)) (n : ℕ) → Fits M f q → Joining M f d (q ∷ qs) n → in_one_loop d.model q ≡ true → P d (q ∷ qs) → P (record d { left = d.left ++ q ∷ [] }) qs) →
    ((d : Drawing) (q : ℕ × ℕ) (qs : List (ℕ × ℕ)) (n : ℕ) → Fits M f q → Joining M f d (q ∷ qs) n → in_one_loop d.model q ≡ false → P d (q ∷ qs) →
    P (record d { model = effect d.model (join_pair d.model q (d.taken.edge + 1)); taken = record d.taken { edge = d.taken.edge + 1 } }) qs) →
    (d : Drawing) (qs : List (ℕ × ℕ)) (n : ℕ) → AllFit M f qs → Joining M f d qs n → P d qs → P (fold join_next d qs) []
joins_keep M f P stays joins d [] n fit w a = a
joins_keep M f P stays joins d (q ∷ qs) n fit w a = joins_keep M f P stays joins (join_next d q) qs n fit.1 (join_one M f d q qs n fit.0 w).1 (left_or_joined (in_one_loop d.model q) refl) where
  left_or_joined : (b : Bool) → in_one_loop d.model q ≡ b → P (join_next d q) qs
  left_or_joined true e = subst (λ x. P x qs) (sym (join_next_one d q e)) (stays d q qs n fit.0 w e a)
  left_or_joined false e = subst (λ x. P x qs) (sym (join_next_two d q e)) (joins d q qs n fit.0 w e a)

-- ---- second pass

-- the drawing in which a pair has cut a new face off
abbrev pub cut_off : Drawing → ℕ × ℕ → Drawing
cut_off d q = record d {
  model = face_drawn d.model q.0 q.1 (d.taken.edge + 1) (d.taken.face + 1) (d.taken.loop + 1);
  taken = record d.taken { face = d.taken.face + 1; loop = d.taken.loop + 1; edge = d.taken.edge + 1 };
}

pub draw_next_one : (f : ℕ) (d : Drawing) (q : ℕ × ℕ) → in_one_loop d.model q ≡ true → draw_next f d q ≡ cut_off d q
unfolding draw_next
draw_next_one f d q e = ap (λ b. cond b (cut_off d q) (stuck_at f d)) e

pub draw_next_two : (f : ℕ) (d : Drawing) (q : ℕ × ℕ) → in_one_loop d.model q ≡ false → draw_next f d q ≡ stuck_at f d
unfolding draw_next
draw_next_two f d q e = ap (λ b. cond b (cut_off d q) (stuck_at f d)) e

module _ (M : Model) (f : ℕ) (sound : Sound M) (d : Drawing) (q : ℕ × ℕ) (qs : List (ℕ × ℕ)) (n : ℕ) (fits : Fits M f q) (w : Going M f d (q ∷ qs) n) where
  abbrev After : Drawing → Type 0
  After x = Leads d.model x.model (cond (in_one_loop d.model q) (draw_pair d.taken q ∷ []) []) × Going M f x qs n

  room_here : AreLeftForPairs d.taken (suc (length qs + n))
  room_here = room_as d.taken (length (q ∷ qs) + n) (suc (length qs + n)) (omega arith) w.room

  left_out : in_one_loop d.model q ≡ false → After (draw_next f d q)
  left_out e = grind (arith, draw_next_two, leads_none)

  pub can_now : in_one_loop d.model q ≡ true → CanDraw d.model q.0 q.1 (d.taken.edge + 1) (d.taken.face + 1) (d.taken.loop + 1)
  can_now e = record {
    sound = w.drawn.sound;
    u_there = w.drawn.stays.halves q.0 fits.u_there;
    k_there = w.drawn.stays.halves q.1 fits.k_there;
    one_loop = eqb-true (loop_of d.model q.0) (loop_of d.model q.1) e;
    apart = λ s. fits.apart (sym (w.drawn.stays.tails q.0 fits.u_there) ∙ s ∙ w.drawn.stays.tails q.1 fits.k_there);
    edge_free = w.fresh.edges (d.taken.edge + 1) (next_above d.taken.edge);
    face_free = w.fresh.faces (d.taken.face + 1) (next_above d.taken.face);
    loop_free = w.fresh.loops (d.taken.loop + 1) (next_above d.taken.loop);
    edge_fits = number_fits (d.taken.edge + 1) (omega arith) (omega (arith, room_here.edges));
    face_fits = number_fits (d.taken.face + 1) (omega arith) (omega (arith, room_here.faces));
    loop_fits = number_fits (d.taken.loop + 1) (omega arith) (omega (arith, room_here.loops));
  }

  cut : in_one_loop d.model q ≡ true → After (draw_next f d q)
  cut e = subst After (sym (draw_next_one f d q e)) (
    subst (Leads d.model (cut_off d q).model) (sym (ap (λ b. cond b (draw_pair d.taken q ∷ []) []) e))
        (draw_leads d.model q.0 q.1 (d.taken.edge + 1) (d.taken.face + 1) (d.taken.loop + 1) (can_now e)),
    record {
      drawn = pair_drawn M d.model f q (d.taken.edge + 1) (d.taken.face + 1) (d.taken.loop + 1) sound w.drawn fits (can_now e);
      fresh = draw_free d.model q.0 q.1 (d.taken.edge + 1) (d.taken.face + 1) (d.taken.loop + 1) (can_now e) d.taken
          (next_above d.taken.face) (next_above d.taken.loop) (next_above d.taken.edge) w.fresh;
      room = record { faces = omega (arith, room_here.faces); loops = omega (arith, room_here.loops); edges = omega (arith, room_here.edges); vertices = room_here.vertices };
    },
  )

  pub draw_one : After (draw_next f d q)
  draw_one = grind (arith, cut, left_out)

pub record Draws (M : Model) (f : ℕ) (d : Drawing) (qs : List (ℕ × ℕ)) (n : ℕ) : Type 0 where
  pub leads : Leads d.model (fold (draw_next f) d qs).model (draw_ops f d qs)
  pub state : Going M f (fold (draw_next f) d qs) [] n

pub draws_go : (M : Model) (f : ℕ) (d : Drawing) (qs : List (ℕ × ℕ)) (n : ℕ) → Sound M → AllFit M f qs → Going M f d qs n → Draws M f d qs n
draws_go M f d [] n sound fit w = record { leads = leads_none d.model; state = w }
draws_go M f d (q ∷ qs) n sound fit w =
    let s = draw_one M f sound d q qs n fit.0 w in
    let r : Draws M f (draw_next f d q) qs n = draws_go M f (draw_next f d q) qs n sound fit.1 s.1 in
    record {
      leads = leads_on d.model (draw_next f d q).model (fold (draw_next f) (draw_next f d q) qs).model (cond (in_one_loop d.model q) (draw_pair d.taken q ∷ []) []) (draw_ops f (draw_next f d q) qs) s.0 r.leads;
      state = r.state;
    }

-- a face that is not 0 stops the drawing
pub stuck_now : (f : ℕ) (d : Drawing) → f ≢ 0 → (stuck_at f d).stuck ≢ 0
stuck_now f d some e = grind arith

-- what each pair of the second pass keeps holds after it
pub draws_keep : (M : Model) (f : ℕ) (P : Drawing → List (ℕ × ℕ) → Type 0) (sound : Sound M) →
    ((d : Drawing) (q : ℕ × ℕ) (qs : List (ℕ × ℕ)) (n : ℕ) → Fits M f q → Going M f d (q ∷ qs) n → in_one_loop d.model q ≡ false → P d (q ∷ qs) → P (stuck_at f d) qs) →
    ((d : Drawing) (q : ℕ × ℕ) (qs : List (ℕ × ℕ)) (n : ℕ) → Fits M f q → Going M f d (q ∷ qs) n → in_one_loop d.model q ≡ true → P d (q ∷ qs) → P (cut_off d q) qs) →
    (d : Drawing) (qs : List (ℕ × ℕ)) (n : ℕ) → AllFit M f qs → Going M f d qs n → P d qs → P (fold (draw_next f) d qs) []
draws_keep M f P sound stays draws d [] n fit w a = a
draws_keep M f P sound stays draws d (q ∷ qs) n fit w a = draws_keep M f P sound stays draws (draw_next f d q) qs n fit.1 (draw_one M f sound d q qs n fit.0 w).1 (drawn_or_stuck (in_one_loop d.model q) refl) where
  drawn_or_stuck : (b : Bool) → in_one_loop d.model q ≡ b → P (draw_next f d q) qs
  drawn_or_stuck true e = subst (λ x. P x qs) (sym (draw_next_one f d q e)) (draws d q qs n fit.0 w e a)
  drawn_or_stuck false e = subst (λ x. P x qs) (sym (draw_next_two f d q e)) (stays d q qs n fit.0 w e a)
