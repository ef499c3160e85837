-- Rings of a face given to a new one.
use Rattle.split_drawing_laws.proofs.Prelude.{◌≡◌, ◌≢◌, ℕ, Bool, not, nat_eq, ◌&&◌, List, [], ◌∷◌, None, is_some, refl, sym, ap, ◌∙◌, subst, arith, inl, inr, filter, eqb-true, eqb_tells, eqb-false, and_parts, not-true, successor, tick, IsIn, IsApart, edge_of, Model, holds, tail, items_of, content, loop_of, face_of, solid_of, outer, after, rings_of, Sound, Has, HasHalf, face_at, first_false, effect, ring_in, tick_same, face_row, count-filter, no_row, row_elsewhere, RingIn, taken, SameWalks, listed_passes, all_where-rises, listed-from_in, RingGoes, ring_in_accepted, sound-ring_in, counted_once, Leads, leads_none, leads_one, leads_on, Taken, with_rings, none_above, Stays, DrawnIn, AreFreeForPairs, ring_ops}
use Rattle.euler_operators.specs.Table as table
use Rattle.euler_laws.proofs.faces.RingIn as moved
use Rattle.split_drawing_laws.proofs.drawings.Stays.{stays_on}

-- l is a ring of face f
pub record RingOf (N : Model) (f l : ℕ) : Type 0 where
  pub there : Has N.loops l
  pub face : face_of N l ≡ f
  pub inner : outer N f ≢ l

abbrev pub AreRings : Model → ℕ → List ℕ → Type 0
AreRings N f ls = (l : ℕ) → IsIn l ls → RingOf N f l

-- face k is a new one of the same solid as f; M is the model before
pub record Newer (M N : Model) (f k : ℕ) : Type 0 where
  pub old : Has M.faces f
  pub new : table.get M.faces k ≡ None
  pub there : Has N.faces k
  pub solid : solid_of N f ≡ solid_of N k

-- ---- one ring

-- what stays as ring l is given to face k
module _ (N : Model) (l k : ℕ) (sound : Sound N) (goes : RingGoes N l k) where
  pub ring_sound : Sound (ring_in N l k)
  ring_sound = sound-ring_in N sound l k goes

  pub same_walks : SameWalks N (ring_in N l k)
  same_walks = moved.same N sound l k goes

  pub ring_faces : (ring_in N l k).faces ≡ N.faces
  unfolding ring_in
  ring_faces = refl

  pub ring_stays : Stays N (ring_in N l k)
  unfolding tail
  ring_stays = grind (arith, same_walks, ring_faces)

  pub ring_back : (h : ℕ) → HasHalf (ring_in N l k) h → HasHalf N h
  ring_back h there = subst (λ t. Has t (edge_of h)) same_walks.edges there

  pub place_is : (h : ℕ) → HasHalf N h → loop_of (ring_in N l k) h ≡ loop_of N h
  place_is h there = ring_sound.one_loop h (loop_of N h) (ap (holds h) (same_walks.contents (loop_of N h)) ∙ sound.stands h there)

  pub face_else : (q : ℕ) → q ≢ l → face_of (ring_in N l k) q ≡ face_of N q
  face_else q ne = moved.face_else N sound l k goes q ne

  pub face_kept : (h : ℕ) → HasHalf N h → loop_of N h ≢ l → face_at (ring_in N l k) h ≡ face_at N h
  face_kept h there ne = ap (face_of (ring_in N l k)) (place_is h there) ∙ face_else (loop_of N h) ne

module _ (M N : Model) (f l k : ℕ) (drawn : DrawnIn M N f) (ring : RingOf N f l) (newer : Newer M N f k) where
  pub ring_goes : RingGoes N l k
  ring_goes = grind arith

  pub move_accepted : first_false N (RingIn l k) ≡ None
  move_accepted = ring_in_accepted N l k drawn.sound ring_goes (λ e. row_elsewhere M.faces f k newer.old newer.new (sym ring.face ∙ e))

  pub move_made : effect N (RingIn l k) ≡ ring_in N l k
  unfolding effect
  move_made = refl

  pub moved_drawn : DrawnIn M (ring_in N l k) f
  moved_drawn = record {
    sound = ring_sound N l k drawn.sound ring_goes;
    stays = stays_on M N (ring_in N l k) drawn.stays (ring_stays N l k drawn.sound ring_goes);
    beside = λ h there ne.
        let b = drawn.beside h there ne in
        let t : HasHalf N h = drawn.stays.halves h there in
        (place_is N l k drawn.sound ring_goes h t ∙ b.0, face_kept N l k drawn.sound ring_goes h t (λ e. ne (sym b.1 ∙ ap (face_of N) e ∙ ring.face)) ∙ b.1);
    within = λ h there is.
        let t : HasHalf N h = drawn.stays.halves h there in
        elim (eqb_tells (loop_of N h) l) [
          | inl e ↦ inr (ap (table.get M.faces) (ap (face_of (ring_in N l k)) (place_is N l k drawn.sound ring_goes h t ∙ e.1) ∙ moved.face_l N drawn.sound l k ring_goes) ∙ newer.new)
          | inr e ↦ elim (drawn.within h there is) [
            | inl a ↦ inl (face_kept N l k drawn.sound ring_goes h t e.1 ∙ a)
            | inr a ↦ inr (ap (table.get M.faces) (face_kept N l k drawn.sound ring_goes h t e.1) ∙ a)
          ]
        ];
  }

  pub moved_newer : Newer M (ring_in N l k) f k
  moved_newer = grind (arith, ring_faces, ring_goes, moved.solid_same)

  pub moved_ring : (q : ℕ) → q ≢ l → RingOf N f q → RingOf (ring_in N l k) f q
  moved_ring q ne r = grind (arith, same_walks, ring_goes, face_else, moved.outer_same)

  -- what follows what stays
  pub moved_after : (h : ℕ) → HasHalf N h → after (ring_in N l k) h ≡ after N h
  unfolding after
  moved_after h there = ap (λ xs. successor xs h) (ap (λ q. items_of (content (ring_in N l k) q)) (place_is N l k drawn.sound ring_goes h there) ∙ ap items_of ((same_walks N l k drawn.sound ring_goes).contents (loop_of N h)))

  pub moved_fresh : (c : Taken) → AreFreeForPairs N c → AreFreeForPairs (ring_in N l k) c
  moved_fresh c w = record {
    faces = λ q above. ap (λ t. table.get t q) (ring_faces N l k drawn.sound ring_goes) ∙ w.faces q above;
    loops = λ q above. no_row _ ((same_walks N l k drawn.sound ring_goes).loops q ∙ taken _ (w.loops q above));
    edges = λ q above. ap (λ t. table.get t q) (same_walks N l k drawn.sound ring_goes).edges ∙ w.edges q above;
    vertices = none_above (ring_in N l k).vertices;
  }

-- ---- some rings

pub record Moved (M N : Model) (f k : ℕ) (ls : List ℕ) (c : Taken) : Type 0 where
  pub leads : Leads N (with_rings N ls k) (ring_ops ls k)
  pub drawn : DrawnIn M (with_rings N ls k) f
  pub fresh : AreFreeForPairs (with_rings N ls k) c

pub rings_on : (N : Model) (l k : ℕ) (ls : List ℕ) → with_rings (ring_in N l k) ls k ≡ with_rings N (l ∷ ls) k
unfolding effect
rings_on N l k ls = refl

-- what each ring that is moved keeps holds once all are
pub rings_keep : (M : Model) (f k : ℕ) (P : Model → Type 0) → ((N : Model) (l : ℕ) → DrawnIn M N f → RingOf N f l → Newer M N f k → P N → P (ring_in N l k)) →
    (N : Model) (ls : List ℕ) → DrawnIn M N f → AreRings N f ls → IsApart ls → Newer M N f k → P N → P (with_rings N ls k)
rings_keep M f k P each N [] drawn are d newer w = w
rings_keep M f k P each N (l ∷ ls) drawn are d newer w =
    let ring : RingOf N f l = are l (omega (arith, tick_same l)) in
    subst P (rings_on N l k ls) (rings_keep M f k P each (ring_in N l k) ls
    (moved_drawn M N f l k drawn ring newer)
    (λ q i. moved_ring M N f l k drawn ring newer q (λ s. absurd (omega (arith, i, d q, ap (λ x. tick q x) (sym s), tick_same q))) (are q (omega (arith, i))))
    (λ x. omega (arith, d x))
    (moved_newer M N f l k drawn ring newer)
    (each N l drawn ring newer w))

pub rings_move : (M N : Model) (f k : ℕ) (ls : List ℕ) (c : Taken) → DrawnIn M N f → AreRings N f ls → IsApart ls → Newer M N f k → AreFreeForPairs N c → Moved M N f k ls c
rings_move M N f k [] c drawn are d newer fresh = record { leads = leads_none N; drawn = drawn; fresh = fresh }
rings_move M N f k (l ∷ ls) c drawn are d newer fresh =
    let ring : RingOf N f l = are l (omega (arith, tick_same l)) in
    let K : Model = ring_in N l k in
    let r : Moved M K f k ls c = rings_move M K f k ls c
    (moved_drawn M N f l k drawn ring newer)
    (λ q i. moved_ring M N f l k drawn ring newer q (λ s. absurd (omega (arith, i, d q, ap (λ x. tick q x) (sym s), tick_same q))) (are q (omega (arith, i))))
    (λ x. omega (arith, d x))
    (moved_newer M N f l k drawn ring newer)
    (moved_fresh M N f l k drawn ring newer c fresh) in
    let e : with_rings K ls k ≡ with_rings N (l ∷ ls) k = rings_on N l k ls in
    record {
      leads = subst (λ X. Leads N X (RingIn l k ∷ ring_ops ls k)) e
          (leads_on N K (with_rings K ls k) (RingIn l k ∷ []) (ring_ops ls k) (leads_one N K (RingIn l k) (move_accepted M N f l k drawn ring newer) (move_made M N f l k drawn ring newer)) r.leads);
      drawn = subst (λ X. DrawnIn M X f) e r.drawn;
      fresh = subst (λ X. AreFreeForPairs X c) e r.fresh;
    }

-- ---- the rings of a face, and those of them that pass a test

pub rings_apart : (N : Model) (f : ℕ) (p : ℕ → Bool) → IsApart (filter p (rings_of N f))
rings_apart N f p x = omega (arith, count-filter p x (rings_of N f), counted_once x (rings_of N f) (all_where-rises (λ l row. nat_eq row.face f && not (nat_eq (outer N f) l)) N.loops))

pub rings_are : (N : Model) (f : ℕ) (p : ℕ → Bool) → AreRings N f (filter p (rings_of N f))
rings_are N f p l i =
    let w = listed_passes (λ k row. nat_eq row.face f && not (nat_eq (outer N f) k)) N.loops l (listed-from_in l (rings_of N f) (omega (arith, i, count-filter p l (rings_of N f)))) in
    let t = and_parts (nat_eq w.0.face f) (not (nat_eq (outer N f) l)) w.2 in
    record { there = ap is_some w.1; face = face_row N l w.0 w.1 ∙ eqb-true w.0.face f t.0; inner = eqb-false (outer N f) l (not-true (nat_eq (outer N f) l) t.1) }
