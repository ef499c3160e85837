-- What is told of corners stays while edges are drawn.
use Rattle.split_drawing_laws.proofs.Prelude.{list_any, ◌≡◌, ℕ, Bool, true, false, ◌||◌, List, [], ◌∷◌, refl, sym, ap, ◌∙◌, arith, true≢false, ◌≢◌, nat_eq, is_some, subst, inl, inr, map, ne_eqb, eq-eqb, eqb_tells, false_from_ne_true, Plane, is_above, IsIn, Model, LoopContent, lone, cycle, items_of, content, tail, holds, loop_of, face_of, outer, rings_of, Sound, HasHalf, Has, StandsIn, face_at, lists, tick_same, in-holds, same_face, IsIn-filter, filter_passes, test_ring, IsIn-from_listed, listed-from_in, vertices_on, some_above, rings_above, with_rings, ring_listed, Stays}
use Rattle.euler_operators.specs.Table as table
use Rattle.split_drawing_laws.proofs.drawings.Drawn.{CanDraw, draw_sound, face_drawn}
use Rattle.split_drawing_laws.proofs.drawings.Rings.{RingOf, rings_are}
use Rattle.split_drawing_laws.proofs.drawings.Stays.{point_stays, row_else, draw_beside}
use Rattle.split_drawing_laws.proofs.face_sides.Beside.{HoldsOld, u_goes, k_stays, outer_kept, old_loop_face, new_loop_face, never_free, given_content, given_has, given_else, given_face}

-- ---- tests of lists

pub any_from : (t : ℕ → Bool) (xs : List ℕ) → list_any t xs ≡ true → (x : ℕ) × IsIn x xs × (t x ≡ true)
any_from t [] e = absurd (true≢false (sym e))
any_from t (x ∷ xs) e = grind (arith, tick_same, any_from t xs)

pub none_from : (t : ℕ → Bool) (xs : List ℕ) → ((x : ℕ) → IsIn x xs → t x ≡ false) → list_any t xs ≡ false
none_from t [] none = refl
none_from t (x ∷ xs) none = ap (λ b. b || list_any t xs) (none x (omega (arith, tick_same x))) ∙ none_from t xs (λ y i. none y (omega (arith, i)))

-- ---- corners

module _ (B K : Model) (stays : Stays B K) (p : Plane) where
  tails_stay : (hs : List ℕ) → ((h : ℕ) → IsIn h hs → HasHalf B h) → map (tail K) hs ≡ map (tail B) hs
  tails_stay [] old = refl
  tails_stay (h ∷ hs) old = λ i. stays.tails h (old h (omega (arith, tick_same h))) i ∷ tails_stay hs (λ g j. old g (omega (arith, j))) i

  vertices_stay : (c : LoopContent) → ((h : ℕ) → IsIn h (items_of c) → HasHalf B h) → vertices_on K c ≡ vertices_on B c
  vertices_stay (lone v) old = refl
  vertices_stay (cycle hs) old = tails_stay hs old

  any_above : (vs : List ℕ) → some_above K p vs ≡ some_above B p vs
  any_above [] = refl
  any_above (v ∷ vs) = λ i. is_above p (point_stays B K stays v i) || any_above vs i

  -- a loop whose content stays keeps its corners where they were
  pub above_stays : (r : ℕ) → Sound B → content K r ≡ content B r → some_above K p (vertices_on K (content K r)) ≡ some_above B p (vertices_on B (content B r))
  above_stays r sound e = ap (λ c. some_above K p (vertices_on K c)) e
      ∙ ap (some_above K p) (vertices_stay (content B r) (λ h i. sound.only_edges h r (in-holds h (content B r) i)))
      ∙ any_above (vertices_on B (content B r))

-- ---- a face with one pair: its loop is cut in two, and the rings above go to the new face

-- loop q of N holds a half-edge of B on side b
pub record HeldOn (B N : Model) (side : ℕ → Bool) (q : ℕ) (b : Bool) : Type 0 where
  pub held : HoldsOld B N q
  pub on : side held.half ≡ b

-- so does each loop of face g
abbrev pub LiesOnSide : Model → Model → (ℕ → Bool) → ℕ → Bool → Type 0
LiesOnSide B N side g b = (q : ℕ) → Has N.loops q → face_of N q ≡ g → HeldOn B N side q b

-- N is cut between u, above, and k, below, in the outer loop of f. A ring of f holds a half-edge that tells whether a corner of it is above
pub record Cut (B N : Model) (side : ℕ → Bool) (p : Plane) (f u k e g l : ℕ) : Type 0 where
  pub can : CanDraw N u k e g l
  pub stays : Stays B N
  pub u_old : HasHalf B u
  pub k_old : HasHalf B k
  pub u_face : face_at N u ≡ f
  pub f_there : Has N.faces f
  pub u_outer : outer N f ≡ loop_of N u
  pub u_side : side u ≡ true
  pub k_side : side k ≡ false
  pub rings : (r : ℕ) → Has N.loops r → face_of N r ≡ f → r ≢ outer N f → HeldOn B N side r (some_above (face_drawn N u k e g l) p (vertices_on (face_drawn N u k e g l) (content (face_drawn N u k e g l) r)))

module _ (B N : Model) (side : ℕ → Bool) (p : Plane) (f u k e g l : ℕ) (c : Cut B N side p f u k e g l) where
  abbrev pub K : Model
  K = face_drawn N u k e g l

  K_sound : Sound K
  K_sound = draw_sound N u k e g l c.can

  abbrev pub ls : List ℕ
  ls = rings_above K p f

  abbrev test : ℕ → Bool
  test r = some_above K p (vertices_on K (content K r))

  f_other : f ≢ g
  f_other s = never_free N.faces f c.f_there (ap (table.get N.faces) s ∙ c.can.face_free)

  outer_is : outer K f ≡ loop_of N u
  outer_is = outer_kept N u k e g l c.can f c.f_there ∙ c.u_outer

  -- ---- the rings that are given away

  ring_of : (r : ℕ) → lists ls r ≡ true → RingOf K f r
  ring_of r i = rings_are K f test r (IsIn-from_listed r ls i)

  passes : (r : ℕ) → lists ls r ≡ true → test r ≡ true
  passes r i = filter_passes test r (rings_of K f) (IsIn-from_listed r ls i)

  -- a ring that isn't given away doesn't pass
  passes_not : (r : ℕ) → Has K.loops r → face_of K r ≡ f → outer K f ≢ r → lists ls r ≡ false → test r ≡ false
  passes_not r there face inner not_listed =
      let ring = test_ring (table.has K.loops r) (nat_eq (face_of K r) f) (nat_eq (outer K f) r) there (eq-eqb (face_of K r) f face) (ne_eqb (outer K f) r inner) in
      false_from_ne_true (test r) (λ e. true≢false (sym (listed-from_in r ls (IsIn-filter test r (rings_of K f) (IsIn-from_listed r (rings_of K f) (ring_listed K K_sound f r ring)) e)) ∙ not_listed))

  -- a ring of f then was one before, and its half-edge stays there
  module _ (r : ℕ) (there : Has K.loops r) (face : face_of K r ≡ f) (inner : outer K f ≢ r) where
    not_first : r ≢ loop_of N u
    not_first s = inner (outer_is ∙ sym s)

    same_row : table.get K.loops r ≡ table.get N.loops r
    same_row = row_else N u k e g l c.can r not_first (λ s. f_other (sym face ∙ ap (face_of K) s ∙ new_loop_face N u k e g l c.can))

    was : HeldOn B N side r (test r)
    was = c.rings r (ap is_some (sym same_row) ∙ there) (sym (same_face N K r same_row) ∙ face) (λ s. not_first (s ∙ c.u_outer))

    ring_held : HeldOn B K side r (test r)
    ring_held = record {
      held = record {
        half = was.held.half;
        old = was.held.old;
        at = (draw_beside N u k e g l c.can was.held.half (c.stays.halves was.held.half was.held.old) (λ s. not_first (sym was.held.at ∙ s))).0 ∙ was.held.at;
      };
      on = was.on;
    }

  first_held : HeldOn B K side (loop_of N u) false
  first_held = record { held = record { half = k; old = c.k_old; at = k_stays N u k e g l c.can }; on = c.k_side }

  second_held : HeldOn B K side l true
  second_held = record { held = record { half = u; old = c.u_old; at = u_goes N u k e g l c.can }; on = c.u_side }

  -- ---- once the rings are given away

  module _ (K_stays : Stays N K) (W_sound : Sound (with_rings (face_drawn N u k e g l) (rings_above (face_drawn N u k e g l) p f) g)) where
    abbrev W : Model
    W = with_rings K ls g

    still_held : (q : ℕ) (b : Bool) → HeldOn B K side q b → HeldOn B W side q b
    still_held q b w = record {
      held = record {
        half = w.held.half;
        old = w.held.old;
        at = W_sound.one_loop w.held.half q (ap (holds w.held.half) (given_content K ls g q)
            ∙ subst (StandsIn K w.held.half) w.held.at (K_sound.stands w.held.half (K_stays.halves w.held.half (c.stays.halves w.held.half w.held.old))));
      };
      on = w.on;
    }

    was_loop : (q : ℕ) → Has W.loops q → Has K.loops q
    was_loop q there = sym (given_has K ls g q) ∙ there

    -- the old face lies below
    pub old_lies : LiesOnSide B W side f false
    old_lies q there face = still_held q false (given_or_below (lists ls q) refl) where
      below : face_of K q ≡ f → lists ls q ≡ false → HeldOn B K side q false
      below at e = elim (eqb_tells q (loop_of N u)) [
        | inl a ↦ subst (λ z. HeldOn B K side z false) (sym a.1) first_held
        | inr a ↦
            let inner : outer K f ≢ q = λ s. a.1 (sym s ∙ outer_is) in
            subst (HeldOn B K side q) (passes_not q (was_loop q there) at inner e) (ring_held q (was_loop q there) at inner)
      ]

      given_or_below : (b : Bool) → lists ls q ≡ b → HeldOn B K side q false
      given_or_below true e = absurd (f_other (sym face ∙ given_face K ls g q e (was_loop q there)))
      given_or_below false e = below (sym (same_face K W q (given_else K ls g q e)) ∙ face) e

    -- and the new one above
    pub new_lies : LiesOnSide B W side g true
    new_lies q there face = still_held q true (given_or_above (lists ls q) refl) where
      cut_off : face_of K q ≡ g → HeldOn B K side q true
      cut_off at = elim (eqb_tells q l) [
        | inl a ↦ subst (λ z. HeldOn B K side z true) (sym a.1) second_held
        | inr a ↦ elim (eqb_tells q (loop_of N u)) [
          | inl b ↦ absurd (f_other (sym (old_loop_face N u k e g l c.can ∙ c.u_face) ∙ ap (face_of K) (sym b.1) ∙ at))
          | inr b ↦
              let same : table.get K.loops q ≡ table.get N.loops q = row_else N u k e g l c.can q b.1 a.1 in
              absurd (never_free N.faces g (subst (Has N.faces) (sym (same_face N K q same) ∙ at) (c.can.sound.loops_of_faces q (ap is_some (sym same) ∙ was_loop q there))) c.can.face_free)
        ]
      ]

      given_or_above : (b : Bool) → lists ls q ≡ b → HeldOn B K side q true
      given_or_above true e = let r = ring_of q e in subst (HeldOn B K side q) (passes q e) (ring_held q r.there r.face r.inner)
      given_or_above false e = cut_off (sym (same_face K W q (given_else K ls g q e)) ∙ face)
