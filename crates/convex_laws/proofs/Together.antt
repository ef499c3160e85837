-- While edges are drawn, half-edges come together in no face: those that share one shared one before.
use Rattle.convex_laws.proofs.Prelude.{◌≡◌, ◌≢◌, ℕ, List, [], ◌∷◌, fold, map, false, true≢false, arith, refl, sym, ap, ◌∙◌, inl, inr, eqb_tells, Plane, count, Model, face_at, Sound, HasHalf, filter_passes, tick_same, half_face, Drawing, FacePairs, next_drawn, straddles, straddling_pairs, undrawn, with_crossings, with_drawings, CanBegin, DrawnIn, Drawable, drawable, drawable_on, can_be_drawn, drawn_one}
use Rattle.euler_operators.specs.Table as table
use Rattle.split_drawing_laws.proofs.drawings.Counted.{faces_are}
use Rattle.split_drawing_laws.proofs.face_sides.Beside.{never_free}

-- half-edges of B that share a face of X shared one of B
record ComeApart (B X : Model) : Type 0 where
  stay : (h : ℕ) → HasHalf B h → HasHalf X h
  shared : (g h : ℕ) → HasHalf B g → HasHalf B h → face_at X g ≡ face_at X h → face_at B g ≡ face_at B h

module _ (X Y : Model) (f : ℕ) (sound : Sound X) (drawn : DrawnIn X Y f) where
  -- one of f isn't in a face that another face was
  never_beside : (g h : ℕ) → HasHalf X g → HasHalf X h → face_at X g ≡ f → face_at X h ≢ f → face_at Y g ≢ face_at Y h
  never_beside g h g_there h_there at off same =
      let still : face_at Y h ≡ face_at X h = (drawn.beside h h_there off).1 in
      elim (drawn.within g g_there at) [
        | inl e ↦ off (sym still ∙ sym same ∙ e)
        | inr none ↦ never_free X.faces (face_at X h) (half_face X sound h h_there) (ap (table.get X.faces) (sym (same ∙ still)) ∙ none)
      ]

  one_apart : ComeApart X Y
  one_apart = record {
    stay = drawn.stays.halves;
    shared = λ g h g_there h_there same. elim (eqb_tells (face_at X g) f) [
      | inl a ↦ elim (eqb_tells (face_at X h) f) [
        | inl b ↦ a.1 ∙ sym b.1
        | inr b ↦ absurd (never_beside g h g_there h_there a.1 b.1 same)
      ]
      | inr a ↦ elim (eqb_tells (face_at X h) f) [
        | inl b ↦ absurd (never_beside h g h_there g_there b.1 a.1 (sym same))
        | inr b ↦ sym (drawn.beside g g_there a.1).1 ∙ same ∙ (drawn.beside h h_there b.1).1
      ]
    ];
  }

apart_on : (B X Y : Model) → ComeApart B X → ComeApart X Y → ComeApart B Y
apart_on B X Y v w = record { stay = λ h there. w.stay h (v.stay h there); shared = λ g h a b same. v.shared g h a b (w.shared g h (v.stay g a) (v.stay h b) same) }

all_apart : (B : Model) (p : Plane) (d : Drawing) (qs : List FacePairs) (n : ℕ) → Drawable d qs n → ComeApart B d.model → ComeApart B (fold (next_drawn p) d qs).model
all_apart B p d [] n w a = a
all_apart B p d (q ∷ qs) n w a =
    let drawn = drawn_one p d q qs n w in
    all_apart B p (next_drawn p d q) qs n (drawable_on p d q qs n w) (apart_on B d.model (next_drawn p d q).model a (one_apart d.model (next_drawn p d q).model q.face w.sound drawn))

pub drawn_shared : (M : Model) (s : ℕ) (p : Plane) (t : ℕ) → Sound M → CanBegin M s p t → (g h : ℕ) → HasHalf (with_crossings M s p).model g → HasHalf (with_crossings M s p).model h →
    face_at (with_drawings M s p).model g ≡ face_at (with_drawings M s p).model h → face_at (with_crossings M s p).model g ≡ face_at (with_crossings M s p).model h
unfolding with_drawings
drawn_shared M s p t sound begun = (all_apart (with_crossings M s p).model p (undrawn (with_crossings M s p)) (straddling_pairs M s p) 0 (drawable (with_crossings M s p) (straddling_pairs M s p) (can_be_drawn M s p t sound begun))
    (record { stay = λ h there. there; shared = λ g h a b same. same })).shared

-- a face that isn't drawn keeps its half-edges
all_stay : (p : Plane) (d : Drawing) (qs : List FacePairs) (n : ℕ) → Drawable d qs n → (f : ℕ) → count f (map (λ q. q.face) qs) ≡ 0 → (h : ℕ) → HasHalf d.model h → face_at d.model h ≡ f → face_at (fold (next_drawn p) d qs).model h ≡ f
all_stay p d [] n w f none h there at = at
all_stay p d (q ∷ qs) n w f none h there at =
    let drawn = drawn_one p d q qs n w in
    let other : face_at d.model h ≢ q.face = λ s. absurd (omega (arith, none, ap (λ x. count f (x ∷ map (λ q. q.face) qs)) (sym s ∙ at), tick_same f)) in
    all_stay p (next_drawn p d q) qs n (drawable_on p d q qs n w) f (omega (arith, none)) h (drawn.stays.halves h there) ((drawn.beside h there other).1 ∙ at)

pub whole_stays : (M : Model) (s : ℕ) (p : Plane) (t : ℕ) → Sound M → CanBegin M s p t → (h : ℕ) → HasHalf (with_crossings M s p).model h → straddles M p (face_at (with_crossings M s p).model h) ≡ false →
    face_at (with_drawings M s p).model h ≡ face_at (with_crossings M s p).model h
unfolding with_drawings
whole_stays M s p t sound begun h there whole = all_stay p (undrawn (with_crossings M s p)) (straddling_pairs M s p) 0 (drawable (with_crossings M s p) (straddling_pairs M s p) (can_be_drawn M s p t sound begun))
    (face_at (with_crossings M s p).model h) undrawn_face h there refl where
      undrawn_face : count (face_at (with_crossings M s p).model h) (map (λ q. q.face) (straddling_pairs M s p)) ≡ 0
      undrawn_face = grind (arith, true≢false, filter_passes, faces_are, whole)
