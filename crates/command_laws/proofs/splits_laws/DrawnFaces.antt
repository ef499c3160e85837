-- The faces that come while those that straddle the plane are drawn: each lies on the planes of one of these.
use Rattle.command_laws.proofs.Prelude.{◌≡◌, ℕ, ◌+◌, Bool, true, false, List, [], ◌∷◌, None, fold, map, refl, sym, ap, subst, ◌∙◌, ◌⊎◌, inl, inr, arith, eqb_tells, IsIn, Plane, Model, Sound, Has, HasHalf, face_at, no_row, tick_same, half_face, Drawing, FacePairs, faces_drawn, next_drawn, plane_of, straddling_faces, straddling_pairs, undrawn, with_crossings, DrawnIn, pairs_in, Drawable, CanBegin, face_facts, crossings_measured, solid_stays, faces_are, face_goes, drawable, drawable_on, next_is, ready, LiesFlat, Within, face_within, lies_flat, never_free, can_be_drawn}
use Rattle.euler_operators.specs.Table as table
use Rattle.split_drawing_laws.proofs.drawn_volumes.Bounds.{OnFace}
use Rattle.split_drawing_laws.proofs.drawn_volumes.Volumes.{IsPlane}

-- face g of X lies on the planes of one of the faces fs of B
pub record Comes (B X : Model) (fs : List ℕ) (g : ℕ) : Type 0 where
  pub face : ℕ
  pub listed : IsIn face fs
  pub on : (t : Plane) → OnFace B t face → OnFace X t g

-- half-edge h is in X of the face that it had in B, or of a new one, which lies on the planes of that
pub record IsMoved (B X : Model) (h : ℕ) : Type 0 where
  pub face : (face_at X h ≡ face_at B h) ⊎ (table.get B.faces (face_at X h) ≡ None)
  pub on : (t : Plane) → OnFace B t (face_at B h) → OnFace X t (face_at X h)

-- X is B with edges drawn in the faces fs
pub record Spread (B X : Model) (fs : List ℕ) : Type 0 where
  pub there : (g : ℕ) → Has B.faces g → Has X.faces g
  pub olds : (g : ℕ) → Has B.faces g → (t : Plane) → OnFace B t g → OnFace X t g
  pub news : (g : ℕ) → Has X.faces g → table.get B.faces g ≡ None → Comes B X fs g
  pub old_halves : (h : ℕ) → HasHalf B h → HasHalf X h
  pub halves : (h : ℕ) → HasHalf B h → IsMoved B X h

pub drawn_one : (p : Plane) (d : Drawing) (q : FacePairs) (qs : List FacePairs) (n : ℕ) → Drawable d (q ∷ qs) n → DrawnIn d.model (next_drawn p d q).model q.face
drawn_one p d q qs n w = subst (λ x. DrawnIn d.model x.model q.face) (sym (next_is p d q qs n w)) (face_goes p q.face q.pairs d (pairs_in qs + n) (ready p d q qs n w)).drawn

module _ (B : Model) (fs : List ℕ) (was : (f : ℕ) → IsIn f fs → Has B.faces f × LiesFlat B f) where
  -- a half-edge, once face f of X is drawn
  module _ (X Y : Model) (f : ℕ) (sound : Sound X) (drawn : DrawnIn X Y f) (w : Within X Y f) (a : Spread B X fs) (h : ℕ) (there : HasHalf B h) where
    here : HasHalf X h
    here = a.old_halves h there

    stays_at : face_at Y h ≡ face_at X h → IsMoved B Y h
    stays_at same = record {
      face = elim (a.halves h there).face [
        | inl e ↦ inl (same ∙ e)
        | inr none ↦ inr (ap (table.get B.faces) same ∙ none)
      ];
      on = λ t on. subst (OnFace Y t) (sym same) (w.olds (face_at X h) (half_face X sound h here) t ((a.halves h there).on t on));
    }

    none_before : (g : ℕ) → table.get X.faces g ≡ None → (b : Bool) → table.has B.faces g ≡ b → table.get B.faces g ≡ None
    none_before g none true e = absurd (never_free X.faces g (a.there g e) none)
    none_before g none false e = no_row (table.get B.faces g) e

    moved_on : IsMoved B Y h
    moved_on = elim (eqb_tells (face_at X h) f) [
      | inr ne ↦ stays_at (drawn.beside h here ne.1).1
      | inl at ↦ elim (drawn.within h here at.1) [
        | inl same ↦ stays_at (same ∙ sym at.1)
        | inr none ↦ record {
          face = inr (none_before (face_at Y h) none (table.has B.faces (face_at Y h)) refl);
          on = λ t on. w.news (face_at Y h) (half_face Y drawn.sound h (drawn.stays.halves h here)) none t (subst (OnFace X t) at.1 ((a.halves h there).on t on));
        }
      ]
    ]

  spread_on : (X Y : Model) (f : ℕ) → IsIn f fs → Sound X → DrawnIn X Y f → Within X Y f → Spread B X fs → Spread B Y fs
  spread_on X Y f i sound drawn w a = record {
    there = λ g has. w.there g (a.there g has);
    olds = λ g has t on. w.olds g (a.there g has) t (a.olds g has t on);
    news = λ g has none. new_comes g has none (table.has X.faces g) refl;
    old_halves = λ h has. drawn.stays.halves h (a.old_halves h has);
    halves = λ h has. moved_on X Y f sound drawn w a h has;
  } where
    new_comes : (g : ℕ) → Has Y.faces g → table.get B.faces g ≡ None → (b : Bool) → table.has X.faces g ≡ b → Comes B Y fs g
    new_comes g has none true e = let c = a.news g e none in record { face = c.face; listed = c.listed; on = λ t on. w.olds g e t (c.on t on) }
    new_comes g has none false e = record { face = f; listed = i; on = λ t on. w.news g has (no_row (table.get X.faces g) e) t (a.olds f (was f i).0 t on) }

  all_spread : (p : Plane) (d : Drawing) (qs : List FacePairs) (n : ℕ) → Drawable d qs n → ((f : ℕ) → IsIn f (map (λ q. q.face) qs) → IsIn f fs) → Spread B d.model fs → Spread B (fold (next_drawn p) d qs).model fs
  all_spread p d [] n w inside a = a
  all_spread p d (q ∷ qs) n w inside a =
      let i = inside q.face (omega (arith, tick_same q.face)) in
      let f = was q.face i in
      let one = face_within p q.face q.pairs d (pairs_in qs + n) (ready p d q qs n w) (a.there q.face f.0) f.1.plane f.1.some (a.olds q.face f.0 f.1.plane f.1.on) in
      all_spread p (next_drawn p d q) qs n (drawable_on p d q qs n w) (λ g j. inside g (omega (arith, j)))
      (spread_on d.model (next_drawn p d q).model q.face i w.sound (drawn_one p d q qs n w) (subst (λ x. Within d.model x.model q.face) (sym (next_is p d q qs n w)) one) a)

-- ---- both rewritings

module _ (M : Model) (s : ℕ) (p : Plane) (t : ℕ) (sound : Sound M) (begins : CanBegin M s p t) where
  abbrev C : Model
  C = (with_crossings M s p).model

  abbrev D : Model
  D = (faces_drawn p (undrawn (with_crossings M s p)) (straddling_pairs M s p)).model

  same_faces : C.faces ≡ M.faces
  same_faces = (crossings_measured M s p t sound begins).faces

  lies : (f : ℕ) → IsIn f (straddling_faces M p s) → Has C.faces f × IsPlane (plane_of M f) × OnFace C (plane_of M f) f
  lies f i =
      let w = face_facts M s p f i in
      let has = subst (λ x. Has x f) (sym same_faces) w.0 in
      let flat = lies_flat M s p t sound begins f has (solid_stays M C same_faces f ∙ w.1) in
      (has, flat.0, flat.1)

  pub spread : Spread C D (straddling_faces M p s)
  spread = all_spread C (straddling_faces M p s) (λ f i. let w = lies f i in (w.0, record { plane = plane_of M f; some = w.1; on = w.2 })) p (undrawn (with_crossings M s p)) (straddling_pairs M s p) 0 (drawable (with_crossings M s p) (straddling_pairs M s p) (can_be_drawn M s p t sound begins))
      (λ f i. subst (IsIn f) (faces_are M C p (straddling_faces M p s)) i) (record { there = λ g has. has; olds = λ g has r on. on; news = λ g has none. absurd (never_free C.faces g has none); old_halves = λ h has. has; halves = λ h has. record { face = inl refl; on = λ r on. on } })
