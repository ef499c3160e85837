-- Each half-edge stays in its solid while faces are drawn, and solids stay.
use Rattle.split_laws.proofs.Prelude.{◌≡◌, ◌≢◌, ℕ, ◌+◌, List, [], ◌∷◌, None, is_some, refl, sym, ap, ◌∙◌, subst, arith, inl, inr, true≢false, fold, eqb_tells, Plane, Model, solid_of, Sound, Has, HasHalf, face_at, effect, mef, mekr, ring_in, solid_row, same_solid, Growing, Drawing, drawn_between, FacePairs, next_drawn, faces_drawn, undrawn, DrawnIn, CanBeDrawn, ready, drawable, drawable_on, next_is, KeepsSolids, half_face}
use Rattle.euler_operators.specs.Table as table
use Rattle.split_drawing_laws.specs.drawings.Pairs.{Fits, pairs_in}
use Rattle.split_drawing_laws.specs.drawings.Passing.{Ready, Drawable}
use Rattle.split_drawing_laws.proofs.drawings.Faces.{face_goes, between_keeps}
use Rattle.split_drawing_laws.proofs.drawings.Drawn.{face_drawn_new, face_drawn_else, face_drawn, loops_joined}
use Rattle.split_drawing_laws.proofs.face_sides.Beside.{never_free}

-- X is M with edges drawn in face f: M's faces have their rows, and the new ones are of the solid of f
pub record NewOf (M X : Model) (f : ℕ) : Type 0 where
  pub rows : (g : ℕ) → Has M.faces g → table.get X.faces g ≡ table.get M.faces g
  pub news : (g : ℕ) → Has X.faces g → table.get M.faces g ≡ None → solid_of X g ≡ solid_of M f
  pub solids : X.solids ≡ M.solids

none_new : (M : Model) (f : ℕ) → NewOf M M f
none_new M f = record { rows = λ g t. refl; news = λ g t n. absurd (never_free M.faces g t n); solids = refl }

-- joining loops and moving rings change no face
same_new : (M X Y : Model) (f : ℕ) → Y.faces ≡ X.faces → Y.solids ≡ X.solids → NewOf M X f → NewOf M Y f
same_new M X Y f faces solids a = grind (arith, same_solid)

module _ (M : Model) (f : ℕ) (sound : Sound M) where
  -- a half-edge of the face is of its solid still
  half_of : (X : Model) → DrawnIn M X f → NewOf M X f → (h : ℕ) → HasHalf M h → face_at M h ≡ f → solid_of X (face_at X h) ≡ solid_of M f
  half_of X drawn a h there at = elim (drawn.within h there at) [
    | inl e ↦ ap (solid_of X) e ∙ same_solid M X f (a.rows f (subst (Has M.faces) at (half_face M sound h there)))
    | inr n ↦ a.news (face_at X h) (half_face X drawn.sound h (drawn.stays.halves h there)) n
  ]

  module _ (X : Model) (q : ℕ × ℕ) (e g l : ℕ) (drawn : DrawnIn M X f) (fits : Fits M f q) (face_free : table.get X.faces g ≡ None) (a : NewOf M X f) where
    abbrev K : Model
    K = face_drawn X q.0 q.1 e g l

    was_there : (k : ℕ) → Has M.faces k → k ≢ g
    was_there k t s = true≢false (sym t ∙ ap is_some (sym (a.rows k t) ∙ ap (table.get X.faces) s ∙ face_free))

    one_new : NewOf M (face_drawn X q.0 q.1 e g l) f
    unfolding effect mef
    one_new = record {
      rows = λ k t. face_drawn_else X q.0 q.1 e g l k (was_there k t) ∙ a.rows k t;
      news = λ k t n. elim (eqb_tells k g) [
        | inl s ↦ ap (solid_of K) s.1 ∙ solid_row K g _ (face_drawn_new X q.0 q.1 e g l) ∙ half_of X drawn a q.0 fits.u_there fits.u_face
        | inr s ↦ same_solid X K k (face_drawn_else X q.0 q.1 e g l k s.1) ∙ a.news k (sym (ap is_some (face_drawn_else X q.0 q.1 e g l k s.1)) ∙ t) n
      ];
      solids = refl ∙ a.solids;
    }

-- one face
face_new : (p : Plane) (f : ℕ) (qs : List (ℕ × ℕ)) (d : Drawing) (n : ℕ) → Ready p f qs d n → NewOf d.model (drawn_between p f qs d).model f
unfolding effect mekr ring_in
face_new p f qs d n w = between_keeps p f qs d n w (λ X. NewOf d.model X f)
    (λ N c k e can at a. same_new d.model N (loops_joined N c k e) f refl refl a)
    (λ N q e g l can drawn fits a. one_new d.model f w.sound N q e g l drawn fits can.face_free a)
    (λ N l k drawn ring newer a. same_new d.model N (ring_in N l k) f refl refl a) (none_new d.model f)

-- ---- each half-edge stays in its solid

one_keeps : (X Y : Model) (f : ℕ) → Sound X → DrawnIn X Y f → NewOf X Y f → KeepsSolids X Y
one_keeps X Y f sound drawn a = record {
  halves = λ h t. elim (eqb_tells (face_at X h) f) [
    | inl e ↦ half_of X f sound Y drawn a h t e.1 ∙ ap (solid_of X) (sym e.1)
    | inr e ↦ ap (solid_of Y) (drawn.beside h t e.1).1 ∙ same_solid X Y (face_at X h) (a.rows (face_at X h) (half_face X sound h t))
  ];
  solids = a.solids;
}

all_keep : (p : Plane) (d : Drawing) (qs : List FacePairs) (n : ℕ) → Drawable d qs n → KeepsSolids d.model (fold (next_drawn p) d qs).model
all_keep p d [] n w = record { halves = λ h t. refl; solids = refl }
all_keep p d (q ∷ qs) n w =
    let f : ℕ = q.face in
    let Y : Drawing = next_drawn p d q in
    let r : Ready p f q.pairs d (pairs_in qs + n) = ready p d q qs n w in
    let drawn : DrawnIn d.model (next_drawn p d q).model f = subst (λ x. DrawnIn d.model x.model f) (sym (next_is p d q qs n w)) (face_goes p f q.pairs d (pairs_in qs + n) r).drawn in
    let new : NewOf d.model (next_drawn p d q).model f = subst (λ x. NewOf d.model x.model f) (sym (next_is p d q qs n w)) (face_new p f q.pairs d (pairs_in qs + n) r) in
    let a : KeepsSolids d.model (next_drawn p d q).model = one_keeps d.model (next_drawn p d q).model f w.sound drawn new in
    let b : KeepsSolids (next_drawn p d q).model (fold (next_drawn p) (next_drawn p d q) qs).model = all_keep p (next_drawn p d q) qs n (drawable_on p d q qs n w) in
    record { halves = λ h t. b.halves h (drawn.stays.halves h t) ∙ a.halves h t; solids = b.solids ∙ a.solids }

-- a drawing leaves each half-edge in its solid
pub drawing_keeps : (p : Plane) (g : Growing) (qs : List FacePairs) → CanBeDrawn g qs → KeepsSolids g.model (faces_drawn p (undrawn g) qs).model
drawing_keeps p g qs can = all_keep p (undrawn g) qs 0 (drawable g qs can)
