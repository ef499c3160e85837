-- Faces drawn: volumes stay, and each face of the solid lies on the planes of one that was there before.
use Rattle.split_drawing_laws.proofs.Prelude.{◌≡◌, ◌≢◌, ℕ, None, is_some, refl, sym, ap, ◌∙◌, subst, ◌⊎◌, inl, inr, ◌+◌, Bool, true, false, List, [], ◌∷◌, arith, ◌&&◌, fold, map, eqb_tells, Plane, Model, solid_of, faces_of, Sound, Has, face_at, first_refusal, lists, ring_in, IsIn, same_solid, tick_same, no_row, half_face, IsIn-from_listed, listed-from_in, Drawing, drawn_between, FacePairs, next_drawn, faces_drawn, undrawn, straddling_pairs, with_drawings, six_volume, plane_of, straddling_faces, with_crossings, first_conditions, DrawnIn, pairs_in, Ready, Drawable, CanBeDrawn}
use Rattle.euler_operators.specs.Table as table
use Rattle.split_drawing_laws.specs.drawn_volumes.Laws.{LiesOnOld}
use Rattle.split_drawing_laws.proofs.drawings.Drawn.{CanDraw, CanJoin, face_drawn, loops_joined, face_drawn_else, loops_joined_faces}
use Rattle.split_drawing_laws.proofs.drawings.Rings.{RingOf, Newer, ring_faces}
use Rattle.split_drawing_laws.proofs.face_sides.Beside.{never_free}
use Rattle.split_drawing_laws.proofs.drawn_volumes.Bounds.{OnFace, on_face, face_on}
use Rattle.split_drawing_laws.proofs.drawn_volumes.Bounds as draws
use Rattle.split_drawing_laws.proofs.drawn_volumes.Volumes as moves
use Rattle.split_drawing_laws.proofs.drawn_volumes.Volumes.{CanMove, IsPlane, draw_volumes, join_volumes, move_volumes}
use Rattle.split_drawing_laws.proofs.drawings.Faces.{between_keeps}
use Rattle.split_drawing_laws.proofs.drawings.Whole.{ready, drawable_on, next_is, drawable, drawing_sound}
use Rattle.split_drawing_laws.proofs.crossings.Whole.{crossings_sound}
use Rattle.split_drawing_laws.proofs.crossings.Premises.{face_facts, solid_facts, in_solid}
use Rattle.split_drawing_laws.proofs.pairs.Whole.{can_be_drawn}
use Rattle.split_drawing_laws.proofs.drawings.Counted.{faces_are}
use Rattle.split_drawing_laws.proofs.cut_volumes.CutWhole.{all_flat, crossings_measured, crossings_volumes}
use Rattle.split_drawing_laws.proofs.cut_volumes.Told.{flat_on, solid_stays}

-- X is M with edges drawn in face f: volumes stay, faces lie on the planes on which they lay, and new ones on those of f
pub record Within (M X : Model) (f : ℕ) : Type 0 where
  pub volumes : (v : ℕ) → six_volume X v ≡ six_volume M v
  pub there : (g : ℕ) → Has M.faces g → Has X.faces g
  pub olds : (g : ℕ) → Has M.faces g → (t : Plane) → OnFace M t g → OnFace X t g
  pub news : (g : ℕ) → Has X.faces g → table.get M.faces g ≡ None → (t : Plane) → OnFace M t f → OnFace X t g
  pub old_solid : (g : ℕ) → Has M.faces g → solid_of X g ≡ solid_of M g
  pub new_solid : (g : ℕ) → Has X.faces g → table.get M.faces g ≡ None → solid_of X g ≡ solid_of M f

-- face f of M lies on a plane
module _ (M : Model) (f : ℕ) (sound : Sound M) (f_there : Has M.faces f) (r : Plane) (some : IsPlane r) (on_f : OnFace M r f) where
  -- ---- two loops joined

  module _ (X : Model) (c d e : ℕ) (can : CanJoin X c d e) (at : face_at X c ≡ f) (w : Within M X f) where
    abbrev J : Model
    J = loops_joined X c d e

    same : J.faces ≡ X.faces
    same = loops_joined_faces X c d e

    was : (g : ℕ) → Has J.faces g → Has X.faces g
    was g there = subst (λ t. Has t g) same there

    pub join_within : Within M (loops_joined X c d e) f
    join_within = record {
      volumes = λ v. join_volumes X c d e can r some (subst (OnFace X r) (sym at) (w.olds f f_there r on_f)) v ∙ w.volumes v;
      there = λ g there. subst (λ t. Has t g) (sym same) (w.there g there);
      olds = λ g there t on. draws.joined_on X c d e can t g (w.olds g there t on);
      news = λ g there none t on. draws.joined_on X c d e can t g (w.news g (was g there) none t on);
      old_solid = λ g there. same_solid X J g (ap (λ t. table.get t g) same) ∙ w.old_solid g there;
      new_solid = λ g there none. same_solid X J g (ap (λ t. table.get t g) same) ∙ w.new_solid g (was g there) none;
    }

  -- ---- an edge drawn

  module _ (X : Model) (u k e g l : ℕ) (can : CanDraw X u k e g l) (drawn : (face_at X u ≡ f) ⊎ (table.get M.faces (face_at X u) ≡ None)) (w : Within M X f) where
    abbrev K : Model
    K = face_drawn X u k e g l

    -- u's face lies on the planes of f
    comes_on : (t : Plane) → OnFace M t f → OnFace X t (face_at X u)
    comes_on t on = elim drawn [
      | inl s ↦ subst (OnFace X t) (sym s) (w.olds f f_there t on)
      | inr none ↦ w.news (face_at X u) (half_face X can.sound u can.u_there) none t on
    ]

    comes_solid : solid_of X (face_at X u) ≡ solid_of M f
    comes_solid = elim drawn [
      | inl s ↦ ap (solid_of X) s ∙ w.old_solid f f_there
      | inr none ↦ w.new_solid (face_at X u) (half_face X can.sound u can.u_there) none
    ]

    old_row : (h : ℕ) → Has X.faces h → table.get K.faces h ≡ table.get X.faces h
    old_row h there = face_drawn_else X u k e g l h (draws.not_new X u k e g l can h there)

    had_row : (h : ℕ) → h ≢ g → Has K.faces h → Has X.faces h
    had_row h ne there = sym (ap is_some (face_drawn_else X u k e g l h ne)) ∙ there

    pub draw_within : Within M (face_drawn X u k e g l) f
    draw_within = record {
      volumes = λ v. draw_volumes X u k e g l can r some (comes_on r on_f) v ∙ w.volumes v;
      there = λ h there. ap is_some (old_row h (w.there h there)) ∙ w.there h there;
      olds = λ h there t on. draws.old_on X u k e g l can t h (w.there h there) (w.olds h there t on);
      news = λ h there none t on. elim (eqb_tells h g) [
        | inl s ↦ subst (OnFace K t) (sym s.1) (draws.new_on X u k e g l can t (comes_on t on))
        | inr s ↦ draws.old_on X u k e g l can t h (had_row h s.1 there) (w.news h (had_row h s.1 there) none t on)
      ];
      old_solid = λ h there. same_solid X K h (old_row h (w.there h there)) ∙ w.old_solid h there;
      new_solid = λ h there none. elim (eqb_tells h g) [
        | inl s ↦ ap (solid_of K) s.1 ∙ draws.solid_new X u k e g l can ∙ comes_solid
        | inr s ↦ same_solid X K h (face_drawn_else X u k e g l h s.1) ∙ w.new_solid h (had_row h s.1 there) none
      ];
    }

  -- ---- a ring moved to a new face

  module _ (X : Model) (l k : ℕ) (drawn : DrawnIn M X f) (ring : RingOf X f l) (newer : Newer M X f k) (w : Within M X f) where
    abbrev R : Model
    R = ring_in X l k

    moves_on : CanMove X f l k
    moves_on = grind (arith, never_free)

    row_same : (g : ℕ) → table.get R.faces g ≡ table.get X.faces g
    row_same g = ap (λ t. table.get t g) (ring_faces X l k moves_on.sound moves_on.goes)

    pub move_within : Within M (ring_in X l k) f
    move_within = record {
      volumes = λ v. move_volumes X f l k moves_on r some (w.olds f f_there r on_f) (w.news k newer.there newer.new r on_f) v ∙ w.volumes v;
      there = λ g there. ap is_some (row_same g) ∙ w.there g there;
      olds = λ g there t on. moves.else_on X f l k moves_on t g (λ s. never_free M.faces g there (ap (table.get M.faces) s ∙ newer.new)) (w.olds g there t on);
      news = λ g there none t on. elim (eqb_tells g k) [
        | inl s ↦ subst (OnFace R t) (sym s.1) (moves.moved_on X f l k moves_on t (w.olds f f_there t on) (w.news k newer.there newer.new t on))
        | inr s ↦ moves.else_on X f l k moves_on t g s.1 (w.news g (sym (ap is_some (row_same g)) ∙ there) none t on)
      ];
      old_solid = λ g there. same_solid X R g (row_same g) ∙ w.old_solid g there;
      new_solid = λ g there none. same_solid X R g (row_same g) ∙ w.new_solid g (sym (ap is_some (row_same g)) ∙ there) none;
    }

-- ---- one face drawn

pub face_within : (p : Plane) (f : ℕ) (qs : List (ℕ × ℕ)) (d : Drawing) (n : ℕ) → Ready p f qs d n → Has d.model.faces f → (r : Plane) → IsPlane r → OnFace d.model r f → Within d.model (drawn_between p f qs d).model f
face_within p f qs d n w there r some on = between_keeps p f qs d n w (λ X. Within d.model X f)
    (join_within d.model f w.sound there r some on)
    (λ N q e g l can drawn fits. draw_within d.model f w.sound there r some on N q.0 q.1 e g l can (drawn.within q.0 fits.u_there fits.u_face))
    (move_within d.model f w.sound there r some on) (grind (arith, never_free))

-- ---- faces drawn one after the other: volumes stay, and each face of the solid lies on the planes of one that was there before

-- face g of X lies on the planes of a face of solid s of B, of its own where it was one
pub record Comes (B X : Model) (s g : ℕ) : Type 0 where
  pub face : ℕ
  pub there : Has B.faces face
  pub solid : solid_of B face ≡ s
  pub own : Has B.faces g → face ≡ g
  pub on : (t : Plane) → OnFace B t face → OnFace X t g

pub record Spread (B X : Model) (s : ℕ) : Type 0 where
  pub volumes : (v : ℕ) → six_volume X v ≡ six_volume B v
  pub there : (g : ℕ) → Has B.faces g → Has X.faces g
  pub old_solid : (g : ℕ) → Has B.faces g → solid_of X g ≡ solid_of B g
  pub origin : (g : ℕ) → Has X.faces g → solid_of X g ≡ s → Comes B X s g

-- each face of solid s lies on a plane
pub record LiesFlat (B : Model) (f : ℕ) : Type 0 where
  pub plane : Plane
  pub some : IsPlane plane
  pub on : OnFace B plane f

module _ (B : Model) (s : ℕ) where
  spread_on : (X Y : Model) (f : ℕ) → Has X.faces f → solid_of X f ≡ s → Within X Y f → Spread B X s → Spread B Y s
  spread_on X Y f f_there f_solid w a = record {
    volumes = λ v. w.volumes v ∙ a.volumes v;
    there = λ g there. w.there g (a.there g there);
    old_solid = λ g there. w.old_solid g (a.there g there) ∙ a.old_solid g there;
    origin = origin_then;
  } where
    origin_then : (g : ℕ) → Has Y.faces g → solid_of Y g ≡ s → Comes B Y s g
    origin_then g there of_s = old_or_new (table.has X.faces g) refl where
      old_or_new : (b : Bool) → table.has X.faces g ≡ b → Comes B Y s g
      old_or_new true e =
          let c : Comes B X s g = a.origin g e (sym (w.old_solid g e) ∙ of_s) in
          record { face = c.face; there = c.there; solid = c.solid; own = c.own; on = λ t on. w.olds g e t (c.on t on) }
      old_or_new false e =
          let c : Comes B X s f = a.origin f f_there f_solid in
          let none : table.get X.faces g ≡ None = no_row (table.get X.faces g) e in
          record { face = c.face; there = c.there; solid = c.solid; own = λ was. absurd (never_free X.faces g (a.there g was) none); on = λ t on. w.news g there none t (c.on t on) }

  module _ (p : Plane) (flat : (f : ℕ) → Has B.faces f → solid_of B f ≡ s → LiesFlat B f) where
    next_spread : (d : Drawing) (q : FacePairs) (qs : List FacePairs) (n : ℕ) → Drawable d (q ∷ qs) n → Has B.faces q.face → solid_of B q.face ≡ s → Spread B d.model s → Spread B (next_drawn p d q).model s
    next_spread d q qs n w was of_s a =
        let f : ℕ = q.face in
        let there : Has d.model.faces f = a.there f was in
        let solid : solid_of d.model f ≡ s = a.old_solid f was ∙ of_s in
        let c : Comes B d.model s f = a.origin f there solid in
        let r : LiesFlat B c.face = flat c.face c.there c.solid in
        spread_on d.model (next_drawn p d q).model f there solid (subst (λ x. Within d.model x.model f) (sym (next_is p d q qs n w))
        (face_within p f q.pairs d (pairs_in qs + n) (ready p d q qs n w) there r.plane r.some (c.on r.plane r.on))) a

    pub all_spread : (d : Drawing) (qs : List FacePairs) (n : ℕ) → Drawable d qs n → ((f : ℕ) → IsIn f (map (λ q. q.face) qs) → Has B.faces f × (solid_of B f ≡ s)) → Spread B d.model s → Spread B (fold (next_drawn p) d qs).model s
    all_spread d [] n w of a = a
    all_spread d (q ∷ qs) n w of a =
        let here = of q.face (omega (arith, tick_same q.face)) in
        all_spread (next_drawn p d q) qs n (drawable_on p d q qs n w) (λ g i. of g (omega (arith, i))) (next_spread d q qs n w here.0 here.1 a)

-- ---- the faces that straddle drawn: from the first conditions of a split to planes and volumes

module _ (M : Model) (s : ℕ) (p : Plane) (t : ℕ) (sound : Sound M) (accepted : first_refusal (first_conditions M s p t) ≡ None) where
  abbrev N : Model
  N = (with_crossings M s p).model

  abbrev D : Model
  D = (faces_drawn p (undrawn (with_crossings M s p)) (straddling_pairs M s p)).model

  N_sound : Sound N
  N_sound = crossings_sound M s p t sound accepted

  can : CanBeDrawn (with_crossings M s p) (straddling_pairs M s p)
  can = can_be_drawn M s p t sound accepted

  D_sound : Sound D
  D_sound = drawing_sound p (with_crossings M s p) (straddling_pairs M s p) can

  same_faces : N.faces ≡ M.faces
  same_faces = (crossings_measured M s p t sound accepted).faces

  was_there : (f : ℕ) → Has N.faces f → Has M.faces f
  was_there f there = subst (λ x. Has x f) same_faces there

  was_solid : (f : ℕ) → solid_of N f ≡ s → solid_of M f ≡ s
  was_solid f of_s = sym (solid_stays M N same_faces f) ∙ of_s

  -- a face of the solid lies on its own plane
  pub lies_flat : (f : ℕ) → Has N.faces f → solid_of N f ≡ s → IsPlane (plane_of M f) × OnFace N (plane_of M f) f
  lies_flat f there of_s =
      let flat = flat_on M f (all_flat M s p t sound accepted f (was_there f there) (was_solid f of_s)) in
      (flat.0, on_face N N_sound (plane_of M f) f ((crossings_measured M s p t sound accepted).planes f (plane_of M f) flat.1))

  of_s : (f : ℕ) → IsIn f (straddling_faces M p s) → Has N.faces f × (solid_of N f ≡ s)
  of_s f i = let w = face_facts M s p f i in (subst (λ x. Has x f) (sym same_faces) w.0, solid_stays M N same_faces f ∙ w.1)

  spread : Spread N D s
  spread = all_spread N s p (λ f there of_s. let w = lies_flat f there of_s in record { plane = plane_of M f; some = w.0; on = w.1 }) (undrawn (with_crossings M s p)) (straddling_pairs M s p) 0 (drawable (with_crossings M s p) (straddling_pairs M s p) can)
      (λ f i. of_s f (subst (IsIn f) (faces_are M N p (straddling_faces M p s)) i)) (grind arith)

  lies_now : (f : ℕ) → IsIn f (faces_of D s) → LiesOnOld M D s f
  lies_now f i =
      let w = solid_facts D s f i in
      let c : Comes N D s f = spread.origin f w.0 w.1 in
      let flat = lies_flat c.face c.there c.solid in
      record {
        face = c.face;
        of_solid = listed-from_in c.face (faces_of M s) (in_solid M c.face s (was_there c.face c.there) (was_solid c.face c.solid));
        own = λ there. c.own (subst (λ x. Has x f) (sym same_faces) there);
        on = λ j. flat.0 j && face_on D D_sound (plane_of M c.face) f w.0 (c.on (plane_of M c.face) flat.1) j;
      }

  pub drawn_lies : (f : ℕ) → lists (faces_of (with_drawings M s p).model s) f ≡ true → LiesOnOld M (with_drawings M s p).model s f
  unfolding with_drawings
  drawn_lies f l = lies_now f (IsIn-from_listed f (faces_of D s) l)

  pub drawings_volumes : (u : ℕ) → six_volume (with_drawings M s p).model u ≡ six_volume M u
  unfolding with_drawings
  drawings_volumes u = spread.volumes u ∙ crossings_volumes M s p t sound accepted u
