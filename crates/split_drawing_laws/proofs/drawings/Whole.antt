-- The drawing of some faces, from its first operator to its model.
use Rattle.split_drawing_laws.proofs.Prelude.{◌≡◌, ◌≢◌, ℕ, ◌+◌, List, [], ◌∷◌, map, refl, sym, ap, ◌∙◌, subst, arith, fold, Plane, count, tick, Model, loop_of, Sound, HasHalf, face_at, tick_same, Op, AreAccepted, effects, Leads, leads_none, leads_on, Growing, Drawing, FacePairs, drawn_between, next_drawn, faces_drawn, undrawn, face_ops, ops_from, drawing_ops, Stays, DrawnIn, AreFreeForPairs, AreLeftForPairs, AllFit, LoneInOneLoop, FacesFit, pairs_in, CanBeDrawn, Drawable, Ready}
use Rattle.split_drawing_laws.proofs.drawings.Passes.{room_as}
use Rattle.split_drawing_laws.proofs.drawings.Faces.{Gone, face_goes}
use Rattle.split_drawing_laws.proofs.drawings.Stays.{stays_on}

-- ---- the pairs of the faces that are still to be drawn

module _ (D K : Model) (f g : ℕ) (drawn : DrawnIn D K f) (other : g ≢ f) where
  beside : (h : ℕ) → HasHalf D h → face_at D h ≡ g → (loop_of K h ≡ loop_of D h) × (face_at K h ≡ g)
  beside h there at = let b = drawn.beside h there (λ e. other (sym at ∙ e)) in (b.0, b.1 ∙ at)

  all_fit_stay : (qs : List (ℕ × ℕ)) → AllFit D g qs → AllFit K g qs
  all_fit_stay [] w = tt
  all_fit_stay (q ∷ qs) w = (grind (arith, beside), all_fit_stay qs w.1)

  lone_stays : (qs : List (ℕ × ℕ)) → AllFit D g qs → LoneInOneLoop D qs → LoneInOneLoop K qs
  lone_stays qs e f = grind (arith, beside)

faces_stay : (D K : Model) (f : ℕ) → DrawnIn D K f → (fs : List FacePairs) → count f (map (λ g. g.face) fs) ≡ 0 → FacesFit D fs → FacesFit K fs
faces_stay D K f drawn [] z w = tt
faces_stay D K f drawn (g ∷ fs) z w =
    let other : g.face ≢ f = λ e. absurd (omega (arith, z, ap (λ x. tick f x) e, tick_same f)) in (
      (all_fit_stay D K f g.face drawn other g.pairs w.0.0, lone_stays D K f g.face drawn other g.pairs w.0.0 w.0.1),
      faces_stay D K f drawn fs (omega (arith, z)) w.1,
    )

-- ---- one face after the other

pub record AllGone (d D : Drawing) (ops : List Op) (n : ℕ) : Type 0 where
  pub leads : Leads d.model D.model ops
  pub sound : Sound D.model
  pub stays : Stays d.model D.model
  pub fresh : AreFreeForPairs D.model D.taken
  pub room : AreLeftForPairs D.taken n

-- one face more
module _ (p : Plane) (d : Drawing) (f : FacePairs) (fs : List FacePairs) (n : ℕ) (w : Drawable d (f ∷ fs) n) where
  pub next_is : next_drawn p d f ≡ drawn_between p f.face f.pairs d
  unfolding next_drawn
  next_is = refl

  pub ready : Ready p f.face f.pairs d (pairs_in fs + n)
  ready = grind arith

  gone : Gone d (next_drawn p d f) f.face (face_ops p f.face f.pairs d) (pairs_in fs + n)
  gone = subst (λ x. Gone d x f.face (face_ops p f.face f.pairs d) (pairs_in fs + n)) (sym next_is) (face_goes p f.face f.pairs d (pairs_in fs + n) ready)

  pub drawable_on : Drawable (next_drawn p d f) fs n
  drawable_on = record {
    sound = gone.drawn.sound;
    fresh = gone.fresh;
    room = gone.room;
    fit = faces_stay d.model (next_drawn p d f).model f.face gone.drawn fs (omega (arith, w.apart f.face, tick_same f.face)) w.fit.1;
    apart = λ x. omega (arith, w.apart x);
  }

pub all_go : (p : Plane) (d : Drawing) (fs : List FacePairs) (n : ℕ) → Drawable d fs n → AllGone d (fold (next_drawn p) d fs) (ops_from p d fs) n
all_go p d [] n w = grind (arith, leads_none, room_as)
all_go p d (f ∷ fs) n w =
    let D : Drawing = next_drawn p d f in
    let E : Drawing = fold (next_drawn p) (next_drawn p d f) fs in
    let g = gone p d f fs n w in
    let r : AllGone (next_drawn p d f) (fold (next_drawn p) (next_drawn p d f) fs) (ops_from p (next_drawn p d f) fs) n = all_go p (next_drawn p d f) fs n (drawable_on p d f fs n w) in
    record {
      leads = leads_on d.model D.model E.model (face_ops p f.face f.pairs d) (ops_from p (next_drawn p d f) fs) g.leads r.leads;
      sound = r.sound;
      stays = stays_on d.model D.model E.model g.drawn.stays r.stays;
      fresh = r.fresh;
      room = r.room;
    }

-- ---- the drawing

module _ (g : Growing) (fs : List FacePairs) (can : CanBeDrawn g fs) where
  pub drawable : Drawable (undrawn g) fs 0
  drawable = grind arith

module _ (p : Plane) (g : Growing) (fs : List FacePairs) (can : CanBeDrawn g fs) where
  all : AllGone (undrawn g) (faces_drawn p (undrawn g) fs) (ops_from p (undrawn g) fs) 0
  all = all_go p (undrawn g) fs 0 (drawable g fs can)

  pub drawing_accepted : AreAccepted g.model (drawing_ops p g fs)
  unfolding drawing_ops
  drawing_accepted = all.leads.accepted

  pub drawing_made : effects g.model (drawing_ops p g fs) ≡ (faces_drawn p (undrawn g) fs).model
  unfolding drawing_ops
  drawing_made = all.leads.made

  pub drawing_sound : Sound (faces_drawn p (undrawn g) fs).model
  drawing_sound = all.sound

  pub drawing_stays : Stays g.model (faces_drawn p (undrawn g) fs).model
  drawing_stays = all.stays

  pub drawing_fresh : AreFreeForPairs (faces_drawn p (undrawn g) fs).model (faces_drawn p (undrawn g) fs).taken
  drawing_fresh = all.fresh
