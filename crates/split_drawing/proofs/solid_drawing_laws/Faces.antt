-- Faces drawn between their pairs, one after the other.
use Rattle.split_drawing.proofs.Prelude.{◌≡◌, ℕ, List, [], ◌∷◌, map, refl, subst, arith, Plane, Table, Has, Drawing, FacePairs, drawn_between, next_drawn, faces_drawn, ops_from, Ready, Drawable, face_goes, next_is, ready, drawable_on, AreIn, put_aside, CanDrawFace, CanDrawFaces}

-- the pairs of a face that are put aside don't change what comes then
pub aside : (p : Plane) (fs : List FacePairs) (d : Drawing) → put_aside (faces_drawn p (put_aside d) fs) ≡ put_aside (faces_drawn p d fs)
unfolding next_drawn
aside p [] d = refl
aside p (f ∷ fs) d = refl

-- nor the operators that draw what comes then
pub ops_aside : (p : Plane) (d : Drawing) (fs : List FacePairs) → ops_from p (put_aside d) fs ≡ ops_from p d fs
unfolding next_drawn
ops_aside p d [] = refl
ops_aside p d (f ∷ fs) = refl

drawable_aside : (d : Drawing) (fs : List FacePairs) (n : ℕ) → Drawable d fs n → Drawable (put_aside d) fs n
drawable_aside d fs n w = record { sound = w.sound; fresh = w.fresh; room = w.room; fit = w.fit; apart = w.apart }

ready_alone : (p : Plane) (f : ℕ) (qs : List (ℕ × ℕ)) (d : Drawing) (n : ℕ) → Ready p f qs d n → Ready p f qs d 0
ready_alone p f qs d n w = grind arith

still_there : {X : Type 0} (t u : Table X) → ((n : ℕ) → Has t n → Has u n) → (ns : List ℕ) → AreIn t ns → AreIn u ns
still_there t u each [] a = tt
still_there t u each (n ∷ ns) a = (each n a.0, still_there t u each ns a.1)

-- the first of some faces can be drawn, and then the others
pub opened : (p : Plane) (d : Drawing) (f : FacePairs) (fs : List FacePairs) → CanDrawFaces (f ∷ fs) d → CanDrawFace p f.face f.pairs d × CanDrawFaces fs (put_aside (drawn_between p f.face f.pairs d))
opened p d f fs w =
    let r = ready p d f fs 0 w.drawable in
    let D : Drawing = drawn_between p f.face f.pairs d in (
      record { there = w.there.0; ready = ready_alone p f.face f.pairs d _ r },
      record {
        there = still_there d.model.faces D.model.faces (face_goes p f.face f.pairs d _ r).drawn.stays.faces (map (λ f. f.face) fs) w.there.1;
        drawable = drawable_aside D fs 0 (subst (λ x. Drawable x fs 0) (next_is p d f fs 0 w.drawable) (drawable_on p d f fs 0 w.drawable));
      },
    )
