-- A solid drawn, from its edges cut to its last face.
use Rattle.split_drawing.proofs.Prelude.{◌≡◌, ◌≤◌, ℕ, [], is_some, length, map, refl, sym, ap, ◌∙◌, subst, arith, nat_eq, List, length-map, Plane, IsIn, Model, faces_of, Sound, Has, taken_in, straddles, straddling_faces, with_crossings, Drawing, faces_drawn, undrawn, straddling_pairs, with_drawings, Kept, drawing_ops, ops_from, crossings_keep, crossings_counted, drawable, of_picked, AreNoted, Noted, noted_still, AreIn, CanBeCut, Counters, taken_of, drawing_of, AreCuts, all_pairs, codes, how_many_pairs, paired, Pair, PairedFace, PairsThere, pairs_started, put_aside, CanDrawFaces}
use Rattle.euler_laws.proofs.Common.{all_where_has, IsIn-from_listed}
use Rattle.split_drawing_laws.proofs.drawings.Counted.{faces_are as faces_same}
use Rattle.split_drawing_laws.proofs.pairs.Whole.{can_be_drawn}
use Rattle.split_checks.proofs.cut_places_laws.Walks.{all_in}
use Rattle.split_checks.specs.declared.cuts.Cuts.{Cuts}
use Rattle.split_drawing.proofs.solid_drawing_laws.Starts.{started_are, all_there, many_pairs}

module _ (M : Model) (s : ℕ) (p : Plane) (sound : Sound M) (can : CanBeCut M s p) where
  abbrev N : Model
  N = (with_crossings M s p).model

  abbrev begun : Drawing
  begun = undrawn (with_crossings M s p)

  kept : Kept M N
  kept = crossings_keep M s p can.0 sound can.1

  -- the pairs of cut places are there then
  pub pairs_there : PairsThere N (all_pairs M p (straddling_faces M p s))
  pairs_there = all_there M N p sound kept (straddling_faces M p s)

  -- what is noted of vertices holds then
  pub still_noted : (ns : List Noted) → AreNoted M p ns → AreNoted N p ns
  still_noted ns are = noted_still M N p kept.points ns are

  face_there : (f : ℕ) → IsIn f (straddling_faces M p s) → Has N.faces f
  face_there f i = subst (λ t. Has t f) (sym kept.faces) (ap is_some (all_where_has (λ _ row. nat_eq row.solid s) M.faces f (of_picked (straddles M p) f (faces_of M s) i).0).1)

  can_draw_begun : CanDrawFaces (straddling_pairs M s p) begun
  can_draw_begun = record {
    there = subst (AreIn N.faces) (sym (faces_same M N p (straddling_faces M p s)))
        (all_in N.faces (straddling_faces M p s) (λ f l. face_there f (IsIn-from_listed f (straddling_faces M p s) l)));
    drawable = drawable (with_crossings M s p) (straddling_pairs M s p) (can_be_drawn M s p can.0 sound can.1);
  }

  made_of_begun : faces_drawn p begun (straddling_pairs M s p) ≡ with_drawings M s p
  unfolding with_drawings
  made_of_begun = refl

  -- where the progress is that before anything is drawn, and the pairs start at the cut places
  module _ (c : Counters) (X : Model) (x : X ≡ N) (counted : taken_of c ≡ taken_in X)
      (cuts : Cuts) (told : AreCuts M p s cuts) (fs : List PairedFace) (are : fs ≡ cuts.faces.items) (qs : List Pair) (started : map codes qs ≡ pairs_started X p (map codes cuts.pairs.items)) where
    drawing_is : drawing_of (record { taken = c; stuck = 0 }) X [] ≡ begun
    drawing_is = λ i. record { model = x i; taken = (counted ∙ ap taken_in x ∙ sym (crossings_counted M s p can.0 sound can.1)) i; left = []; stuck = 0 }

    faces_are : paired fs (map codes qs) ≡ straddling_pairs M s p
    faces_are = (λ i. paired ((are ∙ told.faces) i) ((started ∙ (λ j. pairs_started (x j) p (told.pairs j))) i)) ∙ started_are M N p (straddling_faces M p s)

    pub enough : how_many_pairs fs ≤ length qs
    enough = grind (arith, many_pairs, length-map)

    pub can_draw : CanDrawFaces (paired fs (map codes qs)) (drawing_of (record { taken = c; stuck = 0 }) X [])
    can_draw = subst (λ gs. CanDrawFaces gs (drawing_of (record { taken = c; stuck = 0 }) X [])) (sym faces_are) (subst (CanDrawFaces (straddling_pairs M s p)) (sym drawing_is) can_draw_begun)

    pub made : put_aside (faces_drawn p (drawing_of (record { taken = c; stuck = 0 }) X []) (paired fs (map codes qs))) ≡ put_aside (with_drawings M s p)
    made = (λ i. put_aside (faces_drawn p (drawing_is i) (faces_are i))) ∙ ap put_aside made_of_begun

    pub ops_are : ops_from p (drawing_of (record { taken = c; stuck = 0 }) X []) (paired fs (map codes qs)) ≡ drawing_ops p (with_crossings M s p) (straddling_pairs M s p)
    unfolding drawing_ops
    ops_are = λ i. ops_from p (drawing_is i) (faces_are i)
