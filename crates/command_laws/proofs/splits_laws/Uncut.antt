-- A face that the plane doesn't straddle stands as it did once the edges are cut and the faces drawn that do.
use Rattle.command_laws.proofs.Prelude.{◌≡◌, ◌≢◌, ℕ, ◌+◌, Bool, true, false, ◌&&◌, ◌||◌, List, [], ◌∷◌, None, Some, is_some, refl, sym, ap, subst, ◌∙◌, arith, true≢false, inl, inr, ◌⊎◌, fold, map, false_from_ne_true, Plane, are_opposite, count, IsIn, edge_of, mate, minus, plus, Model, content, face_of, items_of, loop_of, point_of, rings_of, tail, Sound, Has, HasHalf, face_at, lists, edge_row, ring_in, mate_minus, mate_plus, minus_row, plus_row, tick_same, filter_passes, face_row, in-holds, mate_there, same_face, halves_of_edge, IsIn-from_listed, listed-from_in, edge_there, corners, vertices_on, crossing_edges, straddles, with_crossings, Drawing, FacePairs, drawn_between, next_drawn, straddling_pairs, undrawn, with_drawings, split_refusal, Kept, CanBegin, DrawnIn, Fits, pairs_in, Drawable, Ready, any_passes, edge_facts, crossings_keep, faces_are, CanDraw, CanJoin, face_drawn_else, loops_joined_faces, face_drawn, loops_joined, between_keeps, Newer, RingOf, row_else, row_gone, row_joined, row_other, drawable, drawable_on, next_is, ready, never_free, new_loop_face, old_loop_face, can_be_drawn, begins, drawn_stays, StandsAsBefore, stages, none_in}
use Rattle.euler_operators.specs.Table as table
use Rattle.command_laws.proofs.OnFaces.{vertex_there, starts_in, ends_in}
use Rattle.command_laws.proofs.Standing.{rings_same, stands, stands_turned}
use Rattle.command_laws.proofs.Turned.{IsTurned}
use Rattle.command_laws.proofs.splits_laws.DrawnWithin.{IsClear, uncut_edge, uncut_loop}
use Rattle.command_laws.proofs.splits_laws.Steps.{loop_else, ring_face}

-- ---- edges drawn in other faces

-- face k has its row in X as in B, and the same loops with theirs
record HasRows (B X : Model) (k : ℕ) : Type 0 where
  row : table.get X.faces k ≡ table.get B.faces k
  loops : (l : ℕ) → Has B.loops l → face_of B l ≡ k → table.get X.loops l ≡ table.get B.loops l
  loops_back : (l : ℕ) → Has X.loops l → face_of X l ≡ k → table.get X.loops l ≡ table.get B.loops l

rows_on : (B X Y : Model) (k : ℕ) → HasRows B X k → HasRows X Y k → HasRows B Y k
rows_on B X Y k v w = record {
  row = w.row ∙ v.row;
  loops = λ l there of. let r = v.loops l there of in w.loops l (ap is_some r ∙ there) (same_face B X l r ∙ of) ∙ r;
  loops_back = λ l there of. let r = w.loops_back l there of in r ∙ v.loops_back l (sym (ap is_some r) ∙ there) (sym (same_face X Y l r) ∙ of);
}

module _ (p : Plane) (f : ℕ) (qs : List (ℕ × ℕ)) (d : Drawing) (n : ℕ) (w : Ready p f qs d n) (k : ℕ) (there : Has d.model.faces k) (ne : k ≢ f) where
  abbrev B : Model
  B = d.model

  join : (N : Model) (c j e : ℕ) → CanJoin N c j e → face_at N c ≡ f → HasRows B N k → HasRows B (loops_joined N c j e) k
  join N c j e can at a = let J = loops_joined N c j e in rows_on B N J k a (record {
    row = ap (λ t. table.get t k) (loops_joined_faces N c j e);
    loops = λ l has of. row_other N c j e can l (λ z. ne (sym of ∙ ap (face_of N) z ∙ at)) (λ z. ne (sym of ∙ ap (face_of N) z ∙ sym can.one_face ∙ at));
    loops_back = λ l has of. row_other N c j e can l (λ z. ne (sym of ∙ ap (face_of J) z ∙ face_row J (loop_of N c) _ (row_joined N c j e can) ∙ at))
        (λ z. never_free J.loops l has (ap (table.get J.loops) z ∙ row_gone N c j e can));
  })

  draw : (N : Model) (q : ℕ × ℕ) (e g l : ℕ) → CanDraw N q.0 q.1 e g l → DrawnIn B N f → Fits B f q → HasRows B N k → HasRows B (face_drawn N q.0 q.1 e g l) k
  draw N q e g l can drawn fits a =
      let D = face_drawn N q.0 q.1 e g l in
      let not_here : face_at N q.0 ≢ k = λ z. elim (drawn.within q.0 fits.u_there fits.u_face) [
        | inl at ↦ ne (sym z ∙ at)
        | inr none ↦ never_free B.faces k there (ap (table.get B.faces) (sym z) ∙ none)
      ] in
      let not_new : k ≢ g = λ z. never_free N.faces k (ap is_some a.row ∙ there) (ap (table.get N.faces) z ∙ can.face_free) in
      rows_on B N D k a (record {
        row = face_drawn_else N q.0 q.1 e g l k not_new;
        loops = λ x has of. row_else N q.0 q.1 e g l can x (λ z. not_here (sym (ap (face_of N) z) ∙ of)) (λ z. never_free N.loops x has (ap (table.get N.loops) z ∙ can.loop_free));
        loops_back = λ x has of. row_else N q.0 q.1 e g l can x (λ z. not_here (sym (ap (face_of D) z ∙ old_loop_face N q.0 q.1 e g l can) ∙ of))
            (λ z. not_new (sym of ∙ ap (face_of D) z ∙ new_loop_face N q.0 q.1 e g l can));
      })

  move : (N : Model) (l j : ℕ) → DrawnIn B N f → RingOf N f l → Newer B N f j → HasRows B N k → HasRows B (ring_in N l j) k
  unfolding ring_in
  move N l j drawn ring newer a = let R = ring_in N l j in rows_on B N R k a (record {
    row = refl;
    loops = λ q has of. loop_else N.loops l j q (λ z. ne (sym of ∙ ap (face_of N) z ∙ ring.face));
    loops_back = λ q has of. loop_else N.loops l j q (λ z. never_free B.faces k there (ap (table.get B.faces) (sym of ∙ ap (face_of R) z ∙ ring_face N l j ring.there) ∙ newer.new));
  })

  face_apart : HasRows d.model (drawn_between p f qs d).model k
  face_apart = between_keeps p f qs d n w (λ X. HasRows d.model X k) join draw move (record { row = refl; loops = λ l has of. refl; loops_back = λ l has of. refl })

faces_apart : (p : Plane) (d : Drawing) (qs : List FacePairs) (n k : ℕ) → Drawable d qs n → Has d.model.faces k → count k (map (λ q. q.face) qs) ≡ 0 → HasRows d.model (fold (next_drawn p) d qs).model k
faces_apart p d [] n k w there z = record { row = refl; loops = λ l has of. refl; loops_back = λ l has of. refl }
faces_apart p d (q ∷ qs) n k w there z =
    let Y = next_drawn p d q in
    let other : k ≢ q.face = λ e. absurd (omega (arith, z, ap (λ x. count k (x ∷ map (λ q. q.face) qs)) (sym e), tick_same k)) in
    let one : HasRows d.model Y.model k = subst (λ x. HasRows d.model x.model k) (sym (next_is p d q qs n w)) (face_apart p q.face q.pairs d (pairs_in qs + n) (ready p d q qs n w) k there other) in
    rows_on d.model Y.model (fold (next_drawn p) Y qs).model k one (faces_apart p Y qs n k (drawable_on p d q qs n w) (ap is_some one.row ∙ there) (omega (arith, z)))

-- ---- a face with corners on both sides straddles

opposite_cases : (a b c d : Bool) → ((a && b) || (c && d)) ≡ true → ((a ≡ true) × (b ≡ true)) ⊎ ((c ≡ true) × (d ≡ true))
opposite_cases a b c d e = grind arith

both_straddle : (M : Model) (p : Plane) (k a b : ℕ) → IsIn a (corners M k) → IsIn b (corners M k) → are_opposite p (point_of M a) (point_of M b) ≡ true → straddles M p k ≡ true
unfolding straddles
both_straddle M p k a b i j e = grind (arith, any_passes, opposite_cases)

-- ---- the half-edges of a face that doesn't straddle aren't cut

module _ (M : Model) (s : ℕ) (p : Plane) (sound : Sound M) (k : ℕ) (whole : straddles M p k ≡ false) (h : ℕ) (half : HasHalf M h) (at : face_at M h ≡ k) where
  abbrev e : ℕ
  e = edge_of h

  both_ends : IsIn (tail M (plus e)) (corners M k) × IsIn (tail M (mate (plus e))) (corners M k)
  both_ends =
      let starts : IsIn (tail M h) (corners M k) = subst (λ f. IsIn (tail M h) (corners M f)) at (starts_in M sound h half) in
      let ends : IsIn (tail M (mate h)) (corners M k) = subst (λ f. IsIn (tail M (mate h)) (corners M f)) at (ends_in M sound h half) in
      elim (halves_of_edge h) [
        | inl a ↦ subst (λ x. IsIn (tail M x) (corners M k) × IsIn (tail M (mate x)) (corners M k)) a.0 (starts, ends)
        | inr a ↦ (
          subst (λ x. IsIn (tail M x) (corners M k)) (ap mate a.0 ∙ mate_minus e) ends,
          subst (λ x. IsIn (tail M x) (corners M k)) (a.0 ∙ sym (mate_plus e)) starts,
        )
      ]

  pub uncut : lists (crossing_edges M p s) (edge_of h) ≡ false
  uncut = false_from_ne_true (lists (crossing_edges M p s) e) (λ l. true≢false (sym (both_straddle M p k (tail M (plus e)) (tail M (mate (plus e))) both_ends.0 both_ends.1
      (edge_facts M sound s p e (IsIn-from_listed e (crossing_edges M p s) l)).2) ∙ whole))

-- ---- both rewritings

module _ (M : Model) (s : ℕ) (p : Plane) (t : ℕ) (sound : Sound M) (accepted : split_refusal M s p t ≡ None) (k : ℕ) (there : Has M.faces k) (whole : straddles M p k ≡ false) where
  open stages M s p t use {cut as C, drawn as D}

  begun : CanBegin M s p t
  begun = begins M s p t sound accepted

  kept : Kept M C
  kept = crossings_keep M s p t sound begun

  -- ---- so edges, loops and points stay

  edges : (h : ℕ) → HasHalf M h → face_at M h ≡ k → table.get D.edges (edge_of h) ≡ table.get M.edges (edge_of h)
  edges h half at =
      let stays = drawn_stays M s p t sound accepted in
      let now = kept.halves h half in
      let other = kept.halves (mate h) (mate_there M h half) in
      edge_there D h (stays.halves h now) ∙ (λ i. Some (edge_row h (stays.tails h now i) (stays.tails (mate h) other i))) ∙ sym (edge_there C h now)
      ∙ uncut_edge M s p t sound begun h half (uncut M s p sound k whole h half at)

  points : (l v : ℕ) → IsIn v (vertices_on M (content M l)) → face_of M l ≡ k → table.get D.vertices v ≡ table.get M.vertices v
  points l v i at = ap (λ u. table.get u v) (drawn_stays M s p t sound accepted).vertices ∙ kept.points v (vertex_there M sound l v i)

  clear : (l : ℕ) → face_of M l ≡ k → (e : ℕ) → IsIn e (crossing_edges M p s) → IsClear e (content M l)
  clear l at e i = (none (plus e) (plus_row e).0, none (minus e) (minus_row e).0) where
    none : (h : ℕ) → edge_of h ≡ e → count h (items_of (content M l)) ≡ 0
    none h is = none_in h (items_of (content M l)) (λ j.
        let stands = in-holds h (content M l) j in
        let off = uncut M s p sound k whole h (sound.only_edges h l stands) (ap (face_of M) (sound.one_loop h l stands) ∙ at) in
        true≢false (sym (listed-from_in e (crossing_edges M p s) i) ∙ ap (lists (crossing_edges M p s)) (sym is) ∙ off))

  undrawn_face : count k (map (λ q. q.face) (straddling_pairs M s p)) ≡ 0
  undrawn_face = grind (arith, true≢false, filter_passes, faces_are)

  drawn : HasRows C D k
  unfolding with_drawings
  drawn = faces_apart p (undrawn (with_crossings M s p)) (straddling_pairs M s p) 0 k (drawable (with_crossings M s p) (straddling_pairs M s p) (can_be_drawn M s p t sound begun))
      (ap (λ u. table.has u k) kept.faces ∙ there) undrawn_face

  row : table.get D.faces k ≡ table.get M.faces k
  row = drawn.row ∙ ap (λ u. table.get u k) kept.faces

  loops : (l : ℕ) → Has M.loops l → face_of M l ≡ k → table.get D.loops l ≡ table.get M.loops l
  loops l has of = drawn.loops l (kept.loops l ∙ has) (kept.face l ∙ of) ∙ uncut_loop M s p t sound begun l has (clear l of)

  loops_back : (l : ℕ) → Has D.loops l → face_of D l ≡ k → table.get D.loops l ≡ table.get M.loops l
  loops_back l has of =
      let r = drawn.loops_back l has of in
      let at : face_of M l ≡ k = sym (kept.face l) ∙ sym (same_face C D l r) ∙ of in
      r ∙ uncut_loop M s p t sound begun l (sym (kept.loops l) ∙ sym (ap is_some r) ∙ has) (clear l at)

  rings : rings_of D k ≡ rings_of M k
  rings = rings_same M D k row loops loops_back

  pub uncut_stands : StandsAsBefore M (with_drawings M s p).model k
  uncut_stands = stands M D (λ j. j ≡ k) sound loops edges points k there refl row rings

  pub uncut_turned : IsTurned M (with_drawings M s p).model k
  uncut_turned = stands_turned M D (λ j. j ≡ k) sound loops edges points k there refl row rings
