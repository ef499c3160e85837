-- Edges cut and faces drawn within a solid: other solids stay as they were.
use Rattle.command_laws.proofs.Prelude.{◌≡◌, ◌≢◌, ℕ, ◌+◌, false, List, [], ◌∷◌, Some, refl, sym, ap, subst, ◌∙◌, arith, flat_map, fold, option_map, eqb-true, eqb-false, false_from_ne_true, Plane, count, IsIn, canonical, edge_of, minus, plus, get-map_rows, Model, LoopContent, LoopRow, content, cycle, face_of, items_of, lone, solid_of, tail, Sound, Has, HasHalf, face_at, lists, edge_row, ring_in, mate_plus, plus_row, IsIn_rest, count-filter, in-holds, plus_there, same_solid, IsIn_head, all_where_has, IsIn-from_listed, edge_there, loop_row, half_face, Growing, growing, rewritten, rewritten_row, crossing_edges, straddling_faces, all_cut, next_cut, with_crossings, Drawing, FacePairs, all_pairs, drawn_between, next_drawn, straddling_pairs, undrawn, with_drawings, Kept, CanBegin, Stays, DrawnIn, Fits, pairs_in, Drawable, Ready, doubled_none, doubled, cut_rows, Going, cut_at, goes_now, going_on, next_model, crossings_keep, crossings_sound, tails_stay, face_facts, CanJoin, CanDraw, face_drawn, loops_joined, face_goes, between_keeps, drawable, drawable_on, next_is, ready, RingOf, Newer, moved_drawn, can_be_drawn, none_in}
use Rattle.euler_operators.specs.Table as table
use Rattle.split_drawing_laws.proofs.crossings.Whole as cuts
use Rattle.command_laws.proofs.Owners.{agree_none, agree_on, is_of, solid_of_edge, solid_of_half, solid_of_loop}
use Rattle.command_laws.proofs.Inner.{AgreeBut}
use Rattle.command_laws.proofs.splits_laws.Steps.{draw_within, face_in, half_in, join_within, own_edge, ring_within}

pub within_on : (s : ℕ) (M N P : Model) → AgreeBut s M N → AgreeBut s N P → AgreeBut s M P
within_on s M N P v w = agree_on M N P (is_of s) (is_of s) (is_of s) v w

-- ---- edges cut

-- it is written from its least item on, if it has any
abbrev IsWritten : LoopContent → Type 0
IsWritten (lone v) = Unit {0}
IsWritten (cycle hs) = canonical hs ≡ hs

-- no half of the edge stands in it
abbrev pub IsClear : ℕ → LoopContent → Type 0
IsClear e c = (count (plus e) (items_of c) ≡ 0) × (count (minus e) (items_of c) ≡ 0)

clear_stays : (e k : ℕ) (c : LoopContent) → IsWritten c → IsClear e c → rewritten (flat_map (doubled e k)) c ≡ c
clear_stays e k (lone v) w clear = refl
clear_stays e k (cycle hs) w clear = ap (λ xs. cycle (canonical xs)) (doubled_none e k hs clear.0 clear.1) ∙ ap cycle w

cuts_leave : (M : Model) (p : Plane) (sound : Sound M) (l : ℕ) (row : LoopRow) → IsWritten row.content → (g : Growing) (ds es : List ℕ) → Going M p g ds es →
    ((e : ℕ) → IsIn e es → IsClear e row.content) → table.get g.model.loops l ≡ Some row → table.get (all_cut p g es).model.loops l ≡ Some row
cuts_leave M p sound l row w g ds [] going clear at = at
cuts_leave M p sound l row w g ds (e ∷ es) going clear at =
    let k : ℕ = g.taken.edge + 1 in
    let new = rewritten_row (flat_map (doubled e k)) in
    let rows = next_model M p sound g ds e es going ∙ cut_rows g.model e k (g.taken.vertex + 1) (cut_at g.model p e) (goes_now M p sound g ds e es going).can in
    cuts_leave M p sound l row w (next_cut p g e) (e ∷ ds) es (going_on M p sound g ds e es going) (λ x i. clear x (IsIn_rest x e es i))
    (ap (λ N. table.get N.loops l) rows ∙ get-map_rows new g.model.loops l ∙ ap (option_map (new l)) at
    ∙ ap (λ c. Some (record row { content = c })) (clear_stays e k row.content w (clear e (IsIn_head e es))))

module _ (M : Model) (s : ℕ) (p : Plane) (t : ℕ) (sound : Sound M) (begins : CanBegin M s p t) where
  abbrev C : Model
  C = (with_crossings M s p).model

  kept : Kept M C
  kept = crossings_keep M s p t sound begins

  cut_edge : (e : ℕ) → IsIn e (crossing_edges M p s) → Has M.edges e × (solid_of_edge M e ≡ s)
  cut_edge e i = grind (arith, all_where_has, solid_of_edge, count-filter, eqb-true)

  uncut : (e : ℕ) → solid_of_edge M e ≢ s → lists (crossing_edges M p s) e ≡ false
  uncut e ne = false_from_ne_true (lists (crossing_edges M p s) e) (λ at. ne (cut_edge e (IsIn-from_listed e (crossing_edges M p s) at)).1)

  -- an edge that isn't cut keeps its row
  pub uncut_edge : (h : ℕ) → HasHalf M h → lists (crossing_edges M p s) (edge_of h) ≡ false → table.get C.edges (edge_of h) ≡ table.get M.edges (edge_of h)
  uncut_edge h there clear =
      let e = edge_of h in
      let was = plus_there M e there in
      let tails = tails_stay M s p t sound begins e there in
      let same : table.get C.edges (edge_of (plus e)) ≡ table.get M.edges (edge_of (plus e)) =
      edge_there C (plus e) (kept.halves (plus e) was)
      ∙ (λ i. Some (edge_row (plus e) (tails.1 clear i) ((ap (tail C) (mate_plus e) ∙ tails.0 ∙ ap (tail M) (sym (mate_plus e))) i)))
      ∙ sym (edge_there M (plus e) was) in
      sym (ap (table.get C.edges) (plus_row e).0) ∙ same ∙ ap (table.get M.edges) (plus_row e).0

  written : (l : ℕ) → Has M.loops l → (c : LoopContent) → content M l ≡ c → IsWritten c
  written l there (lone v) is = tt
  written l there (cycle hs) is = (sound.cycles l hs there is).from_least

  -- a loop in which no half of an edge stands that is cut keeps its row
  pub uncut_loop : (l : ℕ) → Has M.loops l → ((e : ℕ) → IsIn e (crossing_edges M p s) → IsClear e (content M l)) → table.get C.loops l ≡ table.get M.loops l
  unfolding with_crossings
  uncut_loop l there clear = let row = loop_row M l there in cuts_leave M p sound l _ (written l there (content M l) refl) (growing M) [] (crossing_edges M p s) (cuts.begins M s p t sound begins) clear row ∙ sym row

  module _ (l : ℕ) (ne : solid_of_loop M l ≢ s) where
    no_item : (h : ℕ) → solid_of_half M h ≡ s → count h (items_of (content M l)) ≡ 0
    no_item h of = none_in h (items_of (content M l)) (λ i. ne (ap (solid_of_loop M) (sym (sound.one_loop h l (in-holds h (content M l) i))) ∙ of))

    clear : (e : ℕ) → IsIn e (crossing_edges M p s) → IsClear e (content M l)
    clear e i = let w = cut_edge e i in (
      no_item (plus e) w.1,
      no_item (minus e) (ap (solid_of_half M) (sym (mate_plus e)) ∙ sym (sound.one_solid (plus e) (plus_there M e w.0)) ∙ w.1),
    )

  same_owner : (l : ℕ) → solid_of_loop C l ≡ solid_of_loop M l
  same_owner l = ap (solid_of C) (kept.face l) ∙ same_solid M C (face_of M l) (ap (λ u. table.get u (face_of M l)) kept.faces)

  pub crossings_within : AgreeBut s M C
  crossings_within = record {
    before = sound;
    after = crossings_sound M s p t sound begins;
    faces = λ k there out. (ap (λ u. table.get u k) kept.faces, out);
    faces_back = λ k there out. (ap (λ u. table.get u k) kept.faces, out);
    loops = λ l there out. uncut_loop l there (clear l (eqb-false (solid_of_loop M l) s out));
    loops_back = λ l there out. uncut_loop l (sym (kept.loops l) ∙ there) (clear l (λ e. eqb-false (solid_of_loop C l) s out (same_owner l ∙ e)));
    edges = λ h there out. uncut_edge h there (uncut (edge_of h) (λ o. eqb-false (solid_of_half M h) s out (sym (own_edge M sound h there) ∙ o)));
  }

-- ---- one face drawn, and one after the other

module _ (s : ℕ) (p : Plane) (f : ℕ) (qs : List (ℕ × ℕ)) (d : Drawing) (n : ℕ) (w : Ready p f qs d n) (of : solid_of d.model f ≡ s) where
  abbrev B : Model
  B = d.model

  join : (N : Model) (c k e : ℕ) → CanJoin N c k e → face_at N c ≡ f → AgreeBut s B N → AgreeBut s B (loops_joined N c k e)
  join N c k e can at a = within_on s B N (loops_joined N c k e) a
      (join_within N c k e s can (ap (solid_of N) at ∙ face_in s B N a f (subst (Has N.faces) at (half_face N can.sound c can.c_there)) of))

  draw : (N : Model) (q : ℕ × ℕ) (e g l : ℕ) → CanDraw N q.0 q.1 e g l → DrawnIn B N f → Fits B f q → AgreeBut s B N → AgreeBut s B (face_drawn N q.0 q.1 e g l)
  draw N q e g l can drawn fits a = within_on s B N (face_drawn N q.0 q.1 e g l) a
      (draw_within N q.0 q.1 e g l s can (half_in s B N a q.0 fits.u_there can.u_there (ap (solid_of B) fits.u_face ∙ of)))

  move : (N : Model) (l k : ℕ) → DrawnIn B N f → RingOf N f l → Newer B N f k → AgreeBut s B N → AgreeBut s B (ring_in N l k)
  move N l k drawn ring newer a =
      let now : solid_of N f ≡ s = face_in s B N a f (drawn.stays.faces f newer.old) of in
      within_on s B N (ring_in N l k) a (ring_within N l k s drawn.sound (moved_drawn B N f l k drawn ring newer).sound ring.there (ap (solid_of N) ring.face ∙ now) (sym newer.solid ∙ now))

  pub face_within : AgreeBut s d.model (drawn_between p f qs d).model
  face_within = between_keeps p f qs d n w (AgreeBut s d.model) join draw move (agree_none d.model (is_of s) w.sound)

-- all these faces are there, and of the solid
abbrev AreOf : ℕ → Model → List FacePairs → Type 0
AreOf s M [] = Unit {0}
AreOf s M (q ∷ qs) = (Has M.faces q.face × (solid_of M q.face ≡ s)) × AreOf s M qs

still_of : (s : ℕ) (M N : Model) (qs : List FacePairs) → AgreeBut s M N → Stays M N → AreOf s M qs → AreOf s N qs
still_of s M N [] w stays a = tt
still_of s M N (q ∷ qs) w stays a = ((stays.faces q.face a.0.0, face_in s M N w q.face (stays.faces q.face a.0.0) a.0.1), still_of s M N qs w stays a.1)

faces_within : (s : ℕ) (p : Plane) (d : Drawing) (qs : List FacePairs) (n : ℕ) → Drawable d qs n → AreOf s d.model qs → AgreeBut s d.model (fold (next_drawn p) d qs).model
faces_within s p d [] n w a = agree_none d.model (is_of s) w.sound
faces_within s p d (q ∷ qs) n w a =
    let Y = next_drawn p d q in
    let now = ready p d q qs n w in
    let is = next_is p d q qs n w in
    let one : AgreeBut s d.model Y.model = subst (λ x. AgreeBut s d.model x.model) (sym is) (face_within s p q.face q.pairs d (pairs_in qs + n) now a.0.1) in
    let stays : Stays d.model Y.model = subst (λ x. Stays d.model x.model) (sym is) (face_goes p q.face q.pairs d (pairs_in qs + n) now).drawn.stays in
    within_on s d.model Y.model (fold (next_drawn p) Y qs).model one (faces_within s p Y qs n (drawable_on p d q qs n w) (still_of s d.model Y.model qs one stays a.1))

-- ---- both rewritings

module _ (M : Model) (s : ℕ) (p : Plane) (t : ℕ) (sound : Sound M) (begins : CanBegin M s p t) where
  cut : AgreeBut s M (with_crossings M s p).model
  cut = crossings_within M s p t sound begins

  straddling : (fs : List ℕ) → ((f : ℕ) → IsIn f fs → IsIn f (straddling_faces M p s)) → AreOf s (with_crossings M s p).model (all_pairs M (with_crossings M s p).model p fs)
  straddling [] within = tt
  straddling (f ∷ fs) within =
      let w = face_facts M s p f (within f (IsIn_head f fs)) in
      let there : Has (with_crossings M s p).model.faces f = ap (λ u. table.has u f) (crossings_keep M s p t sound begins).faces ∙ w.0 in
      ((there, face_in s M (with_crossings M s p).model cut f there w.1), straddling fs (λ g i. within g (IsIn_rest g f fs i)))

  -- the drawing alone
  pub drawn_within : AgreeBut s (with_crossings M s p).model (with_drawings M s p).model
  unfolding with_drawings
  drawn_within = faces_within s p (undrawn (with_crossings M s p)) (straddling_pairs M s p) 0 (drawable (with_crossings M s p) (straddling_pairs M s p) (can_be_drawn M s p t sound begins)) (straddling (straddling_faces M p s) (λ f i. i))

  pub drawings_within : AgreeBut s M (with_drawings M s p).model
  drawings_within = within_on s M (with_crossings M s p).model (with_drawings M s p).model cut drawn_within
