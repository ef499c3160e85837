-- What the conditions of a split say once the faces are drawn: the solid can be opened along its section, and has a face on either side.
use Rattle.split_laws.proofs.Prelude.{◌≡◌, ℕ, true, false, nat_eq, [], None, IsTrue, ap, ◌∙◌, subst, arith, not, ◌&&◌, ◌||◌, is_some, unwrap_or, refl, sym, inl, inr, true≢false, append-nil, pos, int_lt, false_from_ne_true, list_any, Plane, Model, solid_of, is_number, faces_of, no_point, content, tail, loop_of, face_of, point_of, Sound, Has, HasHalf, lists, face_at, is_lone, is_above, is_below, dot, direction, IsIn, edge_of, plus, minus, count-filter, IsIn-filter, filter_passes, no_row, zero_first_where, first_fails, IsIn_or_not, in-holds, cycle_there, plus_there, minus_there, loop_there, no_zero, all_where-rises, IsIn-from_listed, listed-from_in, halves_of_edge, loop_after, half_face, loop_row, not_lone_cycle, none_is_lone, face_of_loop, SplitBegins, SectionOpens, none_first, split_begins, split_opens, least_lone, loops_of, corners, reaches_above, reaches_below, face_is_above, faces_above, straddles, crossing_edges, with_crossings, straddling_pairs, with_drawings, below_halves, section_cycles, has_stray_hole, split_refusal, normal, solid_facts, any_passes, tail_in_face, in_solid, can_be_drawn, rewritings_sound, rewritings_free, Stays, CanBeDrawn, drawing_stays, filter_rises, HasCaps, CanBeOpenedInTurn, can_be_opened, KeepsSolids, HasFace, TailIn, tail_in, none_straddles, any_from}
use Rattle.euler_operators.specs.Table as table
use Rattle.split_drawing_laws.specs.crossings.Laws.{CanBegin}
use Rattle.split_drawing_laws.proofs.crossings.Whole.{crossings_keep, crossings_cut, crossings_sound, same_solid, not_cut}
use Rattle.split_laws.proofs.drawn.Solids.{drawing_keeps}
use Rattle.split_drawing_laws.proofs.half_sides.Pieces.{CutBy, crossing_pieces}
use Rattle.split_drawing_laws.proofs.half_sides.Starts.{old_face}
use Rattle.split_laws.proofs.Stages.{stages}

-- a half-edge of N that starts at point v, of face f
pub record HalfAt (N : Model) (v f : ℕ) : Type 0 where
  pub half : ℕ
  pub there : HasHalf N half
  pub starts : tail N half ≡ v
  pub face : face_at N half ≡ f

-- ---- a split that isn't refused

module _ (M : Model) (s : ℕ) (p : Plane) (t : ℕ) (sound : Sound M) (accepted : split_refusal M s p t ≡ None) where
  open stages M s p t use {cut as N, drawing as d, drawn as D, above}

  pub begins : CanBegin M s p t
  begins = none_first M s p t accepted

  first : SplitBegins M s p t
  first = split_begins M s p t begins

  later : SectionOpens s p (with_drawings M s p)
  later = split_opens M s p t accepted

  pub t_fits : IsTrue (is_number t)
  t_fits = first.t_fits

  pub none_lone : least_lone M (faces_of M s) ≡ None
  none_lone = first.none_lone

  pub meets : (list_any (reaches_above M p) (faces_of M s) ≡ true) × (list_any (reaches_below M p) (faces_of M s) ≡ true)
  meets = first.meets

  pub never_stuck : (with_drawings M s p).stuck ≡ 0
  never_stuck = later.never_stuck

  pub no_stray : has_stray_hole (with_drawings M s p).model p (section_cycles (with_drawings M s p).model (below_halves (with_drawings M s p).model (faces_above (with_drawings M s p).model p s) s)) ≡ false
  no_stray = later.no_stray

  pub drawn_sound : Sound (with_drawings M s p).model
  drawn_sound = rewritings_sound M s p t sound begins

  can : CanBeDrawn (with_crossings M s p) (straddling_pairs M s p)
  can = can_be_drawn M s p t sound begins

  pub drawn_stays : Stays (with_crossings M s p).model (with_drawings M s p).model
  unfolding with_drawings
  drawn_stays = drawing_stays p (with_crossings M s p) (straddling_pairs M s p) can

  pub drawn_keeps : KeepsSolids (with_crossings M s p).model (with_drawings M s p).model
  unfolding with_drawings
  drawn_keeps = drawing_keeps p (with_crossings M s p) (straddling_pairs M s p) can

  pub t_free : table.get (with_drawings M s p).model.solids t ≡ None
  t_free = ap (λ u. table.get u t) (drawn_keeps.solids ∙ (crossings_keep M s p t sound begins).solids) ∙ no_row (table.get M.solids t) first.t_free

  -- a face above is there and of the solid
  pub above_facts : (f : ℕ) → lists (faces_above (with_drawings M s p).model p s) f ≡ true → Has (with_drawings M s p).model.faces f × (solid_of (with_drawings M s p).model f ≡ s)
  above_facts f l = solid_facts D s f (omega (arith, IsIn-from_listed f above l, count-filter (face_is_above D p) f (faces_of D s)))

  -- the solid can be opened along its section
  pub can_open_all : CanBeOpenedInTurn (faces_above (with_drawings M s p).model p s) s (record { model = (with_drawings M s p).model; taken = (with_drawings M s p).taken; caps = [] })
      (section_cycles (with_drawings M s p).model (below_halves (with_drawings M s p).model (faces_above (with_drawings M s p).model p s) s))
  can_open_all = can_be_opened D above s d.taken drawn_sound (rewritings_free M s p t sound begins) (λ f l. (above_facts f l).1) (λ f l. (above_facts f l).0) later.unbranched later.left

  -- and has no caps yet
  pub no_caps : HasCaps (faces_above (with_drawings M s p).model p s) s (record { model = (with_drawings M s p).model; taken = (with_drawings M s p).taken; caps = [] })
  no_caps = grind (arith, append-nil, filter_rises (face_is_above D p) (faces_of D s) (all_where-rises (λ _ row. nat_eq row.solid s) D.faces))

  -- ---- once the faces are drawn the solid has a face above and one that isn't

  N_sound : Sound N
  N_sound = crossings_sound M s p t sound begins

  -- ---- at a corner of a face of the solid a half-edge starts

  not_lone : (f l : ℕ) → IsIn f (faces_of M s) → Has M.loops l → face_of M l ≡ f → is_lone (content M l) ≡ false
  not_lone f l i there at = first_fails (is_lone (content M l)) (lists (faces_of M s) (face_of M l))
      (zero_first_where (λ _ row. is_lone row.content && lists (faces_of M s) row.face) M.loops (λ q y got z. no_zero q z (sound.loops_fit q (ap is_some got)))
      (none_is_lone M (faces_of M s) (none_lone)) l (record { face = face_of M l; content = content M l }) (loop_row M l there))
      (ap (lists (faces_of M s)) at ∙ listed-from_in f (faces_of M s) i)

  corner_half : (f v : ℕ) → IsIn f (faces_of M s) → IsIn v (corners M f) → HalfAt M v f
  unfolding corners
  corner_half f v i c =
      let of : (l : ℕ) → IsIn l (loops_of M f) → Has M.loops l × (face_of M l ≡ f) = λ l j. face_of_loop M sound f l (solid_facts M s f i).0 (listed-from_in l (loops_of M f) j) in
      let r : TailIn M v (loops_of M f) = tail_in M v (loops_of M f) (λ l j. not_lone_cycle (content M l) (not_lone f l i (of l j).0 (of l j).1)) c in
      let stands = in-holds r.half (content M r.loop) r.half_in in
      record {
        half = r.half;
        there = sound.only_edges r.half r.loop stands;
        starts = sym r.is;
        face = ap (face_of M) (sound.one_loop r.half r.loop stands) ∙ (of r.loop r.loop_in).1;
      }

  -- ---- one starts there also when the edges are cut

  cut_half : (e k : ℕ) → CutBy M N e k → HalfAt N (tail M (plus e)) (face_at M (plus e))
  cut_half e k w = record {
    half = plus k;
    there = plus_there N k w.there;
    starts = w.starts;
    face = ap (face_of N) (sym (loop_after N N_sound (plus k) (plus_there N k w.there)) ∙ ap (loop_of N) w.first) ∙ old_face M s p t sound begins (plus e) (plus_there M e w.old);
  }

  old_half : (h : ℕ) → HasHalf M h → tail N h ≡ tail M h → HalfAt N (tail M h) (face_at M h)
  old_half h there e = record { half = h; there = (crossings_keep M s p t sound begins).halves h there; starts = e; face = old_face M s p t sound begins h there }

  plus_at : (e : ℕ) → Has M.edges e → HalfAt N (tail M (plus e)) (face_at M (plus e))
  plus_at e there = elim (IsIn_or_not e (crossing_edges M p s)) [
    | inl i ↦ let c = (crossing_pieces M s p t sound begins).cuts e i in cut_half e c.0 c.1
    | inr z ↦ old_half (plus e) (plus_there M e there) ((crossings_cut M s p t sound begins).plus_tails e there (not_cut M s p t sound begins e z))
  ]

  half_then : (h : ℕ) → HasHalf M h → HalfAt N (tail M h) (face_at M h)
  half_then h there = elim (halves_of_edge h) [
    | inl a ↦ subst (λ x. HalfAt N (tail M x) (face_at M x)) (sym a.0) (plus_at (edge_of h) there)
    | inr a ↦ subst (λ x. HalfAt N (tail M x) (face_at M x)) (sym a.0) (old_half (minus (edge_of h)) (minus_there M (edge_of h) there) ((crossings_cut M s p t sound begins).minus_tails (edge_of h) there))
  ]

  -- ---- and when the faces are drawn: in a face of the solid

  pub record CornerThen (v : ℕ) : Type 0 where
    pub face : ℕ
    pub there : Has (with_drawings M s p).model.faces face
    pub of_solid : solid_of (with_drawings M s p).model face ≡ s
    pub corner : IsIn v (corners (with_drawings M s p).model face)
    pub point : point_of (with_drawings M s p).model v ≡ point_of M v

  point_then : (v : ℕ) → Has M.vertices v → point_of D v ≡ point_of M v
  unfolding point_of
  point_then v there = ap (λ u. unwrap_or (table.get u v) no_point) (drawn_stays).vertices
      ∙ ap (λ o. unwrap_or o no_point) ((crossings_keep M s p t sound begins).points v there)

  corner_then : (f v : ℕ) → IsIn f (faces_of M s) → IsIn v (corners M f) → CornerThen v
  corner_then f v i c =
      let h : HalfAt M v f = corner_half f v i c in
      let x : HalfAt N (tail M h.half) (face_at M h.half) = half_then h.half h.there in
      let there : HasHalf D x.half = (drawn_stays).halves x.half x.there in
      let S : Sound D = drawn_sound in
      let starts : tail D x.half ≡ v = (drawn_stays).tails x.half x.there ∙ x.starts ∙ h.starts in
      record {
        face = face_at D x.half;
        there = half_face D S x.half there;
        of_solid = (drawn_keeps).halves x.half x.there ∙ ap (solid_of N) (x.face ∙ h.face) ∙ same_solid M s p t sound begins f ∙ (solid_facts M s f i).1;
        corner = subst (λ n. IsIn n (corners D (face_at D x.half))) starts (tail_in_face D x.half (loop_of D x.half) (loop_there D S x.half there) (cycle_there D S x.half there));
        point = point_then v (subst (Has M.vertices) h.starts (sound.tails_there h.half h.there));
      }

  -- ---- the two faces

  above_is : (f : ℕ) → reaches_above D p f ≡ true → face_is_above D p f ≡ true
  unfolding face_is_above
  above_is f e = ap (λ b. b || (not (reaches_below D p f) && not (int_lt (pos 0) (dot (normal D f) (direction p))))) e

  below_is : (f : ℕ) → reaches_below D p f ≡ true → straddles D p f ≡ false → face_is_above D p f ≡ false
  unfolding face_is_above straddles
  below_is f e none = grind (arith, first_fails)

  unlisted : (f : ℕ) → face_is_above D p f ≡ false → lists (faces_above D p s) f ≡ false
  unlisted f e = false_from_ne_true (lists (faces_above D p s) f) (λ l. true≢false (sym (filter_passes (face_is_above D p) f (faces_of D s) (IsIn-from_listed f (faces_above D p s) l)) ∙ e))

  pub some_above : HasFace (with_drawings M s p).model s (faces_above (with_drawings M s p).model p s) true
  some_above =
      let f = any_from (reaches_above M p) (faces_of M s) (meets).0 in
      let v = any_from (λ v. is_above p (point_of M v)) (corners M f.0) f.2 in
      let c : CornerThen v.0 = corner_then f.0 v.0 f.1 v.1 in
      let reaches : reaches_above D p c.face ≡ true = any_passes (λ v. is_above p (point_of D v)) v.0 (corners D c.face) c.corner (ap (is_above p) c.point ∙ v.2) in
      record {
        face = c.face;
        there = c.there;
        of_solid = c.of_solid;
        is = listed-from_in c.face (faces_above D p s) (IsIn-filter (face_is_above D p) c.face (faces_of D s) (in_solid D c.face s c.there c.of_solid) (above_is c.face reaches));
      }

  pub some_below : HasFace (with_drawings M s p).model s (faces_above (with_drawings M s p).model p s) false
  some_below =
      let f = any_from (reaches_below M p) (faces_of M s) (meets).1 in
      let v = any_from (λ v. is_below p (point_of M v)) (corners M f.0) f.2 in
      let c : CornerThen v.0 = corner_then f.0 v.0 f.1 v.1 in
      let reaches : reaches_below D p c.face ≡ true = any_passes (λ v. is_below p (point_of D v)) v.0 (corners D c.face) c.corner (ap (is_below p) c.point ∙ v.2) in
      let whole : straddles D p c.face ≡ false = none_straddles M D s p t sound begins (never_stuck, refl) c.face (listed-from_in c.face (faces_of D s) (in_solid D c.face s c.there c.of_solid)) in
      record {
        face = c.face;
        there = c.there;
        of_solid = c.of_solid;
        is = unlisted c.face (below_is c.face reaches whole);
      }
