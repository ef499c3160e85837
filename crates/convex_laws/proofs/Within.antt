-- A split makes no vertex outside: each half-space that holds the solid holds the cut points, and so both parts.
use Rattle.convex_laws.proofs.Prelude.{◌≡◌, ◌≢◌, ◌⊎◌, ℕ, ◌+◌, ℤ, unsigned_abs, Bool, true, false, List, [], ◌∷◌, length, map, fold, Some, is_some, unwrap_or, refl, sym, ap, subst, ◌∙◌, arith, true≢false, inl, inr, filter, eq-eqb, nat_tests, ints, Plane, Point, height, opposite, is_above, cut_between, IsIn, mate, plus, Table, Model, no_point, face_of, loop_of, solid_of, point_of, tail, Sound, Has, HasHalf, face_at, from_map, IsIn_head, IsIn_rest, loop_there, mate_there, plus_there, point_row, row_some, IsIn-from_listed, listed-from_in, start, finish, corners, loops_of, Growing, growing, crossing_edges, all_cut, next_cut, with_crossings, straddling_pairs, with_drawings, below_halves, section_cycles, Opening, both_lists, opened_along, numbers_after, outer_caps, face_of_loop, get-put_cases, on_one, on_some, CanBegin, edge_facts, Stays, drawing_stays, can_be_drawn, rewritings_sound, CanBeOpenedInTurn, opened_sound, can_open, openings_carry, vertices_are, listed_front, Machine, held, IsSplit, IsVertexOf, LiesBelow, SplitsStayBelow, loop_in_face, vertex_there, Agree, OnSolid, agree_on, half_is_on, has_owner, is_either, is_of, owner_is, solid_of_vertex, vertex_kept, stages, is_it}
use Rattle.euler_operators.specs.Table as table
use Rattle.solid_measure_laws.proofs.Cuts.{cut_divides}
use Rattle.split_drawing_laws.proofs.crossings.OneCut.{cut_rows, edge_cut}
use Rattle.split_drawing_laws.proofs.crossings.Runs.{Going, cut_at, crossing_now, goes_now, going_on, kept_point, next_model, same_finish, same_start, uncut_now}
use Rattle.split_drawing_laws.proofs.crossings.Steps.{cut_keeps, point_new}
use Rattle.split_drawing_laws.proofs.crossings.Whole as cuts
use Rattle.split_laws.proofs.drawn.Drawn.{begins}
use Rattle.split_laws.proofs.volumes.Split as split
use Rattle.command_laws.proofs.Inner.{AgreeBut}
use Rattle.convex_laws.proofs.Levels.{divided_low}
use Rattle.command_laws.proofs.splits_laws.DrawnWithin.{drawings_within}
use Rattle.command_laws.proofs.splits_laws.PartedWithin.{holes_keep, holes_within, opened_within, part_keeps}
use Rattle.command_laws.proofs.splits_laws.Steps.{part_agrees}
use Rattle.command_laws.proofs.splits_laws.Whole as whole

-- ---- vertices of a solid

module _ (M : Model) (sound : Sound M) (s v : ℕ) where
  vertex_is : OnSolid M s v → IsVertexOf M s v
  unfolding corners
  vertex_is w = record {
    face = face_of M w.loop;
    there = sound.loops_of_faces w.loop w.there;
    solid = w.solid;
    corner = listed-from_in v (corners M (face_of M w.loop)) (on_some M (loops_of M (face_of M w.loop)) w.loop v (loop_in_face M w.loop w.there) w.on);
  }

  on_solid : IsVertexOf M s v → OnSolid M s v
  unfolding corners
  on_solid w =
      let l = on_one M (loops_of M w.face) v (IsIn-from_listed v (corners M w.face) w.corner) in
      let f = face_of_loop M sound w.face l.0 w.there (listed-from_in l.0 (loops_of M w.face) l.1) in
      record { loop = l.0; there = f.0; solid = ap (solid_of M) f.1 ∙ w.solid; on = l.2 }

pub half_on : (M : Model) → Sound M → (s h : ℕ) → HasHalf M h → solid_of M (face_at M h) ≡ s → OnSolid M s (tail M h)
half_on M sound s h there of = record { loop = loop_of M h; there = loop_there M sound h there; solid = of; on = half_is_on M sound h there }

-- a vertex that is there before, and of one of the solids that come, was of the solid
old_vertex : (G H : Model) (s : ℕ) (b : ℕ → Bool) → Agree G H (is_of s) b → (v u : ℕ) → Has G.vertices v → OnSolid H u v → b u ≡ true → OnSolid G s v
old_vertex G H s b w v u there of in_b =
    let same : solid_of_vertex G v ≡ s = is_it s (solid_of_vertex G v) (λ out. true≢false (sym in_b ∙ ap b (sym (owner_is H w.after u v of)) ∙ (vertex_kept G H (is_of s) b w v there out).1)) in
    subst (λ x. OnSolid G x v) same (has_owner G w.before v there)

-- ---- the vertices that cutting makes

some_gap : (a b : ℤ) → opposite a b ≡ true → unsigned_abs a + unsigned_abs b ≢ 0
some_gap a b o e = grind (arith, ints)

module _ (M : Model) (p : Plane) (sound : Sound M) (all : List ℕ) where
  -- vertex v of N was there, or it is where one of the edges meets the plane
  abbrev Known : Model → ℕ → Type 0
  Known N v = Has M.vertices v ⊎ ((e : ℕ) × IsIn e all × (point_of N v ≡ cut_at M p e))

  module _ (g : Growing) (ds : List ℕ) (e : ℕ) (es : List ℕ) (w : Going M p g ds (e ∷ es)) (within : IsIn e all) (known : (v : ℕ) → Has g.model.vertices v → Known g.model v) where
    abbrev E : Model
    E = edge_cut g.model e (g.taken.edge + 1) (g.taken.vertex + 1) (cut_at g.model p e)

    same_cut : cut_at g.model p e ≡ cut_at M p e
    same_cut =
        let c = crossing_now M p sound g ds e es w in let u = uncut_now M p sound g ds e es w in
        λ i. cut_between p (same_start M g.model p ds sound w.cut e c u i) (same_finish M g.model p ds sound w.cut e c u i)

    now_known : (v : ℕ) → Has E.vertices v → Known E v
    now_known v there =
        let goes = goes_now M p sound g ds e es w in
        let r = row_some (table.get E.vertices v) there in
        elim (get-put_cases g.model.vertices (g.taken.vertex + 1) (cut_at g.model p e) v r.0 (ap (λ N. table.get N.vertices v) (sym (cut_rows g.model e (g.taken.edge + 1) (g.taken.vertex + 1) (cut_at g.model p e) goes.can)) ∙ r.1)) [
          | inl q ↦ inr (e, within, ap (point_of E) q.0 ∙ point_new g.model e (g.taken.edge + 1) (g.taken.vertex + 1) (cut_at g.model p e) goes ∙ same_cut)
          | inr q ↦ let has : Has g.model.vertices v = ap is_some q.1 in elim (known v has) [
            | inl old ↦ inl old
            | inr c ↦ inr (c.0, c.1, kept_point g.model E (cut_keeps g.model e (g.taken.edge + 1) (g.taken.vertex + 1) (cut_at g.model p e) goes) v has ∙ c.2)
          ]
        ]

  cuts_known : (g : Growing) (ds es : List ℕ) → Going M p g ds es → ((e : ℕ) → IsIn e es → IsIn e all) → ((v : ℕ) → Has g.model.vertices v → Known g.model v) →
      (v : ℕ) → Has (all_cut p g es).model.vertices v → Known (all_cut p g es).model v
  cuts_known g ds [] w within known = known
  cuts_known g ds (e ∷ es) w within known =
      cuts_known (next_cut p g e) (e ∷ ds) es (going_on M p sound g ds e es w) (λ x i. within x (IsIn_rest x e es i))
      (subst (λ N. (v : ℕ) → Has N.vertices v → Known N v) (sym (next_model M p sound g ds e es w)) (now_known g ds e es w (within e (IsIn_head e es)) known))

-- ---- copies

module _ (M : Model) (q : Plane) where
  -- the copies lie where their vertices do
  low_copies : (t : Table Point) (xs ys : List ℕ) → ((x : ℕ) → IsIn x xs → is_above q (point_of M x) ≡ false) → (v : ℕ) (r : Point) → table.get (fold (λ t c. table.put t c.1 (point_of M c.0)) t (both_lists xs ys)) v ≡ Some r →
      (table.get t v ≡ Some r) ⊎ (is_above q r ≡ false)
  low_copies t [] ys low v r e = inl e
  low_copies t (x ∷ xs) [] low v r e = inl e
  low_copies t (x ∷ xs) (y ∷ ys) low v r e = elim (low_copies (table.put t y (point_of M x)) xs ys (λ z i. low z (IsIn_rest z x xs i)) v r e) [
    | inr is ↦ inr is
    | inl f ↦ elim (get-put_cases t y (point_of M x) v r f) [
      | inl z ↦ inr (ap (is_above q) z.1 ∙ low x (IsIn_head x xs))
      | inr z ↦ inl z.1
    ]
  ]

-- ---- the drawn solid

-- no vertex of solid s of G lies above q
abbrev IsUnder : ℕ → Plane → Model → Type 0
IsUnder s q G = (v : ℕ) → OnSolid G s v → is_above q (point_of G v) ≡ false

module _ (M : Model) (s : ℕ) (p : Plane) (t : ℕ) (sound : Sound M) (begun : CanBegin M s p t) (q : Plane) (below : LiesBelow M q s) where
  open stages M s p t use {cut as C, drawn as D}

  first_under : IsUnder s q M
  first_under v w = below v (vertex_is M sound s v w)

  cut_under : (e : ℕ) → IsIn e (crossing_edges M p s) → is_above q (cut_at M p e) ≡ false
  cut_under e i =
      let f = edge_facts M sound s p e i in
      let h = plus_there M e f.0 in
      let a = start M (plus e) in let b = finish M (plus e) in
      divided_low q (unsigned_abs (height p a)) (unsigned_abs (height p b)) a (cut_between p a b) b (some_gap (height p a) (height p b) f.2)
      (cut_divides p a b f.2 ((cuts.can_cut M s p t sound begun).whole e i))
      (first_under (tail M (plus e)) (half_on M sound s (plus e) h f.1))
      (first_under (tail M (mate (plus e))) (half_on M sound s (mate (plus e)) (mate_there M (plus e) h) (sym (sound.one_solid (plus e) h) ∙ f.1)))

  crossed_known : (v : ℕ) → Has C.vertices v → Known M p sound (crossing_edges M p s) C v
  unfolding with_crossings
  crossed_known = cuts_known M p sound (crossing_edges M p s) (growing M) [] (crossing_edges M p s) (cuts.begins M s p t sound begun) (λ e i. i) (λ v there. inl there)

  stays : Stays C D
  unfolding with_drawings
  stays = drawing_stays p (with_crossings M s p) (straddling_pairs M s p) (can_be_drawn M s p t sound begun)

  pub drawn_under : IsUnder s q (with_drawings M s p).model
  unfolding point_of
  drawn_under v w =
      let D_sound = rewritings_sound M s p t sound begun in
      let same = stays.vertices in
      let there : Has C.vertices v = subst (λ u. Has u v) same (vertex_there D D_sound w.loop v w.on) in
      elim (crossed_known v there) [
        | inl old ↦ ap (is_above q) (ap (λ o. unwrap_or o no_point) (ap (λ u. table.get u v) same ∙ (cuts.crossings_keep M s p t sound begun).points v old)) ∙ first_under v (old_vertex M D s (is_of s) (drawings_within M s p t sound begun) v s old w (eq-eqb s s refl))
        | inr c ↦ ap (is_above q) (ap (λ u. unwrap_or (table.get u v) no_point) same ∙ c.2) ∙ cut_under c.0 c.1
      ]

-- ---- a whole split

module _ (before after : Machine) (s : ℕ) (p : Plane) (t : ℕ) (sound : Sound (held before)) (made : IsSplit before after s p t) (q : Plane) (below : LiesBelow (held before) q s) where
  abbrev M : Model
  M = held before

  open stages M s p t use {drawing as d, above, opened as X, closed as K, upper as us, parted as N}

  begun : CanBegin M s p t
  begun = begins M s p t sound made.0

  -- one opening more
  module _ (x : Opening) (bs : List ℕ) (cs : List (List ℕ)) (w : CanBeOpenedInTurn above s x (bs ∷ cs)) (under : IsUnder s q x.model) where
    abbrev Y : Model
    Y = opened_along x.model above s x.taken bs

    abbrev tails : List ℕ
    tails = map (tail x.model) bs

    opened : AgreeBut s x.model Y
    opened = let can = can_open above s x bs cs w in
        opened_within x.model above s x.taken bs can (opened_sound x.model above s x.taken bs can) (λ f l. w.upper_of_solid f (listed_front above (map (λ k. k.upper) x.caps) f l))

    tail_under : (v : ℕ) → IsIn v tails → is_above q (point_of x.model v) ≡ false
    tail_under v i =
        let can = can_open above s x bs cs w in
        let r = from_map (tail x.model) v bs i in
        let b = can.cycle.halves r.0 r.1 in
        under v (subst (OnSolid x.model s) (sym r.2) (half_on x.model can.sound s r.0 b.there b.of_solid))

    next_under : IsUnder s q (opened_along x.model above s x.taken bs)
    next_under v of =
        let r = row_some (table.get Y.vertices v) (vertex_there Y opened.after of.loop v of.on) in
        let at : point_of Y v ≡ r.0 = point_row Y v r.0 r.1 in
        elim (low_copies x.model q x.model.vertices tails (numbers_after x.taken.vertex (length bs)) tail_under v r.0 (ap (λ u. table.get u v) (sym (vertices_are x.model above s x.taken bs)) ∙ r.1)) [
          | inl old ↦ ap (is_above q) (at ∙ sym (point_row x.model v r.0 old)) ∙ under v (old_vertex x.model Y s (is_of s) opened v s (ap is_some old) of (eq-eqb s s refl))
          | inr low ↦ ap (is_above q) at ∙ low
        ]

  opened_under : IsUnder s q X.model
  opened_under = openings_carry above s p (λ x ds. IsUnder s q x.model) next_under (record { model = d.model; taken = d.taken; caps = [] })
      (section_cycles d.model (below_halves d.model above s)) (whole.can before after s p t sound made).opens (drawn_under M s p t sound begun q below)

  -- no vertex comes or moves then
  parted : Agree X.model N (is_of s) (is_either s t)
  parted =
      let can = whole.can before after s p t sound made in
      let closed = whole.closed before after s p t sound made in
      agree_on X.model K N (is_of s) (is_of s) (is_either s t)
      (holes_within X.model s X.caps (split.ended d above s p t can).sound (split.caps d above s p t can).plain closed.leads.accepted)
      (part_agrees K s t us closed.part.sound (whole.after_sound before after s p t sound made) closed.part.of_solid (whole.fresh before after s p t sound made))

  still : N.vertices ≡ X.model.vertices
  still = (part_keeps K s t us).0 ∙ (holes_keep (outer_caps X.caps) X.model (filter (λ k. k.hole) X.caps)).0

  part_under : (u v : ℕ) → is_either s t u ≡ true → IsVertexOf N u v → is_above q (point_of N v) ≡ false
  unfolding point_of
  part_under u v in_part w =
      let N_sound = whole.after_sound before after s p t sound made in
      let on = on_solid N N_sound u v w in
      let there : Has X.model.vertices v = subst (λ x. Has x v) still (vertex_there N N_sound on.loop v on.on) in
      ap (is_above q) (ap (λ x. unwrap_or (table.get x v) no_point) still) ∙ opened_under v (old_vertex X.model N s (is_either s t) parted v u there on in_part)

  first_part : is_either s t s ≡ true
  first_part = grind (arith, nat_tests)

  second_part : is_either s t t ≡ true
  second_part = grind (arith, nat_tests)

  parts_under : LiesBelow (held after) q s × LiesBelow (held after) q t
  parts_under = subst (λ P. LiesBelow P q s × LiesBelow P q t) (sym (whole.after_is before after s p t sound made)) ((λ v w. part_under s v first_part w), (λ v w. part_under t v second_part w))

pub splits_stay_below : SplitsStayBelow
splits_stay_below before after s p t q sound made below = parts_under before after s p t sound made q below
