-- Edges cut at points between their ends: the areas of loops, the normals and planes of faces and the volumes of solids stay.
use Rattle.split_drawing_laws.proofs.Prelude.{◌≡◌, ◌≢◌, ℕ, true, not, nat_eq, ◌&&◌, List, [], ◌∷◌, unwrap_or, refl, sym, ap, ◌∙◌, ◌⊎◌, inl, inr, subst, arith, ◌+◌, None, flat_map, eqb_tells, Point, Plane, origin, moved, cross, is_on, are_opposite, cuts_lattice, IsIn, count, canonical, mate, edge_of, plus, minus, Model, LoopContent, lone, cycle, no_face, items_of, tail, content, outer, point_of, rings_of, loop_of, face_of, solid_of, faces_of, HasHalf, Has, Sound, face_at, first_refusal, lists, count-canonical, IsIn_head, plus_row, same_edge, edge_of-mate, mate_plus, mate_minus, IsIn_rest, IsIn_one, all_mapped, item_there, item_loop, mate_there, plus_there, minus_there, count-append, tick_other, IsIn_or_not, moved_none, content-new, IsIn-from_listed, start, finish, loops_of, items_in, boundary, vertices_on, vertices_in, corners, rewritten, area, normal, anchor, first_vertex, plane_of, is_plane_of, is_flat, six_volume, negated, next_cut, all_cut, with_crossings, Growing, growing, crossing_edges, first_conditions, area-append, moved_turned, area_same, cross_back, moved_back, are_on, none_such, split_begins, Kept, and_parts, not-false, cut_on_each, cut_keeps_area}
use Rattle.euler_operators.specs.Table as table
use Rattle.split_drawing_laws.proofs.crossings.OneCut.{doubled_none, doubled, edge_cut}
use Rattle.split_drawing_laws.proofs.crossings.Steps.{CutGoes, cut_sound, rewrites, cut_keeps, point_new, tail_old, tail_new, tail_other}
use Rattle.split_drawing_laws.proofs.crossings.Runs.{kept_point, cut_at, Crossing, same_start, same_finish, Going, crossing_now, uncut_now, goes_now, next_model, going_on}
use Rattle.split_drawing_laws.proofs.cut_volumes.Told.{same_rings, loop_on, loops_on, item_on, item_ends_on, Measured, measured_none, measured_on, solid_stays, same_plane, flat_still, all_volumes}
use Rattle.split_drawing_laws.proofs.crossings.Premises.{edge_facts, solid_facts, in_solid}
use Rattle.split_drawing_laws.proofs.crossings.Whole.{can_cut, begins, crossings_sound}

-- what an item of a loop becomes
pub doubled_cases : (e k h : ℕ) → ((h ≡ plus e) × (doubled e k h ≡ plus k ∷ plus e ∷ []))
    ⊎ (((h ≡ minus e) × (doubled e k h ≡ minus e ∷ minus k ∷ [])) ⊎ ((h ≢ plus e) × (h ≢ minus e) × (doubled e k h ≡ h ∷ [])))
doubled_cases e k h = grind arith

-- a half-edge that is neither half of e is of another edge
pub other_edge : (e h : ℕ) → h ≢ plus e → h ≢ minus e → edge_of h ≢ e
other_edge e h a b s = elim (same_edge h (plus e) (s ∙ sym (plus_row e).0)) [
  | inl t ↦ absurd (a t)
  | inr t ↦ absurd (b (t ∙ mate_plus e))
]

-- q keeps the part of an area from a to b, and lies on each plane on which both lie
pub record Between (a b q : Point) : Type 0 where
  pub areas : moved (cross a q) (cross q b) ≡ cross a b
  pub on_each : (r : Plane) → is_on r a ≡ true → is_on r b ≡ true → is_on r q ≡ true

-- so it does from the other end
between_back : (a b q : Point) → Between a b q → moved (cross b q) (cross q a) ≡ cross b a
between_back a b q w = (λ i. moved (cross_back q b i) (cross_back a q i)) ∙ moved_back (cross q b) (cross a q)
    ∙ ap negated (moved_turned (cross q b) (cross a q) ∙ w.areas) ∙ sym (cross_back a b)

-- ---- one edge cut at a point between its ends: corners stay on planes, and a face that the edge doesn't bound keeps its anchor

-- an item of lists that are joined stands in one of them
from_flat : (g : ℕ → List ℕ) (x : ℕ) (hs : List ℕ) → IsIn x (flat_map g hs) → (h : ℕ) × IsIn h hs × IsIn x (g h)
from_flat g x [] i = absurd (omega (arith, i))
from_flat g x (h ∷ hs) i = elim (IsIn_or_not x (g h)) [
  | inl j ↦ (h, IsIn_head h hs, j)
  | inr z ↦ let r = from_flat g x hs (omega (arith, i, z, count-append x (g h) (flat_map g hs))) in (r.0, omega (arith, r.1), r.2)
]

in_two : (x a b : ℕ) → IsIn x (a ∷ b ∷ []) → (x ≡ a) ⊎ (x ≡ b)
in_two x a b i = elim (eqb_tells x a) [ inl e ↦ inl e.1 | inr e ↦ inr (IsIn_one b x (omega (arith, i, tick_other x a e.1))) ]

module _ (M : Model) (e k v : ℕ) (q : Point) (goes : CutGoes M e k v q) where
  abbrev K : Model
  K = edge_cut M e k v q

  pub keeps : Kept M (edge_cut M e k v q)
  keeps = cut_keeps M e k v q goes

  -- ---- where half-edges start then

  at_old : (h g : ℕ) → HasHalf M g → tail K h ≡ tail M g → start K h ≡ start M g
  at_old h g there is = ap (point_of K) is ∙ kept_point M K keeps (tail M g) (goes.can.sound.tails_there g there)

  pub plus_start : start (edge_cut M e k v q) (plus e) ≡ q
  plus_start = ap (point_of K) (tail_old M e k v q goes).0 ∙ point_new M e k v q goes

  pub minus_start : start (edge_cut M e k v q) (minus e) ≡ start M (minus e)
  minus_start = at_old (minus e) (minus e) (minus_there M e goes.can.there) (tail_old M e k v q goes).1

  pub new_plus : start (edge_cut M e k v q) (plus k) ≡ start M (plus e)
  new_plus = at_old (plus k) (plus e) (plus_there M e goes.can.there) (tail_new M e k v q goes).0

  pub new_minus : start (edge_cut M e k v q) (minus k) ≡ q
  new_minus = ap (point_of K) (tail_new M e k v q goes).1 ∙ point_new M e k v q goes

  pub other_start : (h : ℕ) → HasHalf M h → edge_of h ≢ e → start (edge_cut M e k v q) h ≡ start M h
  other_start h there ne = at_old h h there (tail_other M e k v q goes h there ne)

  other_finish : (h : ℕ) → HasHalf M h → edge_of h ≢ e → finish K h ≡ finish M h
  other_finish h there ne = other_start (mate h) (mate_there M h there) (λ s. ne (sym (edge_of-mate h) ∙ s))

  -- ---- loops

  pub content_cut : (l : ℕ) → content (edge_cut M e k v q) l ≡ rewritten (flat_map (doubled e k)) (content M l)
  content_cut l = content-new M K (rewritten (flat_map (doubled e k))) (rewrites M e k v q goes) l

  pub outer_stays : (f : ℕ) → outer (edge_cut M e k v q) f ≡ outer M f
  unfolding outer
  outer_stays f = ap (λ t. (unwrap_or (table.get t f) no_face).outer) keeps.faces

  rings_stay : (f : ℕ) → rings_of K f ≡ rings_of M f
  rings_stay f = same_rings M K goes.can.sound (cut_sound M e k v q goes) f (λ l i. keeps.loops l i && nat_eq (keeps.face l i) f && not (nat_eq (outer_stays f i) l))

  pub loops_stay : (f : ℕ) → loops_of (edge_cut M e k v q) f ≡ loops_of M f
  unfolding loops_of
  loops_stay f = λ i. outer_stays f i ∷ rings_stay f i

  -- ---- areas

  module _ (w : Between (start M (plus e)) (finish M (plus e)) q) where
    abbrev a : Point
    a = start M (plus e)

    abbrev b : Point
    b = finish M (plus e)

    abbrev part : ℕ → Point
    part h = cross (start M h) (finish M h)

    far : start K (minus e) ≡ b
    far = minus_start ∙ sym (ap (start M) (mate_plus e))

    plus_area : area K (plus k ∷ plus e ∷ []) ≡ part (plus e)
    plus_area =
        let k_ends : finish K (plus k) ≡ q = ap (start K) (mate_plus k) ∙ new_minus in
        let e_ends : finish K (plus e) ≡ b = ap (start K) (mate_plus e) ∙ far in
        (λ i. moved (cross (new_plus i) (k_ends i)) (moved (cross (plus_start i) (e_ends i)) origin)) ∙ ap (moved (cross a q)) (moved_none (cross q b)) ∙ w.areas

    minus_area : area K (minus e ∷ minus k ∷ []) ≡ part (minus e)
    minus_area =
        let e_ends : finish K (minus e) ≡ q = ap (start K) (mate_minus e) ∙ plus_start in
        let k_ends : finish K (minus k) ≡ a = ap (start K) (mate_minus k) ∙ new_plus in
        let starts : start M (minus e) ≡ b = sym (ap (start M) (mate_plus e)) in
        let ends : finish M (minus e) ≡ a = ap (start M) (mate_minus e) in
        (λ i. moved (cross (far i) (e_ends i)) (moved (cross (new_minus i) (k_ends i)) origin)) ∙ ap (moved (cross b q)) (moved_none (cross q a))
        ∙ between_back a b q w ∙ sym (λ i. cross (starts i) (ends i))

    doubled_area : (h : ℕ) → HasHalf M h → area K (doubled e k h) ≡ part h
    doubled_area h there = elim (doubled_cases e k h) [
      | inl c ↦ ap (area K) c.1 ∙ plus_area ∙ ap part (sym c.0)
      | inr c ↦ elim c [
        | inl d ↦ ap (area K) d.1 ∙ minus_area ∙ ap part (sym d.0)
        | inr d ↦ ap (area K) d.2 ∙ moved_none (cross (start K h) (finish K h)) ∙ (λ i. cross (other_start h there (other_edge e h d.0 d.1) i) (other_finish h there (other_edge e h d.0 d.1) i))
      ]
    ]

    list_area : (hs : List ℕ) → ((h : ℕ) → IsIn h hs → HasHalf M h) → area K (flat_map (doubled e k) hs) ≡ area M hs
    list_area [] there = refl
    list_area (h ∷ hs) there = area-append K (doubled e k h) (flat_map (doubled e k) hs) ∙ (λ i. moved (doubled_area h (there h (IsIn_head h hs)) i) (list_area hs (λ x j. there x (IsIn_rest x h hs j)) i))

    content_area : (c : LoopContent) → ((h : ℕ) → IsIn h (items_of c) → HasHalf M h) → area K (items_of (rewritten (flat_map (doubled e k)) c)) ≡ area M (items_of c)
    content_area (lone n) there = refl
    content_area (cycle hs) there = area_same K (canonical (flat_map (doubled e k) hs)) (flat_map (doubled e k) hs) (λ x. count-canonical x (flat_map (doubled e k) hs)) ∙ list_area hs there

    loop_area : (l : ℕ) → area K (items_of (content K l)) ≡ area M (items_of (content M l))
    loop_area l = ap (λ c. area K (items_of c)) (content_cut l) ∙ content_area (content M l) (λ h i. item_there M goes.can.sound l h i)

    loops_area : (ls : List ℕ) → area K (items_in K ls) ≡ area M (items_in M ls)
    loops_area [] = refl
    loops_area (l ∷ ls) = area-append K (items_of (content K l)) (items_in K ls) ∙ (λ i. moved (loop_area l i) (loops_area ls i)) ∙ sym (area-append M (items_of (content M l)) (items_in M ls))

    pub normal_stays : (f : ℕ) → normal (edge_cut M e k v q) f ≡ normal M f
    unfolding normal boundary
    normal_stays f = ap (λ ls. area K (items_in K ls)) (loops_stay f) ∙ loops_area (loops_of M f)

  -- ---- corners on a plane

  module _ (w : Between (start M (plus e)) (finish M (plus e)) q) (r : Plane) where
    at_plus : (x : ℕ) → is_on r (start M (plus e)) ≡ true → is_on r (finish M (plus e)) ≡ true → (x ≡ plus k) ⊎ (x ≡ plus e) → is_on r (start K x) ≡ true
    at_plus x on_start on_finish c = elim c [
      | inl is ↦ ap (is_on r) (ap (start K) is ∙ new_plus) ∙ on_start
      | inr is ↦ ap (is_on r) (ap (start K) is ∙ plus_start) ∙ w.on_each r on_start on_finish
    ]

    at_minus : (x : ℕ) → is_on r (start M (minus e)) ≡ true → is_on r (finish M (minus e)) ≡ true → (x ≡ minus e) ⊎ (x ≡ minus k) → is_on r (start K x) ≡ true
    at_minus x on_start on_finish c = elim c [
      | inl is ↦ ap (is_on r) (ap (start K) is ∙ minus_start) ∙ on_start
      | inr is ↦ ap (is_on r) (ap (start K) is ∙ new_minus)
          ∙ w.on_each r (ap (λ h. is_on r (start M h)) (sym (mate_minus e)) ∙ on_finish) (ap (λ h. is_on r (start M h)) (mate_plus e) ∙ on_start)
    ]

    doubled_on : (h x : ℕ) → HasHalf M h → is_on r (start M h) ≡ true → is_on r (finish M h) ≡ true → IsIn x (doubled e k h) → is_on r (start K x) ≡ true
    doubled_on h x there on_start on_finish i = elim (doubled_cases e k h) [
      | inl c ↦ at_plus x (ap (λ y. is_on r (start M y)) (sym c.0) ∙ on_start) (ap (λ y. is_on r (finish M y)) (sym c.0) ∙ on_finish) (in_two x (plus k) (plus e) (subst (IsIn x) c.1 i))
      | inr c ↦ elim c [
        | inl d ↦ at_minus x (ap (λ y. is_on r (start M y)) (sym d.0) ∙ on_start) (ap (λ y. is_on r (finish M y)) (sym d.0) ∙ on_finish) (in_two x (minus e) (minus k) (subst (IsIn x) d.1 i))
        | inr d ↦ ap (is_on r) (ap (start K) (IsIn_one h x (subst (IsIn x) d.2 i)) ∙ other_start h there (other_edge e h d.0 d.1)) ∙ on_start
      ]
    ]

    content_on : (l : ℕ) (c : LoopContent) → content M l ≡ c → are_on M r (vertices_on M (content M l)) ≡ true → are_on K r (vertices_on K (rewritten (flat_map (doubled e k)) c)) ≡ true
    content_on l (lone n) is on = ap (λ z. is_on r z && true) (kept_point M K keeps n (goes.can.sound.lone_at_vertex l n is)) ∙ sym (ap (λ c. are_on M r (vertices_on M c)) is) ∙ on
    content_on l (cycle hs) is on = grind (arith, all_mapped, from_flat, count-canonical, doubled_on, item_there, item_on, item_ends_on)

    -- the corners of a face stay on the plane
    pub plane_stays : (f : ℕ) → are_on M r (corners M f) ≡ true → are_on (edge_cut M e k v q) r (corners (edge_cut M e k v q) f) ≡ true
    unfolding corners
    plane_stays f on = ap (λ ls. are_on K r (vertices_in K ls)) (loops_stay f)
        ∙ loops_on K r (loops_of M f) (λ l i. ap (λ c. are_on K r (vertices_on K c)) (content_cut l) ∙ content_on l (content M l) refl (loop_on M r (loops_of M f) l on i))

  -- ---- anchors

  module _ (f : ℕ) (there : Has M.faces f) (plus_else : loop_of M (plus e) ≢ outer M f) (minus_else : loop_of M (minus e) ≢ outer M f) where
    abbrev l : ℕ
    l = outer M f

    not_in : (h : ℕ) → loop_of M h ≢ l → count h (items_of (content M l)) ≡ 0
    not_in h ne = elim (IsIn_or_not h (items_of (content M l))) [ inl i ↦ absurd (ne (item_loop M goes.can.sound l h i)) | inr z ↦ z ]

    first_start : (h : ℕ) → IsIn h (items_of (content M l)) → start K h ≡ start M h
    first_start h i = let at = item_loop M goes.can.sound l h i in
        other_start h (item_there M goes.can.sound l h i) (other_edge e h (λ s. plus_else (ap (loop_of M) (sym s) ∙ at)) (λ s. minus_else (ap (loop_of M) (sym s) ∙ at)))

    same_list : (hs : List ℕ) → content M l ≡ cycle hs → rewritten (flat_map (doubled e k)) (cycle hs) ≡ cycle hs
    same_list hs is =
        let a : count (plus e) hs ≡ 0 = ap (λ c. count (plus e) (items_of c)) (sym is) ∙ not_in (plus e) plus_else in
        let b : count (minus e) hs ≡ 0 = ap (λ c. count (minus e) (items_of c)) (sym is) ∙ not_in (minus e) minus_else in
        ap (λ t. cycle (canonical t)) (doubled_none e k hs a b) ∙ ap cycle ((goes.can.sound.cycles l hs (goes.can.sound.outers_there f there).0 is).from_least)

    first_stays : (c : LoopContent) → content M l ≡ c → point_of K (first_vertex K (rewritten (flat_map (doubled e k)) c)) ≡ point_of M (first_vertex M c)
    first_stays (lone n) is = kept_point M K keeps n (goes.can.sound.lone_at_vertex l n is)
    first_stays (cycle []) is = absurd ((goes.can.sound.cycles l [] (goes.can.sound.outers_there f there).0 is).some_item refl)
    first_stays (cycle (h ∷ hs)) is = ap (λ c. point_of K (first_vertex K c)) (same_list (h ∷ hs) is) ∙ first_start h (subst (λ c. IsIn h (items_of c)) (sym is) (IsIn_head h hs))

    pub anchor_stays : anchor (edge_cut M e k v q) f ≡ anchor M f
    anchor_stays = ap (λ n. point_of K (first_vertex K (content K n))) (outer_stays f) ∙ ap (λ c. point_of K (first_vertex K c)) (content_cut l) ∙ first_stays (content M l) refl

-- ---- edges cut one after the other: what the faces measure stays

-- ---- one edge of solid s cut

module _ (M : Model) (e k v : ℕ) (q : Point) (s : ℕ) (goes : CutGoes M e k v q) (w : Between (start M (plus e)) (finish M (plus e)) q) (of_s : solid_of M (face_at M (plus e)) ≡ s) where
  minus_of : solid_of M (face_at M (minus e)) ≡ s
  minus_of = ap (λ h. solid_of M (face_at M h)) (sym (mate_plus e)) ∙ sym (goes.can.sound.one_solid (plus e) (plus_there M e goes.can.there)) ∙ of_s

  not_outer : (h f : ℕ) → Has M.faces f → solid_of M f ≢ s → solid_of M (face_at M h) ≡ s → loop_of M h ≢ outer M f
  not_outer h f there ne of e = ne (ap (solid_of M) (sym (ap (face_of M) e ∙ (goes.can.sound.outers_there f there).1)) ∙ of)

  pub cut_measured : Measured M (edge_cut M e k v q) s
  cut_measured = grind (arith, keeps, normal_stays, plane_stays, anchor_stays, not_outer, minus_of)

-- ---- some edges

-- each of the edges can be cut on the lattice and is of solid s
pub record OfSolid (M : Model) (p : Plane) (s : ℕ) (rs : List ℕ) : Type 0 where
  pub whole : (e : ℕ) → IsIn e rs → cuts_lattice p (start M (plus e)) (finish M (plus e)) ≡ true
  pub of_s : (e : ℕ) → IsIn e rs → solid_of M (face_at M (plus e)) ≡ s

module _ (M : Model) (p : Plane) (s : ℕ) (sound : Sound M) (g : Growing) (ds : List ℕ) (e : ℕ) (rs : List ℕ) (w : Going M p g ds (e ∷ rs)) (o : OfSolid M p s (e ∷ rs)) where
  abbrev N : Model
  N = g.model

  crossing : Crossing M p e
  crossing = crossing_now M p sound g ds e rs w

  start_now : start N (plus e) ≡ start M (plus e)
  start_now = same_start M N p ds sound w.cut e crossing (uncut_now M p sound g ds e rs w)

  end_now : finish N (plus e) ≡ finish M (plus e)
  end_now = same_finish M N p ds sound w.cut e crossing (uncut_now M p sound g ds e rs w)

  opposite_now : are_opposite p (start N (plus e)) (finish N (plus e)) ≡ true
  opposite_now = (λ i. are_opposite p (start_now i) (end_now i)) ∙ crossing.crossing

  whole_now : cuts_lattice p (start N (plus e)) (finish N (plus e)) ≡ true
  whole_now = (λ i. cuts_lattice p (start_now i) (end_now i)) ∙ o.whole e (IsIn_head e rs)

  between : Between (start N (plus e)) (finish N (plus e)) (cut_at N p e)
  between = grind (arith, cut_keeps_area, opposite_now, whole_now, cut_on_each)

  of_s_now : solid_of N (face_at N (plus e)) ≡ s
  of_s_now = solid_stays M N w.cut.kept.faces (face_at N (plus e)) ∙ ap (solid_of M) (ap (face_of N) (w.cut.kept.loop (plus e) (plus_there M e crossing.there)) ∙ w.cut.kept.face (loop_of M (plus e))) ∙ o.of_s e (IsIn_head e rs)

  pub next_measured : Measured g.model (next_cut p g e).model s
  next_measured = subst (λ X. Measured g.model X s) (sym (next_model M p sound g ds e rs w))
      (cut_measured N e (g.taken.edge + 1) (g.taken.vertex + 1) (cut_at N p e) s (goes_now M p sound g ds e rs w) between of_s_now)

  pub of_solid_on : OfSolid M p s rs
  of_solid_on = record { whole = λ x i. o.whole x (omega (arith, i)); of_s = λ x i. o.of_s x (omega (arith, i)) }

pub all_measured : (M : Model) (p : Plane) (s : ℕ) → Sound M → (g : Growing) (ds rs : List ℕ) → Going M p g ds rs → OfSolid M p s rs → Measured g.model (all_cut p g rs).model s
all_measured M p s sound g ds [] w o = measured_none g.model s
all_measured M p s sound g ds (e ∷ rs) w o = measured_on g.model (next_cut p g e).model (all_cut p (next_cut p g e) rs).model s
    (next_measured M p s sound g ds e rs w o)
    (all_measured M p s sound (next_cut p g e) (e ∷ ds) rs (going_on M p sound g ds e rs w) (of_solid_on M p s sound g ds e rs w o))

-- ---- all edges of a solid that cross a plane cut: from the first conditions of a split to normals, planes and volumes

module _ (M : Model) (s : ℕ) (p : Plane) (t : ℕ) (sound : Sound M) (accepted : first_refusal (first_conditions M s p t) ≡ None) where
  -- ---- the faces of the solid are flat

  listed_flat : (f : ℕ) → IsIn f (faces_of M s) → is_flat M f ≡ true
  listed_flat f i = not-false (is_flat M f) (none_such (λ g. not (is_flat M g)) (faces_of M s) (split_begins M s p t accepted).none_bent f i)

  pub all_flat : (f : ℕ) → Has M.faces f → solid_of M f ≡ s → is_flat M f ≡ true
  all_flat f there of_s = listed_flat f (in_solid M f s there of_s)

  -- ---- all edges cut

  of_solid : OfSolid M p s (crossing_edges M p s)
  of_solid = record { whole = (can_cut M s p t sound accepted).whole; of_s = λ e i. (edge_facts M sound s p e i).1 }

  pub crossings_measured : Measured M (with_crossings M s p).model s
  unfolding with_crossings
  crossings_measured = all_measured M p s sound (growing M) [] (crossing_edges M p s) (begins M s p t sound accepted) of_solid

  pub crossings_normals : (f : ℕ) → normal (with_crossings M s p).model f ≡ normal M f
  crossings_normals = crossings_measured.normals

  pub crossings_planes : (f : ℕ) (r : Plane) → is_plane_of M r (corners M f) ≡ true → is_plane_of (with_crossings M s p).model r (corners (with_crossings M s p).model f) ≡ true
  crossings_planes f r on = grind (arith, and_parts, are_on, crossings_measured)

  pub crossings_flat : (f : ℕ) → lists (faces_of M s) f ≡ true → (is_flat (with_crossings M s p).model f ≡ true) × (plane_of (with_crossings M s p).model f ≡ plane_of M f)
  crossings_flat f l =
      let i : IsIn f (faces_of M s) = IsIn-from_listed f (faces_of M s) l in
      let there : Has M.faces f = (solid_facts M s f i).0 in (
        flat_still M (with_crossings M s p).model s (crossings_sound M s p t sound accepted) crossings_measured f there (listed_flat f i),
        same_plane M (with_crossings M s p).model s (crossings_sound M s p t sound accepted) crossings_measured f there (listed_flat f i),
      )

  pub crossings_volumes : (u : ℕ) → six_volume (with_crossings M s p).model u ≡ six_volume M u
  crossings_volumes = all_volumes M (with_crossings M s p).model s (crossings_sound M s p t sound accepted) crossings_measured all_flat (solid_facts M)
