-- The faces of a solid that was split: those that the plane doesn't straddle are of the part on their side.
use Rattle.command_laws.proofs.Prelude.{list_any, ◌≡◌, ◌≢◌, ℕ, ◌+◌, ◌≤◌, Bool, true, false, cond, not, ◌&&◌, ◌||◌, List, [], ◌∷◌, length, nat_eq, None, Some, is_some, pos, int_lt, refl, sym, ap, subst, ◌∙◌, arith, true≢false, filter, map, option_map, false_from_ne_true, flat_map-append, Plane, Point, direction, dot, is_above, is_below, count, IsIn, mate, plus, Model, FaceRow, LoopContent, content, cycle, face_of, faces_of, items_of, lone, outer, point_of, rings_of, solid_of, tail, Sound, Has, face_at, lists, kfmrh, part, count-append, tick_other, tick_same, from_map, IsIn-filter, IsIn_rest, filter_passes, IsIn_head, item_loop, number_real, outer_row, solid_row, in_use_within, IsIn-from_listed, listed-from_in, face_there, solid_either, same_tail, corners, loops_of, start, vertices_on, Taken, numbers_after, normal, face_is_above, faces_above, straddles, with_drawings, below_halves, section_cycles, Caps, Opening, holes_closed, opened_along, outer_caps, opened_at, split_refusal, IsReplaced, content_stays, face_of_loop, loops_agree, in_solid, cap_faces, upper_faces, CanBeOpenedInTurn, CanBeOpened, renamed_not, can_open, new_caps, opened_next, openings_carry, CanBeSplit, holes_counted, drawn_sound, can_be_split, is_rewritten, swap, closing, closing_leads, CanTake, StandsAsBefore, loop_points, AreTurned, stages, none_in}
use Rattle.euler_operators.specs.Table as table
use Rattle.euler_laws.proofs.Common.{same_point}
use Rattle.split_laws.proofs.opened.Kept as kept
use Rattle.split_laws.proofs.volumes.Split as split
use Rattle.split_laws.proofs.volumes.Taken as taken
use Rattle.command_laws.proofs.Turned.{IsTurned, not_turned, rewritten_turned, turned_on}
use Rattle.command_laws.proofs.splits_laws.PartedWithin.{kill_keeps, part_keeps}
use Rattle.command_laws.proofs.splits_laws.Uncut.{uncut_stands, uncut_turned}

-- ---- where its half-edges start where they did, a loop has the points that it had

points_along : (M N : Model) (hs : List ℕ) → ((h : ℕ) → IsIn h hs → start N h ≡ start M h) → map (point_of N) (map (tail N) hs) ≡ map (point_of M) (map (tail M) hs)
points_along M N [] same = refl
points_along M N (h ∷ hs) same = λ i. same h (IsIn_head h hs) i ∷ points_along M N hs (λ y j. same y (IsIn_rest y h hs j)) i

points_on : (M N : Model) (c : LoopContent) → ((h : ℕ) → IsIn h (items_of c) → start N h ≡ start M h) → ((v : ℕ) → c ≡ lone v → point_of N v ≡ point_of M v) → map (point_of N) (vertices_on N c) ≡ map (point_of M) (vertices_on M c)
points_on M N (lone v) starts points = λ i. points v refl i ∷ []
points_on M N (cycle hs) starts points = points_along M N hs starts

same_points : (M N : Model) (l : ℕ) → N.vertices ≡ M.vertices → N.edges ≡ M.edges → content N l ≡ content M l → loop_points N l ≡ loop_points M l
same_points M N l vertices edges same = grind (arith, same_point, points_on, same_tail)

-- ---- the solid opened along its section

module _ (M N : Model) (swap : ℕ → ℕ) (w : kept.Renumbered M N swap) (k : ℕ) (there : Has M.faces k) where
  opened_turned : IsTurned M N k
  unfolding loops_of
  opened_turned = record {
    there = ap is_some (w.faces k there) ∙ there;
    loops = loops_agree (kept.agree M N swap w k there);
    points = λ l i. let r = kept.replaced M N swap w l (face_of_loop M w.sound k l there (listed-from_in l (loops_of M k) i)).0 in
        subst (λ c. AreTurned (loop_points M l) (map (point_of N) (vertices_on N c))) (sym r.content_is) (rewritten_turned M N swap (content M l) (λ y j. (r.halves y j).0) r.lones);
    normal = kept.normal_is M N swap w k there;
  }

-- a loop in which nothing is replaced has the points that it had
exact_points : (M N : Model) (swap : ℕ → ℕ) (l : ℕ) → IsReplaced M N swap l → ((y : ℕ) → IsIn y (items_of (content M l)) → swap y ≡ y) → loop_points N l ≡ loop_points M l
exact_points M N swap l r same = ap (λ c. map (point_of N) (vertices_on N c)) (content_stays r same)
    ∙ points_on M N (content M l) (λ y i. ap (start N) (sym (same y i)) ∙ (r.halves y i).0) r.lones

-- each loop of face k has the corner points that it had, in their order
abbrev IsExact : Model → Model → ℕ → Type 0
IsExact D N k = (l : ℕ) → IsIn l (loops_of D k) → loop_points N l ≡ loop_points D l

-- face k of D is in o's model, still of solid s, and no cap; its loops are as they were where it isn't above
record IsLeft (D : Model) (above : List ℕ) (s k : ℕ) (o : Opening) : Type 0 where
  turned : IsTurned D o.model k
  exact : lists above k ≡ false → IsExact D o.model k
  of_solid : solid_of o.model k ≡ s
  no_cap : count k (cap_faces o.caps) ≡ 0

-- the half-edges that are replaced are of faces above
module _ (M : Model) (above : List ℕ) (s : ℕ) (c : Taken) (bs : List ℕ) (w : CanBeOpened M above s c bs) (k : ℕ) (there : Has M.faces k) (low : lists above k ≡ false) (l : ℕ) (i : IsIn l (loops_of M k)) where
  own : Has M.loops l × (face_of M l ≡ k)
  own = face_of_loop M w.sound k l there (listed-from_in l (loops_of M k) i)

  no_mate : (y : ℕ) → IsIn y (items_of (content M l)) → count y (map mate bs) ≡ 0
  no_mate y j = none_in y (map mate bs) (λ m.
      let r = from_map mate y bs m in
      let at : face_at M y ≡ k = ap (face_of M) (item_loop M w.sound l y j) ∙ own.1 in
      true≢false (sym (w.cycle.halves r.0 r.1).mate_above ∙ ap (λ h. lists above (face_at M h)) (sym r.2) ∙ ap (lists above) at ∙ low))

  opened_exact : loop_points (opened_along M above s c bs) l ≡ loop_points M l
  opened_exact = exact_points M (opened_along M above s c bs) (swap M above s c bs w) l (kept.replaced M (opened_along M above s c bs) (swap M above s c bs w) (is_rewritten M above s c bs w) l own.0)
      (λ y j. renamed_not (map mate bs) (map plus (numbers_after c.edge (length bs))) y (no_mate y j))

opened_left : (D : Model) (above : List ℕ) (s k : ℕ) (p : Plane) (o : Opening) (bs : List ℕ) (cs : List (List ℕ)) → CanBeOpenedInTurn above s o (bs ∷ cs) → IsLeft D above s k o →
    IsLeft D above s k (opened_next p above s o bs)
opened_left D above s k p o bs cs w a =
    let can = can_open above s o bs cs w in
    let N = opened_along o.model above s o.taken bs in
    let r = is_rewritten o.model above s o.taken bs can in
    let low : k ≤ o.taken.face = in_use_within o.model.faces o.taken.face w.free.faces k a.turned.there in
    record {
      turned = turned_on D o.model N k a.turned (opened_turned o.model N (swap o.model above s o.taken bs can) r k a.turned.there);
      exact = λ off l i. opened_exact o.model above s o.taken bs can k a.turned.there off l (subst (IsIn l) (sym a.turned.loops) i) ∙ a.exact off l i;
      of_solid = kept.solid_is o.model N (swap o.model above s o.taken bs can) r k a.turned.there ∙ a.of_solid;
      no_cap = omega (
        arith,
        a.no_cap,
        ap (count k) (flat_map-append (λ (c : Caps). c.lower ∷ c.upper ∷ []) o.caps (new_caps p o bs ∷ [])),
        count-append k (cap_faces o.caps) ((o.taken.face + 1) ∷ (o.taken.face + length bs + 1) ∷ []),
        tick_other k (o.taken.face + 1) (λ e. absurd (omega (arith, low, e))),
        tick_other k (o.taken.face + length bs + 1) (λ e. absurd (omega (arith, low, e))),
      );
    }

-- ---- its holes closed

module _ (A : Model) (p : Plane) (f g : ℕ) (w : CanTake A p f g) (k : ℕ) (there : Has A.faces k) (not_f : k ≢ f) (not_g : k ≢ g) where
  closed_turned : IsTurned A (kfmrh A f g) k
  unfolding loops_of
  closed_turned = record {
    there = taken.there_still A p f g w k not_g there;
    loops = λ i. taken.outer_same A p f g w k not_g i ∷ taken.rings_same A p f g w k not_f not_g i;
    points = λ l i. let keeps = kill_keeps A f g in not_turned _ _ (same_points A (kfmrh A f g) l keeps.0 keeps.1 (taken.content_same A p f g w l));
    normal = taken.normal_same A p f g w k not_f not_g;
  }

-- k is none of some pairs
abbrev IsOther : ℕ → List (ℕ × ℕ) → Type 0
IsOther k [] = Unit {0}
IsOther k (q ∷ qs) = (k ≢ q.0) × (k ≢ q.1) × IsOther k qs

not_in : (k x : ℕ) (xs : List ℕ) → count k (x ∷ xs) ≡ 0 → k ≢ x
not_in k x xs z e = absurd (omega (arith, z, ap (λ y. count k (y ∷ xs)) (sym e), tick_same k))

outer_other : (k : ℕ) (ks : List Caps) → k ≢ 0 → count k (cap_faces ks) ≡ 0 → (k ≢ (outer_caps ks).lower) × (k ≢ (outer_caps ks).upper)
outer_other k [] ne z = (ne, ne)
outer_other k (c ∷ cs) ne z = grind (arith, not_in, outer_other k cs ne (omega (arith, z)))

closing_other : (k : ℕ) (o : Caps) (hs : List Caps) → k ≢ o.lower → k ≢ o.upper → count k (cap_faces hs) ≡ 0 → IsOther k (closing o hs)
closing_other k o [] low up z = tt
closing_other k o (h ∷ hs) low up z = (low, not_in k h.lower (h.upper ∷ cap_faces hs) z, (up, not_in k h.upper (cap_faces hs) (omega (arith, z)), closing_other k o hs low up (omega (arith, z))))

-- ---- the upper faces parted

outer_either : (b : Bool) (row : FaceRow) (t : ℕ) → (cond b (record row { solid = t }) row).outer ≡ row.outer
outer_either b row t = grind arith

module _ (K : Model) (s t : ℕ) (us : List ℕ) (k : ℕ) (there : Has K.faces k) where
  abbrev P : Model
  P = part K s t us

  row : table.get P.faces k ≡ Some (cond (lists us k) (record { solid = t; outer = outer K k }) (record { solid = solid_of K k; outer = outer K k }))
  row = split.row_is K s t us k ∙ ap (option_map (split.to_new K s t us k)) (face_there K k there)

  parted_solid : solid_of P k ≡ cond (lists us k) t (solid_of K k)
  parted_solid = solid_row P k _ row ∙ solid_either (lists us k) (record { solid = solid_of K k; outer = outer K k }) t

  outer_kept : outer P k ≡ outer K k
  outer_kept = outer_row P k _ row ∙ outer_either (lists us k) (record { solid = solid_of K k; outer = outer K k }) t

  rings_kept : rings_of P k ≡ rings_of K k
  unfolding part
  rings_kept = ap (λ o. table.all_where (λ l row. nat_eq row.face k && not (nat_eq o l)) K.loops) outer_kept

  parted_turned : IsTurned K P k
  unfolding loops_of
  parted_turned = record {
    there = ap is_some row;
    loops = λ i. outer_kept i ∷ rings_kept i;
    points = λ l i. let keeps = part_keeps K s t us in not_turned _ _ (same_points K P l keeps.0 keeps.1 (split.content_same K s t us l));
    normal = split.normal_same K s t us k;
  }

pub uppers_counted : (k : ℕ) (ks : List Caps) → count k (map (λ c. c.upper) ks) ≤ count k (cap_faces ks)
uppers_counted k [] = omega arith
uppers_counted k (c ∷ cs) = omega (arith, uppers_counted k cs)

-- ---- the side of a face

any_point : (test : Point → Bool) (point : ℕ → Point) (vs : List ℕ) → list_any (λ v. test (point v)) vs ≡ list_any test (map point vs)
any_point test point [] = refl
any_point test point (v ∷ vs) = ap (λ b. test (point v) || b) (any_point test point vs)

module _ (M D : Model) (p : Plane) (k : ℕ) (w : StandsAsBefore M D k) (same : normal D k ≡ normal M k) where
  any_same : (test : Point → Bool) → list_any (λ v. test (point_of D v)) (corners D k) ≡ list_any (λ v. test (point_of M v)) (corners M k)
  any_same test = any_point test (point_of D) (corners D k) ∙ ap (list_any test) w.points ∙ sym (any_point test (point_of M) (corners M k))

  same_side : face_is_above D p k ≡ face_is_above M p k
  unfolding face_is_above
  same_side = λ i. any_same (is_above p) i || (not (any_same (is_below p) i) && not (int_lt (pos 0) (dot (same i) (direction p))))

-- ---- a split that isn't refused: what becomes of a face of the drawn model

module _ (M : Model) (s : ℕ) (p : Plane) (t : ℕ) (sound : Sound M) (accepted : split_refusal M s p t ≡ None) (k : ℕ) (there : Has (with_drawings M s p).model.faces k) (of : solid_of (with_drawings M s p).model k ≡ s) where
  open stages M s p t use {drawing as d, above, opened as X, closed as K, upper as us, parted}

  can : CanBeSplit d above s p t
  can = can_be_split M s p t sound accepted

  opened : IsLeft d.model above s k X
  opened = openings_carry above s p (λ x ds. IsLeft d.model above s k x) (λ x bs ds w a. opened_left d.model above s k p x bs ds w a) (record { model = d.model; taken = d.taken; caps = [] })
      (section_cycles d.model (below_halves d.model above s)) can.opens (record { turned = record { there = there; loops = refl; points = λ l i. not_turned _ _ refl; normal = refl }; exact = λ off l i. refl; of_solid = of; no_cap = refl })

  real : k ≢ 0
  real = number_real k ((drawn_sound M s p t sound accepted).faces_fit k there)

  abbrev Stays : List (ℕ × ℕ) → Model → Type 0
  Stays qs A = IsOther k qs × IsTurned d.model A k × (solid_of A k ≡ s) × (lists above k ≡ false → IsExact d.model A k)

  closed : Stays [] K
  closed =
      let other = outer_other k X.caps real opened.no_cap in
      closing_leads X.model s p X.caps Stays
      (λ A q rs w clear a. (
        a.0.2,
        turned_on d.model A (kfmrh A q.0 q.1) k a.1 (closed_turned A p q.0 q.1 w k a.1.there a.0.0 a.0.1),
        taken.solid_same A p q.0 q.1 w k a.0.1 ∙ a.2,
        λ off l i. let keeps = kill_keeps A q.0 q.1 in same_points A (kfmrh A q.0 q.1) l keeps.0 keeps.1 (taken.content_same A p q.0 q.1 w l) ∙ a.3 off l i,
      ))
      (split.closes d above s p t can)
      (closing_other k (outer_caps X.caps) (filter (λ c. c.hole) X.caps) other.0 other.1 (omega (arith, holes_counted k X.caps, opened.no_cap)), opened.turned, opened.of_solid, opened.exact)

  -- it is one of the upper faces where it is above
  side : lists us k ≡ face_is_above d.model p k
  side = listed_above (face_is_above d.model p k) refl where
    listed_above : (b : Bool) → face_is_above d.model p k ≡ b → lists us k ≡ b
    listed_above true e = listed-from_in k us (omega (arith, count-append k above (map (λ c. c.upper) X.caps), IsIn-filter (face_is_above d.model p) k (faces_of d.model s) (in_solid d.model k s there of) e))
    listed_above false e = false_from_ne_true (lists us k) (λ l. true≢false (sym (filter_passes (face_is_above d.model p) k (faces_of d.model s)
        (omega (arith, IsIn-from_listed k us l, count-append k above (map (λ c. c.upper) X.caps), uppers_counted k X.caps, opened.no_cap))) ∙ e))

  pub part_turned : IsTurned (with_drawings M s p).model (part K s t us) k
  part_turned = turned_on d.model K parted k closed.1 (parted_turned K s t us k closed.1.there)

  pub part_of : solid_of (part K s t us) k ≡ cond (face_is_above (with_drawings M s p).model p k) t s
  part_of = parted_solid K s t us k closed.1.there ∙ (λ i. cond (side i) t (closed.2 i))

-- ---- and of a face that the plane doesn't straddle

module _ (M : Model) (s : ℕ) (p : Plane) (t : ℕ) (sound : Sound M) (accepted : split_refusal M s p t ≡ None) (k : ℕ) (there : Has M.faces k) (of : solid_of M k ≡ s) (whole : straddles M p k ≡ false) where
  abbrev D : Model
  D = (with_drawings M s p).model

  abbrev N : Model
  N = let above = faces_above D p s in let x = opened_at (with_drawings M s p) above s p in part (holes_closed x.model x.caps) s t (upper_faces above x.caps)

  now : IsTurned M D k
  now = uncut_turned M s p t sound accepted k there whole

  stands : StandsAsBefore M D k
  stands = uncut_stands M s p t sound accepted k there whole

  now_of : solid_of D k ≡ s
  now_of = stands.solid ∙ of

  inside : face_is_above D p k ≡ face_is_above M p k
  inside = same_side M D p k stands now.normal

  pub shared_of : solid_of N k ≡ cond (face_is_above M p k) t s
  shared_of = part_of M s p t sound accepted k now.there now_of ∙ ap (λ b. cond b t s) inside
