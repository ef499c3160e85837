-- The two caps that close a solid once it is opened along a cycle on a plane: they lie along the plane, and have opposite normals.
use Rattle.split_laws.proofs.Prelude.{◌≡◌, ℕ, suc, ◌+◌, ◌<◌, true, not, List, [], ◌∷◌, length, Some, unwrap_or, refl, sym, ap, ◌∙◌, arith, map, reverse, get_or, ◌-◌, and_parts, Point, Plane, origin, moved, cross, same_point, direction, is_on, count, IsIn, head_or, canonical, mate, minus, Model, cycle, no_face, tail, content, outer, point_of, rings_of, from_map, count-reverse, count-canonical, content_row, mate_there, get-put_here, get-put_other, none_moved, IsIn_some_head, IsIn-map, each_mapped, start, finish, Taken, numbers_after, next_place, area, normal, anchor, first_vertex, is_plane_of, negated, opened_along, flat_closed, IsPathTo, IsClosed, cross_moved, cross_nothing, none_left, area_same, area_mates, CanBeOpened, next_cases, next_within, half_in, mate_start, place_of, plain_alone, plain_lower, plain_upper, loops_are, upper_row, in_numbers, numbers_in, LiesAlong, only_loop}
use Rattle.euler_operators.specs.Table as table
pub use Rattle.shapes.proofs.measures.Agreeing.{area_kept}
pub use Rattle.split_opening_laws.proofs.sections.InTurn.{lower_row, loop_kinds}
use Rattle.split_laws.proofs.opened.Starts.{start_old, finish_old, back_along}

-- ---- lists

pub numbers_place : (k n x : ℕ) → IsIn x (numbers_after k n) → (j : ℕ) × (j < n) × (x ≡ k + suc j)
numbers_place k n x i = let w = in_numbers k n x i in (x - suc k, omega (arith, w.0, w.1), omega (arith, w.0))

-- ---- paths

leads_by : (M : Model) (hs : List ℕ) (e : Point) → ((i : ℕ) → suc i < length hs → finish M (get_or hs i 0) ≡ start M (get_or hs (suc i) 0)) →
    ((i : ℕ) → suc i ≡ length hs → finish M (get_or hs i 0) ≡ e) → IsPathTo M hs e
leads_by M [] e step last = tt
leads_by M (h ∷ []) e step last = (last 0 (omega arith), tt)
leads_by M (h ∷ g ∷ gs) e step last = (step 0 (omega arith), leads_by M (g ∷ gs) e (λ i l. step (suc i) (omega (arith, l))) (λ i q. last (suc i) (omega (arith, q))))

-- half-edges that meet in turn make a closed path
pub closed_round : (M : Model) (hs : List ℕ) → ((i : ℕ) → i < length hs → tail M (get_or hs (next_place (length hs) i) 0) ≡ tail M (mate (get_or hs i 0))) → IsClosed M hs
closed_round M [] meet = tt
closed_round M (h ∷ hs) meet = leads_by M (h ∷ hs) (start M h)
    (λ i l. ap (point_of M) (sym (meet i (omega (arith, l))) ∙ ap (λ n. tail M (get_or (h ∷ hs) n 0)) (step i l)))
    (λ i q. ap (point_of M) (sym (meet i (omega (arith, q))) ∙ ap (λ n. tail M (get_or (h ∷ hs) n 0)) (last i q)))
  where
    step : (i : ℕ) → suc i < length (h ∷ hs) → next_place (length (h ∷ hs)) i ≡ suc i
    step i l = grind (arith, next_cases)

    last : (i : ℕ) → suc i ≡ length (h ∷ hs) → next_place (length (h ∷ hs)) i ≡ 0
    last i q = grind (arith, next_cases)

-- half-edges with the numbers after k that run along those of a list
back_area : (M N : Model) (k : ℕ) (hs : List ℕ) → ((j : ℕ) → j < length hs → (start N (minus (k + suc j)) ≡ start M (get_or hs j 0)) × (finish N (minus (k + suc j)) ≡ finish M (get_or hs j 0))) →
    area N (map minus (numbers_after k (length hs))) ≡ area M hs
back_area M N k [] e = refl
back_area M N k (h ∷ hs) e = let q = e 0 (omega arith) in λ i. moved (cross (q.0 i) (q.1 i)) (back_area M N (k + 1) hs later i) where
  later : (j : ℕ) → j < length hs → (start N (minus (k + 1 + suc j)) ≡ start M (get_or hs j 0)) × (finish N (minus (k + 1 + suc j)) ≡ finish M (get_or hs j 0))
  later j l =
      let r = e (suc j) (omega (arith, l)) in
      let n : k + 1 + suc j ≡ k + suc (suc j) = omega arith in
      (ap (λ x. start N (minus x)) n ∙ r.0, ap (λ x. finish N (minus x)) n ∙ r.1)

-- ---- vectors and planes

cross_negated : (n a : Point) → cross n a ≡ origin → cross n (negated a) ≡ origin
cross_negated n a e = sym (none_moved (cross n (negated a))) ∙ ap (λ v. moved v (cross n (negated a))) (sym e) ∙ sym (cross_moved n a (negated a)) ∙ ap (cross n) (none_left a) ∙ cross_nothing n

-- the anchor of a face that lies along a plane is on it
pub anchor_along : (M : Model) (p : Plane) (f : ℕ) → LiesAlong M p f → is_on p (anchor M f) ≡ true
anchor_along M p f w = ap (λ c. is_on p (point_of M (first_vertex M c))) w.outer_is ∙ w.on_plane (head_or 0 w.items) (IsIn_some_head w.items w.some_item)

module _ (M : Model) (above : List ℕ) (s : ℕ) (c : Taken) (bs : List ℕ) (w : CanBeOpened M above s c bs) where
  abbrev m : ℕ
  m = length bs

  abbrev N : Model
  N = opened_along M above s c bs

  pub lower_loop : table.get N.loops (c.loop + 1) ≡ Some (record { face = c.face + 1; content = cycle (canonical (reverse (map mate bs))) })
  lower_loop = ap (λ t. table.get t (c.loop + 1)) (loops_are M above s c bs) ∙ get-put_other _ (c.loop + m + 1) _ (c.loop + 1) (λ e. absurd (omega (arith, e, w.cycle.two_halves))) ∙ get-put_here _ (c.loop + 1) _

  pub upper_loop : table.get N.loops (c.loop + length bs + 1) ≡ Some (record { face = c.face + length bs + 1; content = cycle (map minus (numbers_after c.edge (length bs))) })
  upper_loop = ap (λ t. table.get t (c.loop + m + 1)) (loops_are M above s c bs) ∙ get-put_here _ (c.loop + m + 1) _

  -- ---- the caps have one loop each

  pub outer_lower : outer N (c.face + 1) ≡ c.loop + 1
  unfolding outer
  outer_lower = ap (λ o. (unwrap_or o no_face).outer) (lower_row M above s c bs w)

  pub outer_upper : outer N (c.face + length bs + 1) ≡ c.loop + length bs + 1
  unfolding outer
  outer_upper = ap (λ o. (unwrap_or o no_face).outer) (upper_row M above s c bs)

  lower_content : content N (outer N (c.face + 1)) ≡ cycle (canonical (reverse (map mate bs)))
  lower_content = ap (content N) outer_lower ∙ content_row N (c.loop + 1) _ lower_loop

  upper_content : content N (outer N (c.face + length bs + 1)) ≡ cycle (map minus (numbers_after c.edge (length bs)))
  upper_content = ap (content N) outer_upper ∙ content_row N (c.loop + length bs + 1) _ upper_loop

  upper_alone : rings_of N (c.face + length bs + 1) ≡ []
  upper_alone = plain_alone N s (c.face + length bs + 1) (plain_upper M above s c bs w)

  -- ---- their normals

  halves_kept : area N bs ≡ area M bs
  halves_kept = area_kept M N bs (λ h i. (start_old M above s c bs w h (w.cycle.halves h i).there, finish_old M above s c bs w h (w.cycle.halves h i).there))

  pub lower_normal : normal N (c.face + 1) ≡ negated (area M bs)
  lower_normal =
      only_loop N (c.face + 1) (canonical (reverse (map mate bs))) (plain_alone N s (c.face + 1) (plain_lower M above s c bs w)) lower_content
      ∙ area_same N (canonical (reverse (map mate bs))) (map mate bs) (λ x. count-canonical x (reverse (map mate bs)) ∙ count-reverse x (map mate bs))
      ∙ area_mates N bs ∙ ap negated halves_kept

  pub upper_normal : normal N (c.face + length bs + 1) ≡ area M bs
  upper_normal = only_loop N (c.face + length bs + 1) (map minus (numbers_after c.edge (length bs))) upper_alone upper_content ∙ back_area M N c.edge bs (back_along M above s c bs w)

  -- ---- the caps lie along the plane

  module _ (p : Plane) (on : is_plane_of M p (map (tail M) bs) ≡ true) where
    starts_on : (b : ℕ) → IsIn b bs → is_on p (start M b) ≡ true
    starts_on b i = each_mapped (λ v. is_on p (point_of M v)) (tail M) bs b (and_parts (not (same_point (direction p) origin)) _ on).1 i

    ends_on : (b : ℕ) → IsIn b bs → is_on p (finish M b) ≡ true
    ends_on b i = let q = place_of M above s c bs w b i in
        ap (λ v. is_on p (point_of M v)) (ap (λ h. tail M (mate h)) q.2 ∙ mate_start M above s c bs w q.0 q.1)
        ∙ starts_on (get_or bs (next_place m q.0) 0) (half_in M above s c bs w (next_place m q.0) (next_within m q.0 q.1))

    pub cycle_across : cross (direction p) (area M bs) ≡ origin
    cycle_across = flat_closed M p bs (closed_round M bs w.cycle.meet) (and_parts (not (same_point (direction p) origin)) _ on).1

    some_mate : IsIn (mate (get_or bs 0 0)) (map mate bs)
    some_mate = IsIn-map mate (get_or bs 0 0) bs (half_in M above s c bs w 0 (omega (arith, w.cycle.two_halves)))

    in_upper : (h : ℕ) → IsIn h (map minus (numbers_after c.edge (length bs))) → is_on p (start N h) ≡ true
    in_upper h i =
        let r = from_map minus h (numbers_after c.edge m) i in
        let q = numbers_place c.edge m r.0 r.1 in
        ap (λ x. is_on p (start N x)) (r.2 ∙ ap minus q.2) ∙ ap (is_on p) (back_along M above s c bs w q.0 q.1).0 ∙ starts_on (get_or bs q.0 0) (half_in M above s c bs w q.0 q.1)

    pub lower_along : LiesAlong N p (c.face + 1)
    lower_along = record {
      items = canonical (reverse (map mate bs));
      some_item = λ e. absurd (omega (arith, some_mate, ap (count (mate (get_or bs 0 0))) e, count-canonical (mate (get_or bs 0 0)) (reverse (map mate bs)), count-reverse (mate (get_or bs 0 0)) (map mate bs)));
      outer_is = lower_content;
      on_plane = (λ h i. grind (arith, from_map, count-canonical, count-reverse, start_old, mate_there, ends_on));
      across = ap (cross (direction p)) lower_normal ∙ cross_negated (direction p) (area M bs) cycle_across;
    }

    pub upper_along : LiesAlong N p (c.face + length bs + 1)
    upper_along = record {
      items = map minus (numbers_after c.edge (length bs));
      some_item = λ e. absurd (omega (arith, IsIn-map minus (c.edge + 1) (numbers_after c.edge (length bs)) (numbers_in c.edge (length bs) (c.edge + 1) (omega arith) (omega (arith, w.cycle.two_halves))), ap (count (minus (c.edge + 1))) e));
      outer_is = upper_content;
      on_plane = in_upper;
      across = ap (cross (direction p)) upper_normal ∙ cycle_across;
    }
