-- The half-edges of a cycle as the code holds them, and the operators that it makes of them.
use Rattle.plane_split.proofs.Prelude.{◌≡◌, ℕ, suc, ◌+◌, ◌<◌, List, map, length, slice_index_or, sym, ap, ◌∙◌, subst, arith, get_or, get_or-map, length-map, Point, HalfEdge, At, code, half, edge_of, mate, plus, minus, Model, tail, point_of, after, Has, HasHalf, half-code, edge_of-code, Mev, Mef, Taken, cut_strip, place_before, raise_copy}
use Rattle.split_opening_laws.proofs.strips.Cycle.{before_below}

-- the half-edge at a place
pub item_is : (hs : List HalfEdge) (i : ℕ) (d : HalfEdge) → i < length hs → code (slice_index_or hs i d) ≡ get_or (map code hs) i 0
item_is hs i d lt = sym (get_or-map code hs i d 0 lt)

pub one_on : (i : ℕ) → suc i ≡ i + 1
one_on i = omega arith

-- the number after i more
pub number : (k i : ℕ) → k + i + 1 ≡ k + suc i
number k i = omega arith

written : (h : HalfEdge) (k : ℕ) → code h ≡ k → h ≡ half k
written h k e = sym (half-code h) ∙ ap half e

module _ (X N : Model) (model : X ≡ N) (c : Taken) (hs : List HalfEdge) (i : ℕ) (lt : i < length hs) (d : HalfEdge) where
  abbrev bs : List ℕ
  bs = map code hs

  here : code (slice_index_or hs i d) ≡ get_or bs i 0
  here = item_is hs i d lt

  -- the edge of its mate is there
  pub next_there : (h : HalfEdge) → code h ≡ mate (code (slice_index_or hs i d)) → HasHalf N (mate (get_or (map code hs) i 0)) → Has X.edges h.edge
  next_there h is_h there = subst (λ (Y : Model). Has Y.edges h.edge) (sym model) (subst (Has N.edges) (ap edge_of (sym (is_h ∙ ap mate here)) ∙ edge_of-code h) there)

  -- the operator that cuts the strip at a place off
  pub strip_op : (h next edge : HalfEdge) → code h ≡ mate (code (slice_index_or hs i d)) → code next ≡ after X (code h) → edge ≡ half (plus (c.edge + i + 1))
      → Mef h next edge (c.face + i + 1) (c.loop + i + 1) ≡ cut_strip N c (map code hs) i
  strip_op h next edge is_h is_next is_edge =
      let turned : code h ≡ mate (get_or bs i 0) = is_h ∙ ap mate here in
      λ j. Mef
      (written h (mate (get_or bs i 0)) turned j)
      (written next (after N (mate (get_or bs i 0))) (is_next ∙ (λ n. after (model n) (turned n))) j)
      ((is_edge ∙ ap (λ k. half (plus k)) (number c.edge i)) j)
      (number c.face i j)
      (number c.loop i j)

  -- and the one that raises the copy of the vertex there
  pub copy_op : (k : ℕ) (e back before up : HalfEdge) (point : Point) → k ≡ place_before (length hs) i → back ≡ half (minus (c.edge + i + 1)) → code before ≡ mate (code (slice_index_or hs k e))
      → up ≡ half (plus (c.edge + length hs + i + 1)) → point ≡ point_of X (tail X (code (slice_index_or hs i d))) → Mev (At back) (At before) up (c.vertex + i + 1) point ≡ raise_copy N c (map code hs) i
  copy_op k e back before up point is_k is_back is_before is_up is_point =
      let size : length hs ≡ length bs = sym (length-map hs code) in
      let below : k < length hs = subst (λ n. n < length hs) (sym is_k) (before_below (length hs) i lt) in
      let beside : code before ≡ mate (get_or bs (place_before (length bs) i) 0) = is_before ∙ ap mate (item_is hs k e below) ∙ ap (λ n. mate (get_or bs n 0)) (is_k ∙ ap (λ n. place_before n i) size) in
      λ j. Mev
      (At ((is_back ∙ ap (λ n. half (minus n)) (number c.edge i)) j))
      (At (written before (mate (get_or bs (place_before (length bs) i) 0)) beside j))
      ((is_up ∙ ap (λ n. half (plus (c.edge + n + i + 1))) size ∙ ap (λ n. half (plus n)) (number (c.edge + length bs) i)) j)
      (number c.vertex i j)
      ((is_point ∙ (λ n. point_of (model n) (tail (model n) (here n)))) j)
