-- How great sums of cross products over half-edges are.
use Rattle.solid_measure.proofs.Prelude.{◌≡◌, ℕ, ◌+◌, ◌*◌, ◌≤◌, List, [], ◌∷◌, length, Some, None, Option, refl, arith, unwrap_or, Point, IsInRange, IsVectorWithin, moved, cross, mate, Model, tail, point_of, no_point, Sound, coordinates, minor_within, sum_within, vector_within, start, finish, area, area_limit, AreHalves, halves_short}
use Rattle.euler_operators.specs.Table as table
pub use Rattle.shapes.proofs.Areas.{area-append, area_turned, area_push}

pub point_fits : (M : Model) → Sound M → (v : ℕ) → IsInRange (point_of M v)
unfolding point_of
point_fits M sound v = row_in_range (table.get M.vertices v) refl where
  row_in_range : (o : Option Point) → table.get M.vertices v ≡ o → IsInRange (unwrap_or o no_point)
  row_in_range None e = refl
  row_in_range (Some p) e = sound.points_fit v p e

pub cross_within : (p q : Point) → IsInRange p → IsInRange q → IsVectorWithin 2000000000000000000 (cross p q)
cross_within p q rp rq =
    let ps = coordinates p rp in let qs = coordinates q rq in
    (minor_within p.y p.z q.y q.z ps.1 ps.2 qs.1 qs.2, minor_within p.z p.x q.z q.x ps.2 ps.0 qs.2 qs.0, minor_within p.x p.y q.x q.y ps.0 ps.1 qs.0 qs.1)

pub moved_within : (p q : Point) (m n k : ℕ) → IsVectorWithin m p → IsVectorWithin n q → m + n ≤ k → IsVectorWithin k (moved p q)
moved_within p q m n k a b l = (sum_within p.x q.x m n k a.0 b.0 l, sum_within p.y q.y m n k a.1 b.1 l, sum_within p.z q.z m n k a.2 b.2 l)

pub area_within : (M : Model) → Sound M → (hs : List ℕ) → IsVectorWithin (2000000000000000000 * length hs) (area M hs)
area_within M sound [] = (omega arith, omega arith, omega arith)
area_within M sound (h ∷ hs) =
    moved_within (cross (start M h) (finish M h)) (area M hs) _ _ _ (cross_within (start M h) (finish M h) (point_fits M sound (tail M h)) (point_fits M sound (tail M (mate h)))) (area_within M sound hs) (omega arith)

pub area_limited : (M : Model) → Sound M → (hs : List ℕ) → AreHalves M hs → IsVectorWithin area_limit (area M hs)
area_limited M sound hs a = vector_within (area M hs) _ area_limit (area_within M sound hs) (omega (arith, halves_short M sound hs a))
