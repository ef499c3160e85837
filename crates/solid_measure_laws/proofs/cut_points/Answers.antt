use Rattle.euler_operators.specs.Common.{height}
use Rattle.solid_measure_laws.proofs.Cuts.{cut_on, cut_divides, cut_on_each, cut_keeps_area, cuts_either_way, some_height, cuts_miss_none}
use Rattle.solid_measure_laws.proofs.cut_points.Goals as goal

pub returns : goal.returns
returns c = record {
  on_plane = cut_on;
  inside = λ s p q o cuts. let h = some_height (height s p) (height s q) o in (h.0, h.1, cut_divides s p q o cuts);
  none_missed = cuts_miss_none;
  on_each = λ s t p q o cuts. cut_on_each s p q o cuts t;
  areas = cut_keeps_area;
  either_way = cuts_either_way;
}
