-- Normals, planes and volumes, and the sums of the code.
use Rattle.euler_operators.specs.Common.{Point}
pub use Rattle.shapes.specs.Measure.{area, area_limit, first_vertex, anchor, plane_through, volume_in, face_refusal}
unfoldable pub use Rattle.shapes.specs.Measure.{normal, plane_of, is_flat, six_volume}
pub use Rattle.solid_measure.specs.solid_counts.Counts.{answer, counts, solid_refusal}
use Rattle.solid_measure.specs.declared.Vector.{Vector}

-- a sum of the code
abbrev pub read : Vector → Point
read v = record { x = v.x; y = v.y; z = v.z }
