use Rattle.std.proofs.Common.{arith}
use Rattle.split_sections.proofs.section_checks_laws.HoleFlags.{few_holes}
use Rattle.split_sections.proofs.section_checks.holes.has_stray_hole.Goals as goal

pub overflow_add-result : goal.overflow_add-result
overflow_add-result c = omega (arith, c.hole_count-holes.ensures, few_holes c.args.cycles.now, c.requires)
