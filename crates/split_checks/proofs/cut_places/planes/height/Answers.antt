use Rattle.euler_operators.proofs.Common.{coordinates, coordinate_held}
use Rattle.split_checks.proofs.cut_places_laws.Heights.{number_held, level_told, rise_told, offset_told, whole_told, height_told}
use Rattle.split_checks.proofs.cut_places.planes.height.Goals as goal

pub scaled-requires-clause-number : goal.scaled-requires-clause-number
scaled-requires-clause-number c = number_held c.args.plane.a c.requires.plane.0.0

pub scaled-requires-clause-coordinate : goal.scaled-requires-clause-coordinate
scaled-requires-clause-coordinate c = coordinate_held c.args.point.x (coordinates c.args.point c.requires.point).0

pub scaled-requires-2-clause-number : goal.scaled-requires-2-clause-number
scaled-requires-2-clause-number c = number_held c.args.plane.b c.requires.plane.0.1

pub scaled-requires-2-clause-coordinate : goal.scaled-requires-2-clause-coordinate
scaled-requires-2-clause-coordinate c = coordinate_held c.args.point.y (coordinates c.args.point c.requires.point).1

pub scaled-requires-3-clause-number : goal.scaled-requires-3-clause-number
scaled-requires-3-clause-number c = number_held c.args.plane.c c.requires.plane.0.2

pub overflow_add-level : goal.overflow_add-level
overflow_add-level c = (level_told c.scaled.result c.scaled-2.result c.scaled.result c.scaled.ensures.within c.scaled-2.ensures.within).fits

pub scaled-requires-3-clause-coordinate : goal.scaled-requires-3-clause-coordinate
scaled-requires-3-clause-coordinate c = coordinate_held c.args.point.z (coordinates c.args.point c.requires.point).2

pub overflow_add-result : goal.overflow_add-result
overflow_add-result c = (rise_told c.scaled.result c.scaled-2.result c.scaled-3.result c.scaled.ensures.within c.scaled-2.ensures.within c.scaled-3.ensures.within).fits

pub overflow_cast-result : goal.overflow_cast-result
overflow_cast-result c = (offset_told c.scaled.result c.scaled-2.result c.scaled-3.result c.scaled.ensures.within c.scaled-2.ensures.within c.scaled-3.ensures.within c.args.plane c.requires.plane).fits

pub overflow_add-result-2 : goal.overflow_add-result-2
overflow_add-result-2 c = (whole_told c.scaled.result c.scaled-2.result c.scaled-3.result c.scaled.ensures.within c.scaled-2.ensures.within c.scaled-3.ensures.within c.args.plane c.requires.plane).fits

pub returns : goal.returns
returns c = height_told c.scaled.result c.scaled-2.result c.scaled-3.result c.scaled.ensures.within c.scaled-2.ensures.within c.scaled-3.ensures.within c.args.plane c.requires.plane c.args.point c.requires.point c.scaled.ensures.is c.scaled-2.ensures.is c.scaled-3.ensures.is
