use Rattle.split_checks.proofs.cut_places_laws.Heights.{number_told, scaled_told, scaled_kept_within}
use Rattle.split_checks.proofs.cut_places.planes.scaled.Goals as goal

pub overflow_cast-result : goal.overflow_cast-result
overflow_cast-result c = (number_told c.args.number c.args.coordinate c.requires.number c.requires.coordinate).fits

pub overflow_mul-result : goal.overflow_mul-result
overflow_mul-result c = (scaled_told c.args.number c.args.coordinate c.requires.number c.requires.coordinate).fits

pub returns-clause-is : goal.returns-clause-is
returns-clause-is c = (scaled_told c.args.number c.args.coordinate c.requires.number c.requires.coordinate).kept

pub returns-clause-within : goal.returns-clause-within
returns-clause-within c = scaled_kept_within c.args.number c.args.coordinate c.requires.number c.requires.coordinate
