use Rattle.split_checks.proofs.Prelude.{sym, ap, verdict}
use Rattle.split_checks.proofs.begin_checks_laws.Stages.{known_flat}
use Rattle.split_checks.proofs.begin_checks.checks.check_solid.Goals as goal

pub returns-in-Some : goal.returns-in-Some
returns-in-Some c = sym (ap verdict (known_flat c.args.arena.now.model c.args.flat c.in-Some.known c.args.s c.requires.flat c.in-Some.is c.if-known-s.true))
