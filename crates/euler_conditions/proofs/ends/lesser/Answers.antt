use Rattle.std.proofs.lemmas.Bool.{ne_eqb}
use Rattle.euler_conditions.proofs.ends.lesser.Goals as goal

pub returns-else-least-eq0 : goal.returns-else-least-eq0
returns-else-least-eq0 c = rw (ne_eqb c.args.least 0 c.if-least-eq0.false) cc
