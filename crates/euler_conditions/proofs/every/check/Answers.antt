use Rattle.euler_conditions.proofs.every.check.Goals as goal

pub returns-in-Kev : goal.returns-in-Kev
returns-in-Kev c = rw c.in-Kev.is c.check_kev.ensures
