use Rattle.sweeps.proofs.Prelude.{taken_of, IsFurther}
use Rattle.sweeps.proofs.Drawing.{Along}
use Rattle.sweeps.proofs.laminas.draw_lamina.Given as goal

abbrev pub invariant-further : goal.invariant-further
invariant-further l = Along l.fn.draft (taken_of l.taken) l.solid l.points l.i l.draft l.end × IsFurther l.fn.draft l.draft
