-- The first face that can't be drawn, as the code has it.
use Rattle.std.specs.Prelude.{ℕ, cond, nat_eq}
use Rattle.split_checks.specs.declared.progress.Progress.{Progress}

-- face f can't be drawn; if an earlier face couldn't be drawn, that face stays
abbrev pub stuck_at : Progress → ℕ → Progress
stuck_at c f = record c { stuck = cond (nat_eq c.stuck 0) f c.stuck }
