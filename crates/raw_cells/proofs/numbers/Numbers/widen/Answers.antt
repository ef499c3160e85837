use Rattle.std.proofs.Common.{arith}
use Rattle.raw_cells.proofs.numbers_laws.Words.{uses_same}
use Rattle.raw_cells.proofs.numbers_laws.Summed.{more_summaries, more_words}
use Rattle.raw_cells.proofs.numbers.Numbers.widen.Goals as goal

pub invariant_of-self : goal.invariant_of-self
invariant_of-self c = more_summaries _ _ c.self.invariant _ c.reach.ensures.same c.reach.ensures.grows (c.reach.ensures.limit 489 (omega (arith, c.requires)) c.self.invariant.summaries_limit)

pub invariant_of-self-2 : goal.invariant_of-self-2
invariant_of-self-2 c =
    let more = more_summaries _ _ c.self.invariant _ c.reach.ensures.same c.reach.ensures.grows (c.reach.ensures.limit 489 (omega (arith, c.requires)) c.self.invariant.summaries_limit) in
    more_words _ _ more _ c.reach-2.ensures.same
    (c.reach-2.ensures.limit _ (omega (arith, c.in_ok-reach.ensures.ok)) more.room)
    (c.reach-2.ensures.limit 31264 (omega (arith, c.requires)) c.self.invariant.limit)

pub returns-clause-same : goal.returns-clause-same
returns-clause-same c = rw (← c.self.view_is) (uses_same _ _ c.reach-2.ensures.same)
