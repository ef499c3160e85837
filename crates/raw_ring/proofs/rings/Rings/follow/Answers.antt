use Rattle.std.proofs.Common.{sym, ◌∙◌, arith}
use Rattle.raw_ring.proofs.Copies.{IsLive-alike, Followed-led, Followed-asleep, Followed-ends}
use Rattle.raw_ring.proofs.rings.Rings.follow.Goals as goal
use Rattle.raw_ring.proofs.rings.Rings.follow.Goals.{then-is_live, else-is_live}

pub lead-requires-clause-code : goal.lead-requires-clause-code
lead-requires-clause-code c = IsLive-alike _ _ _ c.loop-code.invariant.alike (sym c.is_live.ensures.live ∙ c.if-is_live.true)

pub lead-requires-clause-to : goal.lead-requires-clause-to
lead-requires-clause-to c = IsLive-alike _ _ _ c.loop-code.invariant.alike (c.next.ensures.permutation.live _ _ c.next.ensures.next)

pub loop-code-preserved : goal.loop-code-preserved
loop-code-preserved c = elim c.if-is_live.branch [
  | then-is_live w ↦ rw w.self-is (Followed-led _ _ _ _ _ w.next.ensures.permutation w.next.ensures.next c.loop-code.invariant w.lead.ensures)
  | else-is_live w ↦ rw w.self-is (Followed-asleep _ _ _ (sym c.is_live.ensures.live ∙ w.if-is_live.false) c.loop-code.invariant)
]

pub returns : goal.returns
returns c = Followed-ends _ _ _ (λ q known. omega (arith, c.code_bound-code-end.ensures.above q known, c.loop-code-test.false)) c.loop-code.invariant
