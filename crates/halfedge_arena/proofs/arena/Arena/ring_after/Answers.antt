use Rattle.std.proofs.Common.{sym, ◌∙◌}
use Rattle.halfedge_arena.proofs.Rings.{no_ring}
use Rattle.halfedge_arena.proofs.arena.Arena.ring_after.Goals as goal

pub returns-then-ring_count-eq0 : goal.returns-then-ring_count-eq0
returns-then-ring_count-eq0 c = λ k above. no_ring c.args.self.now.model c.args.f k (sym c.ring_count.ensures ∙ c.if-ring_count-eq0.true)
