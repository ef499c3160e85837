use Rattle.solid_listing.proofs.Prelude.{length, map, decimal, rings_of, spaced, outgoing, above}
use Rattle.solid_listing.proofs.TellingLaws.{Telling}
use Rattle.solid_listing.proofs.entry.write_rings.Given as goal

abbrev pub invariant-loop-l : goal.invariant-loop-l
invariant-loop-l g l = Telling (outgoing (g.W.Write.contents l.fn.writer) l.fn.text) (outgoing (g.W.Write.contents l.writer) l.text)
    (spaced (map decimal (rings_of l.arena.model l.f)))
    (spaced (map decimal (above l.above (rings_of l.arena.model l.f))))

abbrev pub decreases-loop-l : goal.decreases-loop-l
decreases-loop-l g l = length (above l.above (rings_of l.arena.model l.f))
