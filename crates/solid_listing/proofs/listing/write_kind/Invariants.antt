use Rattle.solid_listing.proofs.Prelude.{length, map, text_of, line, kind_lines, outgoing, above}
use Rattle.solid_listing.specs.Common.{numbers_of}
use Rattle.solid_listing.proofs.TellingLaws.{Telling}
use Rattle.solid_listing.proofs.listing.write_kind.Given as goal

abbrev pub invariant-loop-n : goal.invariant-loop-n
invariant-loop-n g l = Telling (outgoing (g.W.Write.contents l.fn.writer) l.fn.text) (outgoing (g.W.Write.contents l.writer) l.text)
    (text_of (kind_lines l.arena.model l.kind))
    (text_of (map (line l.arena.model l.kind) (above l.above (numbers_of l.arena.model l.kind))))

abbrev pub decreases-loop-n : goal.decreases-loop-n
decreases-loop-n g l = length (above l.above (numbers_of l.arena.model l.kind))
