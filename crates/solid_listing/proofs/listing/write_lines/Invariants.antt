use Rattle.solid_listing.proofs.Prelude.{drop, flat_map, text_of, kind_lines, kinds, lines, outgoing}
use Rattle.solid_listing.proofs.TellingLaws.{Telling}
use Rattle.solid_listing.proofs.listing.write_lines.Given as goal

abbrev pub invariant-loop-kind : goal.invariant-loop-kind
invariant-loop-kind g l = Telling (outgoing (g.W.Write.contents l.fn.writer) l.fn.text) (outgoing (g.W.Write.contents l.writer) l.text)
    (text_of (lines l.arena.model))
    (text_of (flat_map (kind_lines l.arena.model) (drop l.kind-index kinds)))
