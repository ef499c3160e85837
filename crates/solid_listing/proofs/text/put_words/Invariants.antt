use Rattle.solid_listing.proofs.Prelude.{◌++◌, map, drop, spaced, outgoing}
use Rattle.solid_listing.proofs.TellingLaws.{Telling}
use Rattle.solid_listing.proofs.text.put_words.Given as goal

abbrev pub invariant-loop-n : goal.invariant-loop-n
invariant-loop-n g l = Telling (outgoing (g.W.Write.contents l.fn.writer) l.fn.text) (outgoing (g.W.Write.contents l.writer) l.text)
    (l.name ++ spaced (map g.I.Integer.text l.numbers)) (spaced (map g.I.Integer.text (drop l.n-index l.numbers)))
