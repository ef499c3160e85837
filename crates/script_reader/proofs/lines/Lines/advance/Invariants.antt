use Rattle.script_reader.proofs.Prelude.{◌≡◌, ◌+◌, ◌-◌, ◌*◌, true, false, IsAtEnd, Open, Ended, has_newline, has_line, IsStill}
use Rattle.script_reader.specs.Reaching.{MayRead, Reaches}
use Rattle.script_reader.proofs.LinesLaws.{Waits, turns}
use Rattle.script_reader.proofs.lines.Lines.advance.Given as goal

abbrev pub invariant-loop-self : goal.invariant-loop-self
invariant-loop-self g l = Waits (g.R.Inlet.remaining l.fn.self.reader) (g.R.Inlet.remaining l.self.reader) l.fn.self.taken l.self.taken l.fn.self.buffer.unread l.self.buffer.unread l.is_long
    × (l.fn.self.ending ≡ Open → l.self.ending ≡ Ended → IsAtEnd (g.R.Inlet.remaining l.self.reader))
    × (has_line l.fn.self ≡ true → IsStill l.fn.self l.self × (l.self.buffer.unread ≡ l.fn.self.buffer.unread))
    × (has_newline l.self.buffer.unread ≡ false → Reaches (g.W.Outlet.reached l.fn.writer) (g.W.Write.contents l.fn.writer))
    × (has_newline l.self.buffer.unread ≡ false → l.self.ending ≡ Open → MayRead g.R.Inlet.remaining g.R.Inlet.asks l.self.reader (g.W.Write.contents l.fn.writer))

abbrev pub decreases-loop-self : goal.decreases-loop-self
decreases-loop-self g l = 2 * (67108865 - l.self.taken) + turns l.self.ending
