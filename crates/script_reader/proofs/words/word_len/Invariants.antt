use Rattle.script_reader.proofs.Prelude.{◌≡◌, ◌+◌, drop, word_len}
use Rattle.script_reader.proofs.words.word_len.Given as goal

abbrev pub invariant-loop-i : goal.invariant-loop-i
invariant-loop-i l = l.i + word_len (drop l.i l.line) ≡ word_len l.line
