use Rattle.script_reader.proofs.Prelude.{◌≡◌, ◌⊎◌, inl, inr, ◌<◌, ◌∙◌, refl, sym, ap, subst, rules, arith, length, true, ℕ, List, [], TakesLine, Lacks, LastAnswer, Ending, Open}
use borrow.Author.Tests.{ltb-true}
use Rattle.script_reader.proofs.NewlineLaws.{has-lacks}
use Rattle.script_reader.specs.Reaching.{MayRead}
use Rattle.script_reader.proofs.LinesLaws.{Waits, starts, clears, reads, reads_on, long_line, last_answer, Waits-same, not_ready, open_not_ended}
use Rattle.script_reader.proofs.lines.Lines.advance.Goals as goal
use Rattle.script_reader.proofs.lines.Lines.advance.Goals.{then-is_long, else-is_long, then-len-gt-LINE_LIMIT, else-len-gt-LINE_LIMIT}

pub loop-self-init : goal.loop-self-init
loop-self-init g c = (starts (g.R.Inlet.remaining c.args.self.now.reader) c.args.self.now.taken c.args.self.now.buffer.unread, λ e f. absurd (open_not_ended _ e f), λ _. (record { reader = refl; taken = refl; ending = refl }, refl), c.requires.handed_on, c.requires.asked)

pub returns-then-line-gt-LINE_LIMIT : goal.returns-then-line-gt-LINE_LIMIT
returns-then-line-gt-LINE_LIMIT g c =
    let old = c.loop-self.self in
    let took = subst (TakesLine old.buffer c.take_line.new.self) c.if-take_line.true c.take_line.ensures in
    let long : (c.loop-self.is_long ≡ true) ⊎ (65536 < length c.take_line.new.self.line) = elim c.if-is_long.branch [ then-is_long w ↦ inl (assumption) | else-is_long w ↦ inr (subst (λ (xs : List ℕ). 65536 < length xs) w.line.ensures (ltb-true _ _ (sym w.value-is ∙ c.if-line-gt-LINE_LIMIT.true))) ] in
    record {
      advances = long_line (g.R.Inlet.remaining c.args.self.now.reader) (g.R.Inlet.remaining old.reader) c.args.self.now.taken old.taken c.args.self.now.buffer.unread old.buffer.unread c.take_line.new.self c.loop-self.is_long old.ending c.loop-self.invariant.0 took.0 took.1 long;
      end = search rules;
      still = search rules;
    }

pub returns-then-ne : goal.returns-then-ne
returns-then-ne g c =
    let old = c.loop-self.self in
    let first = c.args.self.now in
    let new = c.last.new.self in
    let rest = subst (TakesLine old.buffer c.take_line.new.self) c.if-take_line.false c.take_line.ensures in
    let lacks : Lacks c.take_line.new.self.unread = subst Lacks (sym rest.0) rest.1 in
    let w = Waits-same (g.R.Inlet.remaining first.reader) (g.R.Inlet.remaining old.reader) (g.R.Inlet.remaining new.reader) first.taken old.taken new.taken first.buffer.unread old.buffer.unread c.take_line.new.self.unread c.loop-self.is_long c.loop-self.is_long
    (ap g.R.Inlet.remaining c.last.ensures.still.reader) c.last.ensures.still.taken rest.0 refl c.loop-self.invariant.0 in
    let answer = subst (λ (e : Ending). LastAnswer c.take_line.new.self new.buffer e c.loop-self.is_long c.last.result) (sym c.last.ensures.still.ending) c.last.ensures.answer in
    record {
      advances = last_answer (g.R.Inlet.remaining first.reader) (g.R.Inlet.remaining new.reader) first.taken new.taken first.buffer.unread c.take_line.new.self new.buffer c.loop-self.is_long new.ending c.last.result w lacks answer;
      end = search rules;
      still = search rules;
    }

pub loop-self-preserved : goal.loop-self-preserved
loop-self-preserved g c =
    let old = c.loop-self.self in
    let first = c.args.self.now in
    let mid = c.if-len-gt-LINE_LIMIT.self in
    let new = c.fill.new.self in
    let rest = subst (TakesLine old.buffer c.take_line.new.self) c.if-take_line.false c.take_line.ensures in
    let lacks : Lacks c.take_line.new.self.unread = subst Lacks (sym rest.0) rest.1 in
    let is_open : old.ending ≡ Open = search rules in
    let before = Waits-same (g.R.Inlet.remaining first.reader) (g.R.Inlet.remaining old.reader) (g.R.Inlet.remaining old.reader) first.taken old.taken old.taken first.buffer.unread old.buffer.unread c.take_line.new.self.unread c.loop-self.is_long c.loop-self.is_long
    refl refl rest.0 refl c.loop-self.invariant.0 in
    let waits : Waits (g.R.Inlet.remaining first.reader) (g.R.Inlet.remaining mid.reader) first.taken mid.taken first.buffer.unread mid.buffer.unread c.if-len-gt-LINE_LIMIT.is_long = elim c.if-len-gt-LINE_LIMIT.branch [
      | then-len-gt-LINE_LIMIT w ↦ Waits-same (g.R.Inlet.remaining first.reader) (g.R.Inlet.remaining old.reader) (g.R.Inlet.remaining mid.reader) first.taken old.taken mid.taken first.buffer.unread [] mid.buffer.unread true c.if-len-gt-LINE_LIMIT.is_long
          (search rules) (search rules) (search rules) (assumption)
          (clears (g.R.Inlet.remaining first.reader) (g.R.Inlet.remaining old.reader) first.taken old.taken first.buffer.unread c.take_line.new.self.unread c.loop-self.is_long before lacks (omega arith))
      | else-len-gt-LINE_LIMIT w ↦ Waits-same (g.R.Inlet.remaining first.reader) (g.R.Inlet.remaining old.reader) (g.R.Inlet.remaining mid.reader) first.taken old.taken mid.taken first.buffer.unread c.take_line.new.self.unread mid.buffer.unread c.loop-self.is_long c.if-len-gt-LINE_LIMIT.is_long
          (search rules) (search rules) (search rules) (assumption) before
    ] in
    let same : mid.reader ≡ old.reader = elim c.if-len-gt-LINE_LIMIT.branch [ then-len-gt-LINE_LIMIT w ↦ search rules | else-len-gt-LINE_LIMIT w ↦ search rules ] in (
      reads (g.R.Inlet.remaining first.reader) (g.R.Inlet.remaining mid.reader) (g.R.Inlet.remaining new.reader) first.taken mid.taken new.taken first.buffer.unread mid.buffer.unread new.buffer.unread c.if-len-gt-LINE_LIMIT.is_long waits c.fill.ensures.reads (search rules),
      λ e. c.fill.ensures.end,
      λ ready. absurd (not_ready first old ready (c.loop-self.invariant.2 ready).0 (c.loop-self.invariant.2 ready).1 is_open rest.1),
      λ _. c.loop-self.invariant.3 (has-lacks old.buffer.unread rest.1),
      λ none opened. reads_on g.R.Inlet.remaining g.R.Inlet.asks (g.W.Write.contents c.args.writer.now) mid.reader new.reader mid.taken new.taken mid.buffer.unread new.buffer.unread
          (subst (λ r. MayRead g.R.Inlet.remaining g.R.Inlet.asks r (g.W.Write.contents c.args.writer.now)) (sym same) (c.loop-self.invariant.4 (has-lacks old.buffer.unread rest.1) is_open)) c.fill.ensures.reads (new.within (λ o. cc (o, opened))) none,
    )

pub fill-requires-clause-asked : goal.fill-requires-clause-asked
fill-requires-clause-asked g c =
    let rest = subst (TakesLine c.loop-self.self.buffer c.take_line.new.self) c.if-take_line.false c.take_line.ensures in
    let same : c.if-len-gt-LINE_LIMIT.self.reader ≡ c.loop-self.self.reader = elim c.if-len-gt-LINE_LIMIT.branch [ then-len-gt-LINE_LIMIT w ↦ search rules | else-len-gt-LINE_LIMIT w ↦ search rules ] in
    rw same (c.loop-self.invariant.4 (has-lacks c.loop-self.self.buffer.unread rest.1) (search rules))

pub fill-requires-clause-handed_on : goal.fill-requires-clause-handed_on
fill-requires-clause-handed_on g c =
    let rest = subst (TakesLine c.loop-self.self.buffer c.take_line.new.self) c.if-take_line.false c.take_line.ensures in
    c.loop-self.invariant.3 (has-lacks c.loop-self.self.buffer.unread rest.1)
