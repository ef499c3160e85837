use Rattle.solid_measure.proofs.Prelude.{◌≡◌, ℕ, ◌<◌, length, sym, ap, subst, ◌∙◌, IsIn, code, before, Model, items_of, content, cycle_of, Sound, HasHalf, to_come, item_of, item_there, together, halves_met}
use Rattle.solid_walks.proofs.TwoWays.{before_after}
use Rattle.solid_measure.proofs.solid_counts_laws.LoopRounds.{MetRound, met_start, met_few, met_closed, met_more, met_fewer}
use Rattle.solid_measure.proofs.solid_counts.loops.ring_met.Goals as goal

-- where the walk begins
begins : (M : Model) → Sound M → (l first begin : ℕ) → IsIn first (items_of (content M l)) → begin ≡ first → HasHalf M begin × (cycle_of M begin ≡ items_of (content M l))
begins M sound l first begin i e = subst (λ x. HasHalf M x × (cycle_of M x ≡ items_of (content M l))) (sym e) (item_of M sound l first i)

pub round-init : goal.round-init
round-init c =
    let M = c.args.arena.now.model in let s = c.requires.ready.sound in let begin : ℕ = c.code-begin.result in record {
      met = met_start M s begin (begins M s c.args.l (code c.args.first) begin c.requires.item c.code-begin.ensures).0;
      last = c.previous_code-last.ensures.previous;
    }

pub together-sum-requires-clause-a : goal.together-sum-requires-clause-a
together-sum-requires-clause-a c =
    let M = c.args.arena.now.model in let s = c.requires.ready.sound in let begin : ℕ = c.code-begin.result in
    met_few M s begin (begins M s c.args.l (code c.args.first) begin c.requires.item c.code-begin.ensures).0 c.round.code c.round.sum c.round.invariant.met

pub returns-then-code-begin : goal.returns-then-code-begin
returns-then-code-begin c =
    let M = c.args.arena.now.model in let s = c.requires.ready.sound in let begin : ℕ = c.code-begin.result in
    let b = begins M s c.args.l (code c.args.first) begin c.requires.item c.code-begin.ensures in
    met_closed M s begin b.0 c.round.code c.round.sum c.round.invariant.met c.together-sum.result (c.together-sum.ensures ∙ ap (together c.round.sum) c.half_met.ensures) (sym c.next_code-code.ensures.next ∙ c.if-code-begin.true)
    ∙ ap (halves_met M) b.1

pub round-smaller : goal.round-smaller
round-smaller c =
    let M = c.args.arena.now.model in let s = c.requires.ready.sound in let begin : ℕ = c.code-begin.result in
    let b = begins M s c.args.l (code c.args.first) begin c.requires.item c.code-begin.ensures in
    subst (λ x. length (to_come begin (cycle_of M begin) x) < length (to_come begin (cycle_of M begin) c.round.code)) (sym c.next_code-code.ensures.next)
    (met_fewer M s begin b.0 c.round.code c.round.sum c.round.invariant.met c.together-sum.result (c.together-sum.ensures ∙ ap (together c.round.sum) c.half_met.ensures) (λ e. c.if-code-begin.false (c.next_code-code.ensures.next ∙ e)))

pub round-preserved : goal.round-preserved
round-preserved c =
    let M = c.args.arena.now.model in let s = c.requires.ready.sound in let begin : ℕ = c.code-begin.result in
    let b = begins M s c.args.l (code c.args.first) begin c.requires.item c.code-begin.ensures in
    let there = item_there M s begin b.0 c.round.code c.round.invariant.met.here in record {
      met = subst (λ x. MetRound M begin x c.together-sum.result) (sym c.next_code-code.ensures.next)
          (met_more M s begin b.0 c.round.code c.round.sum c.round.invariant.met c.together-sum.result (c.together-sum.ensures ∙ ap (together c.round.sum) c.half_met.ensures) (λ e. c.if-code-begin.false (c.next_code-code.ensures.next ∙ e)));
      last = sym (ap (before M) c.next_code-code.ensures.next ∙ before_after M s c.round.code there);
    }
