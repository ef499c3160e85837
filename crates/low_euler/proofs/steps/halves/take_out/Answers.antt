use Rattle.low_euler.proofs.Prelude.{sym, ap, ◌∙◌, eqb-true, eqb-false, code, items_of, content, cut, clear, with_lone}
use Rattle.euler_operators.specs.Table as table
use Rattle.low_euler.proofs.steps_laws.StoreSteps as steps
use Rattle.low_euler.proofs.steps.halves.take_out.Goals as goal

pub clear-requires : goal.clear-requires
clear-requires c =
    let alone = sym (c.prev-last.ensures.in_loop c.requires.looped) ∙ eqb-true _ _ (sym c.same.ensures ∙ c.if-same.true) in
    ap (table.has c.args.arena.now.model.loops) c.loop_of-emptied.ensures ∙ steps.row_there c.args.arena.now (code c.args.half) c.requires alone

pub set_lone-requires : goal.set_lone-requires
set_lone-requires c =
    let alone = sym (c.prev-last.ensures.in_loop c.requires.looped) ∙ eqb-true _ _ (sym c.same.ensures ∙ c.if-same.true) in
    let cleared = c.clear.ensures ∙ ap (clear c.args.arena.now) c.loop_of-emptied.ensures in
    record {
      there = (λ i. table.has (cleared i).model.loops (c.loop_of-emptied.ensures i)) ∙ steps.still_there c.args.arena.now (code c.args.half) c.requires alone;
      bare = (λ i. items_of (content (cleared i).model (c.loop_of-emptied.ensures i))) ∙ steps.now_bare c.args.arena.now (code c.args.half) c.requires alone;
    }

pub cut_alone-requires-clause-apart : goal.cut_alone-requires-clause-apart
cut_alone-requires-clause-apart c = eqb-false _ _ (sym c.same.ensures ∙ c.if-same.false)

pub returns-then-same : goal.returns-then-same
returns-then-same c =
    let alone = sym (c.prev-last.ensures.in_loop c.requires.looped) ∙ eqb-true _ _ (sym c.same.ensures ∙ c.if-same.true) in
    let cleared = c.clear.ensures ∙ ap (clear c.args.arena.now) c.loop_of-emptied.ensures in
    c.set_lone.ensures ∙ (λ i. with_lone (cleared i) (c.loop_of-emptied.ensures i) (c.tail-vertex.ensures i)) ∙ steps.clear_takes_out c.args.arena.now (code c.args.half) c.requires alone

pub returns-else-same : goal.returns-else-same
returns-else-same c =
    let e = c.prev-last.ensures.in_loop c.requires.looped in
    c.cut_alone.ensures ∙ ap (λ p. cut c.args.arena.now p (code c.args.half) 0) e
    ∙ steps.cut_takes_out c.args.arena.now (code c.args.half) c.requires (λ p. eqb-false _ _ (sym c.same.ensures ∙ c.if-same.false) (e ∙ p))
