use Rattle.std.proofs.Common.{◌∙◌, arith}
use Rattle.std.proofs.lemmas.List.{get_or_default}
use Rattle.low_euler.proofs.Undone.{ready_after}
use Rattle.undo_journal.proofs.Prelude.{ap, subst, sym, ℕ, ◌≡◌, block_steps, take, IsReady, all_after}
use Rattle.undo_journal.specs.Blocks.{step_at}
use Rattle.undo_journal.proofs.Turns.{accepts_at, after_next}
use Rattle.undo_journal.proofs.blocks.replay_block.Goals as goal

pub make_step-requires : goal.make_step-requires
make_step-requires c =
    let is = get_or_default (block_steps c.args.block.now) c.steps.index _ (step_at (block_steps c.args.block.now) c.steps.index) (omega (arith, c.steps-test.true)) in
    record {
      left = c.requires.left;
      inside = c.steps-test.true;
      accepted = accepts_at c.args.arena.now c.steps.arena (block_steps c.args.block.now) c.steps.index _ c.steps-test.true is c.requires.accepted c.requires.room c.steps.invariant.effects c.steps.invariant.ready;
    }

pub steps-preserved : goal.steps-preserved
steps-preserved c =
    let is = get_or_default (block_steps c.args.block.now) c.steps.index _ (step_at (block_steps c.args.block.now) c.steps.index) (omega (arith, c.steps-test.true)) in
    record {
      effects = c.make_step.ensures ∙ after_next c.args.arena.now c.steps.arena (block_steps c.args.block.now) c.steps.index _ c.steps-test.true is c.steps.invariant.effects;
      ready = subst IsReady (sym c.make_step.ensures) (ready_after c.steps.arena _ (accepts_at c.args.arena.now c.steps.arena (block_steps c.args.block.now) c.steps.index _ c.steps-test.true is c.requires.accepted c.requires.room c.steps.invariant.effects c.steps.invariant.ready));
      within = omega (arith, c.steps-test.true);
    }

pub returns-clause-effects : goal.returns-clause-effects
returns-clause-effects c = c.steps.invariant.effects ∙ ap (λ (n : ℕ). all_after c.args.arena.now (take n (block_steps c.args.block.now))) (let whole : c.steps.index ≡ 13 = omega (arith, c.steps-test.false, c.steps.invariant.within) in whole)
