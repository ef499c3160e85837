use Rattle.sweeps.proofs.Prelude.{◌≡◌, None, Some, Err, OnOk, w64, ◌↔◌, to_z-of_z, block_refusal, block_model, block_operators, after_steps}
use Rattle.undo_journal.specs.declared.session.Failure.TheVariants as failure
use Rattle.sweeps.proofs.BlockSteps.{at_sizes}
use Rattle.sweeps.proofs.blocks.block_in.Goals as goal

pub returns-clause-ok : goal.returns-clause-ok
returns-clause-ok c = at_sizes (λ x y z. OnOk c.block_of_in.result ((block_refusal c.args.draft.now.model c.args.solid c.args.corner x y z ≡ None) × (c.block_of_in.new.draft.model ≡ block_model c.args.draft.now.model c.args.solid c.args.corner x y z)))
    _ _ _ _ _ _ (to_z-of_z w64 c.args.dx c.ranges.dx) (to_z-of_z w64 c.args.dy c.ranges.dy) (to_z-of_z w64 c.args.dz c.ranges.dz) c.block_of_in.ensures.ok

pub returns-clause-refused : goal.returns-clause-refused
returns-clause-refused c refusal = at_sizes (λ x y z. (c.block_of_in.result ≡ Err (failure.Refused refusal)) ↔ (block_refusal c.args.draft.now.model c.args.solid c.args.corner x y z ≡ Some refusal))
    _ _ _ _ _ _ (to_z-of_z w64 c.args.dx c.ranges.dx) (to_z-of_z w64 c.args.dy c.ranges.dy) (to_z-of_z w64 c.args.dz c.ranges.dz) (c.block_of_in.ensures.refused refusal)

pub returns-clause-steps : goal.returns-clause-steps
returns-clause-steps c = at_sizes (λ x y z. OnOk c.block_of_in.result (c.block_of_in.new.draft ≡ after_steps c.args.draft.now (block_operators c.args.draft.now.model c.args.solid c.args.corner x y z)))
    _ _ _ _ _ _ (to_z-of_z w64 c.args.dx c.ranges.dx) (to_z-of_z w64 c.args.dy c.ranges.dy) (to_z-of_z w64 c.args.dz c.ranges.dz) c.block_of_in.ensures.steps
