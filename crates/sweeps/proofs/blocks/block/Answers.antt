use Rattle.sweeps.proofs.Prelude.{◌≡◌, None, Some, Err, OnOk, w64, ◌↔◌, to_z-of_z, block_operators, record_of, recorded, held}
use Rattle.undo_journal.specs.declared.session.Failure.TheVariants as failure
use Rattle.sweeps.specs.Machine.{block, block_refusal}
use Rattle.sweeps.proofs.BlockSteps.{at_sizes}
use Rattle.sweeps.proofs.blocks.block.Goals as goal

pub returns-clause-ok : goal.returns-clause-ok
returns-clause-ok c = at_sizes (λ x y z. OnOk c.block_of.result.1 ((block_refusal c.args.session.machine c.args.solid c.args.corner x y z ≡ None) × (c.block_of.result.0.machine ≡ block c.args.session.machine c.args.solid c.args.corner x y z)))
    _ _ _ _ _ _ (to_z-of_z w64 c.args.dx c.ranges.dx) (to_z-of_z w64 c.args.dy c.ranges.dy) (to_z-of_z w64 c.args.dz c.ranges.dz) c.block_of.ensures.ok

pub returns-clause-refused : goal.returns-clause-refused
returns-clause-refused c refusal = at_sizes (λ x y z. (c.block_of.result.1 ≡ Err (failure.Refused refusal)) ↔ (block_refusal c.args.session.machine c.args.solid c.args.corner x y z ≡ Some refusal))
    _ _ _ _ _ _ (to_z-of_z w64 c.args.dx c.ranges.dx) (to_z-of_z w64 c.args.dy c.ranges.dy) (to_z-of_z w64 c.args.dz c.ranges.dz) (c.block_of.ensures.refused refusal)

pub returns-clause-record : goal.returns-clause-record
returns-clause-record c = at_sizes (λ x y z. OnOk c.block_of.result.1 (c.block_of.result.0.records ≡ recorded c.args.session (record_of (held c.args.session.machine) (block_operators (held c.args.session.machine) c.args.solid c.args.corner x y z))))
    _ _ _ _ _ _ (to_z-of_z w64 c.args.dx c.ranges.dx) (to_z-of_z w64 c.args.dy c.ranges.dy) (to_z-of_z w64 c.args.dz c.ranges.dz) c.block_of.ensures.record
