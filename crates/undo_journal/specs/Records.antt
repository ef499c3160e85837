-- What contracts see of a record, and how it is kept.
use Rattle.std.specs.Prelude.{◌≡◌, List, [], ◌∷◌, length, refl}
use Rattle.std.specs.Coded.{Coded, code_by, coded×, coded_list}
use Rattle.euler_operators.specs.contracts.Op as operator
use Rattle.euler_operators.specs.declared.Op.{Op}
use Rattle.undo_journal.specs.declared.record.Steps.{Steps}
use Rattle.undo_journal.specs.declared.record.Steps.TheVariants.{Made, Unmade, Rings, Block, Many}
use Rattle.undo_journal.specs.declared.record.Listed.{Listed}
use Rattle.undo_journal.specs.declared.record.Listed.TheVariants as listed
use Rattle.undo_journal.specs.Blocks.{HasLeft, block_steps}
use Rattle.undo_journal.specs.Rings.{ring_op}
use Rattle.undo_journal.specs.Told.{inverses_of, taken_back}

-- the operators of a command, and those that take it back
pub record Record : Type 0 where
  pub forward : List Op
  pub back : List Op

-- one operator, and its inverse
abbrev pub one_record : Op → Op → Record
one_record op inverse = record { forward = op ∷ []; back = inverse ∷ [] }

abbrev pub coded_record : Coded Record
coded_record = code_by (List Op × List Op) (coded× (coded_list (operator.the_row).coded) (coded_list (operator.the_row).coded)) (λ r. (r.forward, r.back)) (λ t. record { forward = t.0; back = t.1 }) (λ _. refl)

abbrev pub forward_of : Steps → List Op
forward_of (Made op) = op ∷ []
forward_of (Unmade inverse) = inverses_of (inverse ∷ []) []
forward_of (Rings op inverse) = ring_op op ∷ []
forward_of (Block b) = block_steps b
forward_of (Many ops untold) = ops.items

abbrev pub back_of : Steps → List Op
back_of (Made op) = inverses_of (op ∷ []) []
back_of (Unmade inverse) = inverse ∷ []
back_of (Rings op inverse) = ring_op inverse ∷ []
back_of (Block b) = taken_back (block_steps b) []
back_of (Many ops untold) = taken_back ops.items untold.items

-- the numbers that a block takes are left
abbrev pub HaveLeft : Steps → Type 0
HaveLeft (Block b) = HasLeft b
HaveLeft steps = Unit {0}

-- what isn't kept is told
pub record AreWhole (steps : Steps) : Type 0 where
  pub told : length (back_of steps) ≡ length (forward_of steps)
  pub left : HaveLeft steps

-- the operator that a record lends, or that was made from what it keeps
abbrev pub op_of : Listed → Op
op_of (listed.Kept op) = op.now
op_of (listed.Made op) = op
