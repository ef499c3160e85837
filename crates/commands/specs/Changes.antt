-- What a change, an operator or a larger command, makes of a model.
use Rattle.std.specs.Prelude.{◌≡◌, List, [], ◌∷◌, Option, None}
use Rattle.euler_operators.specs.Common.{first_false, effect}
use Rattle.shapes.specs.Common.{lamina_refusal, lamina_model, block_refusal, block_model, prism_refusal, prism_model, glue_refusal, glue_model, glue_ops, split_refusal, split_model}
use Rattle.euler_operators.specs.declared.Op.{Op}
use Rattle.sweeps_laws.specs.lamina.Path.{lamina_operators}
use Rattle.sweeps_laws.specs.block.BlockOps.{block_operators}
use Rattle.sweeps_laws.specs.prism.SweepOps.{sweep_ops}
use Rattle.plane_split.specs.SplitOps.{split_ops}
use Rattle.gluing.specs.glue_checks.Conditions as gluing
use Rattle.split_checks.specs.begin_checks.Conditions as splitting
use Rattle.plane_split.specs.Machine.{plane_with}
use Rattle.commands.specs.Common.{Change, Model, Refusal}
use Rattle.call_types.specs.declared.command.Change.TheVariants as change

-- the first of its conditions that is false
abbrev pub refusal_of : Model → Change → Option Refusal
refusal_of M (change.Act op) = first_false M op
refusal_of M (change.Lamina n ps) = lamina_refusal M n ps
refusal_of M (change.Block n p dx dy dz) = block_refusal M n p dx dy dz
refusal_of M (change.Sweep f d) = prism_refusal M f d
refusal_of M (change.Glue f g) = glue_refusal M f g
refusal_of M (change.Split n x y z w m) = split_refusal M n (plane_with x y z w) m

-- the model that it makes
abbrev pub made : Model → Change → Model
made M (change.Act op) = effect M op
made M (change.Lamina n ps) = lamina_model M n ps
made M (change.Block n p dx dy dz) = block_model M n p dx dy dz
made M (change.Sweep f d) = prism_model M f d
made M (change.Glue f g) = glue_model M f g
made M (change.Split n x y z w m) = split_model M n (plane_with x y z w) m

-- the operators that it takes, one after the other
abbrev pub operators_of : Model → Change → List Op
operators_of M (change.Act op) = op ∷ []
operators_of M (change.Lamina n ps) = lamina_operators M n ps
operators_of M (change.Block n p dx dy dz) = block_operators M n p dx dy dz
operators_of M (change.Sweep f d) = sweep_ops M f d
operators_of M (change.Glue f g) = glue_ops M f g
operators_of M (change.Split n x y z w m) = split_ops M n (plane_with x y z w) m

-- the first false condition among those that are tested before memory is asked for: for a glue and a split those up to NotFlat, for others
-- all
abbrev pub early_refusal_of : Model → Change → Option Refusal
early_refusal_of M (change.Glue f g) = gluing.early_refusal M f g
early_refusal_of M (change.Split n x y z w m) = splitting.early_refusal M n (plane_with x y z w) m
early_refusal_of M c = refusal_of M c

-- memory may be refused to the change only if none of these conditions is false
abbrev pub MayLack : Model → Change → Type 0
MayLack M c = early_refusal_of M c ≡ None
