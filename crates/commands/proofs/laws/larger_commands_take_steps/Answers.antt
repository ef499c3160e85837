use Rattle.commands.proofs.Steps.{laminas_take_steps, blocks_take_steps, sweeps_take_steps, glues_take_steps}
use Rattle.commands.proofs.SplitSteps.{splits_take_steps}
use Rattle.commands.proofs.laws.larger_commands_take_steps.Goals as goal

pub returns : goal.returns
returns c = record { lamina = laminas_take_steps; block = blocks_take_steps; sweep = sweeps_take_steps; glue = glues_take_steps; split = splits_take_steps }
