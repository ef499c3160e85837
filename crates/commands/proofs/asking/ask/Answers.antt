use Rattle.commands.proofs.asking.ask.Goals as goal

pub returns-in-Count : goal.returns-in-Count
returns-in-Count c = cc
