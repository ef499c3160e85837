use Rattle.command_laws.proofs.Standing.{faces_stand}
use Rattle.command_laws.proofs.frames.faces_stand.Goals as goal

pub returns : goal.returns
returns c = faces_stand
