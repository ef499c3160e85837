use Rattle.script_laws.proofs.Replies.{replies_tell}
use Rattle.script_laws.proofs.Numbers.{refusals_tell, faults_tell}
use Rattle.script_laws.proofs.replies_tell.Goals as goal

pub returns : goal.returns
returns c = record { replies = replies_tell; refusals = refusals_tell; faults = faults_tell }
