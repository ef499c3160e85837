use Rattle.script_running.proofs.Cuts.{IsRing-cut, IsRing-join}
use Rattle.script_running.proofs.Leads.{IsRing-splice_other}
use Rattle.promises.proofs.splices_cut_and_join.Goals as goal

pub returns : goal.returns
returns c = record { cut = IsRing-cut; join = IsRing-join; others = IsRing-splice_other }
