use Rattle.convex_laws.proofs.Built.{built_are_convex, built_have_volume}
use Rattle.convex_laws.proofs.built_are_convex.Goals as goal

pub returns : goal.returns
returns c = record { solids = built_are_convex; volumes = built_have_volume }
