use Rattle.convex_laws.proofs.Seen.{round_looks_along}
use Rattle.convex_laws.proofs.round_looks_along.Goals as goal

pub returns : goal.returns
returns c = round_looks_along
