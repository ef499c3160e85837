use Rattle.std.proofs.Common.{rules}
use Rattle.solid_listing.proofs.told.tell.Goals as goal

pub returns-in-Refused : goal.returns-in-Refused
returns-in-Refused g c = search rules
