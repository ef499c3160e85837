use Rattle.std.proofs.Common.{rules}
use Rattle.solid_listing.proofs.cycle.write_cycle.Goals as goal

pub write_from-requires-clause-least : goal.write_from-requires-clause-least
write_from-requires-clause-least g c = search rules
