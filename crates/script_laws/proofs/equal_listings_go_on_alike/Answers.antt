use Rattle.script_laws.proofs.Listed.{equal_listings}
use Rattle.script_laws.proofs.equal_listings_go_on_alike.Goals as goal

pub returns : goal.returns
returns c = let lines = c.lines_are_calls.ensures in equal_listings lines.lead lines.consistent c.listing_tells.ensures
