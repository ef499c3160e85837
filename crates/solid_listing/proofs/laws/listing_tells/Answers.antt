use Rattle.std.proofs.Common.{ap}
use Rattle.solid_listing.specs.Listing.{listing}
use Rattle.solid_listing.proofs.Tells.{listing_told}
use Rattle.solid_listing.proofs.laws.listing_tells.Goals as goal

pub returns : goal.returns
returns c = λ M N one two. (λ e. listing_told M N one two e, λ e. ap listing e)
