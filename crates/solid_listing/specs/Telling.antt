-- What listings tell.
use Rattle.std.specs.Prelude.{◌≡◌, ◌↔◌}
use Rattle.euler_operators.specs.Common.{Model, Sound}
use Rattle.solid_listing.specs.Listing.{listing}

-- two sound models have equal listings exactly if they are equal
abbrev pub ListingTells : Type 0
ListingTells = (M N : Model) → Sound M → Sound N → (listing M ≡ listing N) ↔ (M ≡ N)
