use Rattle.split_laws.proofs.sides.Sides.{begun_sided, openings_sided, parts_sided}
use Rattle.split_laws.proofs.parts_lie_on_their_sides.Goals as goal

pub returns : goal.returns
returns c = record { drawn = begun_sided; opened = openings_sided; parts = parts_sided }
