use Rattle.split_laws.proofs.Openings.{openings_go}
use Rattle.split_laws.proofs.sections_open_in_turn.Goals as goal

pub returns : goal.returns
returns c = record { accepted = λ above s p o cs w. (openings_go above s p o cs w).accepted; made = λ above s p o cs w. (openings_go above s p o cs w).made }
