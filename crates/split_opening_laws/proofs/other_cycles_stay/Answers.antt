use Rattle.split_opening_laws.proofs.sections.StillBetween.{cycles_stay}
use Rattle.split_opening_laws.proofs.sections.StillFree.{still_free}
use Rattle.split_opening_laws.proofs.other_cycles_stay.Goals as goal

pub returns : goal.returns
returns c = record { cycles = cycles_stay; numbers = still_free }
