use Rattle.euler_laws.proofs.Cases.{inverse_goes, inverse_undoes}
use Rattle.euler_laws.proofs.inverses_undo.Goals as goal

pub returns : goal.returns
returns c = record { accepted = inverse_goes; undone = inverse_undoes }
