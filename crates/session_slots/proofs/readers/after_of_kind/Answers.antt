use Rattle.std.proofs.Common.{refl}
use Rattle.session_slots.proofs.Numbers.{next_held}
use Rattle.session_slots.proofs.readers.after_of_kind.Goals as goal

pub returns : goal.returns
returns c = next_held c.args.arena.now _ refl c.args.kind c.args.last c.after_number.result c.after_number.ensures
