use Rattle.euler_conditions.proofs.Known.{filled}
use Rattle.session_slots.proofs.readers.lone_at.Goals as goal

pub content-requires-clause-filled : goal.content-requires-clause-filled
content-requires-clause-filled c = filled c.args.arena.now.model c.requires.ready.sound c.args.l c.requires.there
