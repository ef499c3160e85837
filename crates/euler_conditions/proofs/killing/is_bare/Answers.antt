use Rattle.std.proofs.Common.{ap, ◌∙◌, sym}
use Rattle.euler_operators.specs.Table as table
use Rattle.euler_conditions.proofs.Solids.{only_face_there}
use Rattle.euler_conditions.proofs.killing.is_bare.Goals as goal

pub is_lone-requires-clause-there : goal.is_lone-requires-clause-there
is_lone-requires-clause-there c =
    let M = c.args.arena.now.model in
    ap (table.has M.loops) c.outer.ensures ∙ (c.requires.ready.sound.outers_there c.in-Some.face (only_face_there M c.args.solid c.in-Some.face (sym c.in-Some.ensures))).0
