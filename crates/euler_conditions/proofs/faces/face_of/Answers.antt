use Rattle.std.proofs.Common.{ap, ◌∙◌}
use Rattle.euler_operators.specs.Table as table
use Rattle.euler_conditions.proofs.faces.face_of.Goals as goal

pub returns-clause-there : goal.returns-clause-there
returns-clause-there c =
    ap (table.has c.args.arena.now.model.faces) c.face_of.ensures ∙ c.requires.ready.sound.loops_of_faces c.args.l c.requires.there
