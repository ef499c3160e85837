use Rattle.low_euler.proofs.Prelude.{ap, ◌∙◌, Store, effect, part, moved, part_goes}
use Rattle.euler_operators.specs.Table as table
use Rattle.low_euler.proofs.face_operators.moving.part.Goals as goal

pub give_faces-requires-clause-there : goal.give_faces-requires-clause-there
give_faces-requires-clause-there c = λ f l.
    ap (λ (s : Store). table.has s.model.faces f) c.put_solid.ensures ∙ ((part_goes c.args.arena.now.model c.args.kept c.args.made c.args.faces.now c.requires.ready.sound c.requires.holds).each f l).0

pub returns : goal.returns
unfolding effect part
returns c = c.give_faces.ensures ∙ ap (λ (s : Store). moved s c.args.faces.now c.args.made) c.put_solid.ensures
