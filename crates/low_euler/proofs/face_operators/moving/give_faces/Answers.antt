use Rattle.low_euler.proofs.Prelude.{sym, ap, ◌∙◌, ◌<◌, length, take, arith, Store, set_solid, lists, listed_at}
use Rattle.euler_operators.specs.Table as table
use Rattle.low_euler.proofs.face_operators_laws.Handing.{step, has_given}
use Rattle.low_euler.proofs.face_operators.moving.give_faces.Goals as goal

pub set_solid-requires-clause-there : goal.set_solid-requires-clause-there
set_solid-requires-clause-there c =
    let within : c.faces.i < length c.args.faces.now = omega arith in
    ap (λ (s : Store). table.has s.model.faces c.get.result) c.faces.invariant
    ∙ has_given c.args.arena.now.model.faces (take c.faces.i c.args.faces.now) c.args.s c.get.result
    ∙ c.requires.there c.get.result (ap (lists c.args.faces.now) c.get.ensures ∙ listed_at c.args.faces.now c.faces.i within)

pub faces-preserved : goal.faces-preserved
faces-preserved c =
    let within : c.faces.i < length c.args.faces.now = omega arith in
    c.set_solid.ensures ∙ ap (λ (s : Store). set_solid s c.get.result c.args.s) c.faces.invariant
    ∙ step c.args.arena.now c.args.faces.now c.faces.i c.args.s c.get.result within (sym c.get.ensures)
    (c.requires.there c.get.result (ap (lists c.args.faces.now) c.get.ensures ∙ listed_at c.args.faces.now c.faces.i within))
