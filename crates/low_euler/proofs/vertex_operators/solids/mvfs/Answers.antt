use Rattle.low_euler.proofs.Prelude.{is_some, ap, ◌∙◌, items_of, content, Store, put_solid, put_loop, with_lone, mvfs_goes}
use Rattle.euler_operators.specs.Table as table
use Rattle.low_euler.proofs.vertex_operators_laws.SolidRows.{was_begun, new_loop_there, new_loop_bare, mvfs_made}
use Rattle.low_euler.proofs.vertex_operators.solids.mvfs.Goals as goal

pub put_face-requires-clause-free : goal.put_face-requires-clause-free
put_face-requires-clause-free c =
    ap (λ (t : Store). table.has t.model.faces c.args.face) (c.put_solid.ensures ∙ ap (λ t. put_solid t c.args.solid) c.put_vertex.ensures) ∙ ap is_some (mvfs_goes _ _ _ _ _ _ c.requires.holds).face_free

pub set_lone-requires : goal.set_lone-requires
set_lone-requires c =
    let e = c.put_loop.ensures ∙ ap (λ t. put_loop t c.args.outer c.args.face) (was_begun _ _ _ _ _ _ _ _ _ c.put_vertex.ensures c.put_solid.ensures c.put_face.ensures) in
    record {
      there = ap (λ (t : Store). table.has t.model.loops c.args.outer) e ∙ new_loop_there _ _ _ _ _ _;
      bare = ap (λ (t : Store). items_of (content t.model c.args.outer)) e ∙ new_loop_bare _ _ _ _ _ _;
    }

pub returns : goal.returns
returns c =
    let e = c.put_loop.ensures ∙ ap (λ t. put_loop t c.args.outer c.args.face) (was_begun _ _ _ _ _ _ _ _ _ c.put_vertex.ensures c.put_solid.ensures c.put_face.ensures) in
    c.set_lone.ensures ∙ ap (λ t. with_lone t c.args.outer c.args.vertex) e ∙ mvfs_made _ _ _ _ _ _
