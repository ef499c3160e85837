use Rattle.low_euler.proofs.Prelude.{ap, sym, refl, is_some, true≢false, ◌∙◌, outer, items_of, content, is_lone, lone_vertex, Store, take_vertex, take_loop, take_face, take_solid}
use Rattle.euler_operators.specs.Table as table
use Rattle.low_euler.proofs.vertex_operators_laws.SolidRows as rows
use Rattle.low_euler.proofs.steps_laws.LoopsApart.{content-same}
use Rattle.low_euler.proofs.vertex_operators.solids.kvfs.Goals as goal

pub outer-outer-requires : goal.outer-outer-requires
outer-outer-requires c = (rows.goes _ _ _ c.requires.ready c.requires.holds (sym c.only_face.ensures ∙ c.in-Some.is)).f_there

pub lone_vertex-vertex-requires-clause-lone : goal.lone_vertex-vertex-requires-clause-lone
lone_vertex-vertex-requires-clause-lone c = ap (λ l. is_lone (content c.args.arena.now.model l)) c.outer-outer.ensures ∙ ap is_lone (rows.goes _ _ _ c.requires.ready c.requires.holds (sym c.only_face.ensures ∙ c.in-Some.is)).is_bare

pub take_loop-requires-clause-bare : goal.take_loop-requires-clause-bare
take_loop-requires-clause-bare c =
    ap (λ (t : Store). items_of (content t.model c.outer-outer.result)) c.take_vertex.ensures
    ∙ ap items_of (content-same c.args.arena.now.model (take_vertex c.args.arena.now c.lone_vertex-vertex.result).model refl c.outer-outer.result)
    ∙ ap (λ l. items_of (content c.args.arena.now.model l)) c.outer-outer.ensures ∙ ap items_of (rows.goes _ _ _ c.requires.ready c.requires.holds (sym c.only_face.ensures ∙ c.in-Some.is)).is_bare

pub take_face-requires : goal.take_face-requires
take_face-requires c = ap (λ (t : Store). table.has t.model.faces c.in-Some.face) (c.take_loop.ensures ∙ ap (λ t. take_loop t c.outer-outer.result) c.take_vertex.ensures) ∙ (rows.goes _ _ _ c.requires.ready c.requires.holds (sym c.only_face.ensures ∙ c.in-Some.is)).f_there

pub take_solid-requires : goal.take_solid-requires
take_solid-requires c = ap (λ (t : Store). table.has t.model.solids c.args.solid) (c.take_face.ensures ∙ ap (λ t. take_face t c.in-Some.face) (c.take_loop.ensures ∙ ap (λ t. take_loop t c.outer-outer.result) c.take_vertex.ensures)) ∙ (rows.goes _ _ _ c.requires.ready c.requires.holds (sym c.only_face.ensures ∙ c.in-Some.is)).s_there

pub unreachable-requires : goal.unreachable-requires
unreachable-requires c = true≢false (sym (rows.has_one_face c.args.arena.now.model c.args.solid c.requires.holds) ∙ ap is_some (sym c.only_face.ensures ∙ c.in_default.is))

pub returns : goal.returns
returns c =
    let vertex = c.lone_vertex-vertex.ensures ∙ ap (λ l. lone_vertex (content c.args.arena.now.model l)) c.outer-outer.ensures in
    c.take_solid.ensures
    ∙ ap (λ t. take_solid t c.args.solid) (c.take_face.ensures ∙ ap (λ t. take_face t c.in-Some.face) (c.take_loop.ensures ∙ ap (λ t. take_loop t c.outer-outer.result) c.take_vertex.ensures))
    ∙ ap (λ l. take_solid (take_face (take_loop (take_vertex c.args.arena.now c.lone_vertex-vertex.result) l) c.in-Some.face) c.args.solid) c.outer-outer.ensures
    ∙ ap (λ v. take_solid (take_face (take_loop (take_vertex c.args.arena.now v) (outer c.args.arena.now.model c.in-Some.face)) c.in-Some.face) c.args.solid) vertex
    ∙ rows.kvfs_made _ _ _ c.requires.ready c.requires.holds (sym c.only_face.ensures ∙ c.in-Some.is)
