use Rattle.low_euler.proofs.Prelude.{is_some, true≢false, sym, ap, ◌∙◌, content, is_lone}
use Rattle.euler_operators.specs.Table as table
use Rattle.low_euler.proofs.vertex_operators_laws.SolidRows as rows
use Rattle.low_euler.proofs.Inverses.{kvfs_inverse}
use Rattle.low_euler.proofs.inverse.kvfs.Goals as goal

pub unreachable-requires : goal.unreachable-requires
unreachable-requires c = true≢false (sym (rows.has_one_face c.args.arena.now.model c.args.solid c.requires.accepted) ∙ ap is_some (sym c.only_face.ensures ∙ c.in_default.is))

pub outer-outer-requires : goal.outer-outer-requires
outer-outer-requires c = (rows.goes _ _ _ c.requires.ready c.requires.accepted (sym c.only_face.ensures ∙ c.in-Some.is)).f_there

pub lone_vertex-vertex-requires-clause-lone : goal.lone_vertex-vertex-requires-clause-lone
lone_vertex-vertex-requires-clause-lone c =
    ap (λ l. is_lone (content c.args.arena.now.model l)) c.outer-outer.ensures ∙ ap is_lone (rows.goes _ _ _ c.requires.ready c.requires.accepted (sym c.only_face.ensures ∙ c.in-Some.is)).is_bare

pub in_use-requires : goal.in_use-requires
in_use-requires c = (rows.goes _ _ _ c.requires.ready c.requires.accepted (sym c.only_face.ensures ∙ c.in-Some.is)).s_there

pub returns-clause-is : goal.returns-clause-is
returns-clause-is c =
    kvfs_inverse c.args.arena.now.model c.args.solid c.in-Some.face c.outer-outer.result c.lone_vertex-vertex.result c.point-point.result (sym c.only_face.ensures ∙ c.in-Some.is) c.outer-outer.ensures c.lone_vertex-vertex.ensures c.point-point.ensures.point
