use Rattle.std.proofs.Common.{sym, ◌∙◌}
use Rattle.split_sections.proofs.section_edges_laws.Normals.{answered_limited, not_refused}
use Rattle.split_sections.proofs.section_edges.above.points_along.Goals as goal

pub dot-requires-clause-vector : goal.dot-requires-clause-vector
dot-requires-clause-vector c = answered_limited c.args.arena.now.model c.requires.ready.sound c.args.f c.requires.there c.in-Ok.across (sym c.in-Ok.is ∙ c.normal.ensures)

pub unreachable-requires : goal.unreachable-requires
unreachable-requires c = not_refused c.args.arena.now.model c.requires.ready.sound c.args.f c.requires.there c.in-Err.field-0 (sym c.in-Err.is ∙ c.normal.ensures)
