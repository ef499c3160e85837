use Rattle.halfedge_arena.proofs.Prelude.{spot, has_row, solid_row, face_row, loop_row, is_edge, edge_has, has_is, next_number}
use Rattle.boundary_model.specs.declared.Kind.TheVariants.{Solid, Face, Loop, Edge, Vertex}
use Rattle.halfedge_arena.proofs.arena.Arena.after_number.Goals as goal

pub returns-in-Solid : goal.returns-in-Solid
returns-in-Solid c = rw (c.in-Solid.is) (next_number c.args.self.now Solid (has_row c.self.inside.solids) (λ k. rw (← c.self.view_is) (has_is solid_row _ k)) _ _ c.after.ensures)

pub returns-in-Face : goal.returns-in-Face
returns-in-Face c = rw (c.in-Face.is) (next_number c.args.self.now Face (has_row c.self.inside.faces) (λ k. rw (← c.self.view_is) (has_is face_row _ k)) _ _ c.after-in-Face.ensures)

pub returns-in-Loop : goal.returns-in-Loop
returns-in-Loop c = rw (c.in-Loop.is) (next_number c.args.self.now Loop (has_row c.self.inside.loops) (λ k. rw (← c.self.view_is) (has_is (loop_row _) _ k)) _ _ c.after-in-Loop.ensures)

pub returns-in-Edge : goal.returns-in-Edge
returns-in-Edge c = rw (c.in-Edge.is) (next_number c.args.self.now Edge (is_edge (spot c.self.inside.rings)) (λ k. rw (← c.self.view_is) (edge_has _ c.self.invariant.tied.rings k)) _ _ c.edge_after.ensures)

pub returns-in-Vertex : goal.returns-in-Vertex
returns-in-Vertex c = rw (c.in-Vertex.is) (next_number c.args.self.now Vertex (has_row c.self.inside.vertices) (λ k. rw (← c.self.view_is) (has_is (λ p. p) _ k)) _ _ c.after-in-Vertex.ensures)
