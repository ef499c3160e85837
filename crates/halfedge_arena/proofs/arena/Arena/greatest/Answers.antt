use Rattle.halfedge_arena.proofs.Prelude.{solid_row, face_row, loop_row, greatest_row, greatest_edge}
use Rattle.halfedge_arena.proofs.arena.Arena.greatest.Goals as goal

pub returns-in-Solid : goal.returns-in-Solid
returns-in-Solid c = rw (c.in-Solid.is, ← c.self.view_is) (record { used = (greatest_row solid_row _ _ c.last.ensures).here; above = (greatest_row solid_row _ _ c.last.ensures).above })

pub returns-in-Face : goal.returns-in-Face
returns-in-Face c = rw (c.in-Face.is, ← c.self.view_is) (record { used = (greatest_row face_row _ _ c.last-in-Face.ensures).here; above = (greatest_row face_row _ _ c.last-in-Face.ensures).above })

pub returns-in-Loop : goal.returns-in-Loop
returns-in-Loop c = rw (c.in-Loop.is, ← c.self.view_is) (record { used = (greatest_row (loop_row _) _ _ c.last-in-Loop.ensures).here; above = (greatest_row (loop_row _) _ _ c.last-in-Loop.ensures).above })

pub returns-in-Edge : goal.returns-in-Edge
returns-in-Edge c = rw (c.in-Edge.is, ← c.self.view_is) (record { used = (greatest_edge _ c.self.invariant.tied.rings _ c.last_edge.ensures).here; above = (greatest_edge _ c.self.invariant.tied.rings _ c.last_edge.ensures).above })

pub returns-in-Vertex : goal.returns-in-Vertex
returns-in-Vertex c = rw (c.in-Vertex.is, ← c.self.view_is) (record { used = (greatest_row (λ p. p) _ _ c.last-in-Vertex.ensures).here; above = (greatest_row (λ p. p) _ _ c.last-in-Vertex.ensures).above })
