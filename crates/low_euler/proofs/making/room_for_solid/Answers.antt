use Rattle.std.specs.Prelude.{[], ◌∷◌}
use Rattle.low_euler.proofs.Prelude.{Solid, Face, Loop, Vertex}
use Rattle.low_euler.proofs.Made.{makes_more}
use Rattle.low_euler.proofs.making.room_for_solid.Goals as goal

pub returns : goal.returns
returns c =
    makes_more _ _ _ _ (Solid, c.args.solid) ((Face, c.args.face) ∷ (Loop, c.args.outer) ∷ (Vertex, c.args.vertex) ∷ [])
    c.in_ok-room_for_one.ensures.grown c.in_ok-room_for_one.ensures.ok c.room_for_three.ensures
