use Rattle.command_laws.proofs.LyingFlat.{faces_lie_flat, planar_lie_flat, sides_lie_flat, far_faces_lie_flat}
use Rattle.command_laws.proofs.BlockFlat.{blocks_lie_flat, block_keeps_flat}
use Rattle.command_laws.proofs.GlueFlat.{glues_lie_flat, glue_keeps_flat}
use Rattle.command_laws.proofs.flat.faces_lie_flat.Goals as goal

pub returns : goal.returns
returns c = record { corners = faces_lie_flat; planar = planar_lie_flat; sides = sides_lie_flat; far = far_faces_lie_flat; block = blocks_lie_flat; kept = block_keeps_flat; glued = glues_lie_flat; beside = glue_keeps_flat }
