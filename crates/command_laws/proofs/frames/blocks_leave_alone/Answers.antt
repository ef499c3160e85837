use Rattle.command_laws.proofs.DrawnAlone.{block_keeps_owners, block_keeps_loops, block_keeps_edges, block_keeps_points, block_keeps_shapes}
use Rattle.command_laws.proofs.frames.blocks_leave_alone.Goals as goal

pub returns : goal.returns
returns c = record { owners = block_keeps_owners; loops = block_keeps_loops; edges = block_keeps_edges; points = block_keeps_points; shapes = block_keeps_shapes }
