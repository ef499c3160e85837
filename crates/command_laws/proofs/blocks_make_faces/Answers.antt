use Rattle.command_laws.proofs.BlockFaces.{block_has_top_and_bottom, block_has_four_sides, block_takes_six_faces}
use Rattle.command_laws.proofs.blocks_make_faces.Goals as goal

pub returns : goal.returns
returns c = record { ends = block_has_top_and_bottom; sides = block_has_four_sides; taken = block_takes_six_faces }
