use Rattle.script_laws.proofs.Written.{block_lines_spell, split_lines_spell, volume_lines_spell}
use Rattle.script_laws.proofs.lines_spell.Goals as goal

pub returns : goal.returns
returns c = record { block = block_lines_spell; split = split_lines_spell; volume = volume_lines_spell }
