-- The operators of a block: those of its base, and then those of the sweep.
use Rattle.sweeps_laws.proofs.Prelude.{◌≡◌, ℕ, ℤ, pos, None, Point, Model, Sound, Leads, leads_on, lamina_refusal, lamina_model, lamina_face, prism_refusal, prism_model, vector, base_of, block_refusal, block_model, lamina_operators, sweep_ops}
use Rattle.sweeps_laws.specs.block.BlockOps.{block_operators}
use Rattle.sweeps_laws.specs.block.Laws.{BlocksAreAccepted, OperatorsMakeBlocks, BlocksAreSound}
use Rattle.sweeps_laws.proofs.lamina.Walk.{operators_are_accepted, operators_make_lamina, lamina_is_sound}
use Rattle.sweeps_laws.proofs.lamina.Blocks.{blocks_have_bases, bases_rise}
use Rattle.sweeps_laws.proofs.prism.Accepted.{sweep_accepted, sweep_is_prism, prism_sound}

module _ (M : Model) (s : ℕ) (p : Point) (dx dy dz : ℤ) (sound : Sound M) (e : block_refusal M s p dx dy dz ≡ None) where
  abbrev pub base : Model
  base = lamina_model M s (base_of p dx dy)

  abbrev pub up : Point
  up = vector (pos 0) (pos 0) dz

  pub goes : lamina_refusal M s (base_of p dx dy) ≡ None
  goes = blocks_have_bases M s p dx dy dz e

  pub base_sound : Sound base
  base_sound = lamina_is_sound M s (base_of p dx dy) sound goes

  pub rise : prism_refusal base (lamina_face M) up ≡ None
  rise = bases_rise M s p dx dy dz sound e

  led : Leads M (block_model M s p dx dy dz) (block_operators M s p dx dy dz)
  unfolding block_operators block_model
  led = leads_on M base (prism_model base (lamina_face M) up) (lamina_operators M s (base_of p dx dy)) (sweep_ops base (lamina_face M) up)
      (record { accepted = operators_are_accepted M s (base_of p dx dy) sound goes; made = operators_make_lamina M s (base_of p dx dy) sound goes })
      (record { accepted = sweep_accepted base (lamina_face M) up base_sound rise; made = sweep_is_prism base (lamina_face M) up base_sound rise })

  pub block_sound : Sound (block_model M s p dx dy dz)
  unfolding block_model
  block_sound = prism_sound base (lamina_face M) up base_sound rise

pub blocks_are_accepted : BlocksAreAccepted
blocks_are_accepted M s p dx dy dz sound e = (led M s p dx dy dz sound e).accepted

pub operators_make_blocks : OperatorsMakeBlocks
operators_make_blocks M s p dx dy dz sound e = (led M s p dx dy dz sound e).made

pub blocks_are_sound : BlocksAreSound
blocks_are_sound = block_sound
