-- What the parts of a block own and lend, for values of the row R.
use Rattle.std.specs.Prelude.{ℕ, List, [], ◌∷◌, Option}
use base.Fml.{Lft, Fml, ftrue, ffalse}
use mir.Syntax.{Ty}
use denote.RattleType.{RattleType}
use denote.Sharing.{nothing, said}
use denote.RawPtr.{Ptr, block_ptr, null_ptr}
use Rattle.circular_buffer.specs.Ownership as ring

module _ (R : RattleType) where
  -- each place that is filled owns its value, and each empty one owns its memory; a pointer to nowhere has no place
  abbrev pub places_own : Ptr → List (Option R.Denot) → Fml
  places_own (block_ptr b o) cs = ring.cells_own R (block_ptr b o) cs
  places_own null_ptr [] = ftrue
  places_own null_ptr (c ∷ cs) = ffalse

  abbrev pub places_lent : Ptr → List (Option R.Denot) → Lft → Fml
  places_lent (block_ptr b o) cs = ring.cells_lent R (block_ptr b o) cs
  places_lent null_ptr [] = nothing
  places_lent null_ptr (c ∷ cs) = said ffalse

  -- the right to free a block of n places
  abbrev pub deed_owns : (Ty → Ptr → Fml) → Ptr → ℕ → Fml
  deed_owns token p n = ring.deed_owns R token p n
