-- A `&` to the places is made where one to an item is. Assumes `Logic`.
use Rattle.std.specs.Prelude.{List, [], ◌∷◌, Option}
use seplogic.Ra.Ura.{Ura}
use base.Fml.{Lft, Incl, ftrue, ffalse}
use types.Logic.{Logic}
use denote.RattleType.{RattleType, RowLaws}
use denote.Param.Laws.{Laws}
use denote.RawPtr.{Ptr, block_ptr, null_ptr}
use denote.Sharing.{ShrLaws, said}
use denote.SharingLaws.{nothing_shr_laws, said_shr_laws}
use denote.Struct.Lending.{Lends, Lends-nothing, Lends-false}
use Rattle.circular_buffer.proofs.Sharing.{cells_lent_laws, Lends-cells}
use Rattle.raw_cells.specs.Ownership.{places_own, places_lent}

pub places_lent_laws : (R : RattleType) (L : RowLaws R) (p : Ptr) (cs : List (Option R.Denot)) → ShrLaws (places_lent R p cs)
places_lent_laws R L (block_ptr b o) cs = cells_lent_laws R L (block_ptr b o) cs
places_lent_laws R L null_ptr [] = nothing_shr_laws
places_lent_laws R L null_ptr (c ∷ cs) = said_shr_laws ffalse tt

module _ {M : Type 1} {𝓤 : Ura M} (𝓛 : Logic 𝓤) (l : Lft) (R : RattleType) (L : Laws R) (inc : Incl l R.lives) where
  pub Lends-places : (p : Ptr) (cs : List (Option R.Denot)) → Lends 𝓛 (places_own R p cs) (places_lent R p cs) l
  Lends-places (block_ptr b o) cs = Lends-cells 𝓛 l R L inc (block_ptr b o) cs
  Lends-places null_ptr [] = Lends-nothing 𝓛 ftrue l
  Lends-places null_ptr (c ∷ cs) = Lends-false 𝓛 (said ffalse) l
