-- How the fields of cells agree.
use Rattle.std.specs.Prelude.{◌≡◌, ℕ, ◌<◌, List, [], length, Option, Some, None}
use denote.RawPtr.{Ptr}
use Rattle.std.specs.declared.alloc.Global.{Global}
use Rattle.raw_cells.specs.declared.block.Base.{Base}
use Rattle.raw_cells.specs.declared.block.Places.{Places}
use Rattle.raw_cells.specs.declared.block.Deed.{Deed}

-- if there are places, there is the right to free their block; else there is no such right
abbrev pub HasDeed : {X : Type 0} → Global → Ptr → List (Option X) → Option (Deed X Global) → Type 0
HasDeed alloc at slots None = slots ≡ []
HasDeed alloc at slots (Some deed) = (0 < length slots) × (deed.at ≡ at) × (deed.len ≡ length slots) × (deed.alloc ≡ alloc)

pub record IsBlock {X : Type 0} (alloc : Global) (base : Base X) (count : ℕ) (places : Places X) (deed : Option (Deed X Global)) : Type 0 where
  pub at : places.at ≡ base.ptr
  pub counted : length places.slots ≡ count
  pub freed : HasDeed alloc base.ptr places.slots deed
