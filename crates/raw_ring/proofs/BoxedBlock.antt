-- A box of a block of nodes, as a value that is passed. Assumes nothing: these are definitions.
use Rattle.raw_ring.proofs.Prelude.{[], ◌∷◌, refl, Al, ghosts, dict, Block}
use base.Fml.{ftrue}
use mir.Syntax.{Dict, impl, tcons, tnil, dnil}
use denote.RattleType.{RattleType}
use mir.Raw.{raw}
use denote.Exit.{no}
use denote.Param.{arg, layout}
use denote.Param.Laws.{Laws, arg_laws, array_laws}
use Rattle.std.specs.contracts.alloc.Global.{the_row as Z}
use Rattle.std.proofs.alloc.Global.TheLaws.{the_row_laws as LZ}
use Rattle.std.specs.contracts.boxed.Box as box
use Rattle.std.proofs.boxed.Box.TheLaws as laws
use Rattle.raw_ring.specs.contracts.node.Node.{the_row}
use Rattle.raw_ring.proofs.node.Node.TheLaws.{the_row_laws}

pub block_laws : Laws Block
block_laws = array_laws the_row the_row_laws 64

abbrev pub block_box : RattleType
block_box = box.the_row Block Z ghosts

-- a type as it is passed for a parameter, and its laws
abbrev pub passed : RattleType → RattleType
passed X = arg (raw (layout X)) no X

abbrev pub passed_block : RattleType
passed_block = passed Block

abbrev pub passed_heap : RattleType
passed_heap = passed Z

pub passed_block_laws : Laws passed_block
passed_block_laws = arg_laws (raw (layout Block)) no Block block_laws refl

pub passed_heap_laws : Laws passed_heap
passed_heap_laws = arg_laws (raw (layout Z)) no Z LZ refl

-- the drop of a type that has none
abbrev pub no_drop : RattleType → Dict
no_drop X = impl ("raw_ring::Destruct++none::drop" ∷ []) (tcons (layout X) tnil) dnil

abbrev pub heap : Al
heap = record { row = Z; laws = LZ; g = ghosts; d = dict; drops = no_drop Z }

-- the box as a handle, so that `handle_tells` says how its value is stored
abbrev pub boxed : Al
boxed = record { row = block_box; laws = laws.the_row_laws Block Z ghosts block_laws LZ; g = record { dealloc_token = λ b τ p. ftrue }; d = dict; drops = no_drop block_box }
