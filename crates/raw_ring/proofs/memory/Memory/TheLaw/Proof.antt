-- A `&` to the nodes reaches each of them. Assumes `Logic`.
use denote.Struct.Lending.{of_Lends, Lends-first}
use Rattle.raw_ring.proofs.Prelude.{cells_own, cells_lent, deeds_own}
use Rattle.raw_ring.specs.contracts.memory.Memory as C
use Rattle.raw_ring.proofs.memory.Memory.TheLaw.Statement.{statement}
use Rattle.raw_ring.proofs.CellSharing.{cells_lent_laws, Lends-cells}

pub shares : statement
shares = of_Lends C.struct (C.the_codes) C.the_heap C.the_lent
    (λ d p. cells_lent_laws d.cells) tt
    (λ M 𝓤 𝓛 d p. Lends-first 𝓛 (cells_own d.cells) (deeds_own d.deeds) (cells_lent d.cells) C.the_row.lives (Lends-cells 𝓛 C.the_row.lives d.cells))
