use Rattle.std.proofs.Common.{ℕ, ◌<◌, ◌∙◌, subst}
use Rattle.raw_cells.proofs.cells.Cells.drop.Goals as goal

pub deallocate-requires : goal.deallocate-requires
deallocate-requires g c =
    let block = c.self.invariant in let freed = rw c.in-Some.is at block.freed in
    (subst (λ (n : ℕ). 0 < n) block.counted freed.0, block.at, block.counted, freed.1, freed.2 ∙ block.counted, freed.3)
