use Rattle.std.specs.Prelude.{take}
use Rattle.raw_ring.proofs.Prelude.{◌≡◌, [], ◌++◌, ◌-◌, ap, ◌∙◌, drop}
use Rattle.raw_ring.proofs.Blocks.{newest, none_left}
use Rattle.raw_ring.proofs.nodes.free_blocks.Goals as goal

pub take-requires : goal.take-requires
take-requires c = (c.blocks-2.invariant.0, _, newest _ _ _ _ c.blocks-2.invariant.1 c.in-Some.ensures.items)

pub blocks-2-preserved : goal.blocks-2-preserved
blocks-2-preserved c = (c.take.ensures.0, c.take.ensures.1 ∙ ap (drop 1) (newest _ _ _ _ c.blocks-2.invariant.1 c.in-Some.ensures.items))

pub close-requires : goal.close-requires
close-requires c =
    let popped = c.in_default.ensures in
    let none : c.pop.new.self.items ≡ [] = popped.rest ∙ ap (λ k. take (k - 1) c.blocks-2.blocks.items) popped.cases.0 in
    none_left _ _ _ c.blocks-2.invariant.0 c.blocks-2.invariant.1 (popped.items ∙ ap (λ bs. bs ++ []) none)
