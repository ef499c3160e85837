-- A block in the place of its steps.
use Rattle.undo_journal.proofs.Prelude.{refl, subst, sym, ◌∙◌, ◌≡◌, ℕ, ◌<◌, List, [], get_or, length, Op, taken_back, block_steps}
use Rattle.std.proofs.lemmas.List.{get_or_default}
use Rattle.undo_journal.specs.Blocks.{step_at}
use Rattle.undo_journal.specs.declared.blocks.Block.{Block}

-- each of a block's steps tells its inverse, so that none that was kept is taken
pub none_kept : (b : Block) (steps untold : List Op) → block_steps b ≡ steps → taken_back (block_steps b) [] ≡ taken_back steps untold
none_kept b steps untold is = subst (λ (ops : List Op). taken_back (block_steps b) [] ≡ taken_back ops untold) is refl

-- the operator that was read from a list is the one at its place
pub read_is : (ops : List Op) (i : ℕ) (o p : Op) → o ≡ get_or ops i o → i < length ops → o ≡ p → step_at ops i ≡ p
read_is ops i o p is within same = get_or_default ops i _ o within ∙ sym is ∙ same
