use Rattle.block_machining.proofs.Prelude.{◌≡◌, ap, sym, subst, ◌∙◌, refl, rules, Has, six_volume, held, undo, bar, joined_again, parted}
use Rattle.block_machining.proofs.Computed.{bar_there, bar_whole, undo_is_open}
use Rattle.block_machining.proofs.joined_again.Goals as goal

pub unwrap-requires : goal.unwrap-requires
unwrap-requires c = rw (c.undo.ensures.refused, c.in_ok-session.ensures.made, undo_is_open)

pub returns-clause-made : goal.returns-clause-made
unfolding joined_again
returns-clause-made c =
    let undone : c.undo.new.self.machine ≡ undo c.in_ok-session.session.machine = search rules in
    undone ∙ ap undo c.in_ok-session.ensures.made

-- a split puts one model in front of those behind, and an undo takes it back
bar_again : held joined_again ≡ held bar
unfolding joined_again parted
bar_again = refl

pub returns-clause-again : goal.returns-clause-again
returns-clause-again c = ap held (returns-clause-made c) ∙ bar_again

pub returns-clause-there : goal.returns-clause-there
returns-clause-there c = subst (λ M. Has M.solids 1) (sym (returns-clause-again c)) bar_there

pub returns-clause-whole : goal.returns-clause-whole
returns-clause-whole c = ap (λ M. six_volume M 1) (returns-clause-again c) ∙ bar_whole
