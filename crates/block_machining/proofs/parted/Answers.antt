use Rattle.block_machining.proofs.Prelude.{sym, ap, subst, ◌∙◌, arith, split, split_refusal, six_volume, held, HasSolids, cut_plane, parted}
use Rattle.block_machining.proofs.Known.{never_refused}
use Rattle.block_machining.proofs.Computed.{cut_accepted, far_is, near_is, parted_there}
use Rattle.block_machining.proofs.parted.Goals as goal

-- no law tells that the cut is accepted, so it is computed
pub but_for_memory-requires : goal.but_for_memory-requires
but_for_memory-requires c refusal is =
    never_refused (λ m. split_refusal m 1 cut_plane 2) c.in_ok-session.ensures.made cut_accepted refusal (c.split-session.ensures.refused refusal is)

pub returns-clause-made : goal.returns-clause-made
unfolding parted
returns-clause-made c = (rw c.in_ok-but_for_memory.ensures at c.split-session.ensures.ok).1 ∙ ap (λ m. split m 1 cut_plane 2) c.in_ok-session.ensures.made

pub returns-clause-share : goal.returns-clause-share
returns-clause-share c =
    let made = rw c.in_ok-but_for_memory.ensures at c.split-session.ensures.ok in
    sym (c.splits_are_held.ensures.volumes c.in_ok-session.session.machine c.split-session.result.0.machine 1 cut_plane 2 c.split-session.ensures.sound made) ∙ c.in_ok-session.ensures.whole

pub returns-clause-sides : goal.returns-clause-sides
returns-clause-sides c =
    c.splits_are_held.ensures.sides c.in_ok-session.session.machine c.split-session.result.0.machine 1 cut_plane 2 c.split-session.ensures.sound (rw c.in_ok-but_for_memory.ensures at c.split-session.ensures.ok)

pub returns-clause-third : goal.returns-clause-third
returns-clause-third c =
    let made = rw c.in_ok-but_for_memory.ensures at c.split-session.ensures.ok in
    c.splits_are_held.ensures.others c.in_ok-session.session.machine c.split-session.result.0.machine 1 cut_plane 2 3 c.split-session.ensures.sound made (λ e. omega (arith, e)) (λ e. omega (arith, e)) ∙ c.in_ok-session.ensures.third

-- what each part measures is computed too
pub returns-clause-near : goal.returns-clause-near
returns-clause-near c = ap (λ m. six_volume (held m) 1) (returns-clause-made c) ∙ near_is

pub returns-clause-far : goal.returns-clause-far
returns-clause-far c = ap (λ m. six_volume (held m) 2) (returns-clause-made c) ∙ far_is

pub returns-clause-there : goal.returns-clause-there
returns-clause-there c = subst (λ m. HasSolids (held m) 1 2 3) (sym (returns-clause-made c)) parted_there
