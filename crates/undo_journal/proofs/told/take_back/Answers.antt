use Rattle.undo_journal.proofs.Prelude.{sym, subst, ap, ◌∙◌, arith, ◌≡◌, ◌<◌, ◌-◌, length, take, drop, reverse, take_rest, AreAccepted, AllHaveRoom, all_after, untold_in, taken_back, step_inverses}
use Rattle.undo_journal.proofs.Inverses.{front_inverses, later_back}
use Rattle.undo_journal.proofs.told.take_back.Goals as goal

abbrev inside : (c : goal.After-as_slice) → c.args.place < length c.args.steps.now.items
inside c = omega (arith, c.if-len-place.false, c.len.ensures, c.deref.ensures.len, ap length c.deref.ensures.value)

abbrev later : (c : goal.After-as_slice) → take (length c.deref.result.now - c.args.place) (drop c.args.place c.deref.result.now) ≡ drop c.args.place c.args.steps.now.items
later c = take_rest c.deref.result.now c.args.place ∙ ap (drop c.args.place) c.deref.ensures.value

abbrev back : (c : goal.After-as_slice) → taken_back (take (length c.deref.result.now - c.args.place) (drop c.args.place c.deref.result.now)) c.as_slice.result.now ≡ reverse (drop c.args.place (step_inverses c.args.steps.now.items c.args.untold.now.items))
back c = (λ i. taken_back (later c i) (c.as_slice.ensures.value i)) ∙ later_back c.args.steps.now.items c.args.untold.now.items c.args.place c.requires.whole (inside c)

pub replay_back-requires-clause-accepted : goal.replay_back-requires-clause-accepted
replay_back-requires-clause-accepted c = subst (AreAccepted c.args.arena.now.model) (sym (back c)) c.requires.accepted

pub replay_back-requires-clause-room : goal.replay_back-requires-clause-room
replay_back-requires-clause-room c = subst (AllHaveRoom c.args.arena.now) (sym (back c)) c.requires.room

pub returns-clause-effects : goal.returns-clause-effects
returns-clause-effects c =
    let inside : c.args.place < length c.args.steps.now.items = omega (arith, c.if-len-place.false, c.len.ensures, c.deref.ensures.len, ap length c.deref.ensures.value) in
    let later = take_rest c.deref.result.now c.args.place ∙ ap (drop c.args.place) c.deref.ensures.value in
    c.replay_back.ensures.effects
    ∙ ap (all_after c.args.arena.now) ((λ i. taken_back (later i) (c.as_slice.ensures.value i)) ∙ later_back c.args.steps.now.items c.args.untold.now.items c.args.place c.requires.whole inside)

pub returns-clause-inverses : goal.returns-clause-inverses
returns-clause-inverses c =
    let inside : c.args.place < length c.args.steps.now.items = omega (arith, c.if-len-place.false, c.len.ensures, c.deref.ensures.len, ap length c.deref.ensures.value) in
    let later = take_rest c.deref.result.now c.args.place ∙ ap (drop c.args.place) c.deref.ensures.value in
    let kept : c.len-2.result ≡ length c.args.untold.now.items = omega (arith, c.len-2.ensures, c.as_slice.ensures.len, ap length c.as_slice.ensures.value) in
    let used = c.untold_in.ensures ∙ ap untold_in later in
    let left = c.saturating_sub-left.ensures ∙ (λ i. kept i - used i) in
    (λ i. step_inverses (c.truncate-2.ensures.items i) (c.truncate.ensures.items i))
    ∙ ap (λ n. step_inverses (take c.args.place c.args.steps.now.items) (take n c.args.untold.now.items)) left
    ∙ front_inverses c.args.steps.now.items c.args.untold.now.items c.args.place c.requires.whole inside
