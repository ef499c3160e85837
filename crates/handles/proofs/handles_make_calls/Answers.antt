use Rattle.std.proofs.Common.{[]}
use Rattle.handles.proofs.Laws.{begin_new, leave_handles, listed_is_held, make_calls, stay_whole, take_back}
use Rattle.handles.proofs.handles_make_calls.Goals as goal

pub returns : goal.returns
returns c =
    let begun = c.histories_are_consistent.ensures.consistent [] in
    record { begun = begun; opened = begin_new; whole = stay_whole begun c.lists_are_histories.ensures.whole; made = make_calls; back = take_back c.commands_are_taken_back.ensures; read = leave_handles; listed = listed_is_held c.listing_tells.ensures }
