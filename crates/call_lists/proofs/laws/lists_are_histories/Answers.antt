use Rattle.call_lists.proofs.Whole as whole
use Rattle.call_lists.proofs.laws.lists_are_histories.Goals as goal

pub returns : goal.returns
returns c =
    let calls = c.commands_are_calls.ensures in record { histories = whole.lists_are_histories calls; whole = whole.lists_keep_whole calls; each = whole.each_is_whole calls }
