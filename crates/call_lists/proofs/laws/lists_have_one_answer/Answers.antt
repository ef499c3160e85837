use Rattle.call_lists.proofs.OneAnswer.{lists_have_one_answer, lists_have_one_outcome, only_done_changes, idle_lists_stay, memory_can_be_left_out}
use Rattle.call_lists.proofs.laws.lists_have_one_answer.Goals as goal

pub returns : goal.returns
returns c = record { one = lists_have_one_answer; all = lists_have_one_outcome; kept = only_done_changes; idle = idle_lists_stay; memory = memory_can_be_left_out }
