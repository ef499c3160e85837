use Rattle.call_lists.proofs.Untouched.{changes_leave_untouched}
use Rattle.call_lists.proofs.laws.changes_leave_untouched_solids.Goals as goal

pub returns : goal.returns
returns c =
    let lamina = c.operators_make_lamina.ensures in let block = c.operators_make_blocks.ensures in let sweep = c.sweeps_make_prisms.ensures in
    let glue = c.glues_make_glued.ensures in let split = c.splits_make_split.ensures in
    changes_leave_untouched (record {
      lamina = (lamina.accepted, lamina.made);
      block = (block.accepted, block.made);
      sweep = (sweep.accepted, sweep.made);
      glue = (glue.accepted, glue.made);
      split = (split.accepted, split.made);
    }) c.untouched_solids_stay.ensures
