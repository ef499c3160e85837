use Rattle.split_sections.proofs.section_cycles_laws.Meeting.{first_low, others_low, one_met}
use Rattle.split_checks.proofs.cut_places_laws.Lists.{no_half}
use Rattle.split_sections.proofs.section_cycles.finding.meet.Goals as goal

pub code-requires : goal.code-requires
code-requires c = first_low c.halves.rest.now no_half c.in-len1-up.len_at_least c.halves.invariant.low

pub halves-preserved : goal.halves-preserved
halves-preserved c = record {
  low = others_low c.halves.rest.now no_half c.in-len1-up.len_at_least c.halves.invariant.low;
  met = λ b. one_met c.halves.rest.now no_half c.in-len1-up.len_at_least b c.code.result _ _ _ c.code.ensures (c.in_ok-insert.ensures.updates.0 b) (c.halves.invariant.met b);
}
