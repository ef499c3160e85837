use Rattle.split_sections.proofs.Prelude.{rules, List, no_half, subst, IsPermutation, IsNonDecreasingBy-from_sort_by_key}
use Rattle.split_sections.specs.declared.section_cycles.starts.Start.{Start}
use Rattle.split_sections.proofs.section_cycles_laws.Meetings.{first_there, others_there}
use Rattle.split_sections.proofs.section_cycles_laws.Started.{one_started, none_left}
use Rattle.split_sections.proofs.section_cycles.starts.sorted_starts.Goals as goal

pub tail-requires : goal.tail-requires
tail-requires c = first_there c.args.arena.now.model c.halves.rest.now no_half c.in-len1-up.len_at_least c.halves.invariant.there

pub halves-preserved : goal.halves-preserved
halves-preserved c =
    let M = c.args.arena.now.model in record {
      there = others_there M c.halves.rest.now no_half c.in-len1-up.len_at_least c.halves.invariant.there;
      made = one_started M c.args.halves.now c.halves.rest.now no_half c.in-len1-up.len_at_least c.halves.starts.items c.push.new.self.items c.halves.invariant.made c.tail.result c.tail.ensures c.in_ok-push.ensures.items;
    }

pub returns-clause-same : goal.returns-clause-same
returns-clause-same c =
    subst (λ (ss : List Start). IsPermutation ss c.sort_by_key.new.self.items) (none_left c.args.arena.now.model c.args.halves.now c.halves.rest.now c.in_default.len_below c.halves.starts.items c.halves.invariant.made) c.sort_by_key.ensures.permutation

pub returns-clause-rising : goal.returns-clause-rising
returns-clause-rising c = IsNonDecreasingBy-from_sort_by_key (λ s. s.vertex) c.sort_by_key.new.self.items c.in_ok-sort_by_key.ensures.sorted (λ a r q k. search rules)
