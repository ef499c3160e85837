use Rattle.split_sections.proofs.Prelude.{List, ◌∙◌, sym, ap, subst, count, map, code, IsApart, start_vertices}
use Rattle.std.specs.List.Sorted.{IsNonDecreasingBy}
use Rattle.split_sections.specs.declared.section_cycles.starts.Start.{Start}
use Rattle.split_sections.proofs.section_cycles_laws.Started.{IsLeastShared, are_starts, least_several, starts_real}
use Rattle.split_sections.proofs.section_cycles_laws.Meetings.{branched_is}
use Rattle.split_sections.proofs.section_cycles.starts.starts_of.Goals as goal

pub least_shared-branched-requires-clause-rising : goal.least_shared-branched-requires-clause-rising
least_shared-branched-requires-clause-rising c = subst (IsNonDecreasingBy (λ (s : Start). s.vertex)) (sym c.as_slice.ensures.value) c.in_ok-starts.ensures.rising

pub least_shared-branched-requires-clause-real : goal.least_shared-branched-requires-clause-real
least_shared-branched-requires-clause-real c =
    ap (λ (ss : List Start). count 0 (start_vertices ss)) c.as_slice.ensures.value
    ∙ starts_real c.args.arena.now.model c.requires.ready.sound c.args.halves.now c.requires.there c.in_ok-starts.starts.items c.in_ok-starts.ensures.same

pub returns-clause-starts : goal.returns-clause-starts
returns-clause-starts c = λ none.
    are_starts c.args.arena.now.model c.requires.ready.sound c.args.halves.now c.requires.there c.in_ok-starts.starts.items c.in_ok-starts.ensures.same c.in_ok-starts.ensures.rising
    (subst (λ (ss : List Start). IsApart (start_vertices ss)) c.as_slice.ensures.value (c.least_shared-branched.ensures.apart none))

pub returns-clause-branched : goal.returns-clause-branched
returns-clause-branched c = λ same.
    let M = c.args.arena.now.model in let o = c.least_shared-branched.result in
    branched_is M c.requires.ready.sound (map code c.args.halves.now) c.requires.there same o
    (least_several M c.requires.ready.sound c.args.halves.now c.requires.there c.in_ok-starts.starts.items c.in_ok-starts.ensures.same o
    (subst (λ (ss : List Start). IsLeastShared (start_vertices ss) o) c.as_slice.ensures.value c.least_shared-branched.ensures.shared)
    (λ none. subst (λ (ss : List Start). IsApart (start_vertices ss)) c.as_slice.ensures.value (c.least_shared-branched.ensures.apart none)))
