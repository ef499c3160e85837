use Rattle.split_sections.proofs.Prelude.{◌∙◌, sym, ap}
use Rattle.split_sections.proofs.section_cycles_laws.Started.{found_here, no_start, no_vertex, not_here, told_apart, told_shared, shared_after}
use Rattle.split_sections.proofs.section_cycles.starts.least_shared.Goals as goal

pub returns-then-start-before-clause-shared : goal.returns-then-start-before-clause-shared
returns-then-start-before-clause-shared c =
    told_shared c.args.starts.now c.requires.rising c.requires.real c.starts.before
    (sym c.starts.invariant ∙ found_here c.starts.rest.now no_start c.in-len1-up.len_at_least c.starts.before c.if-start-before.true)

pub starts-preserved : goal.starts-preserved
starts-preserved c = sym (not_here c.starts.rest.now no_start c.in-len1-up.len_at_least c.starts.before c.if-start-before.false) ∙ c.starts.invariant

pub returns-clause-apart : goal.returns-clause-apart
returns-clause-apart c = λ none. told_apart c.args.starts.now c.requires.rising c.requires.real
    (sym c.starts.invariant ∙ ap (shared_after c.starts.before) (no_vertex c.starts.rest.now c.in_default.len_below))
