use Rattle.split_sections.proofs.Prelude.{◌-◌, map, length, code, next_below}
use Rattle.split_sections.proofs.section_cycles_laws.Rounds.{Going}
use Rattle.split_sections.proofs.section_cycles.finding.cycle_from.Given as goal

abbrev pub invariant-round : goal.invariant-round
invariant-round l = Going (next_below l.arena.model (map code l.halves)) (map code l.halves) (code l.first) (code l.half) (length l.halves - l.counter) (map code l.cycle.items)
