use Rattle.split_sections.proofs.Prelude.{◌≡◌, ℕ, ◌≤◌, ◌||◌, map, length, nat_cmp, contains, IsIn, code, lists}
use Rattle.split_sections.proofs.section_cycles.finding.meet.Given as goal

abbrev pub invariant-halves : goal.invariant-halves
invariant-halves l = record {
  low : (b : ℕ) → IsIn b (map code l.rest) → b ≤ 2000001;
  met : (b : ℕ) → (lists (map code l.rest) b || contains nat_cmp l.met b) ≡ (lists (map code l.halves) b || contains nat_cmp l.fn.met b);
}

abbrev pub decreases-halves : goal.decreases-halves
decreases-halves l = length l.rest
