use Rattle.std.proofs.Common.{ℕ, ◌≤◌, ◌<◌, ◌-◌, length, get_or}
use Rattle.euler_conditions.proofs.torn.listed.Given as goal

abbrev pub invariant-search : goal.invariant-search
invariant-search l = record {
  within : l.high ≤ length l.faces;
  order : l.low ≤ l.high;
  below : (k : ℕ) → k < l.low → get_or l.faces k 0 < l.f;
  above : (k : ℕ) → l.high ≤ k → k < length l.faces → l.f < get_or l.faces k 0;
}

abbrev pub decreases-search : goal.decreases-search
decreases-search l = l.high - l.low
