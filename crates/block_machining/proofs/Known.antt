-- What isn't refused, and a new session.
use Rattle.block_machining.proofs.Prelude.{◌≡◌, Option, None, Some, is_some, true≢false, ap, ◌∙◌, sym, Machine, start}
use Rattle.sweeps.specs.Journal.{Journal, new_journal}

-- what has no reason to be refused isn't refused for one
pub for_no_reason : {R : Type 0} (o : Option R) (r : R) → o ≡ None → o ≡ Some r → ⊥
for_no_reason o r none some = true≢false (sym (ap is_some some) ∙ ap is_some none)

-- nor is it on a machine that is a known one
pub never_refused : {R : Type 0} (refusal : Machine → Option R) {m known : Machine} → m ≡ known → refusal known ≡ None → (r : R) → refusal m ≡ Some r → ⊥
never_refused refusal {m} {known} is none r = for_no_reason (refusal m) r (ap refusal is ∙ none)

-- the machine of a new session
pub begins : (j : Journal) → j ≡ new_journal → j.machine ≡ start
begins j new = ap (λ (i : Journal). i.machine) new
