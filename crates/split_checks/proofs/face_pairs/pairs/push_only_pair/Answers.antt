use Rattle.split_checks.proofs.Prelude.{◌∙◌, ℕ, List, ◌++◌, map, ap, map-append, Pair}
use Rattle.split_checks.specs.Cuts.{codes}
use Rattle.split_checks.proofs.face_pairs.pairs.push_only_pair.Goals as goal

pub returns-clause-pairs : goal.returns-clause-pairs
returns-clause-pairs c = λ _. ap (λ (qs : List Pair). map codes qs) c.in_ok-push.ensures.items ∙ map-append codes c.args.pairs.now.items _ ∙ ap (λ (qs : List (ℕ × ℕ)). map codes c.args.pairs.now.items ++ qs) c.in-Some.ensures.pair
