use Rattle.split_checks.proofs.Prelude.{◌+◌, ◌∙◌, ap, first_refusal, verdict, Taken, numbers_left}
use Rattle.split_checks.proofs.begin_checks.numbers.check_left.Goals as goal

pub returns : goal.returns
returns c =
    let m = c.args.cuts in let n = c.args.pairs in
    c.check_left.ensures ∙ ap (λ (taken : Taken). verdict (first_refusal (numbers_left taken (record { faces = n; loops = n; edges = m + n; vertices = m })))) c.counters_of.ensures.is
