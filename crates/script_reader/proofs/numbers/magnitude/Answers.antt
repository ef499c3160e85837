use Rattle.std.proofs.Common.{◌≡◌, ◌∙◌, ℕ, List, Option, Some, None, MatchOption, sym, subst}
use Rattle.script_reader.proofs.NumberLaws.{begins_digit}
use Rattle.script_reader.proofs.numbers.magnitude.Goals as goal

pub returns-in-len1-up : goal.returns-in-len1-up
returns-in-len1-up c =
    let same = begins_digit c.args.line.now c.from.result c.in-len1-up.len_at_least (sym c.is_ascii_digit.ensures.value ∙ c.if-is_ascii_digit.true) c.from.ensures in
    subst (λ (o : Option (ℕ × List ℕ)). MatchOption c.digits.result (o ≡ None) (λ r. o ≡ Some (r.0, r.1.now))) same c.digits.ensures
