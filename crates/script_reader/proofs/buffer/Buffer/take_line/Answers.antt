use Rattle.script_reader.proofs.Prelude.{ap, subst, sym, arith, ◌∙◌, ◌+◌, ℕ, List, Holding, FirstNewline}
use Rattle.script_reader.proofs.NewlineLaws.{taken_line}
use Rattle.script_reader.proofs.buffer.Buffer.take_line.Goals as goal

pub invariant_of-self : goal.invariant_of-self
invariant_of-self c =
    let b = c.self.inside in
    let found = subst (λ (xs : List ℕ). FirstNewline xs (b.newline + 1) b.end c.first_newline-self-inside.result) c.deref.ensures.value c.first_newline-self-inside.ensures in
    (found, c.self.invariant.1, omega arith, omega arith, c.self.invariant.4)

pub returns : goal.returns
returns c =
    let b = c.self.inside in
    let found = c.self.invariant.0 in
    (ap (λ (h : Holding). h.unread) (sym c.self.view_is) ∙ taken_line b.bytes.items b.start b.end b.newline (omega arith) (omega (arith, found.high)) found, found.before)
