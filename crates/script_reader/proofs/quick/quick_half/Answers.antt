use Rattle.script_reader.proofs.Prelude.{◌≡◌, ◌∙◌, Bool, true, false, Ok, sym, ap, rules, words, half_of, next_of, BadNumber}
use Rattle.script_reader.proofs.QuickLaws.{half_told}
use Rattle.script_reader.proofs.quick.quick_half.Goals as goal
use Rattle.script_reader.proofs.quick.quick_half.Goals.{in-43, in-45}

pub returns : goal.returns
returns c = elim c.match-sign.branch [
  | in-43 w ↦
      let told : next_of BadNumber half_of (words c.args.line.now) ≡ Ok (record { edge = c.in_ok-edge.edge; first = true }, words c.in_ok-edge.rest.now) = half_told true c.args.line.now c.in_ok-sign.digits.now c.in_ok-edge.edge (words c.in_ok-edge.rest.now) (search rules) c.in_ok-edge.ensures in
      told ∙ ap (λ (b : Bool). Ok (record { edge = c.in_ok-edge.edge; first = b }, words c.in_ok-edge.rest.now)) (sym w.first-is)
  | in-45 w ↦
      let told : next_of BadNumber half_of (words c.args.line.now) ≡ Ok (record { edge = c.in_ok-edge.edge; first = false }, words c.in_ok-edge.rest.now) = half_told false c.args.line.now c.in_ok-sign.digits.now c.in_ok-edge.edge (words c.in_ok-edge.rest.now) (search rules) c.in_ok-edge.ensures in
      told ∙ ap (λ (b : Bool). Ok (record { edge = c.in_ok-edge.edge; first = b }, words c.in_ok-edge.rest.now)) (sym w.first-is)
]
