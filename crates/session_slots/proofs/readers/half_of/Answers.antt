use Rattle.session_slots.proofs.Prelude.{◌∙◌, ap, sym, code, edge_of, code-half, edge_of-code}
use Rattle.session_slots.proofs.readers.half_of.Goals as goal

pub returns : goal.returns
returns c =
    let is = ap code c.of_code.ensures ∙ code-half c.args.item in record {
      code = is;
      edge = sym (edge_of-code c.of_code.result) ∙ ap edge_of is;
    }
