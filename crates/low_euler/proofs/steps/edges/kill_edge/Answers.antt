use Rattle.low_euler.proofs.Prelude.{sym, ap, ◌∙◌, code, mate, plus, minus, edge_of-code, Store, take_edge, take_out}
use Rattle.euler_operators.specs.Table as table
use Rattle.low_euler.proofs.steps_laws.EdgeSteps.{both_out}
use Rattle.low_euler.proofs.steps.edges.kill_edge.Goals as goal

pub take_edge-requires : goal.take_edge-requires
take_edge-requires c =
    let out = c.take_out-2.ensures ∙ ap (λ t. take_out t (code c.args.half)) (c.take_out.ensures ∙ ap (take_out c.args.arena.now) c.mate.ensures) in
    let alone = both_out c.args.arena.now (code c.args.half) c.args.half.edge (sym (edge_of-code c.args.half)) in
    record {
      first = ap (λ (t : Store). table.get t.loose (plus c.args.half.edge)) out ∙ alone.0;
      second = ap (λ (t : Store). table.get t.loose (minus c.args.half.edge)) out ∙ alone.1;
    }

pub returns : goal.returns
returns c =
    let out = c.take_out-2.ensures ∙ ap (λ t. take_out t (code c.args.half)) (c.take_out.ensures ∙ ap (take_out c.args.arena.now) c.mate.ensures) in
    c.take_edge.ensures ∙ ap (λ t. take_edge t c.args.half.edge) out
    ∙ ap (take_edge (take_out (take_out c.args.arena.now (mate (code c.args.half))) (code c.args.half))) (sym (edge_of-code c.args.half))
