use Rattle.session_slots.proofs.Prelude.{◌≡◌, ◌∙◌, ap, coded}
use Rattle.euler_operators.specs.Common.{tail, has_half}
use Rattle.session_slots.proofs.cycles.HalfEdgeRowWritten.of.Goals as goal

pub tail-requires : goal.tail-requires
tail-requires c = ap (has_half c.args.arena.now.model) (coded c.of_code.result c.args.half_edge c.of_code.ensures) ∙ c.requires.there

pub returns : goal.returns
returns c =
    let start : c.tail.result ≡ tail c.args.arena.now.model c.args.half_edge = c.tail.ensures ∙ ap (tail c.args.arena.now.model) (coded c.of_code.result c.args.half_edge c.of_code.ensures) in
    λ i. record { half_edge = c.args.half_edge; start = start i; next = c.requires.next i; of_loop = c.requires.of_loop i; face = c.requires.face i }
