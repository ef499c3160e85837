use Rattle.session_slots.proofs.Spoken.{none_yet, none_left, none_up_to, one_more}
use Rattle.session_slots.proofs.spokes.start_within.Goals as goal

pub edges-init : goal.edges-init
edges-init c = none_yet c.args.arena.now.model c.args.v c.args.above

pub returns-in_default : goal.returns-in_default
returns-in_default c = none_left c.args.arena.now.model c.args.v c.args.above c.edges.at c.args.last c.edges.invariant c.in_default.ensures

pub returns-then-e-last : goal.returns-then-e-last
returns-then-e-last c = none_up_to c.args.arena.now.model c.args.v c.args.above c.edges.at c.args.last c.in-Some.e c.edges.invariant (λ k above below. c.in-Some.ensures.2 k above below) c.if-e-last.true

pub edges-preserved : goal.edges-preserved
edges-preserved c = one_more c.args.arena.now.model c.args.v c.args.above c.edges.at c.in-Some.e c.edges.invariant c.in-None.ensures (λ k above below. c.in-Some.ensures.2 k above below)
