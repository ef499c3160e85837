use Rattle.session_slots.proofs.Prelude.{◌+◌, ◌*◌, ap, tail, EdgeRow}
use Rattle.session_slots.proofs.Spoken.{first, second, starts, neither}
use Rattle.session_slots.proofs.spokes.start_of.Goals as goal

pub returns-then-row-v : goal.returns-then-row-v
returns-then-row-v c = (first c.args.e, starts (tail c.args.arena.now.model (2 * c.args.e)) c.ends-row.result.from c.args.v (ap (λ (r : EdgeRow). r.from) c.ends-row.ensures) c.if-row-v.true)

pub returns-then-row-v-2 : goal.returns-then-row-v-2
returns-then-row-v-2 c = (second c.args.e, starts (tail c.args.arena.now.model (2 * c.args.e + 1)) c.ends-row.result.to c.args.v (ap (λ (r : EdgeRow). r.to) c.ends-row.ensures) c.if-row-v-2.true)

pub returns : goal.returns
returns c =
    neither c.args.arena.now.model c.args.e c.args.v c.ends-row.result.from c.ends-row.result.to (ap (λ (r : EdgeRow). r.from) c.ends-row.ensures) (ap (λ (r : EdgeRow). r.to) c.ends-row.ensures)
    c.if-row-v.false c.if-row-v-2.false
