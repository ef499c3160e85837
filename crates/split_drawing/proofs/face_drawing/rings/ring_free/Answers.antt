use Rattle.split_drawing.proofs.Prelude.{◌∙◌, sym, ap, cond, stuck_at}
use Rattle.split_drawing.proofs.face_drawing_laws.GivenRings.{ring_stops, no_ring, few_pairs}
use Rattle.split_drawing.proofs.face_drawing.rings.ring_free.Goals as goal
use Rattle.split_drawing.proofs.face_drawing.rings.ring_free.Goals.{else-count-gt1-via-then-count-gt1+else-ring_count-gt0, else-count-gt1-via-else-count-gt1}

pub returns-then-ring_count-gt0 : goal.returns-then-ring_count-gt0
returns-then-ring_count-gt0 c = c.stuck_at.ensures
    ∙ sym (ap (λ b. cond b (stuck_at c.args.progress c.args.f) c.args.progress) (ring_stops c.args.arena.now.model c.args.f c.args.count c.ring_count.result c.if-count-gt1.true c.ring_count.ensures c.if-ring_count-gt0.true))

pub returns-else-count-gt1 : goal.returns-else-count-gt1
returns-else-count-gt1 c = sym (ap (λ b. cond b (stuck_at c.args.progress c.args.f) c.args.progress) (elim c.else-count-gt1.branch [
  | else-count-gt1-via-then-count-gt1+else-ring_count-gt0 w ↦ no_ring c.args.arena.now.model c.args.f c.args.count w.ring_count.result w.ring_count.ensures w.if-ring_count-gt0.false
  | else-count-gt1-via-else-count-gt1 w ↦ few_pairs c.args.arena.now.model c.args.f c.args.count w.if-count-gt1.false
]))
