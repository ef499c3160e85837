use Rattle.std.proofs.Common.{refl, arith}
use Rattle.raw_ring.proofs.Joining.{length-joined, rows_reached, ok_more}
use Rattle.raw_ring.proofs.table.Table.widen.Goals as goal

pub returns-in_err-reach_beside-clause-same : goal.returns-in_err-reach_beside-clause-same
returns-in_err-reach_beside-clause-same c = rw (← c.self.view_is) (rows_reached c.self.inside.places c.self.inside.places _ _ c.self.inside.lives c.self.inside.lives (λ q. refl) c.reach_beside.ensures.same (λ q h. refl))

pub returns-in_err-reach_beside-clause-fits : goal.returns-in_err-reach_beside-clause-fits
returns-in_err-reach_beside-clause-fits c =
    rw (← c.self.view_is) (λ fits. omega (arith, fits, length-joined c.self.inside.places c.reach_beside.new.cells c.self.inside.lives, length-joined c.self.inside.places c.self.inside.labels c.self.inside.lives))

pub returns-in_err-reach_beside-2-clause-same : goal.returns-in_err-reach_beside-2-clause-same
returns-in_err-reach_beside-2-clause-same c = rw (← c.self.view_is) (rows_reached c.self.inside.places c.self.inside.places _ _ _ _ (λ q. refl) c.reach_beside.ensures.same c.reach_beside-2.ensures.same)

pub returns-in_err-reach_beside-2-clause-fits : goal.returns-in_err-reach_beside-2-clause-fits
returns-in_err-reach_beside-2-clause-fits c =
    rw (← c.self.view_is) (λ fits. omega (arith, fits, length-joined c.self.inside.places c.reach_beside.new.cells c.reach_beside-2.new.cells, length-joined c.self.inside.places c.self.inside.labels c.self.inside.lives))

pub returns-clause-same : goal.returns-clause-same
returns-clause-same c = rw (← c.self.view_is) (rows_reached _ _ _ _ _ _ c.reach.ensures.same c.reach_beside.ensures.same c.reach_beside-2.ensures.same)

pub returns-clause-fits : goal.returns-clause-fits
returns-clause-fits c =
    rw (← c.self.view_is)
    (λ fits. omega (
      arith,
      length-joined c.reach.new.self c.reach_beside.new.cells c.reach_beside-2.new.cells,
      c.reach.ensures.limit 2000002 (omega (arith, c.last_of_step-last.ensures.limit)) (omega (arith, fits, length-joined c.self.inside.places c.self.inside.labels c.self.inside.lives)),
    ))

pub returns-clause-ok : goal.returns-clause-ok
returns-clause-ok c = ok_more c.reach.result _ _ _ _ c.last_of_step-last.ensures.from (length-joined c.reach.new.self c.reach_beside.new.cells c.reach_beside-2.new.cells) c.reach.ensures.ok
