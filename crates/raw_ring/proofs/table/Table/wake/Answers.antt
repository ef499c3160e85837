use Rattle.raw_ring.proofs.Prelude.{Some, refl, arith, or_zero, or_false, with_marks, woken}
use Rattle.raw_ring.proofs.Pointers.{some_of}
use Rattle.raw_ring.proofs.Joining.{place_there, mark_rooms, marks_changed, cell_written, cells_kept, column_here, column_other, column_there}
use Rattle.raw_ring.proofs.table.Table.wake.Goals as goal

pub put-requires : goal.put-requires
put-requires c = (mark_rooms c.self.inside.places c.self.inside.labels c.self.inside.lives _ c.self.invariant (rw (← c.self.view_is) at c.requires)).0

pub put-requires-2 : goal.put-requires-2
put-requires-2 c = (mark_rooms c.self.inside.places c.self.inside.labels c.self.inside.lives _ c.self.invariant (rw (← c.self.view_is) at c.requires)).1

pub invariant_of-self : goal.invariant_of-self
invariant_of-self c =
    let rooms = mark_rooms c.self.inside.places c.self.inside.labels c.self.inside.lives _ c.self.invariant (rw (← c.self.view_is) at c.requires) in
    let labels = cell_written _ _ _ _ rooms.0 c.put.ensures in let lives = cell_written _ _ _ _ rooms.1 c.put-2.ensures in
    record {
      reach_labels = omega (arith, c.self.invariant.reach_labels, cells_kept _ _ _ _ c.put.ensures);
      reach_lives = omega (arith, c.self.invariant.reach_lives, cells_kept _ _ _ _ c.put-2.ensures);
      labelled = λ k h. column_there _ _ _ _ labels k (c.self.invariant.labelled k h);
      marked = λ k h. column_there _ _ _ _ lives k (c.self.invariant.marked k h);
    }

pub returns : goal.returns
returns c =
    let rooms = mark_rooms c.self.inside.places c.self.inside.labels c.self.inside.lives _ c.self.invariant (rw (← c.self.view_is) at c.requires) in
    let labels = cell_written _ _ _ _ rooms.0 c.put.ensures in let lives = cell_written _ _ _ _ rooms.1 c.put-2.ensures in
    let place = some_of _ (place_there c.self.inside.places c.self.inside.labels c.self.inside.lives _ (rw (← c.self.view_is) at c.requires)) in
    let label = column_here _ _ _ _ labels in let live = column_here _ _ _ _ lives in
    rw (← c.self.view_is)
    (marks_changed c.self.inside.places c.self.inside.labels c.self.inside.lives _ _ _ (woken c.args.label) place.0 _ place.1 refl (λ i. with_marks (Some place.0) (or_zero (label i), or_false (live i))) (column_other _ _ _ _ labels) (column_other _ _ _ _ lives))
