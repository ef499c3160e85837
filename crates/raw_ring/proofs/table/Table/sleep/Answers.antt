use Rattle.raw_ring.proofs.Prelude.{Some, refl, arith, row_at, or_zero, or_false, with_marks, asleep}
use Rattle.raw_ring.proofs.Pointers.{some_of}
use Rattle.raw_ring.proofs.Joining.{place_there, mark_rooms, marks_changed, cell_written, cells_kept, column_here, column_other, column_there}
use Rattle.raw_ring.proofs.table.Table.sleep.Goals as goal

pub put-requires : goal.put-requires
put-requires c = (mark_rooms c.self.inside.places c.self.inside.labels c.self.inside.lives _ c.self.invariant (rw (← c.self.view_is) at c.requires)).1

pub invariant_of-self : goal.invariant_of-self
invariant_of-self c =
    let rooms = mark_rooms c.self.inside.places c.self.inside.labels c.self.inside.lives _ c.self.invariant (rw (← c.self.view_is) at c.requires) in
    let lives = cell_written _ _ _ _ rooms.1 c.put.ensures in
    record {
      reach_labels = omega (arith, c.self.invariant.reach_labels);
      reach_lives = omega (arith, c.self.invariant.reach_lives, cells_kept _ _ _ _ c.put.ensures);
      labelled = λ k h. c.self.invariant.labelled k h;
      marked = λ k h. column_there _ _ _ _ lives k (c.self.invariant.marked k h);
    }

pub returns : goal.returns
returns c =
    let rooms = mark_rooms c.self.inside.places c.self.inside.labels c.self.inside.lives _ c.self.invariant (rw (← c.self.view_is) at c.requires) in
    let lives = cell_written _ _ _ _ rooms.1 c.put.ensures in
    let place = some_of _ (place_there c.self.inside.places c.self.inside.labels c.self.inside.lives _ (rw (← c.self.view_is) at c.requires)) in
    let live = column_here _ _ _ _ lives in
    rw (← c.self.view_is)
    (marks_changed c.self.inside.places c.self.inside.labels c.self.inside.lives _ _ _ asleep place.0 _ place.1 refl (λ i. with_marks (Some place.0) (or_zero (row_at c.self.inside.labels c.args.code), or_false (live i))) (λ q ne. refl) (column_other _ _ _ _ lives))
