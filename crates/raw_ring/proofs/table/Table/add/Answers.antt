use Rattle.raw_ring.proofs.Prelude.{◌<◌, length, arith, or_zero, or_false, with_marks}
use Rattle.raw_ring.proofs.Joining.{length-joined, changed, cell_written, cells_kept, column_here, column_other, column_with}
use Rattle.raw_ring.proofs.table.Table.add.Goals as goal

pub put-requires : goal.put-requires
put-requires c = let room = rw (← c.self.view_is) at c.requires.room in omega (arith, room, length-joined c.self.inside.places c.self.inside.labels c.self.inside.lives, c.self.invariant.reach_labels)

pub put-requires-2 : goal.put-requires-2
put-requires-2 c = let room = rw (← c.self.view_is) at c.requires.room in omega (arith, room, length-joined c.self.inside.places c.self.inside.labels c.self.inside.lives, c.self.invariant.reach_lives)

pub put-requires-3 : goal.put-requires-3
put-requires-3 c = let room = rw (← c.self.view_is) at c.requires.room in omega (arith, room, length-joined c.self.inside.places c.self.inside.labels c.self.inside.lives)

pub invariant_of-self : goal.invariant_of-self
invariant_of-self c =
    let within : c.args.new_code < length c.self.inside.places = (let room = rw (← c.self.view_is) at c.requires.room in omega (arith, room, length-joined c.self.inside.places c.self.inside.labels c.self.inside.lives)) in
    let in_labels : c.args.new_code < length c.self.inside.labels = omega (arith, within, c.self.invariant.reach_labels) in let in_lives : c.args.new_code < length c.self.inside.lives = omega (arith, within, c.self.invariant.reach_lives) in
    let labels = cell_written _ _ _ _ in_labels c.put.ensures in let lives = cell_written _ _ _ _ in_lives c.put-2.ensures in
    record {
      reach_labels = omega (arith, c.self.invariant.reach_labels, cells_kept _ _ _ _ c.put.ensures, c.put-3.ensures.len);
      reach_lives = omega (arith, c.self.invariant.reach_lives, cells_kept _ _ _ _ c.put-2.ensures, c.put-3.ensures.len);
      labelled = λ k h. column_with _ _ _ _ _ _ _ _ c.put-3.ensures.rows labels (c.self.invariant.labelled k) h;
      marked = λ k h. column_with _ _ _ _ _ _ _ _ c.put-3.ensures.rows lives (c.self.invariant.marked k) h;
    }

pub returns : goal.returns
returns c =
    let within : c.args.new_code < length c.self.inside.places = (let room = rw (← c.self.view_is) at c.requires.room in omega (arith, room, length-joined c.self.inside.places c.self.inside.labels c.self.inside.lives)) in
    let in_labels : c.args.new_code < length c.self.inside.labels = omega (arith, within, c.self.invariant.reach_labels) in let in_lives : c.args.new_code < length c.self.inside.lives = omega (arith, within, c.self.invariant.reach_lives) in
    let labels = cell_written _ _ _ _ in_labels c.put.ensures in let lives = cell_written _ _ _ _ in_lives c.put-2.ensures in
    let here = column_here _ _ _ _ c.put-3.ensures.rows in let label = column_here _ _ _ _ labels in let live = column_here _ _ _ _ lives in
    rw (← c.self.view_is)
    (changed c.self.inside.places c.self.inside.labels c.self.inside.lives _ _ _ _ _ within c.put-3.ensures.len (λ i. with_marks (here i) (or_zero (label i), or_false (live i)))
    (λ q ne i. with_marks (column_other _ _ _ _ c.put-3.ensures.rows q ne i) (or_zero (column_other _ _ _ _ labels q ne i), or_false (column_other _ _ _ _ lives q ne i))))
