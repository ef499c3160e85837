use Rattle.std.proofs.Common.{◌≡◌, ◌+◌, length, refl, arith}
use Rattle.raw_cells.proofs.numbers_laws.Cells.{IsWider, length_rows, widened, rows_widened}
use Rattle.raw_cells.proofs.rows.Rows.reach.Given.{Over}
use Rattle.raw_cells.proofs.rows.Rows.reach.Goals as goal

pub returns-then-number-self-clause-ok : goal.returns-then-number-self-clause-ok
returns-then-number-self-clause-ok g c = let len : length c.args.self.now ≡ c.self.inside.room = rw (← c.self.view_is) (length_rows _ _ _ c.self.invariant) in omega (arith, len, c.if-number-self.true)

pub returns-then-number-self-clause-known : goal.returns-then-number-self-clause-known
returns-then-number-self-clause-known g c = λ h. refl

pub returns-in_err-reach-clause-known : goal.returns-in_err-reach-clause-known
returns-in_err-reach-clause-known g c = λ h. let len : length c.args.self.now ≡ c.self.inside.room = rw (← c.self.view_is) (length_rows _ _ _ c.self.invariant) in absurd (omega (arith, len, h, c.if-number-self.false))

-- the room that was there, where no memory came for more cells
same_room : (g : Over) (c : goal.After-from_residual-in_err-widen g) → IsWider c.self.inside.cells c.widen.new.cells c.self.inside.used c.reach.new.self c.self.inside.room c.self.inside.room
same_room g c = record {
  are = c.self.invariant;
  words_grow = c.reach.ensures.grows;
  uses_same = c.reach.ensures.same;
  same = c.widen.ensures.same;
  grows = omega arith;
  fits = c.widen.ensures.fits;
  limit = c.self.invariant.limit;
  bits = omega (arith, c.self.invariant.bits, c.reach.ensures.grows);
}

pub returns-in_err-widen-clause-same : goal.returns-in_err-widen-clause-same
returns-in_err-widen-clause-same g c = rw (← c.self.view_is) (rows_widened _ _ _ _ _ _ (same_room g c))

pub returns-in_err-widen-clause-grows : goal.returns-in_err-widen-clause-grows
returns-in_err-widen-clause-grows g c = rw (← c.self.view_is) (omega (arith, length_rows _ _ _ c.self.invariant, length_rows _ _ _ (widened _ _ _ _ _ _ (same_room g c))))

pub returns-in_err-widen-clause-limit : goal.returns-in_err-widen-clause-limit
returns-in_err-widen-clause-limit g c = rw (← c.self.view_is) (λ k less old. omega (arith, old, length_rows _ _ _ c.self.invariant, length_rows _ _ _ (widened _ _ _ _ _ _ (same_room g c))))

pub returns-in_err-widen-clause-known : goal.returns-in_err-widen-clause-known
returns-in_err-widen-clause-known g c = λ h. let len : length c.args.self.now ≡ c.self.inside.room = rw (← c.self.view_is) (length_rows _ _ _ c.self.invariant) in absurd (omega (arith, len, h, c.if-number-self.false))

-- room up to the number
more_room : (g : Over) (c : goal.After-self-1 g) → IsWider c.self.inside.cells c.widen.new.cells c.self.inside.used c.reach.new.self c.self.inside.room (c.args.number + 1)
more_room g c = record {
  are = c.self.invariant;
  words_grow = c.reach.ensures.grows;
  uses_same = c.reach.ensures.same;
  same = c.widen.ensures.same;
  grows = omega (arith, c.if-number-self.false);
  fits = omega (arith, c.in_ok-widen.ensures.ok);
  limit = omega (arith, c.requires);
  bits = omega (arith, c.in_ok-reach.ensures.ok);
}

pub returns-clause-same : goal.returns-clause-same
returns-clause-same g c = rw (← c.self.view_is) (rows_widened _ _ _ _ _ _ (more_room g c))

pub returns-clause-grows : goal.returns-clause-grows
returns-clause-grows g c = rw (← c.self.view_is) (omega (arith, c.if-number-self.false, length_rows _ _ _ c.self.invariant, length_rows _ _ _ (widened _ _ _ _ _ _ (more_room g c))))

pub returns-clause-limit : goal.returns-clause-limit
returns-clause-limit g c = rw (← c.self.view_is) (λ k less old. omega (arith, less, length_rows _ _ _ (widened _ _ _ _ _ _ (more_room g c))))

pub returns-clause-ok : goal.returns-clause-ok
returns-clause-ok g c = omega (arith, length_rows _ _ _ (widened _ _ _ _ _ _ (more_room g c)))
