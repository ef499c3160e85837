-- The numbers that the last line brought into use above all that were in use before it.
use Rattle.std.specs.Prelude.{ℕ, ◌+◌, cond, nat_eq, nat_lt, Option, Some, None}
use Rattle.session_slots.specs.Common.{Taken}
use Rattle.gwb_c.specs.declared.fresh.Range.{Range}

-- the numbers above the first bound, up to the second
abbrev pub above : ℕ → ℕ → Option Range
above before now = cond (nat_lt before now) (Some (record { first = before + 1; last = now })) None

-- the same for each kind except solids, whose numbers a line names
abbrev pub fresh_in : Taken → Taken → ℕ → Option Range
fresh_in before now k =
    cond (nat_eq k 1) (above before.face now.face)
    (cond (nat_eq k 2) (above before.loop now.loop)
    (cond (nat_eq k 3) (above before.edge now.edge)
    (cond (nat_eq k 4) (above before.vertex now.vertex) None)))
