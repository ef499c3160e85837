-- What the calls of the table of codes say about a row.
use Rattle.std.specs.Prelude.{◌≡◌, ℕ, Bool, true, false, Option, Some, None}
use Rattle.raw_ring.specs.declared.node.NodePtr.{NodePtr}
use Rattle.raw_ring.specs.declared.row.Row.{Row}

-- there is a row, and the node of its code lies there
abbrev pub LiesAt : Option Row → NodePtr → Type 0
LiesAt o at = (label : ℕ) × (live : Bool) × (o ≡ Some (record { at = at; label = label; live = live }))

-- there is a row with that label
abbrev pub HasLabel : Option Row → ℕ → Type 0
HasLabel o label = (at : NodePtr) × (live : Bool) × (o ≡ Some (record { at = at; label = label; live = live }))

-- the row with its code live and with a label, with its code asleep, and with another label
abbrev pub woken : ℕ → Option Row → Option Row
woken l None = None
woken l (Some r) = Some (record { at = r.at; label = l; live = true })

abbrev pub asleep : Option Row → Option Row
asleep None = None
asleep (Some r) = Some (record { at = r.at; label = r.label; live = false })

abbrev pub set_label : ℕ → Option Row → Option Row
set_label l None = None
set_label l (Some r) = Some (record { at = r.at; label = l; live = r.live })
