-- Items that have owners, by number.
use Rattle.std.specs.Prelude.{◌≡◌, ℕ, ◌<◌, ◌≤◌, Bool, true, false, nat_eq, List, Option, Some, None, refl}
use Rattle.std.specs.Coded.{Coded, code_by, coded×, coded_ℕ}
use Rattle.boundary_model.specs.Table as table
use Rattle.boundary_model.specs.Table.{Table, all_where}

-- the owner of each item, and the ends up to which the numbers of owners and of items have their room
pub record Owners : Type 0 where
  pub owner_of : Table ℕ
  pub owners_end : ℕ
  pub items_end : ℕ

-- nothing has an owner, and no number has room
abbrev pub no_owners : Owners
no_owners = record { owner_of = table.empty; owners_end = 0; items_end = 0 }

-- item n gets owner o
abbrev pub put : Owners → ℕ → ℕ → Owners
put os n o = record os { owner_of = table.put os.owner_of n o }

-- item n goes
abbrev pub take : Owners → ℕ → Owners
take os n = record os { owner_of = table.remove os.owner_of n }

-- whether an owner is there and is o
abbrev pub is_owner : ℕ → Option ℕ → Bool
is_owner o None = false
is_owner o (Some x) = nat_eq x o

-- the items of an owner, in rising order
abbrev pub owned : ℕ → Table ℕ → List ℕ
owned o owners = all_where (λ _ x. nat_eq x o) owners

-- the least item of owner o above n, or none
abbrev pub IsNextItem : Table ℕ → ℕ → ℕ → Option ℕ → Type 0
IsNextItem t o n None = (k : ℕ) → n < k → is_owner o (table.get t k) ≡ false
IsNextItem t o n (Some m) = (n < m) × (is_owner o (table.get t m) ≡ true) × ((k : ℕ) → n < k → k < m → is_owner o (table.get t k) ≡ false)

-- the owners stay, and no room is lost
pub record OwnersHaveGrown (old new : Owners) : Type 0 where
  pub same : new.owner_of ≡ old.owner_of
  pub owners : old.owners_end ≤ new.owners_end
  pub items : old.items_end ≤ new.items_end

-- a code, through which contracts see the owners
abbrev pub coded_owners : Coded Owners
coded_owners = code_by (Table ℕ × (ℕ × ℕ)) (coded× (table.code coded_ℕ) (coded× coded_ℕ coded_ℕ)) (λ os. (os.owner_of, (os.owners_end, os.items_end)))
    (λ t. record { owner_of = t.0; owners_end = t.1.0; items_end = t.1.1 }) (λ _. refl)
