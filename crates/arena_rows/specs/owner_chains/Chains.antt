-- Rows by number: what they stand for, and how they fit together.
use Rattle.std.specs.Prelude.{◌≡◌, ◌≢◌, ℕ, ◌+◌, ◌-◌, ◌<◌, ◌≤◌, Bool, true, false, cond, nat_eq, List, length, Option, Some, None, slice_index_or}
use Rattle.boundary_model.specs.Table.{Table, tabulate}
use Rattle.arena_rows.specs.declared.owner_chains.rows.Head.{Head}
use Rattle.arena_rows.specs.declared.owner_chains.rows.Link.{Link}
use Rattle.arena_rows.specs.owner_chains.Owners.{Owners, owned}

-- row n, if there is one
abbrev pub link_at : List (Option Link) → ℕ → Option Link
link_at links n = slice_index_or links n None

abbrev pub no_head : Head
no_head = record { count = 0; first = 0; finger = 0 }

abbrev pub head_in : Option Head → Head
head_in None = no_head
head_in (Some head) = head

-- what an owner has
abbrev pub head_at : List (Option Head) → ℕ → Head
head_at heads o = head_in (slice_index_or heads o None)

abbrev pub owner_in : Option Link → Option ℕ
owner_in None = None
owner_in (Some link) = Some link.owner

abbrev pub next_in : Option Link → ℕ
next_in None = 0
next_in (Some link) = link.next

-- whether the row is that of an item of owner o
abbrev pub is_of : ℕ → Option Link → Bool
is_of o None = false
is_of o (Some link) = nat_eq link.owner o

-- the item that follows item n in the chain of owner o; the first item follows 0
abbrev pub follower : List (Option Head) → List (Option Link) → ℕ → ℕ → ℕ
follower heads links o n = cond (nat_eq n 0) (head_at heads o).first (next_in (link_at links n))

-- the row of an item, changed so that it leads on, or back, to another one
abbrev pub leading_on : ℕ → Option Link → Option Link
leading_on to None = None
leading_on to (Some link) = Some (record link { next = to })

abbrev pub leading_back : ℕ → Option Link → Option Link
leading_back to None = None
leading_back to (Some link) = Some (record link { previous = to })

-- row q after item a leads on to x and item b leads back to y
abbrev pub relinked : ℕ → ℕ → ℕ → ℕ → ℕ → Option Link → Option Link
relinked a x b y q row = cond (nat_eq q b) (leading_back y (cond (nat_eq q a) (leading_on x row) row)) (cond (nat_eq q a) (leading_on x row) row)

-- row q after the chain goes through a new row n
unfoldable pub linked_in : ℕ → Link → ℕ → Option Link → Option Link
linked_in n new q row = cond (nat_eq q n) (Some new) (relinked new.previous n new.next n q row)

-- row q after row n goes and the chain passes it
unfoldable pub linked_out : ℕ → Link → ℕ → Option Link → Option Link
linked_out n old q row = cond (nat_eq q n) None (relinked old.previous old.next old.next old.previous q row)

-- an owner's row after a new item n comes, and after an item goes
abbrev pub gained : ℕ → Link → Head → Head
gained n new head = record { count = head.count + 1; first = cond (nat_eq new.previous 0) n head.first; finger = n }

abbrev pub lost : Link → Head → Head
lost old head = record { count = head.count - 1; first = cond (nat_eq old.previous 0) old.next head.first; finger = cond (nat_eq old.previous 0) old.next old.previous }

-- m is the least item above n, or 0 if there is none
pub record IsAbove (item : ℕ → Bool) (n m : ℕ) : Type 0 where
  pub found : m ≢ 0 → (n < m) × (item m ≡ true)
  pub least : (k : ℕ) → n < k → item k ≡ true → (m ≢ 0) × (m ≤ k)

-- m is the greatest item below n, or 0 if there is none
pub record IsBelow (item : ℕ → Bool) (n m : ℕ) : Type 0 where
  pub found : m ≢ 0 → (m < n) × (item m ≡ true)
  pub greatest : (k : ℕ) → k < n → item k ≡ true → k ≤ m

-- no number that is nearer to n than the distance is an item
abbrev pub IsClear : (ℕ → Bool) → ℕ → ℕ → Type 0
IsClear item n distance = (k : ℕ) → n < k + distance → k < n + distance → item k ≡ false

-- the answer of the two numbers at a distance from n, if no number nearer to n is an item: the greatest item below n, or that neither of
-- the two is an item
abbrev pub TellsPlace : (ℕ → Bool) → ℕ → ℕ → Option ℕ → Type 0
TellsPlace item n distance None = IsClear item n (distance + 1)
TellsPlace item n distance (Some m) = IsBelow item n m

-- the items of an owner, as a test
abbrev pub items : List (Option Link) → ℕ → ℕ → Bool
items links o k = is_of o (link_at links k)

-- the owner of each item
abbrev pub owners_of : List (Option Link) → Table ℕ
owners_of links = tabulate (λ k. owner_in (link_at links k)) (length links)

abbrev pub view_of : List (Option Head) → List (Option Link) → Owners
view_of heads links = record { owner_of = owners_of links; owners_end = length heads; items_end = length links }

-- each item leads back to its owner's item before it
abbrev pub LeadBack : List (Option Link) → Type 0
LeadBack links = (n : ℕ) (link : Link) → link_at links n ≡ Some link → IsBelow (items links link.owner) n link.previous

-- each item leads to its owner's items after it and before it; each owner has its first item, their count, and a finger on one of them
pub record AreChained (heads : List (Option Head)) (links : List (Option Link)) : Type 0 where
  pub no_zero : link_at links 0 ≡ None
  pub within : length links ≤ 1000001
  pub firsts : (o : ℕ) → IsAbove (items links o) 0 (head_at heads o).first
  pub nexts : (n : ℕ) (link : Link) → link_at links n ≡ Some link → IsAbove (items links link.owner) n link.next
  pub previous : LeadBack links
  pub fingers : (o : ℕ) → (head_at heads o).finger ≢ 0 → items links o (head_at heads o).finger ≡ true
  pub counts : (o : ℕ) → (head_at heads o).count ≡ length (owned o (owners_of links))
  pub reached : (n : ℕ) (link : Link) → link_at links n ≡ Some link → link.owner < length heads
