-- The chains where an item goes.
use Rattle.arena_rows.proofs.Prelude.{◌≡◌, ◌≢◌, ℕ, ◌+◌, ◌-◌, true, false, cond, nat_eq, List, length, Option, Some, None, refl, sym, ap, ◌∙◌, arith, eq-eqb, ne_eqb, inl, inr, eqb_tells, remove, Head, Link, owned, AreChained, IsAbove, IsBelow, items, is_of, link_at, owner_in, head_at, linked_out, lost, owners_of, view_of}
use Rattle.arena_rows.specs.owner_chains.Owners as owners
use Rattle.arena_rows.proofs.owner_chains_laws.Order.{above_joined, above_left, below_joined, below_left}
use Rattle.arena_rows.proofs.owner_chains_laws.Following.{item_row}
use Rattle.arena_rows.proofs.owner_chains_laws.Leading.{Lead, IsLed, row_now, owners_now, same, still_chained}
use Rattle.arena_rows.proofs.owner_chains_laws.Tables.{owner_at, owners_of-remove}
use Rattle.arena_rows.proofs.owner_chains_laws.Counting.{owned-remove, owned-remove_other}

pub record Goes (heads heads' : List (Option Head)) (links links' : List (Option Link)) (n : ℕ) (old : Link) : Type 0 where
  pub are : AreChained heads links
  pub there : link_at links n ≡ Some old
  pub rows : (q : ℕ) → link_at links' q ≡ linked_out n old q (link_at links q)
  pub len : length links' ≡ length links
  pub head_rows : (q : ℕ) → head_at heads' q ≡ cond (nat_eq q old.owner) (lost old (head_at heads old.owner)) (head_at heads q)
  pub head_len : length heads' ≡ length heads

-- an item's owner counts it
pub counted : (heads : List (Option Head)) (links : List (Option Link)) (n : ℕ) (old : Link) → AreChained heads links → link_at links n ≡ Some old → (head_at heads old.owner).count ≡ length (owned old.owner (remove (owners_of links) n)) + 1
counted heads links n old are there = are.counts old.owner ∙ owned-remove (owners_of links) n old.owner (owner_at links n ∙ ap owner_in there)

-- an owner that counts none has none
pub no_items : (heads : List (Option Head)) (links : List (Option Link)) → AreChained heads links → (o : ℕ) → (head_at heads o).count ≡ 0 → (k : ℕ) → items links o k ≡ true → ⊥
no_items heads links are o none k there =
    let row = item_row links o k there in
    let some = counted heads links k row.link are row.here in omega (arith, none, some, ap (λ w. (head_at heads w).count) row.owner)

module _ (heads heads' : List (Option Head)) (links links' : List (Option Link)) (n : ℕ) (old : Link) (c : Goes heads heads' links links' n old) where
  abbrev owner : ℕ
  owner = old.owner

  abbrev lead : Lead
  lead = record { item = n; owner = owner; below = old.previous; on_to = old.next; above = old.next; back_to = old.previous; row = None; head = lost old (head_at heads owner) }

  some : n ≢ 0
  some e = let z = sym c.there ∙ ap (link_at links) e ∙ c.are.no_zero in cc

  below : IsBelow (items links owner) n old.previous
  below = c.are.previous n old c.there

  above : IsAbove (items links owner) n old.next
  above = c.are.nexts n old c.there

  led : IsLed heads heads' links links' lead
  unfolding linked_out
  led = record {
    are = c.are;
    some = some;
    rows = c.rows;
    len = c.len;
    head_rows = c.head_rows;
    head_len = c.head_len;
    first = refl;
    of_below = λ up. (below.found up).1;
    of_above = λ up. (above.found up).1;
    others = λ w ne. sym (ap (is_of w) c.there ∙ ne_eqb owner w (λ e. ne (sym e)));
  }

  table_is : owners_of links' ≡ remove (owners_of links) n
  table_is = owners_of-remove links links' n (owners_now heads heads' links links' lead led)

  item_gone : items links' owner n ≡ false
  item_gone = ap (is_of owner) (row_now heads heads' links links' lead led)

  item_there : items links owner n ≡ true
  item_there = ap (is_of owner) c.there ∙ eq-eqb owner owner refl

  kept : (k : ℕ) → k ≢ n → items links' owner k ≡ items links owner k
  kept = same heads heads' links links' lead led owner

  finger_here : (lost old (head_at heads owner)).finger ≢ 0 → items links' owner (lost old (head_at heads owner)).finger ≡ true
  finger_here up = elim (eqb_tells old.previous 0) [
    | inl e ↦
        let f = ap (λ b. cond b old.next old.previous) e.0 in
        let a = above.found (λ z. up (f ∙ z)) in
        ap (items links' owner) f ∙ kept old.next (omega (arith, a.0)) ∙ a.1
    | inr e ↦
        let f = ap (λ b. cond b old.next old.previous) e.0 in
        let b = below.found e.1 in
        ap (items links' owner) f ∙ kept old.previous (omega (arith, b.0)) ∙ b.1
  ]

  pub goes : AreChained heads' links'
  goes = still_chained heads heads' links links' lead led (record {
    leads_on = above_joined (items links owner) (items links' owner) n old.previous old.next some below above item_there item_gone kept;
    nexts = λ q k _. above_left (items links owner) (items links' owner) n old.previous old.next some below above item_there item_gone kept q k;
    back = below_joined (items links owner) (items links' owner) n old.previous old.next some below above item_there item_gone kept;
    previous = λ q k _. below_left (items links owner) (items links' owner) n old.previous old.next some below above item_there item_gone kept q k;
    row = tt;
    finger = finger_here;
    count =
        let one = counted heads links n old c.are c.there in
        let less : (head_at heads owner).count - 1 ≡ length (owned owner (remove (owners_of links) n)) = omega (arith, one) in
        less ∙ ap (λ t. length (owned owner t)) (sym table_is);
    counts = λ w ne. owned-remove_other (owners_of links) n owner (owner_at links n ∙ ap owner_in c.there) w ne ∙ ap (λ t. length (owned w t)) (sym table_is);
  })

  pub take_is : view_of heads' links' ≡ owners.take (view_of heads links) n
  take_is = λ i. record { owner_of = table_is i; owners_end = c.head_len i; items_end = c.len i }
