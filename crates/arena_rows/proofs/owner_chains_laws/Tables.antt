-- The table of owners that the rows stand for.
use Rattle.arena_rows.proofs.Prelude.{◌≡◌, ℕ, ◌≤◌, true, false, cond, nat_eq, List, length, Option, Some, None, is_some, refl, sym, ap, ◌∙◌, arith, slice_index_or, get, put, remove, get-put, get-remove, tabulate, same_table, Head, Link, owned, is_owner, head_in, head_at, link_at, owner_in, items, owners_of, map_row, table_of}
use Rattle.arena_rows.proofs.Views.{row_within, get-table_of, has-row}
use Rattle.arena_rows.proofs.owner_chains_laws.Linking.{is_of-owner_in}
use Rattle.arena_rows.proofs.owner_chains_laws.Counting.{few}

-- an owner that has an item has its row
pub head_there : (row : Option Head) → 1 ≤ (head_in row).count → is_some row ≡ true
head_there None h = absurd (omega (arith, h))
head_there (Some head) h = refl

-- an owner's row is written
pub head_written : (heads new : List (Option Head)) (o : ℕ) (row now : Head) → row ≡ now → ((q : ℕ) → slice_index_or new q None ≡ cond (nat_eq q o) (Some row) (slice_index_or heads q None)) → (q : ℕ) →
    head_at new q ≡ cond (nat_eq q o) now (head_at heads q)
head_written heads new o row now is rows q = ap head_in (rows q) ∙ (elim (nat_eq q o) as (λ b. head_in (cond b (Some row) (slice_index_or heads q None)) ≡ cond b now (head_at heads q)) [ true ↦ is | false ↦ refl ])

module _ (links : List (Option Link)) where
  owner_is : (row : Option Link) → owner_in row ≡ map_row (λ (link : Link). link.owner) row
  owner_is None = refl
  owner_is (Some link) = refl

  owners_are : owners_of links ≡ table_of (λ (link : Link). link.owner) links
  owners_are = λ i. tabulate (λ k. owner_is (link_at links k) i) (length links)

  pub owner_at : (q : ℕ) → get (owners_of links) q ≡ owner_in (link_at links q)
  owner_at q = ap (λ t. get t q) owners_are ∙ get-table_of (λ (link : Link). link.owner) links q ∙ sym (owner_is (link_at links q))

  pub row_there : (q : ℕ) → is_some (get (owners_of links) q) ≡ true → is_some (link_at links q) ≡ true
  row_there q h = has-row (λ (link : Link). link.owner) links q (ap (λ t. is_some (get t q)) (sym owners_are) ∙ h)

  pub row_free : (q : ℕ) → get (owners_of links) q ≡ None → link_at links q ≡ None
  row_free q h = no_owner_no_row (link_at links q) (sym (owner_at q) ∙ h) where
    no_owner_no_row : (row : Option Link) → owner_in row ≡ None → row ≡ None
    no_owner_no_row None e = refl
    no_owner_no_row (Some link) e = cc

  pub item_at : (o q : ℕ) → is_owner o (get (owners_of links) q) ≡ items links o q
  item_at o q = ap (is_owner o) (owner_at q) ∙ sym (is_of-owner_in o (link_at links q))

  pub few_owned : (o : ℕ) → length (owned o (owners_of links)) ≤ length links
  few_owned o = few (λ _ x. nat_eq x o) (owners_of links) (length links) (λ q h. row_within links q (row_there q h))

module _ (links new : List (Option Link)) where
  pub owners_of-same : ((q : ℕ) → link_at new q ≡ link_at links q) → owners_of new ≡ owners_of links
  owners_of-same is = same_table _ _ (λ q. owner_at new q ∙ ap owner_in (is q) ∙ sym (owner_at links q))

  pub owners_of-put : (n o : ℕ) → ((q : ℕ) → owner_in (link_at new q) ≡ cond (nat_eq q n) (Some o) (owner_in (link_at links q))) → owners_of new ≡ put (owners_of links) n o
  owners_of-put n o is = same_table _ _ (λ q. owner_at new q ∙ is q ∙ ap (cond (nat_eq q n) (Some o)) (sym (owner_at links q)) ∙ sym (get-put (owners_of links) n o q))

  pub owners_of-remove : (n : ℕ) → ((q : ℕ) → owner_in (link_at new q) ≡ cond (nat_eq q n) None (owner_in (link_at links q))) → owners_of new ≡ remove (owners_of links) n
  owners_of-remove n is = same_table _ _ (λ q. owner_at new q ∙ is q ∙ ap (cond (nat_eq q n) None) (sym (owner_at links q)) ∙ sym (get-remove (owners_of links) n q))
