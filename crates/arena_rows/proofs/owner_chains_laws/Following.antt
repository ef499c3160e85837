-- What follows an item, and what comes before it.
use Rattle.arena_rows.proofs.Prelude.{◌≡◌, ◌≢◌, ℕ, ◌≤◌, ◌<◌, Bool, true, cond, List, Option, Some, None, is_some, sym, ap, subst, ◌∙◌, arith, true≢false, ne_eqb, inl, inr, eqb_tells, Head, Link, AreChained, IsAbove, IsBelow, items, is_of, link_at, next_in, head_at, follower}
use Rattle.arena_rows.proofs.owner_chains_laws.Order.{at_least}

owner_of_row : (o : ℕ) (link : Link) → is_of o (Some link) ≡ true → link.owner ≡ o
owner_of_row o link h = elim (eqb_tells link.owner o) [ inl p ↦ p.1 | inr p ↦ absurd (true≢false (sym h ∙ p.0)) ]

pub owner_is : (links : List (Option Link)) (o n : ℕ) (link : Link) → link_at links n ≡ Some link → items links o n ≡ true → link.owner ≡ o
owner_is links o n link here h = owner_of_row o link (sym (ap (is_of o) here) ∙ h)

-- the row of an item
pub record IsItem (links : List (Option Link)) (o n : ℕ) : Type 0 where
  pub link : Link
  pub here : link_at links n ≡ Some link
  pub owner : link.owner ≡ o

pub item_row : (links : List (Option Link)) (o n : ℕ) → items links o n ≡ true → IsItem links o n
item_row links o n h = row_is_item (link_at links n) (λ i. link_at links n) h where
  row_is_item : (row : Option Link) → link_at links n ≡ row → is_of o row ≡ true → IsItem links o n
  row_is_item None e h = absurd (true≢false (sym h))
  row_is_item (Some link) e h = record { link = link; here = e; owner = owner_of_row o link h }

pub item_there : (links : List (Option Link)) (o n : ℕ) → items links o n ≡ true → is_some (link_at links n) ≡ true
item_there links o n h = let row = item_row links o n h in ap is_some row.here

module _ (heads : List (Option Head)) (links : List (Option Link)) (are : AreChained heads links) (o : ℕ) where
  pub next_above : (n : ℕ) (link : Link) → link_at links n ≡ Some link → link.owner ≡ o → IsAbove (items links o) n link.next
  next_above n link here own = subst (λ w. IsAbove (items links w) n link.next) own (are.nexts n link here)

  pub previous_below : (n : ℕ) (link : Link) → link_at links n ≡ Some link → link.owner ≡ o → IsBelow (items links o) n link.previous
  previous_below n link here own = subst (λ w. IsBelow (items links w) n link.previous) own (are.previous n link here)

  pub follower_above : (n : ℕ) → (n ≢ 0 → items links o n ≡ true) → IsAbove (items links o) n (follower heads links o n)
  follower_above n there = elim (eqb_tells n 0) [
    | inl e ↦ subst (λ k. IsAbove (items links o) k (follower heads links o k)) (sym e.1) (are.firsts o)
    | inr e ↦
        let row = item_row links o n (there e.1) in
        let is : follower heads links o n ≡ row.link.next = ap (λ b. cond b (head_at heads o).first (next_in (link_at links n))) e.0 ∙ ap next_in row.here in
        subst (IsAbove (items links o) n) (sym is) (next_above n row.link row.here row.owner)
  ]

  -- an item that leads to none is the last one
  pub last_above : (n : ℕ) → n ≢ 0 → (n ≢ 0 → items links o n ≡ true) → next_in (link_at links n) ≡ 0 → IsAbove (items links o) n 0
  last_above n some there end = subst (IsAbove (items links o) n) (ap (λ b. cond b (head_at heads o).first (next_in (link_at links n))) (ne_eqb n 0 some) ∙ end) (follower_above n there)

-- the walk up ends below n
pub ends_below : (item : ℕ → Bool) (n m next : ℕ) → m < n → (m ≢ 0 → item m ≡ true) → IsAbove item m next → (next ≢ 0 → n ≤ next) → IsBelow item n m
ends_below item n m next low there above last = record {
  found = λ h. (low, there h);
  greatest = λ k l h. at_least k m (λ s. let a = above.least k s h in omega (arith, a.1, last a.0, l));
}
