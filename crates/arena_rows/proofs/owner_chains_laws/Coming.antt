-- The chains where one more item comes.
use Rattle.arena_rows.proofs.Prelude.{◌≡◌, ◌≢◌, ℕ, ◌+◌, ◌<◌, true, cond, nat_eq, List, length, Option, Some, None, refl, sym, ap, ◌∙◌, eq-eqb, ne_eqb, get, put, Head, Link, owned, AreChained, IsAbove, IsBelow, items, is_of, link_at, owner_in, head_at, linked_in, gained, owners_of, view_of}
use Rattle.arena_rows.specs.owner_chains.Owners as owners
use Rattle.arena_rows.proofs.owner_chains_laws.Order.{IsPlace, between, above_new, above_previous, above_other, below_new, below_next, below_other}
use Rattle.arena_rows.proofs.owner_chains_laws.Leading.{Lead, IsLed, row_now, owners_now, same, still_chained}
use Rattle.arena_rows.proofs.owner_chains_laws.Tables.{owner_at, owners_of-put}
use Rattle.arena_rows.proofs.owner_chains_laws.Counting.{owned-put, owned-put_other}

-- the new item, put between the one below it and the one that follows that
pub record Comes (heads heads' : List (Option Head)) (links links' : List (Option Link)) (n : ℕ) (new : Link) : Type 0 where
  pub are : AreChained heads links
  pub some : n ≢ 0
  pub free : link_at links n ≡ None
  pub reached : new.owner < length heads
  pub below : IsBelow (items links new.owner) n new.previous
  pub next : IsAbove (items links new.owner) new.previous new.next
  pub rows : (q : ℕ) → link_at links' q ≡ linked_in n new q (link_at links q)
  pub len : length links' ≡ length links
  pub head_rows : (q : ℕ) → head_at heads' q ≡ cond (nat_eq q new.owner) (gained n new (head_at heads new.owner)) (head_at heads q)
  pub head_len : length heads' ≡ length heads

module _ (heads heads' : List (Option Head)) (links links' : List (Option Link)) (n : ℕ) (new : Link) (c : Comes heads heads' links links' n new) where
  abbrev owner : ℕ
  owner = new.owner

  abbrev lead : Lead
  lead = record { item = n; owner = owner; below = new.previous; on_to = n; above = new.next; back_to = n; row = Some new; head = gained n new (head_at heads owner) }

  led : IsLed heads heads' links links' lead
  unfolding linked_in
  led = record {
    are = c.are;
    some = c.some;
    rows = c.rows;
    len = c.len;
    head_rows = c.head_rows;
    head_len = c.head_len;
    first = refl;
    of_below = λ some. (c.below.found some).1;
    of_above = λ some. (c.next.found some).1;
    others = λ w ne. ne_eqb owner w (λ e. ne (sym e)) ∙ sym (ap (is_of w) c.free);
  }

  table_is : owners_of links' ≡ put (owners_of links) n owner
  table_is = owners_of-put links links' n owner (owners_now heads heads' links links' lead led)

  item_here : items links' owner n ≡ true
  item_here = ap (is_of owner) (row_now heads heads' links links' lead led) ∙ eq-eqb owner owner refl

  place : IsPlace (items links owner) n new.previous new.next
  place = record {
    some = c.some;
    zero = ap (is_of owner) c.are.no_zero;
    free = ap (is_of owner) c.free;
    below = c.below;
    above = between (items links owner) n new.previous new.next c.some (ap (is_of owner) c.free) c.below c.next;
    next = c.next;
  }

  free_row : get (owners_of links) n ≡ None
  free_row = owner_at links n ∙ ap owner_in c.free

  kept : (k : ℕ) → k ≢ n → items links' owner k ≡ items links owner k
  kept = same heads heads' links links' lead led owner

  pub comes : AreChained heads' links'
  comes = still_chained heads heads' links links' lead led (record {
    leads_on = above_previous (items links owner) (items links' owner) n new.previous new.next place item_here kept;
    nexts = above_other (items links owner) (items links' owner) n new.previous new.next place item_here kept;
    back = below_next (items links owner) (items links' owner) n new.previous new.next place item_here kept;
    previous = below_other (items links owner) (items links' owner) n new.previous new.next place item_here kept;
    row = (above_new (items links owner) (items links' owner) n new.previous new.next place item_here kept, below_new (items links owner) (items links' owner) n new.previous new.next place item_here kept, c.reached);
    finger = λ some. item_here;
    count = ap (λ k. k + 1) (c.are.counts owner) ∙ sym (owned-put (owners_of links) n owner free_row) ∙ ap (λ t. length (owned owner t)) (sym table_is);
    counts = λ w ne. sym (owned-put_other (owners_of links) n owner free_row w ne) ∙ ap (λ t. length (owned w t)) (sym table_is);
  })

  pub put_is : view_of heads' links' ≡ owners.put (view_of heads links) n owner
  put_is = λ i. record { owner_of = table_is i; owners_end = c.head_len i; items_end = c.len i }
