-- What the chains say of the owners; chains of nothing, and with more room.
use Rattle.arena_rows.proofs.Prelude.{◌≡◌, ◌≢◌, ℕ, ◌≤◌, nat_eq, List, [], length, Option, Some, None, refl, sym, ap, subst, ◌∙◌, arith, false_from_ne_true, empty, get-empty, same_table, all_where_none, Head, Link, no_owners, owned, IsNextItem, OwnersHaveGrown, AreChained, IsAbove, items, is_of, link_at, head_at, owners_of, view_of}
use Rattle.arena_rows.proofs.owner_chains_laws.Order.{above_same, below_same}
use Rattle.arena_rows.proofs.owner_chains_laws.Tables.{owner_at, item_at, owners_of-same}

module _ (links : List (Option Link)) (o n : ℕ) where
  pub none_above : (m : ℕ) → m ≡ 0 → IsAbove (items links o) n m → IsNextItem (owners_of links) o n None
  none_above m e above k l = false_from_ne_true _ (λ h. (above.least k l (sym (item_at links o k) ∙ h)).0 e)

  pub one_above : (m : ℕ) → m ≢ 0 → IsAbove (items links o) n m → IsNextItem (owners_of links) o n (Some m)
  one_above m some above = ((above.found some).0, item_at links o m ∙ (above.found some).1, λ k l less. false_from_ne_true _ (λ h. omega (arith, less, (above.least k l (sym (item_at links o k) ∙ h)).1)))

-- the same rows, and more
module _ (heads heads' : List (Option Head)) (links links' : List (Option Link)) (are : AreChained heads links) (same_heads : (q : ℕ) → head_at heads' q ≡ head_at heads q) (same_links : (q : ℕ) → link_at links' q ≡ link_at links q) where
  same_items : (o k : ℕ) → items links' o k ≡ items links o k
  same_items o k = ap (is_of o) (same_links k)

  pub still_chained : length links' ≤ 1000001 → length heads ≤ length heads' → AreChained heads' links'
  still_chained limit grows = record {
    no_zero = same_links 0 ∙ are.no_zero;
    within = limit;
    firsts = λ o. subst (λ (h : Head). IsAbove (items links' o) 0 h.first) (sym (same_heads o)) (above_same _ _ (same_items o) 0 _ (are.firsts o));
    nexts = λ n link at. above_same _ _ (same_items link.owner) n _ (are.nexts n link (sym (same_links n) ∙ at));
    previous = λ n link at. below_same _ _ (same_items link.owner) n _ (are.previous n link (sym (same_links n) ∙ at));
    fingers = λ o some. let f = ap (λ (h : Head). h.finger) (same_heads o) in ap (items links' o) f ∙ same_items o _ ∙ are.fingers o (λ z. some (f ∙ z));
    counts = λ o. ap (λ (h : Head). h.count) (same_heads o) ∙ are.counts o ∙ ap (λ t. length (owned o t)) (sym (owners_of-same links links' same_links));
    reached = λ n link at. omega (arith, are.reached n link (sym (same_links n) ∙ at), grows);
  }

  pub grown : length heads ≤ length heads' → length links ≤ length links' → OwnersHaveGrown (view_of heads links) (view_of heads' links')
  grown more_heads more_links = record { same = owners_of-same links links' same_links; owners = more_heads; items = more_links }

-- nothing
no_table : owners_of [] ≡ empty
no_table = same_table _ _ (λ q. owner_at [] q ∙ sym (get-empty q))

pub chained-empty : AreChained [] []
chained-empty = record {
  no_zero = refl;
  within = omega arith;
  firsts = λ o. record { found = λ h. absurd (h refl); least = λ k l h. cc };
  nexts = λ n link at. cc;
  previous = λ n link at. cc;
  fingers = λ o h. absurd (h refl);
  counts = λ o. sym (ap (λ (ns : List ℕ). length ns) (all_where_none (λ _ x. nat_eq x o) (owners_of []) (λ q y at. let e = sym (owner_at [] q) ∙ at in cc)));
  reached = λ n link at. cc;
}

pub view-empty : view_of [] [] ≡ no_owners
view-empty = λ i. record { owner_of = no_table i; owners_end = 0; items_end = 0 }
