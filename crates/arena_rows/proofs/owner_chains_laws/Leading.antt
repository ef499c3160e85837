-- The chains where one row is written, one item leads on elsewhere and one back.
use Rattle.arena_rows.proofs.Prelude.{◌≡◌, ◌≢◌, ℕ, ◌<◌, true, cond, nat_eq, List, length, Option, Some, None, sym, ap, subst, ◌∙◌, arith, eq-eqb, ne_eqb, inl, inr, eqb_tells, Head, Link, owned, is_owner, AreChained, IsAbove, IsBelow, items, is_of, link_at, owner_in, head_at, relinked, owners_of}
use Rattle.arena_rows.proofs.owner_chains_laws.Order.{above_same, below_same}
use Rattle.arena_rows.proofs.owner_chains_laws.Following.{owner_is}
use Rattle.arena_rows.proofs.owner_chains_laws.Linking.{IsRelinked, relinked_row, owner_in-relinked, none_relinked, is_of-owner_in}

-- an item's row is written, the one below it leads on elsewhere and the one above it back, and the owner's row is written
pub record Lead : Type 0 where
  pub item : ℕ
  pub owner : ℕ
  pub below : ℕ
  pub on_to : ℕ
  pub above : ℕ
  pub back_to : ℕ
  pub row : Option Link
  pub head : Head

pub record IsLed (heads heads' : List (Option Head)) (links links' : List (Option Link)) (l : Lead) : Type 0 where
  pub are : AreChained heads links
  pub some : l.item ≢ 0
  pub rows : (q : ℕ) → link_at links' q ≡ cond (nat_eq q l.item) l.row (relinked l.below l.on_to l.above l.back_to q (link_at links q))
  pub len : length links' ≡ length links
  pub head_rows : (q : ℕ) → head_at heads' q ≡ cond (nat_eq q l.owner) l.head (head_at heads q)
  pub head_len : length heads' ≡ length heads
  pub first : l.head.first ≡ cond (nat_eq l.below 0) l.on_to (head_at heads l.owner).first
  pub of_below : l.below ≢ 0 → items links l.owner l.below ≡ true
  pub of_above : l.above ≢ 0 → items links l.owner l.above ≡ true
  pub others : (w : ℕ) → w ≢ l.owner → is_of w l.row ≡ is_of w (link_at links l.item)

-- row n leads to its neighbours
abbrev pub LiesBetween : List (Option Link) → ℕ → ℕ → Option Link → Type 0
LiesBetween links end n None = Unit {0}
LiesBetween links end n (Some link) = IsAbove (items links link.owner) n link.next × IsBelow (items links link.owner) n link.previous × (link.owner < end)

-- what the new row, the new neighbours and the owner's row say
pub record IsRight (heads : List (Option Head)) (links links' : List (Option Link)) (l : Lead) : Type 0 where
  pub leads_on : IsAbove (items links' l.owner) l.below l.on_to
  pub nexts : (q k : ℕ) → q ≢ l.item → q ≢ l.below → (q ≢ 0 → items links l.owner q ≡ true) → IsAbove (items links l.owner) q k → IsAbove (items links' l.owner) q k
  pub back : l.above ≢ 0 → IsBelow (items links' l.owner) l.above l.back_to
  pub previous : (q k : ℕ) → q ≢ l.item → q ≢ l.above → items links l.owner q ≡ true → IsBelow (items links l.owner) q k → IsBelow (items links' l.owner) q k
  pub row : LiesBetween links' (length heads) l.item l.row
  pub finger : l.head.finger ≢ 0 → items links' l.owner l.head.finger ≡ true
  pub count : l.head.count ≡ length (owned l.owner (owners_of links'))
  pub counts : (w : ℕ) → w ≢ l.owner → length (owned w (owners_of links)) ≡ length (owned w (owners_of links'))

module _ (heads heads' : List (Option Head)) (links links' : List (Option Link)) (l : Lead) (c : IsLed heads heads' links links' l) where
  pub row_now : link_at links' l.item ≡ l.row
  row_now = c.rows l.item ∙ ap (λ t. cond t l.row (relinked l.below l.on_to l.above l.back_to l.item (link_at links l.item))) (eq-eqb l.item l.item (λ i. l.item))

  other : (q : ℕ) → q ≢ l.item → link_at links' q ≡ relinked l.below l.on_to l.above l.back_to q (link_at links q)
  other q ne = c.rows q ∙ ap (λ t. cond t l.row (relinked l.below l.on_to l.above l.back_to q (link_at links q))) (ne_eqb q l.item ne)

  owner_kept : (q : ℕ) → q ≢ l.item → owner_in (link_at links' q) ≡ owner_in (link_at links q)
  owner_kept q ne = ap owner_in (other q ne) ∙ owner_in-relinked l.below l.on_to l.above l.back_to q (link_at links q)

  pub owners_now : (q : ℕ) → owner_in (link_at links' q) ≡ cond (nat_eq q l.item) (owner_in l.row) (owner_in (link_at links q))
  owners_now q = elim (eqb_tells q l.item) [
    | inl p ↦ ap (λ k. owner_in (link_at links' k)) p.1 ∙ ap owner_in row_now ∙ sym (ap (λ t. cond t (owner_in l.row) (owner_in (link_at links q))) p.0)
    | inr p ↦ owner_kept q p.1 ∙ sym (ap (λ t. cond t (owner_in l.row) (owner_in (link_at links q))) p.0)
  ]

  pub same : (w k : ℕ) → k ≢ l.item → items links' w k ≡ items links w k
  same w k ne = is_of-owner_in w (link_at links' k) ∙ ap (is_owner w) (owner_kept k ne) ∙ sym (is_of-owner_in w (link_at links k))

  same_others : (w : ℕ) → w ≢ l.owner → (k : ℕ) → items links' w k ≡ items links w k
  same_others w ne k = elim (eqb_tells k l.item) [
    | inl p ↦ ap (items links' w) p.1 ∙ ap (is_of w) row_now ∙ c.others w ne ∙ sym (ap (items links w) p.1)
    | inr p ↦ same w k p.1
  ]

  not_zero : (q : ℕ) (link : Link) → link_at links q ≡ Some link → q ≢ 0
  not_zero q link at e = let z = sym at ∙ ap (link_at links) e ∙ c.are.no_zero in cc

  -- an item that is led elsewhere is the owner's
  led_owner : (k : ℕ) → (k ≢ 0 → items links l.owner k ≡ true) → (q : ℕ) (link : Link) → link_at links q ≡ Some link → q ≡ k → link.owner ≡ l.owner
  led_owner k is q link at e = owner_is links l.owner q link at (ap (items links l.owner) e ∙ is (λ z. not_zero q link at (e ∙ z)))

  head_here : (w : ℕ) → w ≡ l.owner → head_at heads' w ≡ l.head
  head_here w e = c.head_rows w ∙ ap (λ t. cond t l.head (head_at heads w)) (eq-eqb w l.owner e)

  head_other : (w : ℕ) → w ≢ l.owner → head_at heads' w ≡ head_at heads w
  head_other w ne = c.head_rows w ∙ ap (λ t. cond t l.head (head_at heads w)) (ne_eqb w l.owner ne)

  module _ (f : IsRight heads links links' l) where
    module _ (q : ℕ) (now : Link) (at : link_at links' q ≡ Some now) (apart : q ≢ l.item) where
      relinked_now : IsRelinked l.below l.on_to l.above l.back_to q (link_at links q) now
      relinked_now = relinked_row l.below l.on_to l.above l.back_to q (link_at links q) now (sym (other q apart) ∙ at)

      item_of : relinked_now.link.owner ≡ l.owner → items links l.owner q ≡ true
      item_of e = ap (is_of l.owner) relinked_now.was ∙ eq-eqb relinked_now.link.owner l.owner e

      next_after : IsAbove (items links' now.owner) q now.next
      next_after = subst (λ w. IsAbove (items links' w) q now.next) (sym relinked_now.owner) (elim (eqb_tells relinked_now.link.owner l.owner) [
        | inl p ↦ subst (λ w. IsAbove (items links' w) q now.next) (sym p.1) (elim (eqb_tells q l.below) [
          | inl e ↦ subst (IsAbove (items links' l.owner) q) (sym (relinked_now.leads_on e.1)) (subst (λ k. IsAbove (items links' l.owner) k l.on_to) (sym e.1) f.leads_on)
          | inr e ↦ subst (IsAbove (items links' l.owner) q) (sym (relinked_now.next e.1))
              (f.nexts q relinked_now.link.next apart e.1 (λ _. item_of p.1) (subst (λ w. IsAbove (items links w) q relinked_now.link.next) p.1 (c.are.nexts q relinked_now.link relinked_now.was)))
        ])
        | inr p ↦ subst (IsAbove (items links' relinked_now.link.owner) q) (sym (relinked_now.next (λ e. p.1 (led_owner l.below c.of_below q relinked_now.link relinked_now.was e))))
            (above_same (items links relinked_now.link.owner) (items links' relinked_now.link.owner) (same_others relinked_now.link.owner p.1) q relinked_now.link.next (c.are.nexts q relinked_now.link relinked_now.was))
      ])

      previous_before : IsBelow (items links' now.owner) q now.previous
      previous_before = subst (λ w. IsBelow (items links' w) q now.previous) (sym relinked_now.owner) (elim (eqb_tells relinked_now.link.owner l.owner) [
        | inl p ↦ subst (λ w. IsBelow (items links' w) q now.previous) (sym p.1) (elim (eqb_tells q l.above) [
          | inl e ↦ subst (IsBelow (items links' l.owner) q) (sym (relinked_now.back e.1)) (subst (λ k. IsBelow (items links' l.owner) k l.back_to) (sym e.1) (f.back (λ z. not_zero q relinked_now.link relinked_now.was (e.1 ∙ z))))
          | inr e ↦ subst (IsBelow (items links' l.owner) q) (sym (relinked_now.previous e.1))
              (f.previous q relinked_now.link.previous apart e.1 (item_of p.1) (subst (λ w. IsBelow (items links w) q relinked_now.link.previous) p.1 (c.are.previous q relinked_now.link relinked_now.was)))
        ])
        | inr p ↦ subst (IsBelow (items links' relinked_now.link.owner) q) (sym (relinked_now.previous (λ e. p.1 (led_owner l.above c.of_above q relinked_now.link relinked_now.was e))))
            (below_same (items links relinked_now.link.owner) (items links' relinked_now.link.owner) (same_others relinked_now.link.owner p.1) q relinked_now.link.previous (c.are.previous q relinked_now.link relinked_now.was))
      ])

    leads : (q : ℕ) (now : Link) → link_at links' q ≡ Some now → LiesBetween links' (length heads) q (Some now)
    leads q now at = elim (eqb_tells q l.item) [
      | inl p ↦ subst (λ k. LiesBetween links' (length heads) k (Some now)) (sym p.1) (subst (LiesBetween links' (length heads) l.item) (sym row_now ∙ sym (ap (link_at links') p.1) ∙ at) f.row)
      | inr p ↦ let s = relinked_now q now at p.1 in (next_after q now at p.1, previous_before q now at p.1, omega (arith, s.owner, c.are.reached q s.link s.was))
    ]

    first_here : IsAbove (items links' l.owner) 0 l.head.first
    first_here = subst (IsAbove (items links' l.owner) 0) (sym c.first) (elim (eqb_tells l.below 0) [
      | inl e ↦ subst (IsAbove (items links' l.owner) 0) (sym (ap (λ t. cond t l.on_to (head_at heads l.owner).first) e.0)) (subst (λ k. IsAbove (items links' l.owner) k l.on_to) e.1 f.leads_on)
      | inr e ↦ subst (IsAbove (items links' l.owner) 0) (sym (ap (λ t. cond t l.on_to (head_at heads l.owner).first) e.0))
          (f.nexts 0 (head_at heads l.owner).first (λ z. c.some (sym z)) (λ z. e.1 (sym z)) (λ z. absurd (z (λ i. 0))) (c.are.firsts l.owner))
    ])

    pub still_chained : AreChained heads' links'
    still_chained = record {
      no_zero = other 0 (λ z. c.some (sym z)) ∙ ap (relinked l.below l.on_to l.above l.back_to 0) c.are.no_zero ∙ none_relinked l.below l.on_to l.above l.back_to 0;
      within = omega (arith, c.len, c.are.within);
      firsts = λ w. elim (eqb_tells w l.owner) [
        | inl p ↦ subst (λ k. IsAbove (items links' k) 0 (head_at heads' w).first) (sym p.1) (subst (λ (h : Head). IsAbove (items links' l.owner) 0 h.first) (sym (head_here w p.1)) first_here)
        | inr p ↦ subst (λ (h : Head). IsAbove (items links' w) 0 h.first) (sym (head_other w p.1)) (above_same (items links w) (items links' w) (same_others w p.1) 0 _ (c.are.firsts w))
      ];
      nexts = λ q now at. (leads q now at).0;
      previous = λ q now at. (leads q now at).1;
      fingers = λ w some. elim (eqb_tells w l.owner) [
        | inl p ↦
            let g = ap (λ (h : Head). h.finger) (head_here w p.1) in
            ap (items links' w) g ∙ ap (λ k. items links' k l.head.finger) p.1 ∙ f.finger (λ z. some (g ∙ z))
        | inr p ↦
            let g = ap (λ (h : Head). h.finger) (head_other w p.1) in
            ap (items links' w) g ∙ same_others w p.1 _ ∙ c.are.fingers w (λ z. some (g ∙ z))
      ];
      counts = λ w. elim (eqb_tells w l.owner) [
        | inl p ↦ ap (λ (h : Head). h.count) (head_here w p.1) ∙ f.count ∙ ap (λ k. length (owned k (owners_of links'))) (sym p.1)
        | inr p ↦ ap (λ (h : Head). h.count) (head_other w p.1) ∙ c.are.counts w ∙ f.counts w p.1
      ];
      reached = λ q now at. omega (arith, (leads q now at).2, c.head_len);
    }
