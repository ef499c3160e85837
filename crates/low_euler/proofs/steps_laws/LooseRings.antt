-- Tables of loose rings of one half-edge each.
use Rattle.low_euler.proofs.Prelude.{◌≡◌, ◌≢◌, ℕ, List, [], ◌∷◌, Some, None, unwrap_or, sym, ap, ◌∙◌, arith, ◌⊎◌, inl, inr, nat_tests, eqb_tells, count, IsIn, mate, edge_of, plus, minus, Table, tables, same_table, cycle, holds, tick_same, tick_other, mate_cases, first_where_is, in-holds, holds_in, Store, loose_key, loose_ring}
use Rattle.euler_operators.specs.Table as table

-- each ring holds the half-edge alone under which it stands
abbrev pub AreSingles : Table (List ℕ) → Type 0
AreSingles z = (k : ℕ) (ks : List ℕ) → table.get z k ≡ Some ks → ks ≡ k ∷ []

none_some : {X : Type 0} (x : X) → None ≡ Some x → ⊥
none_some x e = cc

pub singles_empty : AreSingles table.empty
singles_empty k ks at = absurd (none_some ks (sym (table.get-empty k) ∙ at))

pub singles_put : (z : Table (List ℕ)) (h : ℕ) → AreSingles z → AreSingles (table.put z h (h ∷ []))
singles_put z h each k ks at = grind (arith, nat_tests, tables, each k ks)

pub singles_remove : (z : Table (List ℕ)) (h : ℕ) → AreSingles z → AreSingles (table.remove z h)
singles_remove z h each k ks at = grind (arith, nat_tests, tables, each k ks)

module _ (s : Store) (h : ℕ) (each : AreSingles s.loose) (at : table.get s.loose h ≡ Some (h ∷ [])) where
  one_item : (q : ℕ) (hs : List ℕ) → hs ≡ q ∷ [] → IsIn h hs → q ≡ h
  one_item q hs e i = elim (eqb_tells h q) [ inl t ↦ sym t.1 | inr t ↦ absurd (omega (arith, i, ap (count h) e, tick_other h q t.1)) ]

  -- its ring is found, and holds it alone
  pub key_is : loose_key s h ≡ h
  unfolding loose_key
  key_is = first_where_is (λ _ hs. holds h (cycle hs)) s.loose h (h ∷ []) at (in-holds h (cycle (h ∷ [])) (omega (arith, tick_same h)))
      (λ q hs found t. one_item q hs (each q hs found) (holds_in h (cycle hs) t))

  pub ring_is : loose_ring s h ≡ h ∷ []
  ring_is = ap (λ k. unwrap_or (table.get s.loose k) []) key_is ∙ ap (λ o. unwrap_or o []) at

-- ---- two half-edges

module _ (a b : ℕ) (ne : a ≢ b) where
  -- each of the two alone in its ring
  abbrev pub pair : Table (List ℕ)
  pair = table.put (table.put table.empty a (a ∷ [])) b (b ∷ [])

  pub pair_singles : AreSingles pair
  pair_singles = singles_put (table.put table.empty a (a ∷ [])) b (singles_put table.empty a singles_empty)

  pub get_first : table.get pair a ≡ Some (a ∷ [])
  get_first = grind (arith, nat_tests, tables, ne)

  pub left_second : table.get (table.remove pair a) b ≡ Some (b ∷ [])
  left_second = grind (arith, nat_tests, tables, ne)

  pub pair_gone : table.remove (table.remove pair a) b ≡ table.empty
  pair_gone = same_table _ _ (λ q. grind (arith, nat_tests, tables))

-- ---- the two half-edges of an edge

pub halves_of : (h : ℕ) → ((plus (edge_of h) ≡ h) × (minus (edge_of h) ≡ mate h)) ⊎ ((plus (edge_of h) ≡ mate h) × (minus (edge_of h) ≡ h))
unfolding edge_of
halves_of h = elim (mate_cases h) [ inl p ↦ inl (omega arith, omega arith) | inr p ↦ inr (omega arith, omega arith) ]

-- both are taken away
pub edge_gone : (h : ℕ) (ne : mate h ≢ h) → table.remove (table.remove (pair (mate h) h ne) (plus (edge_of h))) (minus (edge_of h)) ≡ table.empty
edge_gone h ne = same_table _ _ (λ q. grind (arith, nat_tests, tables, halves_of h))
