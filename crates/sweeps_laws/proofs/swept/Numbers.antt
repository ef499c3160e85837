-- The numbers of the edges that a sweep of a loop makes, and their half-edges. e is the greatest edge before, n the number of items.
use Rattle.sweeps_laws.proofs.Prelude.{◌≡◌, ◌≢◌, ℕ, ◌+◌, ◌*◌, ◌<◌, cond, ap, arith, ◌⊎◌, inl, inr, eqb_tells, riser, top_edge, next_place}

pub riser_cases : (e i : ℕ) → ((i ≡ 0) × (riser e i ≡ e + 1)) ⊎ ((i ≢ 0) × (riser e i ≡ e + 2 * i))
riser_cases e i = elim (eqb_tells i 0) [ inl p ↦ inl (p.1, ap (λ b. cond b (e + 1) (e + 2 * i)) p.0) | inr p ↦ inr (p.1, ap (λ b. cond b (e + 1) (e + 2 * i)) p.0) ]

pub top_cases : (e n i : ℕ) → ((i + 1 ≡ n) × (top_edge e n i ≡ e + 2 * n)) ⊎ ((i + 1 ≢ n) × (top_edge e n i ≡ e + 2 * i + 3))
top_cases e n i = elim (eqb_tells (i + 1) n) [ inl p ↦ inl (p.1, ap (λ b. cond b (e + 2 * n) (e + 2 * i + 3)) p.0) | inr p ↦ inr (p.1, ap (λ b. cond b (e + 2 * n) (e + 2 * i + 3)) p.0) ]

pub next_cases : (n i : ℕ) → ((i + 1 ≡ n) × (next_place n i ≡ 0)) ⊎ ((i + 1 ≢ n) × (next_place n i ≡ i + 1))
next_cases n i = elim (eqb_tells (i + 1) n) [ inl p ↦ inl (p.1, ap (λ b. cond b 0 (i + 1)) p.0) | inr p ↦ inr (p.1, ap (λ b. cond b 0 (i + 1)) p.0) ]

-- the next place is a place
pub next_within : (n i : ℕ) → i < n → next_place n i < n
next_within n i l = grind (arith, next_cases)

-- they are new, and no two are the same
pub riser_above : (e i : ℕ) → e < riser e i
riser_above e i = grind (arith, riser_cases)

pub top_above : (e n i : ℕ) → i < n → e < top_edge e n i
top_above e n i l = elim (top_cases e n i) [ inl p ↦ omega (arith, p.1) | inr p ↦ omega (arith, p.1) ]

pub riser_apart : (e i j : ℕ) → i ≢ j → riser e i ≢ riser e j
riser_apart e i j ne s = grind (arith, riser_cases)

pub top_apart : (e n i j : ℕ) → i < n → j < n → i ≢ j → top_edge e n i ≢ top_edge e n j
top_apart e n i j l m ne s = grind (arith, top_cases)

pub riser_no_top : (e n i j : ℕ) → i < n → j < n → riser e i ≢ top_edge e n j
riser_no_top e n i j l m s = grind (arith, riser_cases, top_cases)
