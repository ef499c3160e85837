-- The part of a vertex's fan from one half-edge up to another, and what operators make of fans.
use Rattle.euler_laws.proofs.Prelude.{◌≡◌, ◌≢◌, ℕ, ◌*◌, true, false, List, [], ◌∷◌, ◌++◌, length, is_some, refl, sym, arith, ◌⊎◌, inl, inr, true≢false, nat_cmp, find, count, IsIn, IsApart, rest, canonical, upto, onward, IsRing, after_mev, after_mef, after_kev, after_kef, put_ring, take_ring, mate, edge_of, is_first, plus, minus, Model, EdgeRow, round, arc, HasHalf, arc_ring, vertex_mev, vertex_mev_other, vertex_mef_first, vertex_mef_second, vertex_mef_other, vertex_kev, vertex_kev_other, vertex_kef_first, vertex_kef_second, vertex_kef_other, mate_cases, apart_within}
use Rattle.euler_operators.specs.Table as table

pub halves_of_edge : (x : ℕ) → ((x ≡ plus (edge_of x)) × (is_first x ≡ true)) ⊎ ((x ≡ minus (edge_of x)) × (is_first x ≡ false))
unfolding edge_of
halves_of_edge x = elim (mate_cases x) [ inl p ↦ inl (omega arith, p.2) | inr p ↦ inr (omega arith, p.2) ]

codes : List (ℕ × EdgeRow) → List ℕ
codes [] = []
codes (e ∷ es) = plus e.0 ∷ minus e.0 ∷ codes es

length-codes : (es : List (ℕ × EdgeRow)) → length (codes es) ≡ 2 * length es
unfolding codes
length-codes [] = refl
length-codes (e ∷ es) = omega (arith, length-codes es)

found_in : (x : ℕ) (es : List (ℕ × EdgeRow)) → is_some (find nat_cmp (edge_of x) es) ≡ true → IsIn x (codes es)
unfolding codes
found_in x [] t = absurd (true≢false (sym t))
found_in x (e ∷ es) t = grind (arith, halves_of_edge x, found_in x es)

half_in : (M : Model) (x : ℕ) → HasHalf M x → IsIn x (codes M.edges.rows)
unfolding table.get
half_in M x t = found_in x M.edges.rows t

-- the arc from g to k is the part of the fan from g up to k
pub arc_is : (M : Model) (ws : List ℕ) (g k : ℕ) → IsApart ws → IsRing (round M) ws → ((x : ℕ) → IsIn x ws → HasHalf M x) → IsIn g ws → IsIn k ws → arc M g k ≡ upto g k ws
unfolding arc
arc_is M ws g k d r there i j = arc_ring (round M) g k ws (2 * length M.edges.rows) r i j
    (omega (arith, apart_within ws (codes M.edges.rows) d (λ x w. half_in M x (there x w)), length-codes M.edges.rows))

-- ---- the laws of vertices, at the half-edges of a model

-- the half-edges of ws are a fan: next, from each one's mate, leads round them
abbrev pub IsFan : (ℕ → ℕ) → List ℕ → Type 0
IsFan next ws = IsRing (λ x. next (mate x)) ws

pub fan_mev : (next : ℕ → ℕ) (h c e : ℕ) (ws : List ℕ) → IsApart ws → IsIn c ws → IsIn e ws → count h ws ≡ 0 → count (mate h) ws ≡ 0 → IsFan next ws →
    IsFan (after_mev next h (mate h) c e) (mate h ∷ upto c e ws) × IsFan (after_mev next h (mate h) c e) (h ∷ onward c e ws)
unfolding mate is_first
fan_mev = vertex_mev

pub fan_mev_other : (next : ℕ → ℕ) (h c e : ℕ) → h ≢ e → (ws : List ℕ) → IsApart ws → count h ws ≡ 0 → count (mate h) ws ≡ 0 → IsFan next ws → count c ws ≡ 0 → count e ws ≡ 0 →
    IsFan (after_mev next h (mate h) c e) ws
unfolding mate is_first
fan_mev_other = vertex_mev_other

pub fan_mef_first : (next : ℕ → ℕ) (h c e : ℕ) → h ≢ e → (ws : List ℕ) → IsApart ws → count h ws ≡ 0 → count (mate h) ws ≡ 0 → IsFan next ws → IsIn c ws → count e ws ≡ 0 →
    IsFan (after_mef next h (mate h) c e) (put_ring h c ws)
unfolding mate is_first
fan_mef_first = vertex_mef_first

pub fan_mef_second : (next : ℕ → ℕ) (h c e : ℕ) → h ≢ e → (ws : List ℕ) → IsApart ws → count h ws ≡ 0 → count (mate h) ws ≡ 0 → IsFan next ws → IsIn e ws → count c ws ≡ 0 →
    IsFan (after_mef next h (mate h) c e) (put_ring (mate h) e ws)
unfolding mate is_first
fan_mef_second = vertex_mef_second

pub fan_mef_other : (next : ℕ → ℕ) (h c e : ℕ) → h ≢ e → (ws : List ℕ) → IsApart ws → count h ws ≡ 0 → count (mate h) ws ≡ 0 → IsFan next ws → count c ws ≡ 0 → count e ws ≡ 0 →
    IsFan (after_mef next h (mate h) c e) ws
unfolding mate is_first
fan_mef_other = vertex_mef_other

pub fan_kef_first : (next : ℕ → ℕ) (h : ℕ) (ws : List ℕ) → IsApart ws → IsFan next ws → IsIn h ws → count (mate h) ws ≡ 0 → next (mate h) ≢ h → IsFan (after_kef next h (mate h)) (take_ring h ws)
unfolding mate is_first
fan_kef_first = vertex_kef_first

pub fan_kef_second : (next : ℕ → ℕ) (h : ℕ) (ws : List ℕ) → IsApart ws → IsFan next ws → IsIn (mate h) ws → count h ws ≡ 0 → next (mate (mate h)) ≢ mate h → IsFan (after_kef next h (mate h)) (take_ring (mate h) ws)
unfolding mate is_first
fan_kef_second = vertex_kef_second

pub fan_kef_other : (next : ℕ → ℕ) (h : ℕ) (ws : List ℕ) → IsApart ws → IsFan next ws → count h ws ≡ 0 → count (mate h) ws ≡ 0 → IsFan (after_kef next h (mate h)) ws
unfolding mate is_first
fan_kef_other = vertex_kef_other

pub fan_kev : (next : ℕ → ℕ) (h : ℕ) (ws vs : List ℕ) → IsApart (ws ++ vs) → IsIn h ws → IsIn (mate h) vs → next (mate h) ≢ h → IsFan next ws → IsFan next vs →
    IsFan (after_kev next h (mate h)) (canonical (rest h ws ++ rest (mate h) vs))
unfolding mate is_first
fan_kev = vertex_kev

pub fan_kev_other : (next : ℕ → ℕ) (h : ℕ) (ws : List ℕ) → count h ws ≡ 0 → count (mate h) ws ≡ 0 → IsFan next ws → IsFan (after_kev next h (mate h)) ws
unfolding mate is_first
fan_kev_other = vertex_kev_other
