-- The two half-edges of an edge, and what starts at a vertex.
use Rattle.session_slots.proofs.Prelude.{◌≡◌, ◌≢◌, ◌⊎◌, inl, inr, ℕ, ◌+◌, ◌*◌, ◌<◌, ◌≤◌, true, false, ap, sym, ◌∙◌, arith, true≢false, Option, Some, None, has, edge_of, Model, has_half, tail, Sound, IsStart, IsStartOf, IsStartWithin, number_fits, number_real}
use Rattle.std.proofs.lemmas.Bool.{cases_eq}

pub first : (e : ℕ) → edge_of (2 * e) ≡ e
unfolding edge_of
first e = omega arith

pub second : (e : ℕ) → edge_of (2 * e + 1) ≡ e
unfolding edge_of
second e = omega arith

either : (h e : ℕ) → edge_of h ≡ e → (h ≡ 2 * e) ⊎ (h ≡ 2 * e + 1)
unfolding edge_of
either h e is = elim (cases_eq h (2 * e)) [ inl s ↦ inl s | inr n ↦ inr (omega (arith, is, n)) ]

lt_or_le : (a b : ℕ) → (a < b) ⊎ (b ≤ a)
lt_or_le a b = grind arith

pub starts : (t a v : ℕ) → a ≡ t → a ≡ v → t ≡ v
starts t a v is at = sym is ∙ at

pub neither : (M : Model) (e v a b : ℕ) → a ≡ tail M (2 * e) → b ≡ tail M (2 * e + 1) → a ≢ v → b ≢ v → IsStartOf M e v None
neither M e v a b one two na nb = λ h of at.
    elim (either h e of) [ inl s ↦ na (one ∙ ap (tail M) (sym s) ∙ at) | inr s ↦ nb (two ∙ ap (tail M) (sym s) ∙ at) ]

-- none between a number and itself
pub none_yet : (M : Model) (v n : ℕ) → IsStartWithin v n n M None
none_yet M v n = λ h there above within. absurd (omega (arith, above, within))

-- none up to n, and no edge between n and k
none_above : (M : Model) (v m n k : ℕ) → IsStartWithin v m n M None → ((e : ℕ) → n < e → e < k → has M.edges e ≡ false) → (h : ℕ) → has_half M h ≡ true → m < edge_of h → edge_of h < k → tail M h ≢ v
none_above M v m n k up between = λ h there above below at.
    elim (lt_or_le n (edge_of h)) [ inl past ↦ true≢false (sym there ∙ between (edge_of h) past below) | inr within ↦ up h there above within at ]

pub none_left : (M : Model) (v m n k : ℕ) → IsStartWithin v m n M None → ((e : ℕ) → n < e → has M.edges e ≡ false) → IsStartWithin v m k M None
none_left M v m n k up beyond = λ h there above within. none_above M v m n (k + 1) up (λ e past below. beyond e past) h there above (omega (arith, within))

pub none_up_to : (M : Model) (v m n k e : ℕ) → IsStartWithin v m n M None → ((x : ℕ) → n < x → x < e → has M.edges x ≡ false) → k < e → IsStartWithin v m k M None
none_up_to M v m n k e up between past = λ h there above within. none_above M v m n e up between h there above (omega (arith, within, past))

pub one_more : (M : Model) (v m n e : ℕ) → IsStartWithin v m n M None → IsStartOf M e v None → ((k : ℕ) → n < k → k < e → has M.edges k ≡ false) → IsStartWithin v m e M None
one_more M v m n e up here between = λ h there above within at.
    elim (cases_eq (edge_of h) e) [ inl is ↦ here h is at | inr ne ↦ none_above M v m n e up between h there above (omega (arith, within, ne)) at ]

-- none of an edge above n, and what there is of those up to n
pub start_at_all : (M : Model) → Sound M → (v n m : ℕ) → 1000000 ≤ m → IsStartWithin v n m M None → (o : Option ℕ) → IsStartWithin v 0 n M o → IsStart v M o
start_at_all M sound v n m limit over (Some h) found = found
start_at_all M sound v n m limit over None under = λ h there at.
    let number = sound.edges_fit (edge_of h) there in
    elim (lt_or_le n (edge_of h)) [
      | inl above ↦ over h there above (omega (arith, limit, number_fits (edge_of h) number)) at
      | inr below ↦ under h there (omega (arith, number_real (edge_of h) number)) below at
    ]
