-- The table of codes, by its columns.
--     row_at-joined, length-joined, has-joined      what is read
--     place_there, label_there, live_there, lies_at, has_label      the parts of a row
--     changed      one row is written;  column_here, column_other      one column;  cell_written      a column of cells
--     IsFurther, rows_reached, ok_more      the columns reach further
use Rattle.raw_ring.proofs.Prelude.{◌≡◌, ◌≢◌, ℕ, zero, suc, ◌<◌, ◌≤◌, Bool, true, false, cond, List, [], ◌∷◌, length, set, slice_set, Option, Some, None, IsSome, is_some, Result, Ok, Err, OnOk, refl, sym, ap, ◌∙◌, arith, nat_eq, inl, inr, true≢false, eq-eqb, ne_eqb, get_or-set_same, get_or-set_other, length-set, cases_eq, row_at, has_row, NodePtr, Row, or_zero, LiesAt, HasLabel, or_false, marks, with_marks, joined, AreJoined}
use Rattle.std.proofs.lemmas.Bool.Decides.{eqb_tells}
use Rattle.raw_ring.proofs.Mapping.{rows_written, row_within}
use Rattle.raw_ring.proofs.Pointers.{some_of}

abbrev Places : Type 0
Places = List (Option NodePtr)

row_at_from : (ps : Places) (m : ℕ → ℕ × Bool) (q : ℕ) → row_at (joined ps m) q ≡ with_marks (row_at ps q) (m q)
row_at_from [] m q = refl
row_at_from (p ∷ ps) m zero = refl
row_at_from (p ∷ ps) m (suc q) = row_at_from ps (λ k. m (suc k)) q

length_from : (ps : Places) (m : ℕ → ℕ × Bool) → length (joined ps m) ≡ length ps
length_from [] m = refl
length_from (p ∷ ps) m = omega (arith, length_from ps (λ k. m (suc k)))

some_with : (p : Option NodePtr) (m : ℕ × Bool) → is_some (with_marks p m) ≡ is_some p
some_with None m = refl
some_with (Some p) m = refl

-- a column in which one row is written
pub column_here : {X : Type 0} (xs new : List (Option X)) (c : ℕ) (x : X) → ((q : ℕ) → row_at new q ≡ cond (nat_eq q c) (Some x) (row_at xs q)) → row_at new c ≡ Some x
column_here xs new c x is = is c ∙ ap (λ b. cond b (Some x) (row_at xs c)) (eq-eqb c c refl)

pub column_other : {X : Type 0} (xs new : List (Option X)) (c : ℕ) (x : X) → ((q : ℕ) → row_at new q ≡ cond (nat_eq q c) (Some x) (row_at xs q)) → (q : ℕ) → q ≢ c → row_at new q ≡ row_at xs q
column_other xs new c x is q ne = is q ∙ ap (λ b. cond b (Some x) (row_at xs q)) (ne_eqb q c ne)

-- a cell that is written
pub cell_written : {X : Type 0} (xs new : List (Option X)) (c : ℕ) (x : X) → c < length xs → new ≡ slice_set xs c (Some x) → (q : ℕ) → row_at new q ≡ cond (nat_eq q c) (Some x) (row_at xs q)
cell_written xs new c x within is q = ap (λ ys. row_at ys q) is ∙ (elim (cases_eq q c) [
  | inl e ↦ ap (row_at (slice_set xs c (Some x))) e ∙ get_or-set_same xs c (Some x) None within ∙ sym (ap (λ b. cond b (Some x) (row_at xs q)) (eq-eqb q c e))
  | inr ne ↦ get_or-set_other xs c q (Some x) None ne ∙ sym (ap (λ b. cond b (Some x) (row_at xs q)) (ne_eqb q c ne))
])

pub cells_kept : {X : Type 0} (xs new : List (Option X)) (c : ℕ) (x : X) → new ≡ slice_set xs c (Some x) → length new ≡ length xs
cells_kept xs new c x is = ap length is ∙ length-set xs c (Some x)

-- a row that was there is there
pub column_there : {X : Type 0} (xs new : List (Option X)) (c : ℕ) (x : X) → ((q : ℕ) → row_at new q ≡ cond (nat_eq q c) (Some x) (row_at xs q)) → (q : ℕ) → has_row xs q ≡ true → has_row new q ≡ true
column_there xs new c x is q h = ap is_some (is q) ∙ (elim (nat_eq q c) as (λ b. is_some (cond b (Some x) (row_at xs q)) ≡ true) [ true ↦ refl | false ↦ h ])

-- where a row is written in both, one of the first column has its row in the second
pub column_with : {X Y : Type 0} (xs xs' : List (Option X)) (ys ys' : List (Option Y)) (c : ℕ) (x : X) (y : Y) (k : ℕ) → ((q : ℕ) → row_at xs' q ≡ cond (nat_eq q c) (Some x) (row_at xs q)) → ((q : ℕ) → row_at ys' q ≡ cond (nat_eq q c) (Some y) (row_at ys q)) →
    (has_row xs k ≡ true → has_row ys k ≡ true) → has_row xs' k ≡ true → has_row ys' k ≡ true
column_with xs xs' ys ys' c x y k in_first in_second with h = ap is_some (in_second k) ∙ (elim (nat_eq k c) as (λ b. is_some (cond b (Some x) (row_at xs k)) ≡ true → is_some (cond b (Some y) (row_at ys k)) ≡ true) [
  | true ↦ λ _. refl
  | false ↦ with
]) (sym (ap is_some (in_first k)) ∙ h)

pub joined_none : AreJoined [] [] []
joined_none = record { reach_labels = omega arith; reach_lives = omega arith; labelled = λ k h. absurd (true≢false (sym h)); marked = λ k h. absurd (true≢false (sym h)) }

pub ok_more : {X E : Type 0} (r : Result X E) (m n k l : ℕ) → m ≤ n → l ≡ k → OnOk r (n < k) → OnOk r (m < l)
ok_more (Ok x) m n k l above same h = omega (arith, above, same, h)
ok_more (Err e) m n k l above same h = tt

module _ (ps : Places) (ls : List (Option ℕ)) (vs : List (Option Bool)) where
  abbrev rows : List (Option Row)
  rows = joined ps (marks ls vs)

  pub row_at-joined : (q : ℕ) → row_at rows q ≡ with_marks (row_at ps q) (marks ls vs q)
  row_at-joined q = row_at_from ps (marks ls vs) q

  pub length-joined : length rows ≡ length ps
  length-joined = length_from ps (marks ls vs)

  pub has-joined : (q : ℕ) → has_row rows q ≡ has_row ps q
  has-joined q = ap is_some (row_at-joined q) ∙ some_with (row_at ps q) (marks ls vs q)

  pub found_none : (q : ℕ) → row_at ps q ≡ None → None ≡ row_at rows q
  found_none q e = sym (row_at-joined q ∙ ap (λ o. with_marks o (marks ls vs q)) e)

  pub found_row : (q : ℕ) (at : NodePtr) (l : ℕ) (v : Bool) → row_at ps q ≡ Some at → row_at ls q ≡ Some l → row_at vs q ≡ Some v → Some (record { at = at; label = l; live = v }) ≡ row_at rows q
  found_row q at l v e f g = sym (row_at-joined q ∙ (λ i. with_marks (e i) (or_zero (f i), or_false (g i))))

  module _ (c : ℕ) where
    pub place_there : IsSome (row_at rows c) → IsSome (row_at ps c)
    place_there h = sym (has-joined c) ∙ h

    pub place_within : IsSome (row_at rows c) → c < length ps
    place_within h = let r = some_of (row_at rows c) h in omega (arith, row_within rows c r.0 r.1, length-joined)

    -- its marks have their cells
    pub mark_rooms : AreJoined ps ls vs → IsSome (row_at rows c) → (c < length ls) × (c < length vs)
    mark_rooms J h = let within = place_within h in (omega (arith, within, J.reach_labels), omega (arith, within, J.reach_lives))

    pub lies_at : (at : NodePtr) → row_at ps c ≡ Some at → LiesAt (row_at rows c) at
    lies_at at e = (or_zero (row_at ls c), or_false (row_at vs c), row_at-joined c ∙ ap (λ o. with_marks o (marks ls vs c)) e)

    pub has_label : IsSome (row_at rows c) → (l : ℕ) → row_at ls c ≡ Some l → HasLabel (row_at rows c) l
    has_label h l e = let at = some_of (row_at ps c) (place_there h) in (at.0, or_false (row_at vs c), row_at-joined c ∙ (λ i. with_marks (at.1 i) (or_zero (e i), or_false (row_at vs c))))

    -- one row is written
    pub changed : (ps' : Places) (ls' : List (Option ℕ)) (vs' : List (Option Bool)) (r : Row) → c < length ps → length ps' ≡ length ps → with_marks (row_at ps' c) (marks ls' vs' c) ≡ Some r →
        ((q : ℕ) → q ≢ c → with_marks (row_at ps' q) (marks ls' vs' q) ≡ with_marks (row_at ps q) (marks ls vs q)) → joined ps' (marks ls' vs') ≡ set rows c (Some r)
    changed ps' ls' vs' r within len here others =
        rows_written rows (joined ps' (marks ls' vs')) c r (omega (arith, within, length-joined)) (length_from ps' (marks ls' vs') ∙ len ∙ sym length-joined)
        (λ q. row_at_from ps' (marks ls' vs') q ∙ (elim (eqb_tells q c) [
          | inl p ↦ ap (λ k. with_marks (row_at ps' k) (marks ls' vs' k)) p.1 ∙ here ∙ sym (ap (λ b. cond b (Some r) (row_at rows q)) p.0)
          | inr p ↦ others q p.1 ∙ sym (row_at-joined q) ∙ sym (ap (λ b. cond b (Some r) (row_at rows q)) p.0)
        ]))

    -- the marks of a place are written
    pub marks_changed : (ls' : List (Option ℕ)) (vs' : List (Option Bool)) (f : Option Row → Option Row) (at : NodePtr) (r : Row) → row_at ps c ≡ Some at → f (with_marks (Some at) (marks ls vs c)) ≡ Some r → with_marks (Some at) (marks ls' vs' c) ≡ Some r →
        ((q : ℕ) → q ≢ c → row_at ls' q ≡ row_at ls q) → ((q : ℕ) → q ≢ c → row_at vs' q ≡ row_at vs q) → joined ps (marks ls' vs') ≡ set rows c (f (row_at rows c))
    marks_changed ls' vs' f at r placed was here same_labels same_lives =
        let row_is : row_at rows c ≡ with_marks (Some at) (marks ls vs c) = row_at-joined c ∙ ap (λ o. with_marks o (marks ls vs c)) placed in
        changed ps ls' vs' r (place_within (ap is_some row_is)) refl (ap (λ o. with_marks o (marks ls' vs' c)) placed ∙ here)
        (λ q ne i. with_marks (row_at ps q) (or_zero (same_labels q ne i), or_false (same_lives q ne i)))
        ∙ ap (set rows c) (sym was ∙ ap f (sym row_is))

-- where there is no place, the marks don't count
same_marks : (p : Option NodePtr) (l l' : Option ℕ) (v v' : Option Bool) → (is_some p ≡ true → l' ≡ l) → (is_some p ≡ true → v' ≡ v) → with_marks p (or_zero l', or_false v') ≡ with_marks p (or_zero l, or_false v)
same_marks None l l' v v' e f = refl
same_marks (Some at) l l' v v' e f = λ i. with_marks (Some at) (or_zero (e refl i), or_false (f refl i))

-- the columns of marks reach further: the cells of the codes that have a place are as they were
abbrev pub IsFurther : {X : Type 0} → Places → List (Option X) → List (Option X) → Type 0
IsFurther ps xs new = (q : ℕ) → has_row ps q ≡ true → row_at new q ≡ row_at xs q

pub rows_reached : (ps ps' : Places) (ls ls' : List (Option ℕ)) (vs vs' : List (Option Bool)) → ((q : ℕ) → row_at ps' q ≡ row_at ps q) → IsFurther ps ls ls' → IsFurther ps vs vs' →
    (q : ℕ) → row_at (joined ps' (marks ls' vs')) q ≡ row_at (joined ps (marks ls vs)) q
rows_reached ps ps' ls ls' vs vs' same_places same_labels same_lives q =
    row_at-joined ps' ls' vs' q ∙ ap (λ o. with_marks o (marks ls' vs' q)) (same_places q)
    ∙ same_marks (row_at ps q) (row_at ls q) (row_at ls' q) (row_at vs q) (row_at vs' q) (same_labels q) (same_lives q) ∙ sym (row_at-joined ps ls vs q)
