-- Cells with the numbers in use among them, as rows.
use Rattle.raw_cells.proofs.Prelude.{◌≡◌, ℕ, zero, suc, ◌*◌, ◌/◌, ◌≤◌, ◌<◌, Bool, true, false, cond, nat_eq, List, [], ◌∷◌, length, take, slice_set, Option, Some, None, is_some, refl, sym, ap, subst, ◌∙◌, arith, eq-eqb, ne_eqb, true≢false, inl, inr, get_or-set_same, get_or-set_other, get_or-take, length-set, length-take-le, cases_eq, cases_lt, IsLast, row_at, has_row, rows_of, AreCells, IsNext, uses}
use Rattle.raw_cells.proofs.numbers_laws.Lasts.{last_same}
use Rattle.raw_cells.proofs.numbers_laws.Words.{uses_past}

module _ {X : Type 0} where
  length-rows_of : (used : ℕ → Bool) (cells : List (Option X)) → length (rows_of used cells) ≡ length cells
  length-rows_of used [] = refl
  length-rows_of used (x ∷ cells) = ap suc (length-rows_of (λ k. used (suc k)) cells)

  cond-same : (b : Bool) (x : Option X) → cond b x x ≡ x
  cond-same true x = refl
  cond-same false x = refl

  -- row n is what the cell holds, where n is in use
  row_in : (used : ℕ → Bool) (cells : List (Option X)) (n : ℕ) → row_at (rows_of used cells) n ≡ cond (used n) (row_at cells n) None
  row_in used [] n = sym (cond-same (used n) None)
  row_in used (x ∷ cells) zero = refl
  row_in used (x ∷ cells) (suc n) = row_in (λ k. used (suc k)) cells n

  -- rows are the same where the cells of the numbers in use are
  rows_alike : (used : ℕ → Bool) (cells others : List (Option X)) → length others ≡ length cells → ((k : ℕ) → k < length cells → used k ≡ true → row_at others k ≡ row_at cells k) → rows_of used others ≡ rows_of used cells
  rows_alike used [] [] len same = refl
  rows_alike used [] (y ∷ others) len same = absurd (omega (arith, len))
  rows_alike used (x ∷ cells) [] len same = absurd (omega (arith, len))
  rows_alike used (x ∷ cells) (y ∷ others) len same = λ i. first (used 0) (same 0 (omega arith)) i ∷ rows_alike (λ k. used (suc k)) cells others (omega (arith, len)) (λ k less. same (suc k) (omega (arith, less))) i where
    first : (b : Bool) → (b ≡ true → y ≡ x) → cond b y None ≡ cond b x None
    first true e = e refl
    first false e = refl

pub no_cells : {X : Type 0} (cells : List (Option X)) (words : List ℕ) → words ≡ [] → AreCells cells words 0
no_cells cells words none = record {
  limit = omega arith;
  fits = omega arith;
  bits = omega arith;
  beyond = λ k h. ap (λ ws. uses ws k) none ∙ uses_past [] k (omega arith);
  written = λ k h. absurd (true≢false (sym h ∙ ap (λ ws. uses ws k) none ∙ uses_past [] k (omega arith)));
}

module _ {X : Type 0} (cells : List (Option X)) (words : List ℕ) (room : ℕ) (C : AreCells cells words room) where
  abbrev rows : List (Option X)
  rows = rows_of (uses words) (take room cells)

  pub length_rows : length rows ≡ room
  length_rows = length-rows_of (uses words) (take room cells) ∙ length-take-le room cells C.fits

  -- row n is what cell n holds, where n is in use
  pub row_is : (n : ℕ) → row_at rows n ≡ cond (uses words n) (row_at cells n) None
  row_is n = elim (cases_lt n room) [
    | inl less ↦ row_in (uses words) (take room cells) n ∙ ap (λ r. cond (uses words n) r None) (get_or-take room cells n None less)
    | inr past ↦
        let none = C.beyond n past in
        row_in (uses words) (take room cells) n ∙ ap (λ b. cond b (row_at (take room cells) n) None) none ∙ sym (ap (λ b. cond b (row_at cells n) None) none)
  ]

  -- a row is there where its number is in use
  pub has_used : (n : ℕ) → has_row rows n ≡ uses words n
  has_used n = ap is_some (row_is n) ∙ told (uses words n) (λ h. C.written n h) where
    told : (b : Bool) → (b ≡ true → has_row cells n ≡ true) → is_some (cond b (row_at cells n) None) ≡ b
    told true written = written refl
    told false written = refl

  used_within : (n : ℕ) → uses words n ≡ true → n < room
  used_within n h = elim (cases_lt n room) [
    | inl less ↦ less
    | inr past ↦ absurd (true≢false (sym h ∙ C.beyond n past))
  ]

  pub row_used : (n : ℕ) → is_some (row_at rows n) ≡ true → uses words n ≡ true
  row_used n h = sym (has_used n) ∙ h

  pub row_written : (n : ℕ) → is_some (row_at rows n) ≡ true → is_some (row_at cells n) ≡ true
  row_written n h = C.written n (row_used n h)

  pub row_found : (n : ℕ) → uses words n ≡ true → row_at rows n ≡ row_at cells n
  row_found n h = row_is n ∙ ap (λ b. cond b (row_at cells n) None) h

  pub row_not : (n : ℕ) → uses words n ≡ false → row_at rows n ≡ None
  row_not n h = row_is n ∙ ap (λ b. cond b (row_at cells n) None) h

  pub row_known : (n : ℕ) (x : X) → is_some (row_at rows n) ≡ true → row_at cells n ≡ Some x → row_at rows n ≡ Some x
  row_known n x h is = row_found n (row_used n h) ∙ is

  pub last_row : (m : ℕ) → IsLast (uses words) m → IsLast (has_row rows) m
  last_row m last = last_same (uses words) (has_row rows) m has_used last

  pub next_row : (n : ℕ) (found : Option ℕ) → IsNext (uses words) n found → IsNext (has_row rows) n found
  next_row n found next = subst (λ (u : ℕ → Bool). IsNext u n found) (λ i k. sym (has_used k) i) next

  -- equal rows, over cells of their own
  pub rows_copied : (copy : List (Option X)) → room ≤ length copy → ((k : ℕ) → k < room → uses words k ≡ true → row_at copy k ≡ row_at cells k) → rows_of (uses words) (take room copy) ≡ rows
  rows_copied copy fits same = rows_alike (uses words) (take room cells) (take room copy) (length-take-le room copy fits ∙ sym (length-take-le room cells C.fits))
      (λ k less used. let within : k < room = omega (arith, less, length-take-le room cells C.fits) in get_or-take room copy k None within ∙ same k within used ∙ sym (get_or-take room cells k None within))

  -- a number that has its room comes into use with its cell, or goes out of it
  module _ (n : ℕ) (below : n < room) where
    pub word_room : n / 64 < length words
    word_room = omega (arith, C.bits, below)

    pub cell_room : n < length cells
    cell_room = omega (arith, C.fits, below)

    module _ (new : List ℕ) (len : length new ≡ length words) where
      pub cells_put : (x : X) → ((q : ℕ) → uses new q ≡ cond (nat_eq q n) true (uses words q)) → AreCells (slice_set cells n (Some x)) new room
      cells_put x is = record {
        limit = C.limit;
        fits = omega (arith, C.fits, length-set cells n (Some x));
        bits = omega (arith, C.bits, len);
        beyond = λ k h. is k ∙ ap (λ t. cond t true (uses words k)) (ne_eqb k n (λ e. omega (arith, e, h, below))) ∙ C.beyond k h;
        written = λ k h. elim (cases_eq k n) [
          | inl e ↦ ap (λ m. has_row (slice_set cells n (Some x)) m) e ∙ ap is_some (get_or-set_same cells n (Some x) None cell_room)
          | inr ne ↦
              let used : uses words k ≡ true = sym (is k ∙ ap (λ t. cond t true (uses words k)) (ne_eqb k n ne)) ∙ h in
              ap is_some (get_or-set_other cells n k (Some x) None ne) ∙ C.written k used
        ];
      }

      pub cells_left : ((q : ℕ) → uses new q ≡ cond (nat_eq q n) false (uses words q)) → AreCells cells new room
      cells_left is = record {
        limit = C.limit;
        fits = C.fits;
        bits = omega (arith, C.bits, len);
        beyond = λ k h. is k ∙ ap (λ t. cond t false (uses words k)) (ne_eqb k n (λ e. omega (arith, e, h, below))) ∙ C.beyond k h;
        written = λ k h. elim (cases_eq k n) [
          | inl e ↦ absurd (true≢false (sym h ∙ is k ∙ ap (λ t. cond t false (uses words k)) (eq-eqb k n e)))
          | inr ne ↦ C.written k (sym (is k ∙ ap (λ t. cond t false (uses words k)) (ne_eqb k n ne)) ∙ h)
        ];
      }

-- what rows become
module _ {X : Type 0} (cells : List (Option X)) (words : List ℕ) (room : ℕ) (C : AreCells cells words room) where
  abbrev view : List (Option X)
  view = rows_of (uses words) (take room cells)

  module _ (n : ℕ) (below : n < room) (new : List ℕ) (len : length new ≡ length words) where
    pub row_put : (x : X) → ((q : ℕ) → uses new q ≡ cond (nat_eq q n) true (uses words q)) → (q : ℕ) → row_at (rows_of (uses new) (take room (slice_set cells n (Some x)))) q ≡ cond (nat_eq q n) (Some x) (row_at view q)
    row_put x is q =
        let now = row_is (slice_set cells n (Some x)) new room (cells_put cells words room C n below new len x is) q in
        elim (cases_eq q n) [
          | inl e ↦
              let t = eq-eqb q n e in
              now ∙ ap (λ b. cond b (row_at (slice_set cells n (Some x)) q) None) (is q ∙ ap (λ b. cond b true (uses words q)) t)
              ∙ ap (λ k. row_at (slice_set cells n (Some x)) k) e ∙ get_or-set_same cells n (Some x) None (cell_room cells words room C n below)
              ∙ sym (ap (λ b. cond b (Some x) (row_at view q)) t)
          | inr ne ↦
              let t = ne_eqb q n ne in
              now ∙ (λ i. cond ((is q ∙ ap (λ b. cond b true (uses words q)) t) i) (get_or-set_other cells n q (Some x) None ne i) None)
              ∙ sym (row_is cells words room C q) ∙ sym (ap (λ b. cond b (Some x) (row_at view q)) t)
        ]

    pub row_gone : ((q : ℕ) → uses new q ≡ cond (nat_eq q n) false (uses words q)) → (q : ℕ) → row_at (rows_of (uses new) (take room cells)) q ≡ cond (nat_eq q n) None (row_at view q)
    row_gone is q =
        let now = row_is cells new room (cells_left cells words room C n below new len is) q in
        elim (cases_eq q n) [
          | inl e ↦
              let t = eq-eqb q n e in
              now ∙ ap (λ b. cond b (row_at cells q) None) (is q ∙ ap (λ b. cond b false (uses words q)) t) ∙ sym (ap (λ b. cond b None (row_at view q)) t)
          | inr ne ↦
              let t = ne_eqb q n ne in
              now ∙ ap (λ b. cond b (row_at cells q) None) (is q ∙ ap (λ b. cond b false (uses words q)) t)
              ∙ sym (row_is cells words room C q) ∙ sym (ap (λ b. cond b None (row_at view q)) t)
        ]

  -- the number of a row that is there is in use, and stays so
  pub still_used : (n : ℕ) → is_some (row_at view n) ≡ true → (q : ℕ) → uses words q ≡ cond (nat_eq q n) true (uses words q)
  still_used n h q = elim (cases_eq q n) [
    | inl e ↦ ap (uses words) e ∙ row_used cells words room C n h ∙ sym (ap (λ b. cond b true (uses words q)) (eq-eqb q n e))
    | inr ne ↦ sym (ap (λ b. cond b true (uses words q)) (ne_eqb q n ne))
  ]

  pub there_within : (n : ℕ) → is_some (row_at view n) ≡ true → n < room
  there_within n h = used_within cells words room C n (row_used cells words room C n h)

-- more words and other cells, in which the rows stand as before, and more numbers that have their room
pub record IsWider {X : Type 0} (cells wide : List (Option X)) (words new : List ℕ) (room upto : ℕ) : Type 0 where
  pub are : AreCells cells words room
  pub words_grow : length words ≤ length new
  pub uses_same : (q : ℕ) → uses new q ≡ uses words q
  pub same : (k : ℕ) → k < room → uses new k ≡ true → row_at wide k ≡ row_at cells k
  pub grows : room ≤ upto
  pub fits : upto ≤ length wide
  pub limit : upto ≤ 2000002
  pub bits : upto ≤ length new * 64

module _ {X : Type 0} (cells wide : List (Option X)) (words new : List ℕ) (room upto : ℕ) (w : IsWider cells wide words new room upto) where
  within_room : (k : ℕ) → uses new k ≡ true → k < room
  within_room k h = used_within cells words room w.are k (sym (w.uses_same k) ∙ h)

  pub widened : AreCells wide new upto
  widened = record {
    limit = w.limit;
    fits = w.fits;
    bits = w.bits;
    beyond = λ k h. w.uses_same k ∙ w.are.beyond k (omega (arith, w.grows, h));
    written = λ k h. ap is_some (w.same k (within_room k h) h) ∙ w.are.written k (sym (w.uses_same k) ∙ h);
  }

  pub rows_widened : (q : ℕ) → row_at (rows_of (uses new) (take upto wide)) q ≡ row_at (rows_of (uses words) (take room cells)) q
  rows_widened q = row_is wide new upto widened q ∙ written_alike (uses new q) (λ e. w.same q (within_room q e) e) ∙ ap (λ b. cond b (row_at cells q) None) (w.uses_same q) ∙ sym (row_is cells words room w.are q) where
    written_alike : (b : Bool) → (b ≡ true → row_at wide q ≡ row_at cells q) → cond b (row_at wide q) None ≡ cond b (row_at cells q) None
    written_alike true e = e refl
    written_alike false e = refl
