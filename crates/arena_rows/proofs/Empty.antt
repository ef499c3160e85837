-- The arena that holds nothing, the greatest number in use and the next one, and the room of numbers in use.
use Rattle.arena_rows.proofs.Prelude.{◌-◌, ◌≡◌, ◌≢◌, ℕ, ◌≤◌, Bool, true, false, cond, nat_eq, nat_lt, nat_le, ◌&&◌, List, [], Option, Some, None, is_some, sym, ap, ◌∙◌, arith, true≢false, length, row_at, has_row, ArenaRows, table_of, is_edge, within, empty_store, Store, has_number, IsNextNumber, Fits, store_of, RowsAreTied, solid_row, face_row, loop_row, Spots, codes, edges_end, live, label, ring, AreRings, edge_row, both_tails, edge_room, loose_row, IsLast, nat_tests, and_from, Point, plus, minus, get, tabulate, empty_model, head_or, and_false, Kind, IsNext}
use Rattle.arena_rows.proofs.ring_spots_laws.SpotTables.{edge_live, edge_has_room, codes_are, nothing, edge_has}
use Rattle.raw_cells.proofs.numbers_laws.Lasts.{last_same}
use Rattle.arena_rows.proofs.Views.{row_within, row_not_zero, table_of-empty, fits-empty, has_is}

module _ (sp : Spots) (known : ℕ → Bool) (none : (q : ℕ) → sp q ≡ None) (unknown : (q : ℕ) → known q ≡ false) where
  dead : (c : ℕ) → live sp c ≢ true
  dead c h = true≢false (sym h ∙ ap is_some (none c))

  abbrev no_rows : ArenaRows
  no_rows = record { spots = sp; known = known; solids = []; faces = []; loops = []; vertices = [] }

  pub tied-empty : RowsAreTied no_rows
  tied-empty = record {
    rings = record { bound = λ c h. absurd (dead c h); rings = λ c h. absurd (dead c h); mates = λ c h. absurd (dead c h) };
    no_edge = dead 0;
    loops_tied = record { entries = λ l cell at. cc; stands = λ h a. absurd (dead h a) };
    solids_fit = fits-empty;
    faces_fit = fits-empty;
    loops_fit = fits-empty;
    vertices_fit = fits-empty;
    points = λ v p at. cc;
  }

  no_room_row : (e : ℕ) → edge_room known e ≡ None
  no_room_row e = ap (λ b. cond (nat_lt 0 e && (b && known (minus e))) (Some tt) None) (unknown (plus e)) ∙ ap (λ b. cond b (Some tt) None) (and_false (nat_lt 0 e))

  pub view-empty : store_of no_rows ≡ empty_store
  unfolding empty_model
  view-empty = λ i. record {
    model = record {
      solids = table_of-empty solid_row i;
      faces = table_of-empty face_row i;
      loops = table_of-empty (loop_row sp) i;
      edges = nothing (edge_row sp) codes (λ e. ap (λ o. both_tails o (sp (minus e))) (none (plus e))) i;
      vertices = table_of-empty {X = Point} (λ p. p) i;
    };
    loose = nothing (loose_row sp) codes (λ k. ap (λ o. cond (is_some o && (nat_eq (label sp k) 0 && nat_eq (head_or 0 (ring sp k)) k)) (Some (ring sp k)) None) (none k)) i;
    room = record { solids = 0; faces = 0; loops = 0; edges = nothing (edge_room known) edges_end no_room_row i; vertices = 0 };
  }

-- the last row, or the last edge, is the greatest number in use
pub greatest_row : {X Y : Type 0} (f : X → Y) (rows : List (Option X)) (m : ℕ) → IsLast (has_row rows) m → IsLast (λ k. is_some (get (table_of f rows) k)) m
greatest_row f rows m last = last_same (has_row rows) (λ k. is_some (get (table_of f rows) k)) m (λ k. has_is f rows k) last

pub greatest_edge : (sp : Spots) → AreRings sp → (m : ℕ) → IsLast (is_edge sp) m → IsLast (λ k. is_some (get (tabulate (edge_row sp) codes) k)) m
greatest_edge sp R m last = last_same (is_edge sp) (λ k. is_some (get (tabulate (edge_row sp) codes) k)) m (λ k. edge_has sp R k) last

-- the next number in use of a kind, which stands for what the rows have, or the edges
pub next_number : (s : Store) (kind : Kind) (used : ℕ → Bool) → ((k : ℕ) → has_number s kind k ≡ used k) → (n : ℕ) (found : Option ℕ) → IsNext used n found → IsNextNumber s kind n found
next_number s kind used same n None none = λ k a. same k ∙ none k a
next_number s kind used same n (Some m) next = (next.0, same m ∙ next.1, λ k a b. same k ∙ next.2 k a b)

-- ---- a number in use has its room

row_has_room : {X : Type 0} (rows : List (Option X)) (n : ℕ) → Fits rows → is_some (row_at rows n) ≡ true → within n (length rows - 1) ≡ true
row_has_room rows n fits h =
    let some = row_not_zero rows n fits h in
    let below = row_within rows n h in
    grind (arith, nat_tests)

-- what a test of a row tells
pub has_told : {X Y : Type 0} (f : X → Y) (rows : List (Option X)) (n : ℕ) (has : Bool) → Fits rows → has ≡ is_some (row_at rows n) → record { used : has ≡ is_some (get (table_of f rows) n); room : has ≡ true → within n (length rows - 1) ≡ true }
has_told f rows n has fits is = record { used = is ∙ sym (has_is f rows n); room = λ h. row_has_room rows n fits (sym is ∙ h) }

pub edge_keeps_room : (sp : Spots) → AreRings sp → live sp 0 ≢ true → (known : ℕ → Bool) → ((c : ℕ) → live sp c ≡ true → known c ≡ true) → (e : ℕ) → nat_le e 1000000 && live sp (plus e) ≡ true → is_some (get (tabulate (edge_room known) edges_end) e) ≡ true
edge_keeps_room sp R zero known awake e h =
    let both = edge_live sp R e (edge_has sp R e ∙ h) in
    let within = R.bound (plus e) both.0 in
    let some : e ≢ 0 = λ z. zero (ap (λ k. live sp (plus k)) (sym z) ∙ both.0) in
    let least : nat_lt 0 e ≡ true = grind (arith, nat_tests) in
    let most : nat_le e 1000000 ≡ true = let l : e ≤ 1000000 = omega (arith, codes_are, within) in grind (arith, nat_tests) in
    edge_has_room known e ∙ and_from _ _ most (and_from _ _ least (and_from _ _ (awake (plus e) both.0) (awake (minus e) both.1)))
