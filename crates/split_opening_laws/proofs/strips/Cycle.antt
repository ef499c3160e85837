-- What is known of a cycle along which a solid can be opened, place by place.
use Rattle.split_opening_laws.proofs.Prelude.{◌≡◌, ◌≢◌, ℕ, suc, ◌+◌, ◌-◌, ◌≤◌, ◌<◌, true, false, cond, List, [], ◌∷◌, length, is_some, refl, sym, ap, ◌∙◌, subst, arith, ◌⊎◌, inl, inr, true≢false, nat_eq, ◌++◌, Some, map, get_or, option_map, eqb_tells, length-map, get_or-map, map-append, get_or_default, cases_order, IsIn, mate, edge_of, plus, Model, tail, LoopRow, cycle, holds, loop_of, face_of, cycle_of, HasHalf, Sound, Has, face_at, lists, canonical, get-map_rows, from_map, IsIn-get_or, Contains-from_in, AllPairs-from_apart, mate-mate, plus_row, in_use_within, mate_there as half_mate, content_row, face_row, in-holds, cycle_there, row_of, count-canonical, IsIn-map, IsIn-from_listed, listed-from_in, Taken, numbers_after, next_place, rewritten_row, renamed, both_lists, numbers_last, place_before, CanBeOpened, with_rows, put_out}
use Rattle.euler_operators.specs.Table as table
pub use Rattle.sweeps_laws.proofs.swept.Numbers.{next_cases, next_within}
use Rattle.split_opening_laws.proofs.sections.Numbered.{rows_at, rows_low, length-numbers_after, numbers_at, in_numbers, both_more, renamed_cases, misses_both, renamed_more}

-- ---- places round a list

pub before_cases : (n i : ℕ) → ((i ≡ 0) × (place_before n i ≡ n - 1)) ⊎ ((i ≢ 0) × (place_before n i ≡ i - 1))
before_cases n i = elim (eqb_tells i 0) [ inl e ↦ inl (e.1, ap (λ b. cond b (n - 1) (i - 1)) e.0) | inr e ↦ inr (e.1, ap (λ b. cond b (n - 1) (i - 1)) e.0) ]

pub before_below : (n i : ℕ) → i < n → place_before n i < n
before_below n i lt = elim (before_cases n i) [ inl p ↦ omega (arith, p.0, p.1) | inr p ↦ let q = p.0 in let r = p.1 in omega arith ]

pub next-before : (n i : ℕ) → i < n → next_place n (place_before n i) ≡ i
next-before n i lt = grind arith

-- the number of the copy after that at a place, where the copies have the numbers after v
pub next_copy : (v n j : ℕ) → cond (nat_eq (suc j) n) (v + 1) (v + suc j + 1) ≡ v + suc (next_place n j)
next_copy v n j = grind arith

-- only the place before leads to a place
pub next_once : (n i j : ℕ) → i < n → j < n → next_place n j ≡ i → j ≡ place_before n i
next_once n i j li lj e = grind arith

-- among two places or more no place is the next to itself
pub next_apart : (n j : ℕ) → 2 ≤ n → next_place n j ≢ j
next_apart n j two e = elim (next_cases n j) [ inl p ↦ omega (arith, p.0, p.1) | inr p ↦ let q = p.1 in omega arith ]

pub before_apart : (n i : ℕ) → 2 ≤ n → i < n → place_before n i ≢ i
before_apart n i two lt e = next_apart n i two (ap (next_place n) (sym e) ∙ next-before n i lt)

-- ---- where half-edges stand once some mates are put out of their loops

-- a half-edge of a low edge is none of a higher one
pub low_half : (h e n : ℕ) → edge_of h ≤ n → n < e → plus e ≢ h
low_half h e n low high q = let a : e ≤ n = subst (λ x. x ≤ n) (ap edge_of (sym q) ∙ (plus_row e).0) low in absurd (omega arith)

-- ---- the cycle

module _ (M : Model) (above : List ℕ) (s : ℕ) (c : Taken) (bs : List ℕ) (w : CanBeOpened M above s c bs) where
  -- the below half at a place, and its mate
  abbrev pub half_at : ℕ → ℕ
  half_at j = get_or bs j 0

  abbrev pub mate_at : ℕ → ℕ
  mate_at j = mate (get_or bs j 0)

  pub half_in : (j : ℕ) → j < length bs → IsIn (half_at j) bs
  half_in j lt = IsIn-get_or bs j 0 lt

  pub half_there : (j : ℕ) → j < length bs → HasHalf M (half_at j)
  half_there j lt = (w.cycle.halves (half_at j) (half_in j lt)).there

  pub mate_there : (j : ℕ) → j < length bs → HasHalf M (mate_at j)
  mate_there j lt = half_mate M (half_at j) (half_there j lt)

  pub low_edge : (h : ℕ) → HasHalf M h → edge_of h ≤ c.edge
  low_edge h there = in_use_within M.edges c.edge w.free.edges (edge_of h) there

  start_at : (j : ℕ) → j < length bs → get_or (map (tail M) bs) j 0 ≡ tail M (half_at j)
  start_at j lt = get_or-map (tail M) bs j 0 0 lt

  -- different places have different starts
  pub starts_differ : (i j : ℕ) → i < length bs → j < length bs → tail M (half_at i) ≡ tail M (half_at j) → i ≡ j
  starts_differ i j li lj e = elim (cases_order i j) [
    | inl p ↦ p
    | inr p ↦ elim p [
      | inl l ↦ absurd (AllPairs-from_apart (map (tail M) bs) w.cycle.starts_apart i j 0 l (omega (arith, lj, length-map bs (tail M))) (start_at i li ∙ e ∙ sym (start_at j lj)))
      | inr l ↦ absurd (AllPairs-from_apart (map (tail M) bs) w.cycle.starts_apart j i 0 l (omega (arith, li, length-map bs (tail M))) (start_at j lj ∙ sym e ∙ sym (start_at i li)))
    ]
  ]

  pub mates_differ : (i j : ℕ) → i < length bs → j < length bs → mate_at i ≡ mate_at j → i ≡ j
  mates_differ i j li lj e = starts_differ i j li lj (ap (tail M) (sym (mate-mate (half_at i)) ∙ ap mate e ∙ mate-mate (half_at j)))

  -- a mate starts where the half at the next place does
  pub mate_start : (j : ℕ) → j < length bs → tail M (mate_at j) ≡ tail M (half_at (next_place (length bs) j))
  mate_start j lt = sym (w.cycle.meet j lt)

  -- what is listed as a mate is the mate at a place
  pub mate_place : (h : ℕ) → lists (map mate bs) h ≡ true → (j : ℕ) × (j < length bs) × (h ≡ mate_at j)
  mate_place h l =
      let r = from_map mate h bs (IsIn-from_listed h (map mate bs) l) in
      let p = Contains-from_in r.0 bs r.1 in
      (p.0, p.1, r.2 ∙ ap mate (sym (get_or_default bs p.0 0 r.0 p.1 ∙ p.2)))

  pub place_of : (h : ℕ) → IsIn h bs → (j : ℕ) × (j < length bs) × (h ≡ half_at j)
  place_of h i = let p = mate_place (mate h) (listed-from_in (mate h) (map mate bs) (IsIn-map mate h bs i)) in (p.0, p.1, sym (mate-mate h) ∙ ap mate p.2 ∙ mate-mate (half_at p.0))

  pub mate_listed : (j : ℕ) → j < length bs → lists (map mate bs) (mate_at j) ≡ true
  mate_listed j lt = listed-from_in (mate_at j) (map mate bs) (subst (λ q. IsIn q (map mate bs)) (get_or-map mate bs j 0 0 lt) (IsIn-get_or (map mate bs) j 0 (omega (arith, lt, length-map bs mate))))

  -- a below half is no mate
  pub half_no_mate : (j : ℕ) → j < length bs → lists (map mate bs) (half_at j) ≡ false
  half_no_mate j lt = elim (lists (map mate bs) (half_at j)) as (λ b. lists (map mate bs) (half_at j) ≡ b → b ≡ false) [
    | true ↦ λ e. let p = mate_place (half_at j) e in
        absurd (true≢false (sym (w.cycle.halves (half_at p.0) (half_in p.0 p.1)).mate_above ∙ ap (λ h. lists above (face_at M h)) (sym p.2) ∙ (w.cycle.halves (half_at j) (half_in j lt)).below))
    | false ↦ λ e. refl
  ] refl

  -- a number above the faces taken is none of a face above
  pub fresh_face : (f : ℕ) → c.face < f → lists above f ≡ false
  fresh_face f lt = grind arith

  -- a vertex isn't above those taken
  pub low_vertex : (h : ℕ) → HasHalf M h → tail M h ≤ c.vertex
  low_vertex h there = in_use_within M.vertices c.vertex w.free.vertices (tail M h) (w.sound.tails_there h there)

  -- ---- the renaming of the first i mates

  out_at : (i j : ℕ) → j < i → get_or (map plus (numbers_after c.edge i)) j 0 ≡ plus (c.edge + suc j)
  out_at i j lt = get_or-map plus (numbers_after c.edge i) j 0 0 (omega (arith, lt, length-numbers_after c.edge i)) ∙ ap plus (numbers_at c.edge i j lt)

  length_out : (i : ℕ) → length (map plus (numbers_after c.edge i)) ≡ i
  length_out i = length-map (numbers_after c.edge i) plus ∙ length-numbers_after c.edge i

  mate_get : (j : ℕ) → j < length bs → get_or (map mate bs) j 0 ≡ mate (get_or bs j 0)
  mate_get j lt = get_or-map mate bs j 0 0 lt

  -- one of these mates becomes the half-edge in its place
  pub out_mate : (i j : ℕ) → i ≤ length bs → j < i → renamed (put_out c bs i) (mate (get_or bs j 0)) ≡ plus (c.edge + suc j)
  out_mate i j le lt = elim (renamed_cases (map mate bs) (map plus (numbers_after c.edge i)) (mate (get_or bs j 0))) [
    | inl p ↦ grind (arith, length-map, mates_differ, mate_get, out_at, length_out)
    | inr p ↦ absurd (p.1 j (omega (arith, lt, le, length-map bs mate)) (omega (arith, lt, length_out i)) (mate_get j (omega arith)))
  ]

  -- what is none of them stays
  pub out_other : (i h : ℕ) → ((j : ℕ) → j < i → j < length bs → mate (get_or bs j 0) ≢ h) → renamed (put_out c bs i) h ≡ h
  out_other i h none = grind (arith, renamed_cases, length-map, length_out, mate_get)

  put_next : (i : ℕ) → i < length bs → put_out c bs (suc i) ≡ put_out c bs i ++ (mate (get_or bs i 0), plus (c.edge + suc i)) ∷ []
  put_next i lt =
      ap (both_lists (map mate bs)) (ap (map plus) (numbers_last c.edge i) ∙ map-append plus (numbers_after c.edge i) ((c.edge + suc i) ∷ []))
      ∙ both_more (map mate bs) (map plus (numbers_after c.edge i)) (plus (c.edge + suc i)) (omega (arith, lt, length-map bs mate, length_out i))
      ∙ ap (λ x. put_out c bs i ++ (x, plus (c.edge + suc i)) ∷ []) (ap (λ n. get_or (map mate bs) n 0) (length_out i) ∙ mate_get i lt)

  -- one mate more
  pub out_next : (i u : ℕ) → i < length bs → renamed (put_out c bs (suc i)) u ≡ cond (nat_eq (renamed (put_out c bs i) u) (mate (get_or bs i 0))) (plus (c.edge + suc i)) (renamed (put_out c bs i) u)
  out_next i u lt =
      ap (λ ps. renamed ps u) (put_next i lt)
      ∙ renamed_more (put_out c bs i) (mate (get_or bs i 0)) (plus (c.edge + suc i)) u
      (misses_both (mate (get_or bs i 0)) (map mate bs) (map plus (numbers_after c.edge i))
      (λ y j. let r = from_map plus y (numbers_after c.edge i) j in
      λ e. low_half (mate (get_or bs i 0)) r.0 c.edge (low_edge (mate (get_or bs i 0)) (mate_there i lt)) (in_numbers c.edge i r.0 r.1).0 (sym r.2 ∙ e)))

  -- ---- a model with i mates put out and n rows more

  module _ (N : Model) (sound : Sound N) (i n : ℕ) (row : ℕ → LoopRow) (is : N.loops ≡ with_rows (table.map_rows (rewritten_row (map (renamed (put_out c bs i)))) M.loops) c.loop row n) where
    abbrev rewrite : ℕ → LoopRow → LoopRow
    rewrite = rewritten_row (map (renamed (put_out c bs i)))

    pub low_loop : (q : ℕ) → Has M.loops q → q ≤ c.loop
    low_loop q there = in_use_within M.loops c.loop w.free.loops q there

    -- the loops that were there
    pub old_loop : (q : ℕ) (x : LoopRow) → table.get M.loops q ≡ Some x → table.get N.loops q ≡ Some (rewritten_row (map (renamed (put_out c bs i))) q x)
    old_loop q x at = ap (λ t. table.get t q) is ∙ rows_low (table.map_rows rewrite M.loops) c.loop row n q (low_loop q (ap is_some at)) ∙ get-map_rows rewrite M.loops q ∙ ap (option_map (rewrite q)) at

    -- the loops that are new
    pub new_loop : (j : ℕ) → j < n → table.get N.loops (c.loop + suc j) ≡ Some (row j)
    new_loop j lt = ap (λ t. table.get t (c.loop + suc j)) is ∙ rows_at (table.map_rows rewrite M.loops) c.loop row n j lt

    -- a half-edge, or what stands in its place, stands in its loop and face
    pub old_place : (h : ℕ) → HasHalf M h → (loop_of N (renamed (put_out c bs i) h) ≡ loop_of M h) × (face_at N (renamed (put_out c bs i) h) ≡ face_at M h)
    old_place h there =
        let q : ℕ = loop_of M h in
        let at = old_loop q _ (row_of M w.sound h there) in
        let new : ℕ = renamed (put_out c bs i) h in
        let held : IsIn new (map (renamed (put_out c bs i)) (cycle_of M h)) = IsIn-map (renamed (put_out c bs i)) h (cycle_of M h) (cycle_there M w.sound h there) in
        let stands : loop_of N new ≡ q = sound.one_loop new q (ap (holds new) (content_row N q _ at)
        ∙ in-holds new (cycle (canonical (map (renamed (put_out c bs i)) (cycle_of M h)))) (omega (arith, held, count-canonical new (map (renamed (put_out c bs i)) (cycle_of M h))))) in
        (stands, ap (face_of N) stands ∙ face_row N q _ at)
