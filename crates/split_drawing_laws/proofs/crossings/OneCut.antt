-- The rows of an edge that is cut: what mev puts before an item and what is put after its neighbour.
use Rattle.std.specs.FinMap.Entries.{find}
use Rattle.split_drawing_laws.proofs.Prelude.{◌≡◌, ℕ, ◌+◌, ◌≤◌, false, cond, nat_eq, List, [], ◌∷◌, ◌++◌, refl, sym, ap, ◌∙◌, arith, ◌≢◌, suc, ◌*◌, true, length, Some, None, is_some, true≢false, flat_map, nat_cmp, nat_tests, count, tick, IsIn, IsApart, rotate_to, canonical, rest, successor, insert_before, insert_after, plus, minus, edge_of, At, half, Point, Table, Model, LoopContent, lone, cycle, LoopRow, EdgeRow, items_of, holds, tail, loop_of, content, face_of, cycle_of, after, arc, Sound, Has, HasHalf, effect, mev_at, with_before, with_tails, edge_row, Mev, insert_before-rotates, insert_after-rotates, count-insert_before, count-insert_after, apart_front, rotation_at, IsIn_successor, nat_eq_turned, canonical_same, IsRotation-trans, rotate_to_same, rotate_to_head, count-canonical, tick_same, tick_other, map_one, put_turned, row_some, content_row, row_of, not_held, other_loop, in-holds, holds-none, none-holds, cycle_there, cycle_sound, minus_tail_row, plus_there, minus_there, plus_row, minus_row, mate_plus, code-half, map_alike, where_held_none, where_held_there, edge_row_plus, map_twice, none_else, rewritten, rewritten_row}
use Rattle.std.proofs.lemmas.Option.{same_Some}
use Rattle.euler_operators.specs.Table as table

-- edge e cut at the new vertex v, which has point q: the new edge k leads from e's start to v, and e goes on from there
abbrev pub edge_cut : Model → ℕ → ℕ → ℕ → Point → Model
edge_cut M e k v q = effect M (Mev (At (half (plus e))) (At (half (after M (minus e)))) (half (plus k)) v q)

pub cut_is_mev : (M : Model) (e k v : ℕ) (q : Point) → edge_cut M e k v q ≡ mev_at M (plus e) (after M (minus e)) (plus k) v q
unfolding effect
cut_is_mev M e k v q = λ i. mev_at M (code-half (plus e) i) (code-half (after M (minus e)) i) (code-half (plus k) i) v q

-- +e becomes +k +e, and -e becomes -e -k
abbrev pub doubled : ℕ → ℕ → ℕ → List ℕ
doubled e k h = cond (nat_eq h (plus e)) (plus k ∷ plus e ∷ []) (cond (nat_eq h (minus e)) (minus e ∷ minus k ∷ []) (h ∷ []))

pub tick_is : (x y : ℕ) → x ≡ y → tick x y ≡ 1
tick_is x y e = grind (arith, nat_tests)

module _ (e k : ℕ) where
  doubled_other : (h : ℕ) → nat_eq h (plus e) ≡ false → nat_eq h (minus e) ≡ false → doubled e k h ≡ h ∷ []
  doubled_other h a b = ap (λ t. cond t (plus k ∷ plus e ∷ []) (cond (nat_eq h (minus e)) (minus e ∷ minus k ∷ []) (h ∷ []))) a ∙ ap (λ t. cond t (minus e ∷ minus k ∷ []) (h ∷ [])) b

  absent : (x h : ℕ) (hs : List ℕ) → count x (h ∷ hs) ≡ 0 → nat_eq h x ≡ false
  absent x h hs z = grind (arith, nat_tests)

  -- a loop without the edge stays
  pub doubled_none : (hs : List ℕ) → count (plus e) hs ≡ 0 → count (minus e) hs ≡ 0 → flat_map (doubled e k) hs ≡ hs
  doubled_none [] a b = refl
  doubled_none (h ∷ hs) a b = grind (arith, doubled_other, absent, doubled_none hs (omega arith) (omega arith))

  -- a loop with its plus half alone gets the new plus half before it
  pub doubled_plus : (hs : List ℕ) → count (plus e) hs ≤ 1 → count (minus e) hs ≡ 0 → flat_map (doubled e k) hs ≡ insert_before (plus e) (plus k) hs
  doubled_plus [] a b = refl
  doubled_plus (h ∷ hs) a b = grind (arith, tick_is, nat_eq_turned, doubled_none, doubled_other, absent, doubled_plus hs (omega arith) (omega arith))

  -- a loop with its minus half alone gets the new minus half after it
  pub doubled_minus : (hs : List ℕ) → count (plus e) hs ≡ 0 → count (minus e) hs ≤ 1 → flat_map (doubled e k) hs ≡ insert_after (minus e) (minus k) hs
  doubled_minus [] a b = refl
  doubled_minus (h ∷ hs) a b = grind (arith, tick_is, absent, nat_eq_turned, doubled_none, doubled_other, doubled_minus hs (omega arith) (omega arith))

-- the ring from the item after m on
from_next : (m : ℕ) (xs : List ℕ) → IsApart xs → IsIn m xs → rotate_to (successor xs m) xs ≡ rest m xs ++ m ∷ []
from_next m xs apart there =
    rotate_to_same (successor xs m) xs (rest m xs ++ m ∷ [])
    (IsRotation-trans xs (m ∷ rest m xs) (rest m xs ++ m ∷ []) apart (rotation_at m xs there) (record { front = m ∷ []; back = rest m xs; here = refl; there = refl }))
    apart (IsIn_successor m xs there)
    ∙ grind (arith, rotate_to_head)

-- put before the next item, or after this one: the same ring
pub put_between : (m y : ℕ) (xs : List ℕ) → IsApart xs → IsIn m xs → count y xs ≡ 0 → canonical (insert_before (successor xs m) y xs) ≡ canonical (insert_after m y xs)
put_between m y xs apart there free =
    let c = successor xs m in
    let c_there : IsIn c xs = IsIn_successor m xs there in
    canonical_same (insert_before c y xs) (y ∷ rotate_to c xs) (insert_before-rotates c y xs c_there)
    (λ x. let n : count x (insert_before c y xs) ≡ tick x y + count x xs = count-insert_before x c y xs c_there in let f : tick x y + count x xs ≤ 1 = apart_front y xs free apart x in omega arith)
    ∙ ap (λ t. canonical (y ∷ t)) (from_next m xs apart there)
    ∙ sym (canonical_same (insert_after m y xs) (y ∷ (rest m xs ++ m ∷ [])) (IsRotation-trans (insert_after m y xs) (m ∷ y ∷ rest m xs) (y ∷ (rest m xs ++ m ∷ [])) (after_apart m y xs apart there free)
    (insert_after-rotates m y xs there) (record { front = m ∷ []; back = y ∷ rest m xs; here = refl; there = refl }))
    (after_apart m y xs apart there free)) where
      after_apart : (m y : ℕ) (xs : List ℕ) → IsApart xs → IsIn m xs → count y xs ≡ 0 → IsApart (insert_after m y xs)
      after_apart m y xs apart there free = λ x. let n : count x (insert_after m y xs) ≡ tick x y + count x xs = count-insert_after x m y xs there in let f : tick x y + count x xs ≤ 1 = apart_front y xs free apart x in omega arith

-- ---- the rows, where the halves of the edge stand in different loops

-- two rewritings after one another are a third, where they agree row by row
pub maps_agree : {X : Type 0} (f g h : ℕ → X → X) (t : Table X) → ((q : ℕ) (x : X) → table.get t q ≡ Some x → g q (f q x) ≡ h q x) → table.map_rows g (table.map_rows f t) ≡ table.map_rows h t
maps_agree f g h t agree = map_twice g f t ∙ map_alike (λ q x. g q (f q x)) h t agree

some_rows : {X : Type 0} (e : ℕ) (es : List (ℕ × X)) → is_some (find nat_cmp e es) ≡ true → (n : ℕ) × (2 * length es ≡ suc (suc n))
some_rows e [] there = absurd (true≢false (sym there))
some_rows e (x ∷ xs) there = (2 * length xs, omega arith)

-- edge e can be cut by edge k: it is there, its halves stand in different loops, and k is free
pub record CanCut (M : Model) (e k : ℕ) : Type 0 where
  pub sound : Sound M
  pub there : Has M.edges e
  pub apart : loop_of M (plus e) ≢ loop_of M (minus e)
  pub edge_free : table.get M.edges k ≡ None

module _ (M : Model) (e k v : ℕ) (q : Point) (goes : CanCut M e k) where
  -- the loops of the two halves, their items, and the item after the minus half
  abbrev l : ℕ
  l = loop_of M (plus e)

  abbrev m : ℕ
  m = loop_of M (minus e)

  abbrev xs : List ℕ
  xs = cycle_of M (plus e)

  abbrev ys : List ℕ
  ys = cycle_of M (minus e)

  abbrev next : ℕ
  next = successor ys (minus e)

  abbrev first_row : LoopRow
  first_row = record { face = face_of M l; content = cycle xs }

  abbrev second_row : LoopRow
  second_row = record { face = face_of M m; content = cycle ys }

  -- an item of one of the two loops isn't in the other
  in_one : (h : ℕ) → IsIn h ys → count h xs ≡ 0
  in_one h there = none_else M goes.sound h l (λ e. goes.apart (e ∙ goes.sound.one_loop h m (in-holds h (content M m) there)))

  next_there : IsIn next ys
  next_there = IsIn_successor (minus e) ys (cycle_there M goes.sound (minus e) (minus_there M e goes.there))

  no_new : (h : ℕ) → edge_of h ≡ k → (g : ℕ) → HasHalf M g → count h (cycle_of M g) ≡ 0
  no_new h is g there = not_held M goes.sound h (ap (table.get M.edges) is ∙ goes.edge_free) (loop_of M g) _ (row_of M goes.sound g there)

  at_b : table.get M.loops m ≡ Some second_row
  at_b = row_of M goes.sound (minus e) (minus_there M e goes.there)

  abbrev first : ℕ → LoopRow → LoopRow
  first = with_before (plus e) (plus k)

  abbrev second : ℕ → LoopRow → LoopRow
  second = with_before next (minus k)

  abbrev both : ℕ → LoopRow → LoopRow
  both = rewritten_row (flat_map (doubled e k))

  new_apart : (h : ℕ) → HasHalf M h → h ≢ plus k
  new_apart h there is = true≢false (sym there ∙ ap is_some (ap (λ x. table.get M.edges (edge_of x)) is ∙ ap (table.get M.edges) (plus_row k).0 ∙ goes.edge_free))

  pub next_half : HasHalf M next
  next_half = goes.sound.only_edges next m (in-holds next (content M m) next_there)

  -- in the loop of the plus half
  rows_a : second l (first l first_row)
      ≡ both l first_row
  rows_a =
      grind (arith, nat_tests, cycle_there, plus_there, where_held_there, in-holds, where_held_none, holds-none, count-canonical, count-insert_before, tick_other, new_apart, next_half, in_one, next_there, doubled_plus, cycle_sound, minus_there)

  -- the plus half isn't in the loop of the minus half
  plus_elsewhere : count (plus e) ys ≡ 0
  plus_elsewhere = none-holds (plus e) (cycle ys) (other_loop M goes.sound (plus e) m second_row (λ s. goes.apart (sym s)) at_b)

  -- in the loop of the minus half
  rows_b : second m (first m second_row)
      ≡ both m second_row
  rows_b =
      grind (arith, where_held_none, holds-none, plus_elsewhere, where_held_there, in-holds, next_there, put_between, cycle_sound, minus_there, cycle_there, no_new, minus_row, doubled_minus)

  -- a loop that holds neither stays
  stays : (n : ℕ) (row : LoopRow) → table.get M.loops n ≡ Some row → count (plus e) (items_of row.content) ≡ 0 → count (minus e) (items_of row.content) ≡ 0 → rewritten (flat_map (doubled e k)) row.content ≡ row.content
  stays n row at a b = content_stays row.content (content_row M n row at) a b where
    content_stays : (c : LoopContent) → content M n ≡ c → count (plus e) (items_of c) ≡ 0 → count (minus e) (items_of c) ≡ 0 → rewritten (flat_map (doubled e k)) c ≡ c
    content_stays (lone w) is a b = refl
    content_stays (cycle hs) is a b = ap (λ t. cycle (canonical t)) (doubled_none e k hs a b) ∙ ap cycle ((goes.sound.cycles n hs (ap is_some at) is).from_least)

  other_rows : (n : ℕ) (row : LoopRow) → n ≢ l → n ≢ m → table.get M.loops n ≡ Some row → second n (first n row) ≡ both n row
  other_rows n row a b at =
      let no_a : holds (plus e) row.content ≡ false = other_loop M goes.sound (plus e) n row a at in
      let no_b : holds (minus e) row.content ≡ false = other_loop M goes.sound (minus e) n row b at in
      let next_loop : loop_of M next ≡ m = goes.sound.one_loop next m (in-holds next (content M m) next_there) in
      ap (second n) (where_held_none (plus e) (λ hs. cycle (canonical (insert_before (plus e) (plus k) hs))) n row no_a)
      ∙ where_held_none next (λ hs. cycle (canonical (insert_before next (minus k) hs))) n row
      (other_loop M goes.sound next n row (λ s. b (s ∙ next_loop)) at)
      ∙ sym (ap (λ c. record row { content = c }) (stays n row at (none-holds (plus e) row.content no_a) (none-holds (minus e) row.content no_b)))

  all_rows : (n : ℕ) (row : LoopRow) → table.get M.loops n ≡ Some row → second n (first n row) ≡ both n row
  all_rows n row at = grind (arith, same_Some, row_of M goes.sound (plus e) (plus_there M e goes.there), rows_a, at_b, rows_b, other_rows)

  -- round the tail of the plus half, the item after the minus half comes next
  one_leaves : (t : Table EdgeRow) → M.edges ≡ t → arc M (plus e) (after M (minus e)) ≡ plus e ∷ []
  unfolding arc after table.get
  one_leaves t is = grind (arith, nat_tests, some_rows, plus_row, plus_there, true≢false, in-holds, next_there, holds-none, plus_elsewhere, mate_plus)

  only_plus : (x : ℕ) (r : EdgeRow) → x ≢ e → with_tails (plus e ∷ []) v x r ≡ r
  only_plus x r n = grind (arith, nat_tests, tick_other)

  the_plus : (r : EdgeRow) → with_tails (plus e ∷ []) v e r ≡ record { plus_tail = v; minus_tail = r.minus_tail }
  the_plus r = grind (arith, nat_tests, tick_other, tick_same)

  edges_agree : (r : EdgeRow) → table.get M.edges e ≡ Some r →
      table.put (table.map_rows (with_tails (arc M (plus e) (after M (minus e))) v) M.edges) (edge_of (plus k)) (edge_row (plus k) (tail M (plus e)) v)
      ≡ table.put (table.put M.edges k (record { plus_tail = tail M (plus e); minus_tail = v })) e (record { plus_tail = v; minus_tail = tail M (minus e) })
  edges_agree r at =
      (λ i. table.put (table.map_rows (with_tails (one_leaves M.edges refl i) v) M.edges) ((plus_row k).0 i) (edge_row_plus k (tail M (plus e)) v i))
      ∙ ap (λ t. table.put t k (record { plus_tail = tail M (plus e); minus_tail = v }))
      (map_one (with_tails (plus e ∷ []) v) M.edges e r at (λ x y n _. only_plus x y n) ∙ ap (table.put M.edges e) (the_plus r ∙ (λ i. record { plus_tail = v; minus_tail = sym (minus_tail_row M e r at) i })))
      ∙ put_turned M.edges e k (record { plus_tail = v; minus_tail = tail M (minus e) }) (record { plus_tail = tail M (plus e); minus_tail = v }) (λ s. let h : table.get M.edges e ≡ None = ap (table.get M.edges) s ∙ goes.edge_free in true≢false (ap is_some (sym at ∙ h)))

  -- the whole model
  pub cut_rows : edge_cut M e k v q ≡ record M {
    loops = table.map_rows (rewritten_row (flat_map (doubled e k))) M.loops;
    edges = table.put (table.put M.edges k (record { plus_tail = tail M (plus e); minus_tail = v })) e (record { plus_tail = v; minus_tail = tail M (minus e) });
    vertices = table.put M.vertices v q;
  }
  unfolding mev_at after
  cut_rows = let row = row_some (table.get M.edges e) goes.there in cut_is_mev M e k v q ∙ (λ i. record M {
    loops = (ap (λ h. table.map_rows (with_before next h) (table.map_rows first M.loops)) (mate_plus k) ∙ maps_agree first second both M.loops all_rows) i;
    edges = edges_agree row.0 row.1 i;
    vertices = table.put M.vertices v q;
  })
