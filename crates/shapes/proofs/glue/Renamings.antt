-- Renamings by lists of pairs, one pair more; and what they make of a ring.
use Rattle.shapes.proofs.Prelude.{◌≡◌, ◌≢◌, ℕ, ◌+◌, Bool, true, false, cond, nat_eq, List, [], ◌∷◌, ◌++◌, Option, Some, None, is_some, unwrap_or, refl, sym, ap, ◌∙◌, arith, true≢false, ◌⊎◌, inl, inr, map, option_map, ne_eqb, eqb_tells, map-append, count, IsIn, IsApart, canonical, rest, Table, Model, LoopContent, LoopRow, EdgeRow, lone, cycle, items_of, tail_in, no_edge, IsCycle, Sound, before, count-append, tick_same, tick_other, split_at, count-before, canonical-rotates, rest_same, rest_parts, canonical_same, nat_eq_turned, nat_eq_itself, remove_turned, get-remove_here, get-remove_other, content_row, IsIn_head, IsIn_rest, rewritten, rewritten_row, renamed, without_rows, renamed_tails, paired}
use Rattle.euler_operators.specs.Items.{after}
use Rattle.euler_operators.specs.Table as table

-- ---- renamings

module _ (from to : ℕ → ℕ) where
  -- a number is renamed to where one of the items leads, or stays, and then none starts there
  pub renamed_cases : (hs : List ℕ) (u : ℕ) →
      ((h : ℕ) × IsIn h hs × (from h ≡ u) × (renamed (paired from to hs) u ≡ to h)) ⊎ ((renamed (paired from to hs) u ≡ u) × ((h : ℕ) → IsIn h hs → from h ≢ u))
  renamed_cases [] u = inr (refl, λ h i. absurd (omega (arith, i)))
  renamed_cases (k ∷ hs) u = grind (arith, eqb_tells, tick_same, tick_other, renamed_cases hs u)

  -- where no item starts at u, it stays
  pub renamed_not : (hs : List ℕ) (u : ℕ) → ((h : ℕ) → IsIn h hs → from h ≢ u) → renamed (paired from to hs) u ≡ u
  renamed_not hs u none = elim (renamed_cases hs u) [ inl p ↦ absurd (none p.0 p.1 p.2) | inr p ↦ p.0 ]

  -- one item more: what became w goes on to where the item leads
  pub renamed_more : (hs : List ℕ) (k : ℕ) → ((h : ℕ) → IsIn h hs → to h ≢ from k) → (u : ℕ) →
      renamed (paired from to (hs ++ k ∷ [])) u ≡ cond (nat_eq (renamed (paired from to hs) u) (from k)) (to k) (renamed (paired from to hs) u)
  renamed_more [] k none u = ap (λ b. cond b (to k) u) (nat_eq_turned (from k) u)
  renamed_more (h ∷ hs) k none u = grind (arith, eqb_tells, ne_eqb, tick_same, renamed_more hs k)

  -- the first item may as well come last, where no other starts where it does
  pub renamed_last : (hs : List ℕ) (k : ℕ) → ((h : ℕ) → IsIn h hs → from h ≢ from k) → (u : ℕ) → renamed (paired from to (k ∷ hs)) u ≡ renamed (paired from to (hs ++ k ∷ [])) u
  renamed_last [] k none u = refl
  renamed_last (h ∷ hs) k none u = grind (arith, eqb_tells, ne_eqb, tick_same, renamed_last hs k)

-- ---- rows that go

pub without_more : {X : Type 0} (t : Table X) (ns : List ℕ) (n : ℕ) → without_rows t (ns ++ n ∷ []) ≡ table.remove (without_rows t ns) n
without_more t [] n = refl
without_more t (k ∷ ns) n = without_more (table.remove t k) ns n

pub without_first : {X : Type 0} (t : Table X) (ns : List ℕ) (n : ℕ) → without_rows t (n ∷ ns) ≡ table.remove (without_rows t ns) n
without_first t [] n = refl
without_first t (k ∷ ns) n = ap (λ s. without_rows s ns) (remove_turned t n k) ∙ without_first (table.remove t k) ns n

pub without_there : {X : Type 0} (t : Table X) (ns : List ℕ) (n : ℕ) → count n ns ≡ 0 → table.get (without_rows t ns) n ≡ table.get t n
without_there t [] n c = refl
without_there t (k ∷ ns) n c = grind (arith, tick_same, eqb_tells n k, tick_other n k, without_there (table.remove t k) ns n, get-remove_other t k n)

pub without_gone : {X : Type 0} (t : Table X) (ns : List ℕ) (n : ℕ) → IsIn n ns → table.get (without_rows t ns) n ≡ None
without_gone t [] n i = absurd (omega (arith, i))
without_gone t (k ∷ ns) n i = grind (arith, eqb_tells n k, tick_other n k, without_first t ns k, get-remove_here, without_gone (table.remove t k) ns n)

-- ---- one item of a ring replaced

abbrev pub replaced : ℕ → ℕ → ℕ → ℕ
replaced m h u = cond (nat_eq u m) h u

pub map_agrees : (f g : ℕ → ℕ) (xs : List ℕ) → ((x : ℕ) → f x ≡ g x) → map f xs ≡ map g xs
map_agrees f g [] e = refl
map_agrees f g (x ∷ xs) e = λ i. e x i ∷ map_agrees f g xs e i

pub replaced_none : (m h : ℕ) (xs : List ℕ) → count m xs ≡ 0 → map (replaced m h) xs ≡ xs
replaced_none m h [] c = refl
replaced_none m h (x ∷ xs) c = grind (arith, eqb_tells, tick_same, replaced_none m h xs)

-- the ring read from after m on, with h in m's place
pub replaced_ring : (m h : ℕ) (xs : List ℕ) → IsApart xs → IsIn m xs → count h xs ≡ 0 → canonical (h ∷ rest m (canonical xs)) ≡ canonical (map (replaced m h) xs)
replaced_ring m h xs apart i out =
    let ps : List ℕ = before m xs in
    let qs : List ℕ = after m xs in
    let split : xs ≡ ps ++ m ∷ qs = split_at m xs i in
    let counts : (x : ℕ) → count x xs ≡ count x ps + count x (m ∷ qs) = λ x. ap (count x) split ∙ count-append x ps (m ∷ qs) in
    let none_p : count m ps ≡ 0 = count-before m xs in
    let none_q : count m qs ≡ 0 = omega (arith, counts m, apart m, tick_same m) in
    let new : map (replaced m h) xs ≡ ps ++ h ∷ qs = ap (map (replaced m h)) split ∙ map-append (replaced m h) ps (m ∷ qs)
    ∙ (λ j. replaced_none m h ps none_p j ++ (ap (λ b. cond b h m) (nat_eq_itself m)) j ∷ replaced_none m h qs none_q j) in
    let r : rest m (canonical xs) ≡ qs ++ ps = sym (rest_same m xs (canonical xs) (canonical-rotates xs) apart i) ∙ rest_parts m xs in
    let d : IsApart (h ∷ (qs ++ ps)) = λ x. elim (eqb_tells x h) [
      | inl e ↦ omega (arith, count-append x qs ps, counts x, ap (λ y. count y xs) e.1, ap (λ y. count x (y ∷ [])) (sym e.1), tick_same x, out)
      | inr e ↦ omega (arith, count-append x qs ps, counts x, apart x, tick_other x h e.1)
    ] in
    ap (λ t. canonical (h ∷ t)) r
    ∙ canonical_same (h ∷ (qs ++ ps)) (ps ++ h ∷ qs) (record { front = h ∷ qs; back = ps; here = refl; there = refl }) d
    ∙ ap canonical (sym new)

-- ---- rows renamed

pub map_stays : (swap : ℕ → ℕ) (xs : List ℕ) → ((x : ℕ) → IsIn x xs → swap x ≡ x) → map swap xs ≡ xs
map_stays swap [] same = refl
map_stays swap (x ∷ xs) same = λ i. same x (IsIn_head x xs) i ∷ map_stays swap xs (λ y j. same y (IsIn_rest y x xs j)) i

-- a loop in which nothing is renamed stays
pub none_replaced : (swap : ℕ → ℕ) (c : LoopContent) → ((hs : List ℕ) → c ≡ cycle hs → IsCycle hs) → ((h : ℕ) → IsIn h (items_of c) → swap h ≡ h) → rewritten (map swap) c ≡ c
none_replaced swap (lone v) good same = refl
none_replaced swap (cycle hs) good same = ap (λ xs. cycle (canonical xs)) (map_stays swap hs same) ∙ ap cycle (good hs refl).from_least

-- so does one whose items no pair renames
pub row_unrenamed : (M : Model) → Sound M → (q : ℕ) (row : LoopRow) → table.get M.loops q ≡ Some row → rewritten_row (map (renamed [])) q row ≡ row
row_unrenamed M sound q row at = ap (λ x. record { face = row.face; content = x }) (none_replaced (renamed []) row.content (λ hs is. sound.cycles q hs (ap is_some at) (content_row M q row at ∙ is)) (λ h i. refl))

-- the tail of a half-edge is renamed with its row
pub tail_renamed : (ps : List (ℕ × ℕ)) (o : Option EdgeRow) (e : ℕ) (b : Bool) → is_some o ≡ true →
    tail_in (unwrap_or (option_map (renamed_tails ps e) o) no_edge) b ≡ renamed ps (tail_in (unwrap_or o no_edge) b)
tail_renamed ps None e b there = absurd (true≢false (sym there))
tail_renamed ps (Some row) e true there = refl
tail_renamed ps (Some row) e false there = refl
