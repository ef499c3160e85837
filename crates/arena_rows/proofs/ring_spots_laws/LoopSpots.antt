-- Spots that differ in labels alone, and the loops for which labels stand.
use Rattle.arena_rows.proofs.Prelude.{◌≡◌, ℕ, Bool, true, false, cond, nat_eq, List, Option, Some, None, is_some, option_map, refl, sym, ap, ◌∙◌, true≢false, inl, inr, contains_key, get-entries, get-from_entries, nat_cmp_total, Spot, RingMap, spot, awake, or_zero, of_spot, ring_of_one, count, IsIn, splice, map_rows, get-map_rows, IsIn_or_not, Spots, live, next, label, ring, is_in, map_spot, woken, asleep, with_links, spliced, labelled, but_label, loop_at, with_loop, in_loops, rows_of, map_in_loops, set_tail}
use Rattle.std.specs.FinMap.{get}
use Rattle.boundary_model.specs.Table as table
use Rattle.arena_rows.proofs.ring_spots_laws.SpotLaws.{either, live-map, ring_next, label-labelled_in, label-labelled_out}

-- what stands at two codes is equal where it is but for labels, and the labels are
same_spot : (o p : Option Spot) → but_label o ≡ but_label p → (is_some o ≡ true → or_zero (of_spot (λ s. s.label) o) ≡ or_zero (of_spot (λ s. s.label) p)) → o ≡ p
same_spot None None e l = refl
same_spot None (Some t) e l = absurd (true≢false (sym (ap is_some e)))
same_spot (Some s) None e l = absurd (true≢false (ap is_some e))
same_spot (Some s) (Some t) e l =
    let n : s.next ≡ t.next = ap (λ o. or_zero (of_spot (λ (q : Spot). q.next) o)) e in
    let u : s.tail ≡ t.tail = ap (λ o. or_zero (of_spot (λ (q : Spot). q.tail) o)) e in
    let k : s.label ≡ t.label = l refl in
    λ i. Some (record { next = n i; tail = u i; label = k i })

-- so it is of all codes
pub same_spots : (s t : Spots) → ((q : ℕ) → but_label (s q) ≡ but_label (t q)) → ((q : ℕ) → live s q ≡ true → label s q ≡ label t q) → s ≡ t
same_spots s t e l = λ i q. same_spot (s q) (t q) (e q) (l q) i

-- whether a code is live is read without its label
blank-live : (o : Option Spot) → is_some (but_label o) ≡ is_some o
blank-live o = live-map _ o

-- its successor is read without its label
blank-next : (o : Option Spot) → or_zero (of_spot (λ s. s.next) (but_label o)) ≡ or_zero (of_spot (λ s. s.next) o)
blank-next None = refl
blank-next (Some s) = refl

-- labels that are given change nothing but labels
pub blank-labelled : (sp : Spots) (l : ℕ) (hs : List ℕ) (q : ℕ) → but_label (labelled sp l hs q) ≡ but_label (sp q)
blank-labelled sp l hs q = either but_label (is_in q hs) _ _ _ (blank-label (sp q)) refl where
  blank-label : (o : Option Spot) → but_label (map_spot (λ s. record s { label = l }) o) ≡ but_label o
  blank-label None = refl
  blank-label (Some s) = refl

-- loops in the place of labels change nothing but labels
pub blank-loops : (rows : List ℕ) (sp : Spots) (q : ℕ) → but_label (in_loops rows sp q) ≡ but_label (sp q)
blank-loops rows sp q = blank-with_loop (sp q) where
  blank-with_loop : (o : Option Spot) → but_label (map_spot (with_loop rows) o) ≡ but_label o
  blank-with_loop None = refl
  blank-with_loop (Some s) = refl

-- spots that differ in labels alone
module _ (sp new : Spots) (same : (q : ℕ) → but_label (new q) ≡ but_label (sp q)) where
  -- they have the same live codes
  pub live-alike : (q : ℕ) → live new q ≡ live sp q
  live-alike q = sym (blank-live (new q)) ∙ ap is_some (same q) ∙ blank-live (sp q)

  -- they have the same successors
  pub next-alike : (q : ℕ) → next new q ≡ next sp q
  next-alike q = sym (blank-next (new q)) ∙ ap (λ o. or_zero (of_spot (λ s. s.next) o)) (same q) ∙ blank-next (sp q)

  -- they have the same rings
  pub ring-alike : (q : ℕ) → ring new q ≡ ring sp q
  ring-alike q = ring_next sp new q next-alike

module _ (rows : List ℕ) (sp : Spots) where
  -- with loops in the place of labels the live codes are the same
  pub live-loops : (q : ℕ) → live (in_loops rows sp) q ≡ live sp q
  live-loops = live-alike sp (in_loops rows sp) (blank-loops rows sp)

  -- so are the successors
  next-loops : (q : ℕ) → next (in_loops rows sp) q ≡ next sp q
  next-loops = next-alike sp (in_loops rows sp) (blank-loops rows sp)

  -- so are the rings
  pub ring-loops : (q : ℕ) → ring (in_loops rows sp) q ≡ ring sp q
  ring-loops = ring-alike sp (in_loops rows sp) (blank-loops rows sp)

  -- the label of a live code is its loop
  pub label-loops : (q : ℕ) → live sp q ≡ true → label (in_loops rows sp) q ≡ loop_at rows (label sp q)
  label-loops q a = label-with_loop (sp q) a where
    label-with_loop : (o : Option Spot) → is_some o ≡ true → or_zero (of_spot (λ s. s.label) (map_spot (with_loop rows) o)) ≡ loop_at rows (or_zero (of_spot (λ s. s.label) o))
    label-with_loop None e = absurd (true≢false (sym e))
    label-with_loop (Some s) e = refl

  -- a tail is set before or after loops take the place of labels
  pub loops-set_tail : (h v : ℕ) → in_loops rows (set_tail sp h v) ≡ set_tail (in_loops rows sp) h v
  loops-set_tail h v = λ i q. with_loop-tail (nat_eq q h) (sp q) i where
    with_loop-tail : (b : Bool) (o : Option Spot) → map_spot (with_loop rows) (cond b (map_spot (λ s. record s { tail = v }) o) o) ≡ cond b (map_spot (λ s. record s { tail = v }) (map_spot (with_loop rows) o)) (map_spot (with_loop rows) o)
    with_loop-tail true None = refl
    with_loop-tail true (Some s) = refl
    with_loop-tail false o = refl

  -- a code goes to sleep before or after that
  pub loops-asleep : (c : ℕ) → in_loops rows (asleep sp c) ≡ asleep (in_loops rows sp) c
  loops-asleep c = λ i q. with_loop-none (nat_eq q c) (sp q) i where
    with_loop-none : (b : Bool) (o : Option Spot) → map_spot (with_loop rows) (cond b None o) ≡ cond b None (map_spot (with_loop rows) o)
    with_loop-none true o = refl
    with_loop-none false o = refl

  -- where label 0 stands for no loop, a code wakes with it before or after that
  pub loops-woken : loop_at rows 0 ≡ 0 → (c v : ℕ) → in_loops rows (woken sp c v) ≡ woken (in_loops rows sp) c v
  loops-woken none c v = λ i q. with_loop-one (nat_eq q c) (sp q) i where
    with_loop-one : (b : Bool) (o : Option Spot) → map_spot (with_loop rows) (cond b (Some (ring_of_one c v)) o) ≡ cond b (Some (ring_of_one c v)) (map_spot (with_loop rows) o)
    with_loop-one true o = ap (λ n. Some (record { next = c; tail = v; label = n })) none
    with_loop-one false o = refl

  -- links are spliced before or after that
  pub loops-spliced : (a b : ℕ) → in_loops rows (spliced sp a b) ≡ spliced (in_loops rows sp) a b
  loops-spliced a b = (λ i q. with_loop-next (splice (next sp) a b q) (sp q) i) ∙ ap (λ (f : ℕ → ℕ). with_links (in_loops rows sp) (splice f a b)) (λ i q. sym (next-loops q) i) where
    with_loop-next : (n : ℕ) (o : Option Spot) → map_spot (with_loop rows) (map_spot (λ s. record s { next = n }) o) ≡ map_spot (λ s. record s { next = n }) (map_spot (with_loop rows) o)
    with_loop-next n None = refl
    with_loop-next n (Some s) = refl

-- the loops where labels change: the items of hs stand in loop l now, and the others where they stood
pub loops-labelled : (sp new : Spots) (rows rows' : List ℕ) (l : ℕ) (hs : List ℕ) → ((q : ℕ) → but_label (new q) ≡ but_label (sp q)) → ((q : ℕ) → live sp q ≡ true → IsIn q hs → loop_at rows' (label new q) ≡ l) →
    ((q : ℕ) → live sp q ≡ true → count q hs ≡ 0 → loop_at rows' (label new q) ≡ loop_at rows (label sp q)) → in_loops rows' new ≡ labelled (in_loops rows sp) l hs
loops-labelled sp new rows rows' l hs same inside outside =
    same_spots (in_loops rows' new) (labelled (in_loops rows sp) l hs) (λ q. blank-loops rows' new q ∙ same q ∙ sym (blank-labelled (in_loops rows sp) l hs q ∙ blank-loops rows sp q)) (λ q a.
    let b : live new q ≡ true = sym (live-loops rows' new q) ∙ a in
    let c : live sp q ≡ true = sym (live-alike sp new same q) ∙ b in
    label-loops rows' new q b ∙ elim (IsIn_or_not q hs) [
      | inl i ↦ inside q c i ∙ sym (label-labelled_in (in_loops rows sp) l hs q i (live-loops rows sp q ∙ c))
      | inr n ↦ outside q c n ∙ sym (label-labelled_out (in_loops rows sp) l hs q n ∙ label-loops rows sp q c)
    ])

-- nothing is seen of a change of labels that stand for the same loops
pub loops-same : (sp new : Spots) (rows rows' : List ℕ) → ((q : ℕ) → but_label (new q) ≡ but_label (sp q)) → ((q : ℕ) → live sp q ≡ true → loop_at rows' (label new q) ≡ loop_at rows (label sp q)) → in_loops rows' new ≡ in_loops rows sp
loops-same sp new rows rows' same loops = same_spots (in_loops rows' new) (in_loops rows sp) (λ q. blank-loops rows' new q ∙ same q ∙ sym (blank-loops rows sp q)) (λ q a.
    let b : live new q ≡ true = sym (live-loops rows' new q) ∙ a in
    let c : live sp q ≡ true = sym (live-alike sp new same q) ∙ b in
    label-loops rows' new q b ∙ loops q c ∙ sym (label-loops rows sp q c))

-- ---- the map that a contract sees

module _ (rows : List ℕ) (m : RingMap) where
  -- at each code the map has what it had, with its loop in the place of its label
  pub get-loops : (q : ℕ) → get (map_in_loops rows m) q ≡ option_map (map_spot (with_loop rows)) (get m q)
  unfolding map_in_loops table.get
  get-loops q = get-from_entries nat_cmp_total (map_rows (λ _ o. map_spot (with_loop rows) o) (rows_of m)).rows q ∙ get-map_rows (λ _ o. map_spot (with_loop rows) o) (rows_of m) q ∙ ap (option_map (map_spot (with_loop rows))) (sym (get-entries m q))

  pub spot-loops : spot (map_in_loops rows m) ≡ in_loops rows (spot m)
  spot-loops = λ i q. (ap awake (get-loops q) ∙ awake-mapped (get m q)) i where
    awake-mapped : (o : Option (Option Spot)) → awake (option_map (map_spot (with_loop rows)) o) ≡ map_spot (with_loop rows) (awake o)
    awake-mapped None = refl
    awake-mapped (Some o) = refl

  pub known-loops : contains_key (map_in_loops rows m) ≡ contains_key m
  known-loops = λ i q. (ap is_some (get-loops q) ∙ is_some-mapped (get m q)) i where
    is_some-mapped : (o : Option (Option Spot)) → is_some (option_map (map_spot (with_loop rows)) o) ≡ is_some o
    is_some-mapped None = refl
    is_some-mapped (Some o) = refl
