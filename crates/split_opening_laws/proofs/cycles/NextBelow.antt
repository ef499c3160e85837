-- Where no vertex is branched, each below half leads to one other, and no two to the same: so they form cycles.
use Rattle.split_opening_laws.proofs.Prelude.{◌≡◌, ℕ, ◌≤◌, Bool, true, false, cond, nat_eq, nat_lt, List, [], ◌∷◌, map, Some, is_some, unwrap_or, refl, sym, ap, ◌∙◌, arith, inl, inr, subst, ◌≢◌, zero, suc, ◌+◌, ◌<◌, ◌++◌, length, get_or, ◌⊎◌, eq-eqb, eqb-true, ne_eqb, flat_map, eqb_tells, map-map, ltb-false, count, IsIn, IsApart, SameItems, head_or, least, mate, Model, tail, Sound, Has, HasHalf, IsPath, IsRing, face_at, lists, strictly_rises, tick_same, tick_other, count-append, IsIn_or_not, from_map, IsApart-map, zero_first_where, row_some, IsIn-map, apart_within, IsIn-get_or, mate-mate, mate_there, no_zero, zero_found, map_stays, first_such, below_halves, section_ends, next_below, cycle_from, section_cycles, next_place, Permutes, AreOf, IsUnbranched, IsSectionCycle, AreSectionCycles, AreApartCycles}
use Rattle.std.proofs.lemmas.List.Folds.{flat_map-map}
use Rattle.euler_operators.specs.Table as table
use Rattle.split_opening_laws.proofs.cycles.Meets.{known_by}
use Rattle.split_opening_laws.proofs.cycles.BelowHalves.{halves_apart, half_there, starts_are_ends, halves_rise, halves_are, is_half}
use Rattle.split_opening_laws.proofs.cycles.RisingLists.{filter_rises}
use Rattle.split_opening_laws.proofs.cycles.Orbits.{around, around_is, around_ring, around_apart, around_within, leaders, leader_in, leader_least, covers}

-- where a number of the list passes, the first one that does is found
first_found : (p : ℕ → Bool) (ns : List ℕ) (n : ℕ) → IsIn n ns → p n ≡ true → IsIn (unwrap_or (first_such p ns) 0) ns × (p (unwrap_or (first_such p ns) 0) ≡ true)
first_found p [] n i t = absurd (omega arith)
first_found p (m ∷ ms) n i t = first_or_later (p m) refl (λ j. first_found p ms n j t) where
  first_or_later : (b : Bool) → p m ≡ b → (IsIn n ms → IsIn (unwrap_or (first_such p ms) 0) ms × (p (unwrap_or (first_such p ms) 0) ≡ true)) → IsIn (unwrap_or (cond b (Some m) (first_such p ms)) 0) (m ∷ ms) × (p (unwrap_or (cond b (Some m) (first_such p ms)) 0) ≡ true)
  first_or_later b is later = grind (arith, tick_same, tick_other)

-- ---- the cycles of a section where no vertex is branched

-- ---- rings read by place

path_place : (next : ℕ → ℕ) (x : ℕ) (xs : List ℕ) (d i : ℕ) → IsPath next (x ∷ xs) d → i < length (x ∷ xs) →
    ((i + 1 ≡ length (x ∷ xs)) × (next (get_or (x ∷ xs) i 0) ≡ d)) ⊎ ((i + 1 < length (x ∷ xs)) × (next (get_or (x ∷ xs) i 0) ≡ get_or (x ∷ xs) (suc i) 0))
path_place next x [] d zero p l = inl (omega arith, p.0)
path_place next x [] d (suc i) p l = absurd (omega (arith, l))
path_place next x (y ∷ ys) d zero p l = inr (omega arith, p.0)
path_place next x (y ∷ ys) d (suc i) p l = grind (arith, path_place next y ys d i p.1 (omega (arith, l)))

-- next leads from each place to the next one round
ring_place : (next : ℕ → ℕ) (x : ℕ) (xs : List ℕ) (i : ℕ) → IsRing next (x ∷ xs) → i < length (x ∷ xs) → next (get_or (x ∷ xs) i 0) ≡ get_or (x ∷ xs) (next_place (length (x ∷ xs)) i) 0
ring_place next x xs i r l = grind (arith, path_place, eq-eqb, ne_eqb)

-- the item from which a ring leads to one of its items
ring_back : (next : ℕ → ℕ) (x : ℕ) (xs : List ℕ) (d b : ℕ) → IsPath next (x ∷ xs) d → IsIn b (xs ++ d ∷ []) → (a : ℕ) × IsIn a (x ∷ xs) × (next a ≡ b)
ring_back next x [] d b p i = elim (eqb_tells b d) [
  | inl e ↦ (x, omega (arith, tick_same x), p.0 ∙ sym e.1)
  | inr e ↦ absurd (omega (arith, i, tick_other b d e.1))
]
ring_back next x (y ∷ ys) d b p i = elim (eqb_tells b y) [
  | inl e ↦ (x, omega (arith, tick_same x), p.0 ∙ sym e.1)
  | inr e ↦ let r = ring_back next y ys d b p.1 (omega (arith, i, tick_other b y e.1)) in (r.0, omega (arith, r.1), r.2)
]

-- where g tells of each list by which item it is made, it tells these items of all of them
told_back : (g : List ℕ → ℕ) (f : ℕ → List ℕ) (ls : List ℕ) → ((l : ℕ) → IsIn l ls → g (f l) ≡ l) → map g (map f ls) ≡ ls
told_back g f ls e = map-map g f ls ∙ map_stays (λ l. g (f l)) ls e

module _ (M : Model) (above : List ℕ) (s : ℕ) (sound : Sound M) (faces : AreOf M above s) (unbranched : IsUnbranched M (below_halves M above s)) where
  abbrev halves : List ℕ
  halves = below_halves M above s

  abbrev starts : List ℕ
  starts = map (tail M) halves

  abbrev finishes : List ℕ
  finishes = map (λ b. tail M (mate b)) halves

  same : (v : ℕ) → count v starts ≡ count v finishes
  same v = starts_are_ends M above s sound faces v

  two_ends : (v : ℕ) → Has M.vertices v → count v (section_ends M halves) ≤ 2
  two_ends v t = let r = row_some (table.get M.vertices v) t in
      ltb-false 2 (count v (section_ends M halves)) (zero_first_where (λ v _. nat_lt 2 (count v (section_ends M halves))) M.vertices (λ q y at z. no_zero q z (sound.vertices_fit q (ap is_some at))) (zero_found (table.first_where (λ v _. nat_lt 2 (count v (section_ends M halves))) M.vertices) unbranched) v r.0 r.1)

  pub starts_apart : IsApart (map (tail M) (below_halves M above s))
  starts_apart v = elim (IsIn_or_not v starts) [
    | inl i ↦
        let r = from_map (tail M) v halves i in
        let t : Has M.vertices v = subst (Has M.vertices) (sym r.2) (sound.tails_there r.0 (half_there M above s sound faces r.0 r.1)) in
        omega (arith, two_ends v t, count-append v starts finishes, same v)
    | inr z ↦ omega (arith, z)
  ]

  pub finishes_apart : IsApart (map (λ b. tail M (mate b)) (below_halves M above s))
  finishes_apart v = omega (arith, starts_apart v, same v)

  pub one_start : (v : ℕ) → IsIn v (section_ends M (below_halves M above s)) →
      (count v (map (tail M) (below_halves M above s)) ≡ 1) × (count v (map (λ b. tail M (mate b)) (below_halves M above s)) ≡ 1)
  one_start v i = (omega (arith, i, count-append v starts finishes, same v, starts_apart v), omega (arith, i, count-append v starts finishes, same v, starts_apart v))

  -- what starts where b ends is found
  found : (b : ℕ) → IsIn b halves → IsIn (next_below M halves b) halves × (nat_eq (tail M (next_below M halves b)) (tail M (mate b)) ≡ true)
  found b i =
      let r = from_map (tail M) (tail M (mate b)) halves (omega (arith, IsIn-map (λ b. tail M (mate b)) b halves i, same (tail M (mate b)))) in
      first_found (λ c. nat_eq (tail M c) (tail M (mate b))) halves r.0 r.1 (eq-eqb (tail M r.0) (tail M (mate b)) (sym r.2))

  pub next_starts : (b : ℕ) → IsIn b (below_halves M above s) → tail M (next_below M (below_halves M above s) b) ≡ tail M (mate b)
  next_starts b i = eqb-true (tail M (next_below M halves b)) (tail M (mate b)) (found b i).1

  pub permutes : Permutes (next_below M (below_halves M above s)) (below_halves M above s)
  permutes = record {
    apart = halves_apart M above s sound;
    stays = λ b i. (found b i).0;
    one_way = λ b c i j e. known_by (λ b. tail M (mate b)) halves finishes_apart b c i j (sym (next_starts b i) ∙ ap (tail M) e ∙ next_starts c j);
  }

  abbrev next : ℕ → ℕ
  next = next_below M (below_halves M above s)

  abbrev w : Permutes next halves
  w = permutes

  -- ---- one cycle

  module _ (b : ℕ) (i : IsIn b halves) (others : List ℕ) (is : around next halves w b ≡ b ∷ others) where
    ring : IsRing next (b ∷ others)
    ring = subst (IsRing next) is (around_ring next halves w b i)

    apart : IsApart (b ∷ others)
    apart = subst IsApart is (around_apart next halves w b i)

    within : (x : ℕ) → IsIn x (b ∷ others) → IsIn x halves
    within x j = around_within next halves w b i x (subst (λ q. IsIn x q) (sym is) j)

    there : (x : ℕ) → IsIn x (b ∷ others) → HasHalf M x
    there x j = half_there M above s sound faces x (within x j)

    two : (ps : List ℕ) → others ≡ ps → 2 ≤ length (b ∷ ps)
    two (p ∷ ps) e = omega arith
    two [] e = absurd (sound.ends_differ b (there b (omega (arith, tick_same b))) (sym (ap (tail M) (subst (λ q. IsRing next (b ∷ q)) e ring).0) ∙ next_starts b i))

    meet : (k : ℕ) → k < length (b ∷ others) → tail M (get_or (b ∷ others) (next_place (length (b ∷ others)) k) 0) ≡ tail M (mate (get_or (b ∷ others) k 0))
    meet k l = ap (tail M) (sym (ring_place next b others k ring l)) ∙ next_starts (get_or (b ∷ others) k 0) (within (get_or (b ∷ others) k 0) (IsIn-get_or (b ∷ others) k 0 l))

    -- the half before c ends where c starts
    back : (c : ℕ) → IsIn c (b ∷ others) → (a : ℕ) × IsIn a (b ∷ others) × (next a ≡ c)
    back c j = ring_back next b others b c ring (omega (arith, j, count-append c others (b ∷ [])))

    crossing : (h c : ℕ) → HasHalf M h → IsIn c (b ∷ others) → tail M h ≡ tail M c → lists above (face_at M h) ≢ lists above (face_at M (mate h)) → IsIn h (b ∷ others) ⊎ IsIn (mate h) (b ∷ others)
    crossing h c t j e ne = sides_differ (lists above (face_at M h)) refl (lists above (face_at M (mate h))) refl where
      starts : IsIn h halves → h ≡ c
      starts k = known_by (tail M) halves (starts_apart) h c k (within c j) e

      finishes : IsIn (mate h) halves → (a : ℕ) → IsIn a (b ∷ others) → next a ≡ c → mate h ≡ a
      finishes k a l n = known_by (λ x. tail M (mate x)) halves (finishes_apart) (mate h) a k (within a l)
          (ap (tail M) (mate-mate h) ∙ e ∙ ap (tail M) (sym n) ∙ next_starts a (within a l))

      sides_differ : (x : Bool) → lists above (face_at M h) ≡ x → (y : Bool) → lists above (face_at M (mate h)) ≡ y → IsIn h (b ∷ others) ⊎ IsIn (mate h) (b ∷ others)
      sides_differ true p true q = absurd (ne (p ∙ sym q))
      sides_differ false p false q = absurd (ne (p ∙ sym q))
      sides_differ false p true q = inl (subst (λ x. IsIn x (b ∷ others)) (sym (starts (is_half M above s sound faces h t p q))) j)
      sides_differ true p false q =
          let r = back c j in
          inr (subst (λ x. IsIn x (b ∷ others)) (sym (finishes (is_half M above s sound faces (mate h) (mate_there M h t) q (ap (λ x. lists above (face_at M x)) (mate-mate h) ∙ p)) r.0 r.1 r.2)) r.1)

    one_cycle : IsSectionCycle M above s (b ∷ others)
    one_cycle = record {
      two_halves = two others refl;
      halves = λ x j. halves_are M above s sound x (within x j);
      meet = meet;
      starts_apart = IsApart-map (tail M) (b ∷ others) (λ x j y k e. known_by (tail M) halves (starts_apart) x y (within x j) (within y k) e) apart;
      no_branch = crossing;
    }

  pub is_section_cycle : (b : ℕ) → IsIn b (below_halves M above s) → IsSectionCycle M above s (cycle_from M (below_halves M above s) b)
  is_section_cycle b i = let e = around_is next halves w b i in subst (IsSectionCycle M above s) (sym e) (one_cycle b i _ e)

  -- ---- all cycles

  all_cycles : (ls : List ℕ) → ((l : ℕ) → IsIn l ls → IsIn l halves) → AreSectionCycles M above s (map (cycle_from M halves) ls)
  all_cycles [] i = tt
  all_cycles (l ∷ ls) i = (is_section_cycle l (i l (omega (arith, tick_same l))), all_cycles ls (λ k j. i k (omega (arith, j))))

  pub cycles_lead_round : AreSectionCycles M above s (section_cycles M (below_halves M above s))
  unfolding section_cycles
  cycles_lead_round = all_cycles (leaders next halves w) (leader_in next halves w)

  pub cycles_cover : SameItems (flat_map (λ bs. bs) (section_cycles M (below_halves M above s))) (below_halves M above s)
  unfolding section_cycles
  cycles_cover x = ap (count x) (flat_map-map (λ bs. bs) (around next halves w) (leaders next halves w)) ∙ covers next halves w x

  first_of : (l : ℕ) → IsIn l (leaders next halves w) → head_or 0 (around next halves w l) ≡ l
  first_of l i = ap (head_or 0) (around_is next halves w l (leader_in next halves w l i))

  pub cycles_begin : map (head_or 0) (section_cycles M (below_halves M above s)) ≡ map least (section_cycles M (below_halves M above s))
  unfolding section_cycles
  cycles_begin = told_back (head_or 0) (around next halves w) (leaders next halves w) first_of ∙ sym (told_back least (around next halves w) (leaders next halves w) (leader_least next halves w))

  pub cycles_rise : strictly_rises (map least (section_cycles M (below_halves M above s))) ≡ true
  unfolding section_cycles
  cycles_rise = ap strictly_rises (told_back least (around next halves w) (leaders next halves w) (leader_least next halves w)) ∙ filter_rises _ halves (halves_rise M above s sound)

  pub cycles_apart : AreApartCycles M above s (section_cycles M (below_halves M above s))
  cycles_apart =
      let all : List ℕ = flat_map (λ bs. bs) (section_cycles M halves) in
      record {
        cycles = cycles_lead_round;
        starts_apart = IsApart-map (tail M) all
            (λ x i y j e. known_by (tail M) halves (starts_apart) x y (omega (arith, i, cycles_cover x)) (omega (arith, j, cycles_cover y)) e)
            (λ x. omega (arith, cycles_cover x, halves_apart M above s sound x));
      }

  -- and they are as long as the list of all
  pub cycles_long : length (flat_map (λ bs. bs) (section_cycles M (below_halves M above s))) ≡ length (below_halves M above s)
  cycles_long = grind (arith, apart_within, cycles_cover, halves_apart)
