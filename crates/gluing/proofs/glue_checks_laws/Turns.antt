-- Lists of points that are turns of one another.
use Rattle.gluing.proofs.Prelude.{◌≡◌, ◌≢◌, ℕ, zero, suc, ◌+◌, ◌-◌, ◌<◌, ◌≤◌, true, false, cond, ◌&&◌, List, [], ◌∷◌, ◌++◌, length, Some, None, refl, sym, ap, subst, ◌∙◌, arith, true≢false, inl, inr, get_or, take, drop, is_some, slice_index_or, append-nil, length-append, get_or-drop, take_all, length-drop, length-take-le, drop_all, or_cases, cases_eq, or_left, or_right, Point, same_point, same_as, same_truth, has_repeats, same_points, is_turned, is_rotation, place_from, same_is, same_lists}
use Rattle.gluing.proofs.glue_checks_laws.Points.{one_place}

pub lists_same : (ps : List Point) → same_points ps ps ≡ true
lists_same [] = refl
lists_same (p ∷ ps) = λ i. same_as p p refl i && lists_same ps i

-- compared in two parts
pub in_parts : (xs bs cs : List Point) → same_points (take (length bs) xs) bs && same_points (drop (length bs) xs) cs ≡ same_points xs (bs ++ cs)
in_parts xs [] cs = refl
in_parts [] (b ∷ bs) cs = refl
in_parts (x ∷ xs) (b ∷ bs) cs = grind (arith, in_parts xs bs cs)

-- the list with its first k points moved to the end
abbrev pub turned : ℕ → List Point → List Point
turned k qs = drop k qs ++ take k qs

turned_by : (n j : ℕ) (ps qs : List Point) → j ≤ n → ps ≡ turned j qs → is_turned n ps qs ≡ true
turned_by zero j ps qs l e = at_zero j (omega arith) e where
  at_zero : (j : ℕ) → j ≡ 0 → ps ≡ turned j qs → same_points ps qs ≡ true
  at_zero j z e = ap (λ (xs : List Point). same_points xs qs) (e ∙ ap (λ k. turned k qs) z ∙ append-nil qs) ∙ lists_same qs
turned_by (suc n) j ps qs l e = elim (cases_eq j (suc n)) [
  | inl same ↦ or_left (same_points ps (turned (suc n) qs)) (is_turned n ps qs) (ap (λ (xs : List Point). same_points xs (turned (suc n) qs)) (e ∙ ap (λ k. turned k qs) same) ∙ lists_same (turned (suc n) qs))
  | inr other ↦ or_right (same_points ps (turned (suc n) qs)) (is_turned n ps qs) (turned_by n j ps qs (omega arith) e)
]

-- a turn, by how many points
abbrev Turn : ℕ → List Point → List Point → Type 0
Turn n ps qs = (j : ℕ) × (j ≤ n) × (ps ≡ turned j qs)

some_turn : (n : ℕ) (ps qs : List Point) → is_turned n ps qs ≡ true → Turn n ps qs
some_turn zero ps qs e = (0, omega arith, same_lists ps qs e ∙ sym (append-nil qs))
some_turn (suc n) ps qs e = elim (or_cases (same_points ps (turned (suc n) qs)) (is_turned n ps qs) e) [
  | inl here ↦ (suc n, omega arith, same_lists ps (turned (suc n) qs) here)
  | inr lower ↦ (let t = some_turn n ps qs lower in (t.0, (let l : t.0 ≤ n = t.1 in omega arith), t.2))
]

length_turned : (j : ℕ) (qs : List Point) → j ≤ length qs → length (turned j qs) ≡ length qs
length_turned j qs l = length-append (drop j qs) (take j qs) ∙ (let d = length-drop j qs in let t = length-take-le j qs l in omega arith)

-- lists of other lengths are no turns
pub other_length : (ps qs : List Point) → length ps ≢ length qs → is_rotation ps qs ≡ false
other_length ps qs ne = same_truth (is_rotation ps qs) false (λ e. let t = some_turn (length qs) ps qs e in absurd (ne (ap (λ (xs : List Point). length xs) t.2 ∙ length_turned t.0 qs t.1))) (λ e. absurd (true≢false (sym e)))

-- a turn begins with a point of the list
turn_begins : (p : Point) (ps qs : List Point) → 0 < length qs → Turn (length qs) (p ∷ ps) qs → (j : ℕ) × (j < length qs) × (p ≡ get_or qs j p) × (p ∷ ps ≡ turned j qs)
turn_begins p ps qs some t = elim (cases_eq t.0 (length qs)) [
  | inl all ↦
      let whole : p ∷ ps ≡ turned 0 qs = t.2 ∙ (λ i. drop_all t.0 qs (let e : t.0 ≡ length qs = all in omega arith) i ++ take_all t.0 qs (let e : t.0 ≡ length qs = all in omega arith) i) ∙ sym (append-nil qs) in
      (0, some, begins 0 some whole, whole)
  | inr less ↦
      let short : t.0 < length qs = let l : t.0 ≤ length qs = t.1 in omega arith in
      (t.0, short, begins t.0 short t.2, t.2)
] where
  head_of : (xs ys : List Point) → p ∷ ps ≡ xs ++ ys → 0 < length xs → p ≡ get_or xs 0 p
  head_of [] ys e l = absurd (omega arith)
  head_of (x ∷ xs) ys e l = ap (λ (zs : List Point). get_or zs 0 p) e

  begins : (j : ℕ) → j < length qs → p ∷ ps ≡ turned j qs → p ≡ get_or qs j p
  begins j l e = head_of (drop j qs) (take j qs) e (let d = length-drop j qs in omega arith) ∙ get_or-drop j qs 0 p ∙ ap (λ k. get_or qs k p) (omega arith)

module _ (p : Point) where
  -- where a point is found, it is
  found_from : (n k : ℕ) (qs : List Point) → place_from n p qs ≡ Some k → (i : ℕ) × (k ≡ n + i) × (i < length qs) × (p ≡ get_or qs i p)
  found_from n k [] e = absurd (true≢false (sym (ap is_some e)))
  found_from n k (q ∷ qs) e = elim (same_point q p) as (λ b. same_point q p ≡ b → cond b (Some n) (place_from (n + 1) p qs) ≡ Some k → (i : ℕ) × (k ≡ n + i) × (i < suc (length qs)) × (p ≡ get_or (q ∷ qs) i p)) [
    | true ↦ λ t f. (0, (let s : n ≡ k = cc in omega arith), omega arith, sym (same_is q p t))
    | false ↦ λ t f. (let r = found_from (n + 1) k qs f in (suc r.0, (let s : k ≡ n + 1 + r.0 = r.1 in omega arith), (let l : r.0 < length qs = r.2 in omega arith), r.3))
  ] refl e

  pub found_there : (k : ℕ) (qs : List Point) → place_from 0 p qs ≡ Some k → (k < length qs) × (p ≡ get_or qs k p)
  found_there k qs e = let r = found_from 0 k qs e in let s : k ≡ r.0 = (let z : k ≡ 0 + r.0 = r.1 in omega arith) in (subst (λ i. i < length qs) (sym s) r.2, r.3 ∙ ap (λ i. get_or qs i p) (sym s))

  missing_from : (n : ℕ) (qs : List Point) → place_from n p qs ≡ None → (i : ℕ) → i < length qs → p ≢ get_or qs i p
  missing_from n [] e i l s = omega arith
  missing_from n (q ∷ qs) e zero l s = grind (arith, e, same_as q p (sym s))
  missing_from n (q ∷ qs) e (suc i) l s = grind (arith, e, missing_from (n + 1) qs)

  pub not_found : (ps qs : List Point) → length (p ∷ ps) ≡ length qs → place_from 0 p qs ≡ None → is_rotation (p ∷ ps) qs ≡ false
  not_found ps qs same e = same_truth (is_rotation (p ∷ ps) qs) false (λ r. absurd (
      let t = turn_begins p ps qs (omega (arith, same)) (some_turn (length qs) (p ∷ ps) qs r) in
      missing_from 0 qs e t.0 t.1 t.2)) (λ e. absurd (true≢false (sym e)))

  -- where the first point is found, the lists are compared from there on
  pub found_at : (k : ℕ) (ps qs : List Point) → has_repeats qs ≡ false → length (p ∷ ps) ≡ length qs → place_from 0 p qs ≡ Some k → same_points (p ∷ ps) (turned k qs) ≡ is_rotation (p ∷ ps) qs
  found_at k ps qs apart same e = same_truth (same_points (p ∷ ps) (turned k qs)) (is_rotation (p ∷ ps) qs) turns back where
    here : (k < length qs) × (p ≡ get_or qs k p)
    here = found_there k qs e

    turns : same_points (p ∷ ps) (turned k qs) ≡ true → is_rotation (p ∷ ps) qs ≡ true
    turns t = turned_by (length qs) k (p ∷ ps) qs (let l : k < length qs = here.0 in omega arith) (same_lists (p ∷ ps) (turned k qs) t)

    back : is_rotation (p ∷ ps) qs ≡ true → same_points (p ∷ ps) (turned k qs) ≡ true
    back r =
        let t = turn_begins p ps qs (omega (arith, same)) (some_turn (length qs) (p ∷ ps) qs r) in
        let j = one_place qs apart t.0 k p t.1 here.0 (sym t.2 ∙ here.1) in
        ap (λ (xs : List Point). same_points xs (turned k qs)) (t.3 ∙ ap (λ i. turned i qs) j) ∙ lists_same (turned k qs)

-- two lists are compared in two parts
pub two_parts : (ps qs : List Point) (k : ℕ) → length ps ≡ length qs → same_points (take (length ps - k) ps) (drop k qs) && same_points (drop (length ps - k) ps) (take k qs) ≡ same_points ps (turned k qs)
two_parts ps qs k same = ap (λ n. same_points (take n ps) (drop k qs) && same_points (drop n ps) (take k qs)) (ap (λ n. n - k) same ∙ sym (length-drop k qs)) ∙ in_parts ps (drop k qs) (take k qs)

-- so it is told of a list with a first point
pub turn_inside : (ps qs : List Point) (d : Point) (k : ℕ) → Some k ≡ place_from 0 (slice_index_or ps 0 d) qs → k ≤ length qs
turn_inside ps qs d k e = let l : k < length qs = (found_there (slice_index_or ps 0 d) k qs (sym e)).0 in omega arith

pub turn_found : (ps qs : List Point) (d : Point) (k : ℕ) → 1 ≤ length ps → has_repeats qs ≡ false → length ps ≡ length qs → Some k ≡ place_from 0 (slice_index_or ps 0 d) qs → same_points ps (turned k qs) ≡ is_rotation ps qs
turn_found [] qs d k l apart same e = absurd (omega arith)
turn_found (p ∷ ps) qs d k l apart same e = found_at p k ps qs apart same (sym e)

pub no_turn_found : (ps qs : List Point) (d : Point) → 1 ≤ length ps → length ps ≡ length qs → None ≡ place_from 0 (slice_index_or ps 0 d) qs → false ≡ is_rotation ps qs
no_turn_found [] qs d l same e = absurd (omega arith)
no_turn_found (p ∷ ps) qs d l same e = sym (not_found p ps qs same (sym e))
