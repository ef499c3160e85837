-- The cycles found half by half: a half that no cycle found so far has begins one, and is the least of it.
use Rattle.split_sections.proofs.Prelude.{◌≡◌, ℕ, ◌≤◌, ◌<◌, Bool, true, false, cond, ◌||◌, nat_eq, List, [], ◌∷◌, ◌++◌, map, length, refl, sym, ap, ◌∙◌, arith, true≢false, ◌⊎◌, inl, inr, filter, ne_eqb, eq-eqb, append_assoc, append-nil, eqb_tells, or_right, count, IsIn, SameItems, least, orbit, lists, strictly_rises, tick_same, tick_other, count-append, IsIn_or_not, least_le, least_in, apart_within, less_or_same, rises_over, rises_on, IsIn-from_listed, listed-from_in, Permutes, around_apart, around_within, around_here, around_same}
use Rattle.euler_operators.proofs.Common.{least_same}

-- what stands before an item of a rising list is less
before_less : (done : List ℕ) (b : ℕ) (rest : List ℕ) → strictly_rises (done ++ b ∷ rest) ≡ true → (d : ℕ) → IsIn d done → d < b
before_less [] b rest r d i = absurd (omega (arith, i))
before_less (x ∷ xs) b rest r d i = elim (eqb_tells d x) [
  | inl e ↦ omega (arith, e.1, rises_over x b (xs ++ b ∷ rest) r (omega (arith, count-append b xs (b ∷ rest), tick_same b)))
  | inr e ↦ before_less xs b rest (rises_on x (xs ++ b ∷ rest) r) d (omega (arith, i, tick_other d x e.1))
]

from_rises : (done rest : List ℕ) → strictly_rises (done ++ rest) ≡ true → strictly_rises rest ≡ true
from_rises [] rest r = r
from_rises (x ∷ xs) rest r = from_rises xs rest (rises_on x (xs ++ rest) r)

-- the cycle from an item on, and whether the item is its least
abbrev pub ring : (ℕ → ℕ) → List ℕ → ℕ → List ℕ
ring next bs h = orbit next h (length bs)

abbrev pub begins : (ℕ → ℕ) → List ℕ → ℕ → Bool
begins next bs b = nat_eq (least (ring next bs b)) b

-- these halves are left; the cycles of the others are found, and just their halves are met
pub record Finding (next : ℕ → ℕ) (bs left : List ℕ) (found : List (List ℕ)) (met : ℕ → Bool) : Type 0 where
  pub done : List ℕ
  pub parts : bs ≡ done ++ left
  pub listed : found ++ map (ring next bs) (filter (begins next bs) left) ≡ map (ring next bs) (filter (begins next bs) bs)
  pub of_done : (x : ℕ) → met x ≡ true → (d : ℕ) × IsIn d done × IsIn x (ring next bs d)
  pub is_met : (d x : ℕ) → IsIn d done → IsIn x (ring next bs d) → met x ≡ true

module _ (next : ℕ → ℕ) (bs : List ℕ) where
  pub none_found : (met : ℕ → Bool) → ((x : ℕ) → met x ≡ false) → Finding next bs bs [] met
  none_found met none = grind (arith, true≢false)

  pub all_found : (left : List ℕ) (found : List (List ℕ)) (met : ℕ → Bool) → Finding next bs left found met → left ≡ [] → found ≡ map (ring next bs) (filter (begins next bs) bs)
  all_found left found met f e = sym (append-nil found) ∙ sym (ap (λ ks. found ++ map (ring next bs) (filter (begins next bs) ks)) e) ∙ f.listed

  module _ (w : Permutes next bs) (up : strictly_rises bs ≡ true) (left : List ℕ) (found : List (List ℕ)) (met : ℕ → Bool) (f : Finding next bs left found met) (b : ℕ) (rest : List ℕ) (e : left ≡ b ∷ rest) where
    split : bs ≡ f.done ++ b ∷ rest
    split = f.parts ∙ ap (λ ks. f.done ++ ks) e

    rises : strictly_rises (f.done ++ b ∷ rest) ≡ true
    rises = sym (ap strictly_rises split) ∙ up

    pub now_in : IsIn b bs
    now_in = omega (arith, ap (count b) split, count-append b f.done (b ∷ rest), tick_same b)

    done_in : (d : ℕ) → IsIn d f.done → IsIn d bs
    done_in d i = omega (arith, ap (count d) split, count-append d f.done (b ∷ rest), i)

    earlier : (m : ℕ) → IsIn m bs → m < b → IsIn m f.done
    earlier m i l = grind (arith, split, count-append, rises_over, from_rises, rises, tick_other)

    -- a half that is met isn't the least of its cycle
    met_follows : met b ≡ true → begins next bs b ≡ false
    met_follows t =
        let r = f.of_done b t in
        let same : SameItems (ring next bs b) (ring next bs r.0) = around_same next bs w r.0 (done_in r.0 r.1) b r.2 in
        let least_is : least (ring next bs b) ≡ least (ring next bs r.0) = least_same (ring next bs b) (ring next bs r.0) same in
        let low : least (ring next bs r.0) ≤ r.0 = least_le (ring next bs r.0) r.0 (around_here next bs w r.0 (done_in r.0 r.1)) in
        ne_eqb (least (ring next bs b)) b (λ s. absurd (omega (arith, s, least_is, low, before_less f.done b rest rises r.0 r.1)))

    -- a half that isn't met is
    new_leads : met b ≡ false → begins next bs b ≡ true
    new_leads t = eq-eqb (least (ring next bs b)) b (at_least (least_le (ring next bs b) b (around_here next bs w b now_in))) where
      m_in : IsIn (least (ring next bs b)) (ring next bs b)
      m_in = least_in (ring next bs b) b (around_here next bs w b now_in)

      known : least (ring next bs b) < b → met b ≡ true
      known l = f.is_met (least (ring next bs b)) b (earlier (least (ring next bs b)) (around_within next bs w b now_in (least (ring next bs b)) m_in) l)
          (omega (arith, around_same next bs w b now_in (least (ring next bs b)) m_in b, around_here next bs w b now_in))

      at_least : least (ring next bs b) ≤ b → least (ring next bs b) ≡ b
      at_least l = grind (arith, less_or_same, true≢false, known)

    in_more : (d : ℕ) → IsIn d (f.done ++ b ∷ []) → IsIn d f.done ⊎ (d ≡ b)
    in_more d i = elim (eqb_tells d b) [ inl s ↦ inr s.1 | inr s ↦ inl (omega (arith, i, count-append d f.done (b ∷ []), tick_other d b s.1)) ]

    still_in : (d : ℕ) → IsIn d f.done → IsIn d (f.done ++ b ∷ [])
    still_in d i = omega (arith, i, count-append d f.done (b ∷ []))

    new_in : IsIn b (f.done ++ b ∷ [])
    new_in = omega (arith, count-append b f.done (b ∷ []), tick_same b)

    pub found_before : met b ≡ true → Finding next bs rest found met
    found_before t = record {
      done = f.done ++ b ∷ [];
      parts = split ∙ sym (append_assoc f.done (b ∷ []) rest);
      listed = sym (ap (λ c. found ++ map (ring next bs) (cond c (b ∷ filter (begins next bs) rest) (filter (begins next bs) rest))) (met_follows t))
          ∙ sym (ap (λ ks. found ++ map (ring next bs) (filter (begins next bs) ks)) e) ∙ f.listed;
      of_done = λ x u. let r = f.of_done x u in (r.0, still_in r.0 r.1, r.2);
      is_met = λ d x i j. elim (in_more d i) [
        | inl k ↦ f.is_met d x k j
        | inr s ↦
            let r = f.of_done b t in
            f.is_met r.0 x r.1 (omega (arith, ap (λ y. count x (ring next bs y)) s, j, around_same next bs w r.0 (done_in r.0 r.1) b r.2 x))
      ];
    }

    pub found_now : met b ≡ false → (cycle : List ℕ) → cycle ≡ ring next bs b → (more : List (List ℕ)) → more ≡ found ++ cycle ∷ [] → (wider : ℕ → Bool) → ((x : ℕ) → wider x ≡ (lists cycle x || met x)) → Finding next bs rest more wider
    found_now t cycle is more em wider ew = record {
      done = f.done ++ b ∷ [];
      parts = split ∙ sym (append_assoc f.done (b ∷ []) rest);
      listed = ap (λ (cs : List (List ℕ)). cs ++ map (ring next bs) (filter (begins next bs) rest)) (em ∙ ap (λ c. found ++ c ∷ []) is)
          ∙ append_assoc found (ring next bs b ∷ []) (map (ring next bs) (filter (begins next bs) rest))
          ∙ sym (ap (λ c. found ++ map (ring next bs) (cond c (b ∷ filter (begins next bs) rest) (filter (begins next bs) rest))) (new_leads t))
          ∙ sym (ap (λ ks. found ++ map (ring next bs) (filter (begins next bs) ks)) e) ∙ f.listed;
      of_done = λ x u. from_wider x (lists cycle x) refl (sym (ew x) ∙ u);
      is_met = λ d x i j. elim (in_more d i) [
        | inl k ↦ ew x ∙ or_right (lists cycle x) (met x) (f.is_met d x k j)
        | inr s ↦ ew x ∙ ap (λ c. c || met x) (listed-from_in x cycle (omega (arith, ap (count x) is, j, ap (λ y. count x (ring next bs y)) s)))
      ];
    } where
      from_wider : (x : ℕ) (c : Bool) → lists cycle x ≡ c → (c || met x) ≡ true → (d : ℕ) × IsIn d (f.done ++ b ∷ []) × IsIn x (ring next bs d)
      from_wider x true l u = (b, new_in, omega (arith, ap (count x) is, IsIn-from_listed x cycle l))
      from_wider x false l u = let r = f.of_done x u in (r.0, still_in r.0 r.1, r.2)

-- where what is left is all met, all cycles are found
module _ (next : ℕ → ℕ) (bs : List ℕ) (w : Permutes next bs) (up : strictly_rises bs ≡ true) where
  all_met : (left : List ℕ) (found : List (List ℕ)) (met : ℕ → Bool) → Finding next bs left found met → ((x : ℕ) → IsIn x left → met x ≡ true) → found ≡ map (ring next bs) (filter (begins next bs) bs)
  all_met [] found met f each = all_found next bs [] found met f refl
  all_met (x ∷ xs) found met f each = all_met xs found met (found_before next bs w up (x ∷ xs) found met f x xs refl (each x (omega (arith, tick_same x)))) (λ y i. each y (omega (arith, i)))

  -- a cycle of as many items as there are has each of them
  every_item : (b : ℕ) → IsIn b bs → length (ring next bs b) ≡ length bs → (x : ℕ) → IsIn x bs → IsIn x (ring next bs b)
  every_item b i many x j = elim (IsIn_or_not x (ring next bs b)) [
    | inl k ↦ k
    | inr z ↦ absurd (omega (arith, many, apart_within (x ∷ ring next bs b) bs (apart z) within))
  ] where
    apart : count x (ring next bs b) ≡ 0 → (y : ℕ) → count y (x ∷ ring next bs b) ≤ 1
    apart z y = grind (arith, tick_same, tick_other, around_apart)

    within : (y : ℕ) → IsIn y (x ∷ ring next bs b) → IsIn y bs
    within y k = grind (arith, around_within, tick_other)

  -- and is the last that is found
  pub found_whole : (left : List ℕ) (found : List (List ℕ)) (met : ℕ → Bool) (f : Finding next bs left found met) (b : ℕ) (rest : List ℕ) → left ≡ b ∷ rest → met b ≡ false → (cycle : List ℕ) → cycle ≡ ring next bs b
      → length cycle ≡ length bs → (more : List (List ℕ)) → more ≡ found ++ cycle ∷ [] → more ≡ map (ring next bs) (filter (begins next bs) bs)
  found_whole left found met f b rest e t cycle is many more em =
      let i = now_in next bs w up left found met f b rest e in
      let wider : ℕ → Bool = λ x. lists cycle x || met x in
      let now = found_now next bs w up left found met f b rest e t cycle is more em wider (λ x. refl) in
      all_met rest more wider now (λ x j. ap (λ c. c || met x) (listed-from_in x cycle (omega (
        arith,
        ap (count x) is,
        every_item b i (ap (λ (ks : List ℕ). length ks) (sym is) ∙ many) x (in_rest left f b rest e x j),
      )))) where
        in_rest : (left : List ℕ) → Finding next bs left found met → (b : ℕ) (rest : List ℕ) → left ≡ b ∷ rest → (x : ℕ) → IsIn x rest → IsIn x bs
        in_rest left f b rest e x j = omega (arith, j, ap (count x) (f.parts ∙ ap (λ ks. f.done ++ ks) e), count-append x f.done (b ∷ rest))
