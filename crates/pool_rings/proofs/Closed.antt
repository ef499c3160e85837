-- Each live code of a pool stands in one ring.
use Rattle.std.proofs.Common.{◌≡◌, ◌≢◌, ℕ, zero, suc, ◌+◌, ◌≤◌, true, Option, Some, None, is_some, cond, List, [], ◌∷◌, ◌++◌, map, length, ◌⊎◌, inl, inr, refl, sym, ap, ◌∙◌, subst, arith, ne_eqb, append_assoc, length-append, nat_cmp}
use Rattle.std.proofs.lemmas.Bool.{cases_eq, false≢true}
use Rattle.std.specs.Cmp.{unsigned_tied}
use Rattle.std.specs.FinMap.Entries.{find}
use Rattle.std.specs.FinMap.{get, entries, get-entries}
use Rattle.raw_ring.specs.Rings.{Spot, RingMap, awake, spot, next_of, of_spot, or_zero, IsLive, IsPermutation}
use Rattle.cyclic_list.specs.Items.{tick, count, IsIn, IsApart, last_or, before, after}
use Rattle.cyclic_list.specs.Rings.{IsPath, IsRotation, rest}
use Rattle.cyclic_list.proofs.Lists.{tick_same, tick_other, tick_le, count-append, split_at, IsIn_or_not}
use Rattle.cyclic_list.proofs.Rotations.{IsRotation-sym, IsRotation-trans, IsRotation-same}
use Rattle.cyclic_list.proofs.Rings.{IsIn_last, last_or_push, front_of, IsPath_at, IsPath-append, IsRing-same, rotation_at, apart_at, ring_known}
use Rattle.cyclic_list.proofs.Closed.{IsPath_last}
use Rattle.cyclic_list.proofs.Operators.{apart_back}
use Rattle.cyclic_list.proofs.Members.{apart_within, IsIn_one}
use Rattle.pool_rings.specs.Pools.{leads, IsRingOf, StandsIn, ShareRing, HaveTwoRings}

-- ---- the codes that a pool knows

abbrev keys : List (ℕ × Option Spot) → List ℕ
keys es = map (λ e. e.0) es

found_in : (c : ℕ) (es : List (ℕ × Option Spot)) → is_some (find nat_cmp c es) ≡ true → IsIn c (keys es)
found_in c [] h = absurd (false≢true h)
found_in c (e ∷ es) h = elim (cases_eq c e.0) [
  | inl s ↦ omega (arith, ap (tick c) (sym s), tick_same c)
  | inr ne ↦
      let later : is_some (find nat_cmp c es) ≡ true = subst (λ b. is_some (cond b (Some e.1) (find nat_cmp c es)) ≡ true) (unsigned_tied c e.0 ∙ ne_eqb c e.0 ne) h in
      let i = found_in c es later in
      omega (arith, i)
]

codes : RingMap → List ℕ
codes m = keys (entries m)

-- a live code has a row
has_row : (o : Option (Option Spot)) → is_some (awake o) ≡ true → is_some o ≡ true
has_row None h = absurd (false≢true h)
has_row (Some s) h = refl

among_codes : (m : RingMap) (c : ℕ) → IsLive m c → IsIn c (codes m)
unfolding codes
among_codes m c live = found_in c (entries m) (sym (ap is_some (get-entries m c)) ∙ has_row (get m c) live)

last_or-append : (d : ℕ) (ps : List ℕ) (x : ℕ) (qs : List ℕ) → last_or d (ps ++ x ∷ qs) ≡ last_or x qs
last_or-append d [] x qs = refl
last_or-append d (p ∷ ps) x qs = last_or-append p ps x qs

-- ---- a walk from code to code comes back to where it began

leads_on : (o : Option Spot) → is_some o ≡ true → of_spot (λ s. s.next) o ≡ Some (or_zero (of_spot (λ s. s.next) o))
leads_on None h = absurd (false≢true h)
leads_on (Some s) h = refl

module _ (m : RingMap) (p : IsPermutation m) where
  abbrev AreLive : List ℕ → Type 0
  AreLive xs = (x : ℕ) → IsIn x xs → IsLive m x

  led : (c : ℕ) → IsLive m c → next_of m c ≡ Some (leads m c)
  led c live = leads_on (spot m c) live

  leads_live : (c : ℕ) → IsLive m c → IsLive m (leads m c)
  leads_live c live = p.live c (leads m c) (led c live)

  leads_one : (c d : ℕ) → IsLive m c → IsLive m d → leads m c ≡ leads m d → c ≡ d
  leads_one c d lc ld e = p.one c d (leads m d) (led c lc ∙ ap Some e) (led d ld)

  -- a path from h without repeats doesn't lead back into itself but to h
  fresh : (h : ℕ) (ps : List ℕ) (q : ℕ) → IsApart (h ∷ ps) → AreLive (h ∷ ps) → IsPath (leads m) (h ∷ ps) q → q ≢ h → count q (h ∷ ps) ≡ 0
  fresh h ps q a live path ne =
      elim (IsIn_or_not q ps) [
        | inr n ↦ omega (arith, n, tick_other q h ne)
        | inl i ↦
            let vs = after q ps in
            let f = front_of h (before q ps) in
            let w = last_or h (before q ps) in
            let l = last_or h ps in
            let g : h ∷ ps ≡ f.0 ++ w ∷ q ∷ vs = ap (λ z. h ∷ z) (split_at q ps i) ∙ ap (λ z. z ++ q ∷ vs) f.1 ∙ append_assoc f.0 (w ∷ []) (q ∷ vs) in
            let in_front : IsIn w (h ∷ ps) = omega (arith, ap (count w) g, count-append w f.0 (w ∷ q ∷ vs), tick_same w) in
            let both_lead = IsPath_at (leads m) f.0 w (q ∷ vs) q (subst (λ z. IsPath (leads m) z q) g path) ∙ sym (IsPath_last (leads m) h ps q path) in
            let same : w ≡ l = leads_one w l (live w in_front) (live l (IsIn_last h ps)) both_lead in
            let last : l ≡ last_or q vs = ap (last_or h) (split_at q ps i) ∙ last_or-append h (before q ps) q vs in
            let behind : IsIn w (q ∷ vs) = subst (λ z. IsIn z (q ∷ vs)) (sym (same ∙ last)) (IsIn_last q vs) in
            absurd (omega (arith, a w, ap (count w) g, count-append w f.0 (w ∷ q ∷ vs), tick_same w, behind))
      ]

  -- with the code to which it leads put behind it, while that isn't h
  closed : (n h : ℕ) (ps : List ℕ) → length (codes m) ≤ n + length ps → IsApart (h ∷ ps) → AreLive (h ∷ ps) → IsPath (leads m) (h ∷ ps) (leads m (last_or h ps)) → (xs : List ℕ) × StandsIn m h xs
  closed zero h ps short a live path = absurd (omega (arith, short, apart_within (h ∷ ps) (codes m) a (λ x i. among_codes m x (live x i))))
  closed (suc n) h ps short a live path =
      let q = leads m (last_or h ps) in
      elim (cases_eq q h) [
        | inl e ↦ (h ∷ ps, record { apart = a; ring = record { live = live; ring = subst (IsPath (leads m) (h ∷ ps)) e path }; here = omega (arith, tick_same h) })
        | inr ne ↦
            closed n h (ps ++ q ∷ []) (omega (arith, short, length-append ps (q ∷ []))) (apart_back q (h ∷ ps) (fresh h ps q a live path ne) a)
            (λ x i. elim (cases_eq x q) [
              | inl s ↦ subst (IsLive m) (sym s) (leads_live (last_or h ps) (live (last_or h ps) (IsIn_last h ps)))
              | inr o ↦ live x (omega (arith, i, count-append x ps (q ∷ []), tick_other x q o))
            ])
            (subst (IsPath (leads m) ((h ∷ ps) ++ q ∷ [])) (sym (ap (leads m) (last_or_push h q ps))) (IsPath-append (leads m) (h ∷ ps) (q ∷ []) (leads m q) path (refl, tt)))
      ]

  pub ring_through : (c : ℕ) → IsLive m c → (xs : List ℕ) × StandsIn m c xs
  ring_through c live =
      closed (length (codes m)) c [] (omega arith) (λ x. omega (arith, tick_le x c))
      (λ x i. subst (IsLive m) (sym (IsIn_one c x i)) live) (refl, tt)

-- ---- rings that share a code

pub turned : (m : RingMap) (c : ℕ) (xs ys : List ℕ) → StandsIn m c xs → StandsIn m c ys → IsRotation xs ys
turned m c xs ys x y =
    let from_c = rotation_at c xs x.here in
    let onward = rotation_at c ys y.here in
    let same : c ∷ rest c xs ≡ c ∷ rest c ys =
    ring_known (leads m) c (rest c xs) (rest c ys) (apart_at c xs x.apart x.here) (apart_at c ys y.apart y.here)
    (IsRing-same (leads m) xs (c ∷ rest c xs) from_c x.ring.ring) (IsRing-same (leads m) ys (c ∷ rest c ys) onward y.ring.ring) in
    IsRotation-trans xs (c ∷ rest c xs) ys x.apart from_c (subst (λ z. IsRotation z ys) (sym same) (IsRotation-sym ys (c ∷ rest c ys) onward))

-- two rings, of which one lacks a code that stands in the other, have none in common
parted : (m : RingMap) (b : ℕ) (xs ys : List ℕ) → IsApart xs → IsApart ys → IsRingOf m xs → IsRingOf m ys → count b xs ≡ 0 → IsIn b ys → IsApart (xs ++ ys)
parted m b xs ys a d r s none here c = elim (IsIn_or_not c xs) [
  | inr gone ↦ omega (arith, gone, d c, count-append c xs ys)
  | inl i ↦ elim (IsIn_or_not c ys) [
    | inr gone ↦ omega (arith, gone, a c, count-append c xs ys)
    | inl k ↦
        let turn = turned m c xs ys (record { apart = a; ring = r; here = i }) (record { apart = d; ring = s; here = k }) in
        absurd (omega (arith, none, here, IsRotation-same xs ys turn b))
  ]
]

pub share_or_two : (m : RingMap) (a b : ℕ) → IsPermutation m → IsLive m a → IsLive m b → ShareRing m a b ⊎ HaveTwoRings m a b
share_or_two m a b p la lb =
    let x = ring_through m p a la in
    let y = ring_through m p b lb in
    elim (IsIn_or_not b x.0) [
      | inl here ↦ inl (record { ring = x.0; first = x.1; second = record { apart = x.1.apart; ring = x.1.ring; here = here } })
      | inr none ↦ inr (record { left = x.0; right = y.0; first = x.1; second = y.1; apart = parted m b x.0 y.0 x.1.apart y.1.apart x.1.ring y.1.ring none y.1.here })
    ]
