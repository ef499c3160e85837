-- How a copy comes to be the same map.
--     IsLed-spliced      a splice with the code before
--     roomed, put_here, put_there      a code that is made known, and woken
--     told, IsCopied-live, IsCopied-asleep      one code that is copied
--     IsBegun, Begun-..      the codes below n are copied
--     IsFollowed, Followed-..      the codes below n have their successors;  and at the end the map is the same
use Rattle.raw_ring.proofs.Prelude.{◌≡◌, ℕ, ◌+◌, ◌<◌, ◌≤◌, ◌==◌, true, false, cond, Option, Some, None, is_some, inl, inr, refl, sym, ap, ◌∙◌, arith, nat_cmp, get, insert, empty, contains_key, get-empty, eqb-false, cases_lt, false≢true, same_Some, Spot, RingMap, awake, of_spot, spot, next_of, tail_of, label_of, IsLive, IsAsleep, with_room, Exchanged, IsPermutation}
use Rattle.raw_ring.specs.Copying.{but_next, IsAlike, IsCopied, IsLed}
use Rattle.raw_ring.proofs.Mapping.{get-put, same_ring, test_same, test_is, test_other, asleep_is}
use Rattle.raw_ring.proofs.Tying.{none_by}

-- two entries that are known alike, live alike and marked alike
alike_at : (o p : Option (Option Spot)) → is_some p ≡ is_some o → is_some (awake p) ≡ is_some (awake o) → of_spot (λ s. s.tail) (awake p) ≡ of_spot (λ s. s.tail) (awake o)
    → of_spot (λ s. s.label) (awake p) ≡ of_spot (λ s. s.label) (awake o) → but_next p ≡ but_next o
alike_at None None known live tail label = refl
alike_at None (Some p) known live tail label = absurd (false≢true (sym known))
alike_at (Some o) None known live tail label = absurd (false≢true known)
alike_at (Some None) (Some None) known live tail label = refl
alike_at (Some None) (Some (Some t)) known live tail label = absurd (false≢true (sym live))
alike_at (Some (Some s)) (Some None) known live tail label = absurd (false≢true live)
alike_at (Some (Some s)) (Some (Some t)) known live tail label = λ i. Some (Some (same_Some t.tail s.tail tail i, same_Some t.label s.label label i))

alike_live : (o p : Option (Option Spot)) → but_next p ≡ but_next o → is_some (awake p) ≡ is_some (awake o)
alike_live None None e = refl
alike_live None (Some None) e = cc
alike_live None (Some (Some t)) e = cc
alike_live (Some None) None e = cc
alike_live (Some (Some s)) None e = cc
alike_live (Some None) (Some None) e = refl
alike_live (Some None) (Some (Some t)) e = cc
alike_live (Some (Some s)) (Some None) e = cc
alike_live (Some (Some s)) (Some (Some t)) e = refl

alike_same : (o p : Option (Option Spot)) → but_next p ≡ but_next o → of_spot (λ s. s.next) (awake p) ≡ of_spot (λ s. s.next) (awake o) → p ≡ o
alike_same None None e n = refl
alike_same None (Some None) e n = cc
alike_same None (Some (Some t)) e n = cc
alike_same (Some None) None e n = cc
alike_same (Some (Some s)) None e n = cc
alike_same (Some None) (Some None) e n = refl
alike_same (Some None) (Some (Some t)) e n = cc
alike_same (Some (Some s)) (Some None) e n = cc
alike_same (Some (Some s)) (Some (Some t)) e n =
    let marks : (t.tail, t.label) ≡ (s.tail, s.label) = same_Some _ _ (same_Some _ _ e) in
    λ i. Some (Some (record { next = same_Some t.next s.next n i; tail = (marks i).0; label = (marks i).1 }))

pub IsLed-spliced : (old new : RingMap) (a b p : ℕ) → next_of old p ≡ Some b → Exchanged old new a p → IsLed old new a b
IsLed-spliced old new a b p before X = record {
  next = X.next a ∙ (elim (a == p) as (λ y. (a == p) ≡ y → cond y (next_of old a) (cond (a == a) (next_of old p) (next_of old a)) ≡ Some b) [
    | true ↦ λ t. ap (next_of old) (test_is a p t) ∙ before
    | false ↦ λ t. ap (λ y. cond y (next_of old p) (next_of old a)) (test_same a) ∙ before
  ]) refl;
  others = λ c not_a not_p. X.next c ∙ (λ i. cond (test_other c p (λ e. not_p (ap (next_of old) e ∙ before)) i) (next_of old a) (cond (test_other c a not_a i) (next_of old p) (next_of old c)));
  alike = λ c. alike_at (get old c) (get new c) (X.known c) (X.live c) (X.tail c) (X.label c);
}

-- one code
pub put_here : (m : RingMap) (c : ℕ) (v : Option Spot) → get (insert m c v) c ≡ Some v
put_here m c v = get-put m c v c ∙ ap (λ y. cond y (Some v) (get m c)) (test_same c)

pub put_there : (m : RingMap) (c : ℕ) (v : Option Spot) (d : ℕ) → (d ≡ c → ⊥) → get (insert m c v) d ≡ get m d
put_there m c v d other = get-put m c v d ∙ ap (λ y. cond y (Some v) (get m d)) (test_other d c other)

pub roomed : (m : RingMap) (c : ℕ) → get m c ≡ None → with_room m c ≡ insert m c None
roomed m c e = ap (λ o. cond (is_some o) m (insert m c None)) e

pub IsAsleep-roomed : (m : RingMap) (c : ℕ) → get m c ≡ None → IsAsleep (with_room m c) c
IsAsleep-roomed m c e = let here : get (with_room m c) c ≡ Some None = ap (λ n. get n c) (roomed m c e) ∙ put_here m c None in (ap is_some here, ap (λ o. is_some (awake o)) here)

told : (o : Option (Option Spot)) (t l : ℕ) → of_spot (λ s. s.tail) (awake o) ≡ Some t → of_spot (λ s. s.label) (awake o) ≡ Some l → Some (Some (t, l)) ≡ but_next o
told None t l tail label = cc
told (Some None) t l tail label = cc
told (Some (Some s)) t l tail label = λ i. Some (Some (sym (same_Some s.tail t tail) i, sym (same_Some s.label l label) i))

-- a live code: it is made known and woken
pub IsCopied-live : (m old one new : RingMap) (c t l : ℕ) → get old c ≡ None → one ≡ with_room old c → new ≡ insert one c (Some (record { next = c; tail = t; label = l }))
    → tail_of m c ≡ Some t → label_of m c ≡ Some l → IsCopied m old new c
IsCopied-live m old one new c t l none is_one is_new tail label =
    let s : Spot = record { next = c; tail = t; label = l } in
    record {
      here = ap (λ n. but_next (get n c)) is_new ∙ ap but_next (put_here one c (Some s)) ∙ told (get m c) t l tail label;
      others = λ d other. ap (λ n. get n d) is_new ∙ put_there one c (Some s) d other ∙ ap (λ n. get n d) (is_one ∙ roomed old c none) ∙ put_there old c None d other;
    }

-- a code that is asleep
pub IsCopied-asleep : (m old new : RingMap) (c : ℕ) → get old c ≡ None → new ≡ with_room old c → IsAsleep m c → IsCopied m old new c
IsCopied-asleep m old new c none is_new asleep =
    let made : new ≡ insert old c None = is_new ∙ roomed old c none in
    record {
      here = ap (λ n. but_next (get n c)) made ∙ ap but_next (put_here old c None) ∙ sym (ap but_next (asleep_is m c asleep));
      others = λ d other. ap (λ n. get n d) made ∙ put_there old c None d other;
    }

-- the codes below n are copied, and no other is known
pub record IsBegun (m copy : RingMap) (n : ℕ) : Type 0 where
  pub below : (c : ℕ) → c < n → but_next (get copy c) ≡ but_next (get m c)
  pub above : (c : ℕ) → n ≤ c → get copy c ≡ None

pub Begun-empty : (m copy : RingMap) → copy ≡ empty → IsBegun m copy 0
Begun-empty m copy e = record { below = λ c within. absurd (omega (arith, within)); above = λ c past. ap (λ n. get n c) e ∙ get-empty nat_cmp c }

-- a code past the bound is not known
past_bound : (m : RingMap) (n : ℕ) → ((c : ℕ) → contains_key m c ≡ true → c < n) → (c : ℕ) → n ≤ c → get m c ≡ None
past_bound m n bound c past = (elim (is_some (get m c)) as (λ y. is_some (get m c) ≡ y → get m c ≡ None) [
  | true ↦ λ t. absurd (omega (arith, past, bound c t))
  | false ↦ λ t. none_by (get m c) t
]) refl

-- the codes below n have their successors
pub record IsFollowed (m copy : RingMap) (n : ℕ) : Type 0 where
  pub alike : IsAlike m copy
  pub below : (c : ℕ) → c < n → next_of copy c ≡ next_of m c

pub IsLive-alike : (m copy : RingMap) (c : ℕ) → IsAlike m copy → IsLive m c → IsLive copy c
IsLive-alike m copy c A live = alike_live (get m c) (get copy c) (A c) ∙ live

no_next : (m : RingMap) (c : ℕ) → is_some (spot m c) ≡ false → next_of m c ≡ None
no_next m c e = ap (of_spot (λ s. s.next)) (none_by (spot m c) e)

pub Followed-led : (m copy new : RingMap) (n t : ℕ) → IsPermutation m → next_of m n ≡ Some t → IsFollowed m copy n → IsLed copy new n t → IsFollowed m new (n + 1)
Followed-led m copy new n t P leads F L = record {
  alike = λ c. L.alike c ∙ F.alike c;
  below = λ c within. (elim (c == n) as (λ y. (c == n) ≡ y → next_of new c ≡ next_of m c) [
    | true ↦ λ e. let is = test_is c n e in ap (next_of new) is ∙ L.next ∙ sym leads ∙ ap (next_of m) (sym is)
    | false ↦ λ e. let other = eqb-false c n e in let past : c < n = omega (arith, within, other) in
        L.others c other (λ same. other (P.one c n t (sym (F.below c past) ∙ same) leads)) ∙ F.below c past
  ]) refl;
}

pub Followed-asleep : (m copy : RingMap) (n : ℕ) → is_some (spot m n) ≡ false → IsFollowed m copy n → IsFollowed m copy (n + 1)
Followed-asleep m copy n off F = record {
  alike = F.alike;
  below = λ c within. (elim (c == n) as (λ y. (c == n) ≡ y → next_of copy c ≡ next_of m c) [
    | true ↦ λ e. let is = test_is c n e in
        ap (next_of copy) is ∙ no_next copy n (alike_live (get m n) (get copy n) (F.alike n) ∙ off) ∙ sym (no_next m n off) ∙ ap (next_of m) (sym is)
    | false ↦ λ e. F.below c (omega (arith, within, eqb-false c n e))
  ]) refl;
}

alike_none : (o p : Option (Option Spot)) → but_next p ≡ but_next o → o ≡ None → p ≡ o
alike_none o None e none = sym none
alike_none None (Some None) e none = cc
alike_none None (Some (Some t)) e none = cc
alike_none (Some o) (Some p) e none = cc

pub Followed-ends : (m copy : RingMap) (n : ℕ) → ((c : ℕ) → contains_key m c ≡ true → c < n) → IsFollowed m copy n → copy ≡ m
Followed-ends m copy n bound F = same_ring copy m (λ c. elim (cases_lt c n) [
  | inl within ↦ alike_same (get m c) (get copy c) (F.alike c) (F.below c within)
  | inr past ↦ alike_none (get m c) (get copy c) (F.alike c) (past_bound m n bound c past)
])
