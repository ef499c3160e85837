-- What the map of the rings says of each code once it is changed.
use Rattle.arena_rows.proofs.Prelude.{◌≡◌, ◌≢◌, ℕ, Bool, true, false, cond, nat_eq, Option, Some, None, is_some, Result, Ok, Err, OnOk, OnErr, refl, sym, ap, ◌∙◌, true≢false, eq-eqb, ne_eqb, inl, inr, eqb-true, nat_cmp, eqb_tells, insert, contains_key, Spot, RingMap, spot, awake, or_zero, of_spot, next_of, put_spot, with_spot, with_next, with_room, next, asleep, map_spot, spliced, set_tail}
use Rattle.std.specs.FinMap.{get}
use Rattle.std.specs.FinMap as map
use Rattle.raw_ring.specs.Rings as rings
use Rattle.raw_ring.proofs.Mapping.{get-put}

-- what stands at a code is read through a test of which code it is
awake-cond : (b : Bool) (v : Option Spot) (o : Option (Option Spot)) → awake (cond b (Some v) o) ≡ cond b v (awake o)
awake-cond true v o = refl
awake-cond false v o = refl

-- whether a code is known is read through such a test
known-cond : (b : Bool) (v : Option Spot) (o : Option (Option Spot)) → is_some (cond b (Some v) o) ≡ cond b true (is_some o)
known-cond true v o = refl
known-cond false v o = refl

-- where one code is written it has what was written, and each other one what it had
pub spot-insert : (m : RingMap) (c : ℕ) (v : Option Spot) (q : ℕ) → spot (insert m c v) q ≡ cond (nat_eq q c) v (spot m q)
spot-insert m c v q = ap awake (get-put m c v q) ∙ awake-cond (nat_eq q c) v (get m q)

-- the code that is written is known, and so is each that was
pub known-insert : (m : RingMap) (c : ℕ) (v : Option Spot) (q : ℕ) → contains_key (insert m c v) q ≡ cond (nat_eq q c) true (contains_key m q)
known-insert m c v q = ap is_some (get-put m c v q) ∙ known-cond (nat_eq q c) v (get m q)

-- where a known code is written each code is known that was
pub known_kept : (m : RingMap) (c : ℕ) (v : Option Spot) → contains_key m c ≡ true → (q : ℕ) → contains_key (insert m c v) q ≡ contains_key m q
known_kept m c v k q = known-insert m c v q ∙ elim (eqb_tells q c) [
  | inl p ↦ ap (λ b. cond b true (contains_key m q)) p.0 ∙ sym k ∙ ap (contains_key m) (sym p.1)
  | inr p ↦ ap (λ b. cond b true (contains_key m q)) p.0
]

-- a live code is known
pub live_known : (m : RingMap) (c : ℕ) → is_some (spot m c) ≡ true → contains_key m c ≡ true
live_known m c e = awake_known (get m c) e where
  awake_known : (o : Option (Option Spot)) → is_some (awake o) ≡ true → is_some o ≡ true
  awake_known None e = e
  awake_known (Some o) e = refl

module _ (m : RingMap) (c : ℕ) (f : Spot → Spot) where
  -- f of what stands at a live code
  pub spot-with : (q : ℕ) → spot (with_spot m c f) q ≡ cond (nat_eq q c) (map_spot f (spot m q)) (spot m q)
  spot-with q = spot-put_spot (spot m c) refl where
    spot-put_spot : (o : Option Spot) → spot m c ≡ o → spot (put_spot m c f o) q ≡ cond (nat_eq q c) (map_spot f (spot m q)) (spot m q)
    spot-put_spot None e = elim (eqb_tells q c) [
      | inl p ↦ ap (spot m) p.1 ∙ e ∙ sym (ap (λ b. cond b (map_spot f (spot m q)) (spot m q)) p.0 ∙ ap (map_spot f) (ap (spot m) p.1 ∙ e))
      | inr p ↦ sym (ap (λ b. cond b (map_spot f (spot m q)) (spot m q)) p.0)
    ]
    spot-put_spot (Some s) e = spot-insert m c (Some (f s)) q ∙ elim (eqb_tells q c) [
      | inl p ↦ ap (λ b. cond b (Some (f s)) (spot m q)) p.0 ∙ sym (ap (λ b. cond b (map_spot f (spot m q)) (spot m q)) p.0 ∙ ap (map_spot f) (ap (spot m) p.1 ∙ e))
      | inr p ↦ ap (λ b. cond b (Some (f s)) (spot m q)) p.0 ∙ sym (ap (λ b. cond b (map_spot f (spot m q)) (spot m q)) p.0)
    ]

  -- each code is known that was
  pub known-with : (q : ℕ) → contains_key (with_spot m c f) q ≡ contains_key m q
  known-with q = known-put_spot (spot m c) refl where
    known-put_spot : (o : Option Spot) → spot m c ≡ o → contains_key (put_spot m c f o) q ≡ contains_key m q
    known-put_spot None e = refl
    known-put_spot (Some s) e = known_kept m c (Some (f s)) (live_known m c (ap is_some e)) q

-- a code that is led where it led stays as it is
same_next : (o : Option Spot) → map_spot (λ s. record s { next = or_zero (of_spot (λ s. s.next) o) }) o ≡ o
same_next None = refl
same_next (Some s) = refl

-- of two successors that are written in turn the last one stands
twice : (n k : ℕ) (o : Option Spot) → map_spot (λ s. record s { next = n }) (map_spot (λ s. record s { next = k }) o) ≡ map_spot (λ s. record s { next = n }) o
twice n k None = refl
twice n k (Some s) = refl

-- two codes led elsewhere, one after the other
both_led : (da db : Bool) (x y : ℕ) (o : Option Spot) → (da ≡ true → db ≡ true → x ≡ y) → cond db (map_spot (λ s. record s { next = x }) (cond da (map_spot (λ s. record s { next = y }) o) o)) (cond da (map_spot (λ s. record s { next = y }) o) o)
    ≡ map_spot (λ s. record s { next = cond da y (cond db x (or_zero (of_spot (λ s. s.next) o))) }) o
both_led true true x y o e = twice x y o ∙ ap (λ n. map_spot (λ s. record s { next = n }) o) (e refl refl)
both_led true false x y o e = refl
both_led false true x y o e = refl
both_led false false x y o e = sym (same_next o)

-- a splice
pub spot-spliced : (m : RingMap) (a b : ℕ) → spot (rings.spliced m a b) ≡ spliced (spot m) a b
spot-spliced m a b = λ i q. (
    spot-with (with_next m a (or_zero (next_of m b))) b (λ s. record s { next = or_zero (next_of m a) }) q
    ∙ ap (λ o. cond (nat_eq q b) (map_spot (λ s. record s { next = or_zero (next_of m a) }) o) o) (spot-with m a (λ s. record s { next = or_zero (next_of m b) }) q)
    ∙ both_led (nat_eq q a) (nat_eq q b) (or_zero (next_of m a)) (or_zero (next_of m b)) (spot m q) (λ s t. ap (λ z. or_zero (next_of m z)) (sym (eqb-true q a s) ∙ eqb-true q b t))) i

-- each code is known that was
pub known-spliced : (m : RingMap) (a b : ℕ) → contains_key (rings.spliced m a b) ≡ contains_key m
known-spliced m a b = λ i q. (known-with (with_next m a (or_zero (next_of m b))) b (λ s. record s { next = or_zero (next_of m a) }) q ∙ known-with m a (λ s. record s { next = or_zero (next_of m b) }) q) i

-- a tail that is set
pub spot-tail : (m : RingMap) (c t : ℕ) → spot (rings.set_tail m c t) ≡ set_tail (spot m) c t
spot-tail m c t = λ i q. spot-with m c (λ s. record s { tail = t }) q i

-- each code is known that was
pub known-tail : (m : RingMap) (c t : ℕ) → contains_key (rings.set_tail m c t) ≡ contains_key m
known-tail m c t = λ i q. known-with m c (λ s. record s { tail = t }) q i

-- a code that goes to sleep
pub spot-asleep : (m : RingMap) (c : ℕ) → spot (insert m c None) ≡ asleep (spot m) c
spot-asleep m c = λ i q. spot-insert m c None q i

-- where a known code is written the known codes stay
pub known-same : (m : RingMap) (c : ℕ) (v : Option Spot) → contains_key m c ≡ true → contains_key (insert m c v) ≡ contains_key m
known-same m c v k = λ i q. known_kept m c v k q i

abbrev pub no_codes : RingMap
no_codes = map.empty

-- in the empty map nothing stands at a code
pub spot-empty : (q : ℕ) → spot no_codes q ≡ None
spot-empty q = ap awake (map.get-empty nat_cmp q)

-- in the empty map no code is known
pub known-empty : (q : ℕ) → contains_key no_codes q ≡ false
known-empty q = ap is_some (map.get-empty nat_cmp q)

-- a code made known
pub spot-room : (m : RingMap) (c : ℕ) → spot (with_room m c) ≡ spot m
spot-room m c = λ i q. spot_stays (contains_key m c) refl q i where
  dead : contains_key m c ≡ false → spot m c ≡ None
  dead k = unknown_dead (get m c) k where
    unknown_dead : (o : Option (Option Spot)) → is_some o ≡ false → awake o ≡ None
    unknown_dead None e = refl
    unknown_dead (Some o) e = absurd (true≢false e)

  spot_stays : (b : Bool) → contains_key m c ≡ b → (q : ℕ) → spot (cond b m (insert m c None)) q ≡ spot m q
  spot_stays true e q = refl
  spot_stays false e q = spot-insert m c None q ∙ elim (eqb_tells q c) [
    | inl p ↦ ap (λ b. cond b None (spot m q)) p.0 ∙ sym (ap (spot m) p.1 ∙ dead e)
    | inr p ↦ ap (λ b. cond b None (spot m q)) p.0
  ]

pub known-room : (m : RingMap) (c q : ℕ) → contains_key m q ≡ true → contains_key (with_room m c) q ≡ true
known-room m c q k = known_stays (contains_key m c) where
  true_anyway : (b : Bool) → cond b true true ≡ true
  true_anyway true = refl
  true_anyway false = refl

  known_stays : (b : Bool) → contains_key (cond b m (insert m c None)) q ≡ true
  known_stays true = k
  known_stays false = known-insert m c None q ∙ ap (cond (nat_eq q c) true) k ∙ true_anyway (nat_eq q c)

pub known-room_other : (m : RingMap) (c q : ℕ) → q ≢ c → contains_key (with_room m c) q ≡ contains_key m q
known-room_other m c q ne = others_known (contains_key m c) where
  others_known : (b : Bool) → contains_key (cond b m (insert m c None)) q ≡ contains_key m q
  others_known true = refl
  others_known false = known-insert m c None q ∙ ap (λ b. cond b true (contains_key m q)) (ne_eqb q c ne)

pub known_now : (m : RingMap) (c : ℕ) → contains_key (with_room m c) c ≡ true
known_now m c = code_known (contains_key m c) refl where
  code_known : (b : Bool) → contains_key m c ≡ b → contains_key (cond b m (insert m c None)) c ≡ true
  code_known true e = e
  code_known false e = known-insert m c None c ∙ ap (λ b. cond b true (contains_key m c)) (eq-eqb c c refl)

-- after a call of `room`, whatever it answers
pub room_spots : {E : Type 0} (m new : RingMap) (c : ℕ) (r : Result (Unit {0}) E) → OnOk r (new ≡ with_room m c) → OnErr r (new ≡ m) → spot new ≡ spot m
room_spots m new c (Ok u) ok err = ap (λ (k : RingMap). spot k) ok ∙ spot-room m c
room_spots m new c (Err e) ok err = ap (λ (k : RingMap). spot k) err

pub room_kept : {E : Type 0} (m new : RingMap) (c : ℕ) (r : Result (Unit {0}) E) → OnOk r (new ≡ with_room m c) → OnErr r (new ≡ m) → (q : ℕ) → contains_key m q ≡ true → contains_key new q ≡ true
room_kept m new c (Ok u) ok err q k = ap (λ (n : RingMap). contains_key n q) ok ∙ known-room m c q k
room_kept m new c (Err e) ok err q k = ap (λ (n : RingMap). contains_key n q) err ∙ k

pub room_only : {E : Type 0} (m new : RingMap) (c : ℕ) (r : Result (Unit {0}) E) → OnOk r (new ≡ with_room m c) → OnErr r (new ≡ m) → (q : ℕ) → q ≢ c → contains_key new q ≡ contains_key m q
room_only m new c (Ok u) ok err q ne = ap (λ (n : RingMap). contains_key n q) ok ∙ known-room_other m c q ne
room_only m new c (Err e) ok err q ne = ap (λ (n : RingMap). contains_key n q) err

pub room_ok : {E : Type 0} (m new : RingMap) (c : ℕ) (r : Result (Unit {0}) E) → OnOk r (new ≡ with_room m c) → OnOk r (contains_key new c ≡ true)
room_ok m new c (Ok u) ok = ap (λ (n : RingMap). contains_key n c) ok ∙ known_now m c
room_ok m new c (Err e) ok = tt

-- a live code's successor
pub next_some : (m : RingMap) (c : ℕ) → is_some (spot m c) ≡ true → next_of m c ≡ Some (next (spot m) c)
next_some m c a = next_told (spot m c) a where
  next_told : (o : Option Spot) → is_some o ≡ true → of_spot (λ s. s.next) o ≡ Some (or_zero (of_spot (λ s. s.next) o))
  next_told None e = absurd (true≢false (sym e))
  next_told (Some s) e = refl
