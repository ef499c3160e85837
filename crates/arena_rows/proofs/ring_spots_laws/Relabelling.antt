-- A walk round a ring that gives each item a label.
use Rattle.arena_rows.proofs.Prelude.{◌≡◌, ◌≢◌, ℕ, ◌+◌, ◌-◌, ◌<◌, true, cond, nat_eq, List, [], ◌∷◌, Some, is_some, refl, sym, ap, subst, ◌∙◌, arith, eq-eqb, ne_eqb, eqb, inl, inr, eqb_tells, RingMap, or_zero, of_spot, spot, next_of, set_label, count, IsIn, walk_to, rotate_to, IsIn_or_not, tick_same, tick_other, count-rotate_to, IsIn_head, orbit_from, walk_to_more, Spots, codes, live, next, ring, is_in, map_spot, labelled, AreRings, PartlyLabelled, length_below}
use Rattle.arena_rows.proofs.ring_spots_laws.RingMaps.{spot-with}
use Rattle.arena_rows.proofs.ring_spots_laws.SpotLaws.{either, next-labelled, live-labelled, next_in_ring, ring_same, is_in-yes, is_in-no, part-kept, live-map}

-- the walk round a ring meets its items
pub walk_items : (sp : Spots) (R : AreRings sp) (from n : ℕ) → live sp from ≡ true → n ≡ codes → (x : ℕ) → count x (walk_to (next sp) from from n) ≡ count x (ring sp from)
walk_items sp R from n a e x =
    let o = R.rings from a in
    let w : walk_to (next sp) from from n ≡ rotate_to from (ring sp from) = orbit_from (next sp) from (ring sp from) n o.leads o.apart o.item (omega (arith, length_below codes (ring sp from) o.apart (λ x i. R.bound x (o.awake x i)))) in
    ap (count x) w ∙ count-rotate_to x from (ring sp from)

-- before the walk all items wait for the label
pub partly_start : (sp : Spots) (R : AreRings sp) (from l n : ℕ) → live sp from ≡ true → n ≡ codes → PartlyLabelled sp sp l (ring sp from) (walk_to (next sp) from from n)
partly_start sp R from l n a e =
    let o = R.rings from a in
    let same : (x : ℕ) → count x (walk_to (next sp) from from n) ≡ count x (ring sp from) = walk_items sp R from n a e in
    record {
      apart = λ x. omega (arith, same x, o.apart x);
      inside = λ x i. omega (arith, same x);
      at = λ q. elim (IsIn_or_not q (walk_to (next sp) from from n)) [
        | inl i ↦ sym (ap (λ b. cond b (sp q) (labelled sp l (ring sp from) q)) (is_in-yes q _ i))
        | inr m ↦ sym (ap (λ b. cond b (sp q) (labelled sp l (ring sp from) q)) (is_in-no q _ m) ∙ ap (λ b. cond b (map_spot (λ s. record s { label = l }) (sp q)) (sp q)) (is_in-no q (ring sp from) (sym (same q) ∙ m)))
      ];
    }

-- on the way each code keeps its successor
pub partly_next : (sp now : Spots) (l : ℕ) (hs waiting : List ℕ) → PartlyLabelled sp now l hs waiting → (q : ℕ) → next now q ≡ next sp q
partly_next sp now l hs waiting d q = ap (λ o. or_zero (of_spot (λ s. s.next) o)) (d.at q) ∙ either (λ o. or_zero (of_spot (λ s. s.next) o)) (is_in q waiting) _ _ _ refl (next-labelled sp l hs q)

-- on the way the live codes stay
pub partly_live : (sp now : Spots) (l : ℕ) (hs waiting : List ℕ) → PartlyLabelled sp now l hs waiting → (q : ℕ) → live now q ≡ live sp q
partly_live sp now l hs waiting d q = ap is_some (d.at q) ∙ either is_some (is_in q waiting) _ _ _ refl (live-labelled sp l hs q)

-- the first of those that wait gets the label, and the others wait
pub partly_step : (sp now new : Spots) (l h : ℕ) (hs rest : List ℕ) → PartlyLabelled sp now l hs (h ∷ rest) → ((q : ℕ) → new q ≡ cond (nat_eq q h) (map_spot (λ s. record s { label = l }) (now q)) (now q)) → PartlyLabelled sp new l hs rest
partly_step sp now new l h hs rest d is = record {
  apart = λ x. omega (arith, d.apart x);
  inside = λ x i. d.inside x (omega arith);
  at = λ q. is q ∙ elim (eqb_tells q h) [
    | inl p ↦
        let i : IsIn q (h ∷ rest) = subst (λ z. IsIn z (h ∷ rest)) (sym p.1) (IsIn_head h rest) in
        let out : count q rest ≡ 0 = subst (λ z. count z rest ≡ 0) (sym p.1) (omega (arith, d.apart h, tick_same h)) in
        ap (λ b. cond b (map_spot (λ s. record s { label = l }) (now q)) (now q)) p.0
        ∙ ap (map_spot (λ s. record s { label = l })) (d.at q ∙ ap (λ b. cond b (sp q) (labelled sp l hs q)) (is_in-yes q (h ∷ rest) i))
        ∙ sym (ap (λ b. cond b (sp q) (labelled sp l hs q)) (is_in-no q rest out) ∙ ap (λ b. cond b (map_spot (λ s. record s { label = l }) (sp q)) (sp q)) (is_in-yes q hs (d.inside q i)))
    | inr p ↦
        let c : count q (h ∷ rest) ≡ count q rest = omega (arith, tick_other q h p.1) in
        ap (λ b. cond b (map_spot (λ s. record s { label = l }) (now q)) (now q)) p.0 ∙ d.at q ∙ elim (IsIn_or_not q rest) [
          | inl i ↦ ap (λ b. cond b (sp q) (labelled sp l hs q)) (is_in-yes q (h ∷ rest) (omega arith) ∙ sym (is_in-yes q rest i))
          | inr m ↦ ap (λ b. cond b (sp q) (labelled sp l hs q)) (is_in-no q (h ∷ rest) (c ∙ m) ∙ sym (is_in-no q rest m))
        ]
  ];
}

-- where none waits all have the label
pub partly_end : (sp now : Spots) (l : ℕ) (hs : List ℕ) → PartlyLabelled sp now l hs [] → now ≡ labelled sp l hs
partly_end sp now l hs d = λ i q. (d.at q ∙ ap (λ b. cond b (sp q) (labelled sp l hs q)) (is_in-no q [] refl)) i

-- one step of the walk: what is left after h
pub partly_walk : (sp now : Spots) (l from h n k : ℕ) (hs : List ℕ) → n ≡ k + 1 → PartlyLabelled sp now l hs (walk_to (next sp) from h n) → PartlyLabelled sp now l hs (h ∷ cond (eqb (next sp h) from) [] (walk_to (next sp) from (next sp h) k))
partly_walk sp now l from h n k hs e d = subst (PartlyLabelled sp now l hs) (walk_to_more (next sp) from h n k e) d

-- round the ring once
pub partly_last : (sp now new : Spots) (l from h x n : ℕ) (hs : List ℕ) → 0 < n → PartlyLabelled sp now l hs (walk_to (next sp) from h n) → ((q : ℕ) → new q ≡ cond (nat_eq q h) (map_spot (λ s. record s { label = l }) (now q)) (now q)) → next sp h ≡ x → x ≡ from → new ≡ labelled sp l hs
partly_last sp now new l from h x n hs some d is to back =
    partly_end sp new l hs (subst (PartlyLabelled sp new l hs) (ap (λ b. cond b [] (walk_to (next sp) from (next sp h) (n - 1))) (eq-eqb (next sp h) from (to ∙ back))) (partly_step sp now new l h hs _ (partly_walk sp now l from h n (n - 1) hs (omega arith) d) is))

-- one step of the walk that does not end it: the item at which it stands gets the label
pub partly_more : (sp now new : Spots) (l from h x n k : ℕ) (hs : List ℕ) → n ≡ k + 1 → PartlyLabelled sp now l hs (walk_to (next sp) from h n) → ((q : ℕ) → new q ≡ cond (nat_eq q h) (map_spot (λ s. record s { label = l }) (now q)) (now q)) → next sp h ≡ x → x ≢ from → PartlyLabelled sp new l hs (walk_to (next sp) from x k)
partly_more sp now new l from h x n k hs e d is to on =
    subst (λ z. PartlyLabelled sp new l hs (walk_to (next sp) from z k)) to
    (subst (PartlyLabelled sp new l hs) (ap (λ b. cond b [] (walk_to (next sp) from (next sp h) k)) (ne_eqb (next sp h) from (λ q. on (sym to ∙ q)))) (partly_step sp now new l h hs _ (partly_walk sp now l from h n k hs e d) is))

-- where the walk has none to go all have the label
pub partly_over : (sp now : Spots) (l from h n : ℕ) (hs : List ℕ) → n ≡ 0 → PartlyLabelled sp now l hs (walk_to (next sp) from h n) → now ≡ labelled sp l hs
partly_over sp now l from h n hs e d = partly_end sp now l hs (subst (λ k. PartlyLabelled sp now l hs (walk_to (next sp) from h k)) e d)

-- an item's successor stands in the ring
pub step_in : (sp : Spots) (R : AreRings sp) (from h : ℕ) → live sp from ≡ true → IsIn h (ring sp from) → IsIn (next sp h) (ring sp from)
step_in sp R from h a i = let b = (R.rings from a).awake h i in subst (IsIn (next sp h)) (ring_same sp R from h a i) (next_in_ring sp R h b)

-- what one `set_label` does
pub known_step : (m new : RingMap) (h l : ℕ) → new ≡ set_label m h l → (q : ℕ) → spot new q ≡ cond (nat_eq q h) (map_spot (λ s. record s { label = l }) (spot m q)) (spot m q)
known_step m new h l e q = ap (λ (k : RingMap). spot k q) e ∙ spot-with m h (λ s. record s { label = l }) q

-- no code wakes or goes to sleep by it
pub label_step : (m new : RingMap) (h l q : ℕ) → new ≡ set_label m h l → live (spot new) q ≡ live (spot m) q
label_step m new h l q e = ap is_some (known_step m new h l e q) ∙ either is_some (nat_eq q h) _ _ _ (live-map _ (spot m q)) refl

-- the code keeps its successor
pub next_step : (m new : RingMap) (h l : ℕ) → new ≡ set_label m h l → {n : ℕ} → next (spot m) h ≡ n → (x : ℕ) → next_of new h ≡ Some x → n ≡ x
next_step m new h l e {n = n} was x is = sym (sym (ap or_zero is) ∙ ap (λ o. or_zero (of_spot (λ s. s.next) o)) (known_step m new h l e h)
    ∙ either (λ o. or_zero (of_spot (λ s. s.next) o)) (nat_eq h h) _ _ _ (part-kept _ _ (λ s. refl) (spot m h)) refl ∙ was)
