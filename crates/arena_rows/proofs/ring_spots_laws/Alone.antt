-- A code that is alone in its ring, and one that is cut from a ring.
use Rattle.arena_rows.proofs.Prelude.{◌≡◌, ◌≢◌, ℕ, Bool, true, cond, nat_eq, [], ◌∷◌, sym, ap, subst, ◌∙◌, arith, refl, eq-eqb, ne_eqb, inl, inr, eqb_tells, RingMap, spot, set_label, IsIn, tick_le, tick_other, IsIn_head, canonical_one, IsIn_one, Labels, Spots, live, next, ring, map_spot, labelled, spliced, AreRings, AreLabelled}
use Rattle.arena_rows.proofs.ring_spots_laws.SpotLaws.{ring_is, next_in_ring, is_in-yes, is_in-no, live-spliced, next-spliced, AreRings-cut}
use Rattle.arena_rows.proofs.ring_spots_laws.Relabelling.{known_step}
use Rattle.arena_rows.proofs.ring_spots_laws.LabelLaws.{IsCut, is_cut}

-- the ring of a code that leads to itself
pub ring_alone : (sp : Spots) → AreRings sp → (c : ℕ) → live sp c ≡ true → next sp c ≡ c → ring sp c ≡ c ∷ []
ring_alone sp R c h e = ring_is sp c (c ∷ []) (e, tt) (λ y. omega (arith, tick_le y c)) (IsIn_head c []) (λ x i. R.bound x (ap (live sp) (IsIn_one c x i) ∙ h)) ∙ canonical_one c

-- the code after a leads to itself once it is cut off
next_cut : (sp : Spots) (a b : ℕ) → live sp b ≡ true → next sp a ≡ b → a ≢ b → next (spliced sp a b) b ≡ b
next_cut sp a b h e ne = next-spliced sp a b b h
    ∙ ap (λ t. cond t (next sp b) (cond (nat_eq b b) (next sp a) (next sp b))) (ne_eqb b a (λ q. ne (sym q)))
    ∙ ap (λ t. cond t (next sp a) (next sp b)) (eq-eqb b b refl) ∙ e

-- one code gets a label
pub labelled_one : (m new : RingMap) (c l : ℕ) → ring (spot m) c ≡ c ∷ [] → new ≡ set_label m c l → spot new ≡ labelled (spot m) l (ring (spot m) c)
labelled_one m new c l alone is = λ i q. (known_step m new c l is q ∙ labelled_at q ∙ ap (λ hs. labelled (spot m) l hs q) (sym alone)) i where
  labelled_at : (q : ℕ) → cond (nat_eq q c) (map_spot (λ s. record s { label = l }) (spot m q)) (spot m q) ≡ labelled (spot m) l (c ∷ []) q
  labelled_at q = elim (eqb_tells q c) [
    | inl p ↦ ap (λ b. cond b (map_spot (λ s. record s { label = l }) (spot m q)) (spot m q)) (p.0 ∙ sym (is_in-yes q (c ∷ []) (subst (λ z. IsIn z (c ∷ [])) (sym p.1) (IsIn_head c []))))
    | inr p ↦ ap (λ b. cond b (map_spot (λ s. record s { label = l }) (spot m q)) (spot m q)) (p.0 ∙ sym (is_in-no q (c ∷ []) (omega (arith, tick_other q c p.1))))
  ]

-- what is so once b, which followed a, is cut off
pub record CutOff (sp : Spots) (a b : ℕ) : Type 0 where
  pub b_there : live sp b ≡ true
  pub together : IsIn b (ring sp a)
  pub alone : ring (spliced sp a b) b ≡ b ∷ []

-- where b follows a and is another code, all of that is so
pub cut_off : (sp : Spots) → AreRings sp → (a b : ℕ) → live sp a ≡ true → next sp a ≡ b → a ≢ b → CutOff sp a b
cut_off sp R a b h e ne =
    let together : IsIn b (ring sp a) = subst (λ z. IsIn z (ring sp a)) e (next_in_ring sp R a h) in
    let k : live sp b ≡ true = (R.rings a h).awake b together in
    record { b_there = k; together = together; alone = ring_alone (spliced sp a b) (AreRings-cut sp R a b h k together ne) b (live-spliced sp a b b ∙ k) (next_cut sp a b k e ne) }

-- the same, told of the labels
pub record IsCutAlone (sp : Spots) (known : ℕ → Bool) (t : Labels) (a b : ℕ) : Type 0 where
  pub cut : IsCut sp known t a b
  pub alone : ring sp b ≡ b ∷ []

pub is_cut_alone : (sp : Spots) (known : ℕ → Bool) (t : Labels) (A : AreLabelled sp known t) (a b : ℕ) → live sp a ≡ true → next sp a ≡ b → a ≢ b → (new : Spots) (known' : ℕ → Bool) → new ≡ spliced sp a b → known' ≡ known → IsCutAlone new known' t a b
is_cut_alone sp known t A a b h e ne new known' is same =
    let off = cut_off sp A.rings a b h e ne in
    record { cut = is_cut sp known t A a b h off.together ne new known' is same; alone = ap (λ (s : Spots). ring s b) is ∙ off.alone }
