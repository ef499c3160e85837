-- A pool of which two successors are exchanged leads as the spliced function does.
use Rattle.std.proofs.Common.{◌≡◌, ◌≢◌, ℕ, ◌==◌, cond, Option, List, ◌++◌, inl, inr, refl, sym, ap, ◌∙◌, arith, eq-eqb, ne_eqb}
use Rattle.std.proofs.lemmas.Bool.{cases_eq}
use Rattle.raw_ring.specs.Rings.{RingMap, next_of, or_zero, IsLive, Exchanged}
use Rattle.cyclic_list.specs.Items.{count, IsIn, IsApart, head_or}
use Rattle.cyclic_list.specs.Rings.{IsRing, splice, cut_left, cut_right, joined}
use Rattle.cyclic_list.proofs.Lists.{IsIn_or_not}
use Rattle.cyclic_list.proofs.Rings.{IsPath-agree}
use Rattle.cyclic_list.proofs.Cuts.{IsRing-cut, IsRing-join, count-cut, count-joined}
use Rattle.cyclic_list.proofs.Leads.{IsRing-splice_other}
use Rattle.pool_rings.specs.Pools.{leads, IsRingOf}

-- one choice of three values, tested in either order
chosen : (c a b : ℕ) (x y z : Option ℕ) → (c ≡ a → c ≡ b → x ≡ y) → cond (c == a) (or_zero y) (cond (c == b) (or_zero x) (or_zero z)) ≡ or_zero (cond (c == b) x (cond (c == a) y z))
chosen c a b x y z same =
    elim (cases_eq c a) [
      | inl h ↦ elim (cases_eq c b) [
        | inl k ↦ rw (eq-eqb c a h, eq-eqb c b k) (ap or_zero (sym (same h k)))
        | inr k ↦ rw (eq-eqb c a h, ne_eqb c b k) refl
      ]
      | inr h ↦ elim (cases_eq c b) [
        | inl k ↦ rw (ne_eqb c a h, eq-eqb c b k) refl
        | inr k ↦ rw (ne_eqb c a h, ne_eqb c b k) refl
      ]
    ]

module _ (m n : RingMap) (a b : ℕ) (e : Exchanged m n a b) where
  led : (c : ℕ) → splice (leads m) a b c ≡ leads n c
  led c = chosen c a b (next_of m a) (next_of m b) (next_of m c) (λ h k. ap (next_of m) (sym h ∙ k)) ∙ sym (ap or_zero (e.next c))

  -- a list whose items are live, round which the spliced function leads, is a ring of the new pool
  ring_of : (xs : List ℕ) → ((c : ℕ) → IsIn c xs → IsLive m c) → IsRing (splice (leads m) a b) xs → IsRingOf n xs
  ring_of xs live ring = record {
    live = λ c i. e.live c ∙ live c i;
    ring = IsPath-agree (splice (leads m) a b) (leads n) xs (head_or 0 xs) (λ c i. led c) ring;
  }

pub cut : (m n : RingMap) (a b : ℕ) (xs : List ℕ) → Exchanged m n a b → IsApart xs → IsRingOf m xs → IsIn a xs → IsIn b xs → a ≢ b
    → IsRingOf n (cut_left a b xs) × IsRingOf n (cut_right a b xs)
cut m n a b xs e d r h k ne =
    let rings = IsRing-cut a b xs d h k ne (leads m) r.ring in (
      ring_of m n a b e (cut_left a b xs) (λ c i. r.live c (omega (arith, i, count-cut a b xs d h k ne c))) rings.0,
      ring_of m n a b e (cut_right a b xs) (λ c i. r.live c (omega (arith, i, count-cut a b xs d h k ne c))) rings.1,
    )

pub joined_rings : (m n : RingMap) (a b : ℕ) (xs ys : List ℕ) → Exchanged m n a b → IsApart (xs ++ ys) → IsRingOf m xs → IsRingOf m ys → IsIn a xs → IsIn b ys
    → IsRingOf n (joined a b xs ys)
joined_rings m n a b xs ys e d r s h k =
    ring_of m n a b e (joined a b xs ys)
    (λ c i. elim (IsIn_or_not c xs) [ inl j ↦ r.live c j | inr none ↦ s.live c (omega (arith, i, none, count-joined a b xs ys d h k c)) ])
    (IsRing-join a b xs ys d h k (leads m) r.ring s.ring)

pub others : (m n : RingMap) (a b : ℕ) (xs : List ℕ) → Exchanged m n a b → count a xs ≡ 0 → count b xs ≡ 0 → IsRingOf m xs → IsRingOf n xs
others m n a b xs e no_a no_b r = ring_of m n a b e xs r.live (IsRing-splice_other (leads m) a b xs no_a no_b r.ring)

pub same_code : (m n : RingMap) (a : ℕ) → Exchanged m n a a → (c : ℕ) → next_of n c ≡ next_of m c
same_code m n a e c = e.next c ∙ stays
  where
    stays : cond (c == a) (next_of m a) (cond (c == a) (next_of m a) (next_of m c)) ≡ next_of m c
    stays = elim (cases_eq c a) [ inl h ↦ rw (eq-eqb c a h) (ap (next_of m) (sym h)) | inr h ↦ rw (ne_eqb c a h) refl ]
