-- The holes of a section closed, one cap after the other.
use Rattle.split_laws.proofs.Prelude.{◌≡◌, ◌≢◌, ℕ, ◌≤◌, List, [], ◌∷◌, refl, sym, ap, subst, ◌∙◌, arith, inl, inr, fold, filter, Plane, origin, direction, count, tick, IsIn, IsApart, Model, solid_of, rings_of, Has, kfmrh, tick_same, six_volume, Caps, outer_caps, hole_closed, holes_closed, IsPlain, ArePlain, cap_faces, plain_alone, LiesAlong, OutersAreOwn, AllLieAlong, CanClose}
use Rattle.split_laws.proofs.volumes.Taken as taken
use Rattle.split_laws.proofs.volumes.Taken.{CanTake}
use Rattle.split_laws.proofs.Holes.{holes_each, outer_each, outer_counted, plain_each}
use Rattle.split_laws.proofs.opened.InTurn.{along_each}

-- a cap of solid s along the plane
pub record IsCap (M : Model) (p : Plane) (s f : ℕ) : Type 0 where
  pub there : Has M.faces f
  pub of_solid : solid_of M f ≡ s
  pub along : LiesAlong M p f

-- pairs of caps, the second of which becomes a ring of the first
abbrev pub AllCanBeTaken : Model → Plane → ℕ → List (ℕ × ℕ) → Type 0
AllCanBeTaken M p s [] = Unit {0}
AllCanBeTaken M p s (q ∷ qs) = IsCap M p s q.0 × IsCap M p s q.1 × (rings_of M q.1 ≡ []) × AllCanBeTaken M p s qs

-- no later pair has the second cap of one, nor takes the first one
abbrev pub ClearOf : ℕ → ℕ → List (ℕ × ℕ) → Type 0
ClearOf f g [] = Unit {0}
ClearOf f g (q ∷ qs) = (q.0 ≢ g) × (q.1 ≢ g) × (q.1 ≢ f) × ClearOf f g qs

abbrev AllClear : List (ℕ × ℕ) → Type 0
AllClear [] = Unit {0}
AllClear (q ∷ qs) = (q.0 ≢ q.1) × ClearOf q.0 q.1 qs × AllClear qs

abbrev pub all_taken : Model → List (ℕ × ℕ) → Model
all_taken M qs = fold (λ M q. kfmrh M q.0 q.1) M qs

module _ (M : Model) (p : Plane) (f g s : ℕ) (w : CanTake M p f g) where
  cap_still : (k : ℕ) → k ≢ g → IsCap M p s k → IsCap (kfmrh M f g) p s k
  cap_still k ne c = record {
    there = taken.there_still M p f g w k ne c.there;
    of_solid = taken.solid_same M p f g w k ne ∙ c.of_solid;
    along = taken.along_still M p f g w k ne c.along;
  }

  all_still : (qs : List (ℕ × ℕ)) → ClearOf f g qs → AllCanBeTaken M p s qs → AllCanBeTaken (kfmrh M f g) p s qs
  all_still [] clear can = tt
  all_still (q ∷ qs) clear can = (
    cap_still q.0 clear.0 can.0,
    cap_still q.1 clear.1 can.1,
    taken.rings_same M p f g w q.1 clear.2 clear.1 ∙ can.2,
    all_still qs clear.3 can.3,
  )

-- what holds with the pairs that are left, and with the later ones where one cap is taken, holds with none once all are
pub all_carry : (M : Model) (p : Plane) (s : ℕ) (qs : List (ℕ × ℕ)) (holds : List (ℕ × ℕ) → Model → Type 0) →
    ((A : Model) (q : ℕ × ℕ) (rs : List (ℕ × ℕ)) → CanTake A p q.0 q.1 → ClearOf q.0 q.1 rs → holds (q ∷ rs) A → holds rs (kfmrh A q.0 q.1)) →
    OutersAreOwn M → direction p ≢ origin → AllCanBeTaken M p s qs → AllClear qs → holds qs M → holds [] (all_taken M qs)
all_carry M p s [] holds step outers way can clear now = now
all_carry M p s (q ∷ qs) holds step outers way can clear now =
    let w : CanTake M p q.0 q.1 = record {
      outers = outers;
      f_there = can.0.there;
      g_there = can.1.there;
      apart = clear.0;
      one_solid = can.1.of_solid ∙ sym can.0.of_solid;
      alone = can.2;
      f_along = can.0.along;
      g_along = can.1.along;
      some_way = way;
    } in
    all_carry (kfmrh M q.0 q.1) p s qs holds step (taken.outers_still M p q.0 q.1 w) way (all_still M p q.0 q.1 s w qs clear.1 can.3) clear.2 (step M q qs w clear.1 now)

-- ---- the caps of holes

-- the outer cycle's caps take those of each hole
abbrev pub closing : Caps → List Caps → List (ℕ × ℕ)
closing o [] = []
closing o (k ∷ ks) = (o.lower, k.lower) ∷ (o.upper, k.upper) ∷ closing o ks

pub closed_by : (M : Model) (o : Caps) (hs : List Caps) → fold (hole_closed o) M hs ≡ all_taken M (closing o hs)
closed_by M o [] = refl
closed_by M o (k ∷ ks) = closed_by (kfmrh (kfmrh M o.lower k.lower) o.upper k.upper) o ks

cap_of : (M : Model) (p : Plane) (s f : ℕ) → IsPlain M s f → LiesAlong M p f → IsCap M p s f
cap_of M p s f w a = record { there = w.there; of_solid = w.of_solid; along = a }

taken_all : (M : Model) (p : Plane) (s : ℕ) (o : Caps) (hs : List Caps) → IsCap M p s o.lower → IsCap M p s o.upper → ArePlain M s hs → AllLieAlong M p hs → AllCanBeTaken M p s (closing o hs)
taken_all M p s o [] l u w a = tt
taken_all M p s o (k ∷ ks) l u w a = (
  l,
  cap_of M p s k.lower w.0 a.0,
  plain_alone M s k.lower w.0,
  (u, cap_of M p s k.upper w.1 a.1, plain_alone M s k.upper w.1, taken_all M p s o ks l u w.2 a.2),
)

-- f and g are none of the caps, and g is none of the outer ones
clear_of : (o : Caps) (f g : ℕ) (hs : List Caps) → o.lower ≢ g → o.upper ≢ g → ((x : ℕ) → IsIn x (cap_faces hs) → (x ≢ g) × (x ≢ f)) → ClearOf f g (closing o hs)
clear_of o f g [] l u e = tt
clear_of o f g (k ∷ ks) l u e =
    let a = e k.lower (omega (arith, tick_same k.lower)) in
    let b = e k.upper (omega (arith, tick_same k.upper)) in
    (l, a.0, a.1, (u, b.0, b.1, clear_of o f g ks l u (λ x i. e x (omega (arith, i)))))

-- two that stand in a list without repeats at different places differ
apart_in : (x y : ℕ) (xs : List ℕ) → count x xs ≤ 1 → (x ≡ y → 2 ≤ count x xs) → x ≢ y
apart_in x y xs a b e = absurd (omega (arith, a, b e))

all_clear : (o : Caps) (hs : List Caps) → IsApart (o.lower ∷ o.upper ∷ cap_faces hs) → AllClear (closing o hs)
all_clear o [] d = tt
all_clear o (k ∷ ks) d =
    let list : List ℕ = o.lower ∷ o.upper ∷ k.lower ∷ k.upper ∷ cap_faces ks in
    let t : (x y : ℕ) → x ≡ y → tick x y ≡ 1 = λ x y e. ap (λ z. tick x z) (sym e) ∙ tick_same x in (
      apart_in o.lower k.lower list (d o.lower) (λ e. omega (arith, t o.lower k.lower e, tick_same o.lower)),
      (
        apart_in o.upper k.lower list (d o.upper) (λ e. omega (arith, t o.upper k.lower e, tick_same o.upper)),
        (λ e. apart_in k.lower k.upper list (d k.lower) (λ q. omega (arith, t k.lower k.upper q, tick_same k.lower)) (sym e)),
        (λ e. apart_in o.lower k.upper list (d o.lower) (λ q. omega (arith, t o.lower k.upper q, tick_same o.lower)) (sym e)),
        clear_of o o.lower k.lower ks
            (apart_in o.lower k.lower list (d o.lower) (λ e. omega (arith, t o.lower k.lower e, tick_same o.lower)))
            (apart_in o.upper k.lower list (d o.upper) (λ e. omega (arith, t o.upper k.lower e, tick_same o.upper)))
            (λ x i. (
              (λ e. apart_in k.lower x list (d k.lower) (λ q. omega (arith, tick_same k.lower, ap (λ z. count z (cap_faces ks)) q, i)) (sym e)),
              (λ e. apart_in o.lower x list (d o.lower) (λ q. omega (arith, tick_same o.lower, ap (λ z. count z (cap_faces ks)) q, i)) (sym e)),
            )),
      ),
      (
        apart_in o.upper k.upper list (d o.upper) (λ e. omega (arith, t o.upper k.upper e, tick_same o.upper)),
        clear_of o o.upper k.upper ks
            (apart_in o.lower k.upper list (d o.lower) (λ e. omega (arith, t o.lower k.upper e, tick_same o.lower)))
            (apart_in o.upper k.upper list (d o.upper) (λ e. omega (arith, t o.upper k.upper e, tick_same o.upper)))
            (λ x i. (
              (λ e. apart_in k.upper x list (d k.upper) (λ q. omega (arith, tick_same k.upper, ap (λ z. count z (cap_faces ks)) q, i)) (sym e)),
              (λ e. apart_in o.upper x list (d o.upper) (λ q. omega (arith, tick_same o.upper, ap (λ z. count z (cap_faces ks)) q, i)) (sym e)),
            )),
        all_clear o ks (λ x. omega (arith, d x)),
      ),
    )

pub closing_leads : (M : Model) (s : ℕ) (p : Plane) (ks : List Caps) (holds : List (ℕ × ℕ) → Model → Type 0) →
    ((A : Model) (q : ℕ × ℕ) (rs : List (ℕ × ℕ)) → CanTake A p q.0 q.1 → ClearOf q.0 q.1 rs → holds (q ∷ rs) A → holds rs (kfmrh A q.0 q.1)) →
    CanClose M s p ks → holds (closing (outer_caps ks) (filter (λ k. k.hole) ks)) M → holds [] (holes_closed M ks)
closing_leads M s p ks holds step w now = elim w.closable [
  | inr none ↦ subst (λ hs. holds (closing (outer_caps ks) hs) M → holds [] (fold (hole_closed (outer_caps ks)) M hs)) (sym none) (λ h. h) now
  | inl some ↦
      let o : Caps = outer_caps ks in
      let hs : List Caps = filter (λ k. k.hole) ks in
      let c = outer_each (ArePlain M s) _ (plain_each M s) ks w.plain some in
      let a = outer_each (AllLieAlong M p) _ (along_each M p) ks w.along some in
      subst (holds []) (sym (closed_by M o hs))
      (all_carry M p s (closing o hs) holds step w.outers w.some_way (taken_all M p s o hs (cap_of M p s o.lower c.0 a.0) (cap_of M p s o.upper c.1 a.1)
      (holes_each (ArePlain M s) _ (plain_each M s) ks w.plain) (holes_each (AllLieAlong M p) _ (along_each M p) ks w.along))
      (all_clear o hs (λ x. omega (arith, outer_counted x ks some, w.apart x))) now)
]

pub closing_carries : (M : Model) (s : ℕ) (p : Plane) (ks : List Caps) (holds : Model → Type 0) → ((A : Model) (f g : ℕ) → CanTake A p f g → holds A → holds (kfmrh A f g)) →
    CanClose M s p ks → holds M → holds (holes_closed M ks)
closing_carries M s p ks holds step w now = closing_leads M s p ks (λ qs A. holds A) (λ A q rs c clear h. step A q.0 q.1 c h) w now

pub closing_keeps : (M : Model) (s : ℕ) (p : Plane) (ks : List Caps) (u : ℕ) → CanClose M s p ks → six_volume (holes_closed M ks) u ≡ six_volume M u
closing_keeps M s p ks u w = closing_carries M s p ks (λ A. six_volume A u ≡ six_volume M u) (λ A f g c e. taken.taken_keeps A p f g c u ∙ e) w refl
