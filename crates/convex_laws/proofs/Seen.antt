-- The normal of a face is the sum of what its half-edges sweep over, seen from any point.
use Rattle.convex_laws.proofs.Prelude.{◌≡◌, ℕ, ℤ, pos, ◌+ℤ◌, ◌-ℤ◌, ◌*ℤ◌, int_lt, true, false, List, [], ◌∷◌, ◌++◌, refl, sym, ap, ◌∙◌, arith, inl, inr, eqb_tells, Point, cross, dot, moved, origin, IsIn, Model, LoopContent, lone, cycle, content, items_of, Sound, IsIn_head, IsIn_rest, dif-parts, difs, same_dif, same_vector, tick_other, area, boundary, finish, items_in, loops_of, normal, start, towards, area-append, IsClosed, IsPathTo, begins, loop_closed, RoundLooksAlong, swept_from, none_moved, moved_twice, dot_sum, dot_turned, dot_origin}
use Rattle.convex_laws.proofs.Levels.{first_more, no_less, rest_more}

step_part : (sy sz fy fz qy qz ey ez r : ℤ) → (sy *ℤ fz -ℤ sz *ℤ fy) +ℤ (r +ℤ (qy *ℤ (ez -ℤ fz) -ℤ qz *ℤ (ey -ℤ fy)))
    ≡ (((sy -ℤ qy) *ℤ (fz -ℤ qz) -ℤ (sz -ℤ qz) *ℤ (fy -ℤ qy)) +ℤ r) +ℤ (qy *ℤ (ez -ℤ sz) -ℤ qz *ℤ (ey -ℤ sy))
step_part sy sz fy fz qy qz ey ez r = rw (dif-parts sy, dif-parts sz, dif-parts fy, dif-parts fz, dif-parts qy, dif-parts qz, dif-parts ey, dif-parts ez, dif-parts r) (simp difs (same_dif _ _ _ _ (omega arith)))

no_part : (a b x y z : ℤ) → x +ℤ (a *ℤ (y -ℤ y) -ℤ b *ℤ (z -ℤ z)) ≡ x
no_part a b x y z = rw (dif-parts a, dif-parts b, dif-parts x, dif-parts y, dif-parts z) (simp difs (same_dif _ _ _ _ (omega arith)))

none_part : (a b y z : ℤ) → pos 0 ≡ pos 0 +ℤ (a *ℤ (y -ℤ y) -ℤ b *ℤ (z -ℤ z))
none_part a b y z = sym (no_part a b (pos 0) y z)

module _ (M : Model) (q : Point) where
  abbrev pub seen : List ℕ → Point
  seen [] = origin
  seen (h ∷ hs) = moved (swept_from M q h) (seen hs)

  -- a path from b to e sweeps over its area, less q x (e - b)
  path_seen : (hs : List ℕ) (e : Point) → IsPathTo M hs e → area M hs ≡ moved (seen hs) (cross q (towards (begins M hs e) e))
  path_seen [] e leads = same_vector origin _ (none_part q.y q.z e.z e.y) (none_part q.z q.x e.x e.z) (none_part q.x q.y e.y e.x)
  path_seen (h ∷ hs) e leads =
      let s = start M h in let f = finish M h in let r = seen hs in
      ap (moved (cross s f)) (path_seen hs e leads.1 ∙ ap (λ b. moved r (cross q (towards b e))) (sym leads.0))
      ∙ same_vector _ _ (step_part s.y s.z f.y f.z q.y q.z e.y e.z r.x) (step_part s.z s.x f.z f.x q.z q.x e.z e.x r.y) (step_part s.x s.y f.x f.y q.x q.y e.x e.y r.z)

  pub closed_seen : (hs : List ℕ) → IsClosed M hs → area M hs ≡ seen hs
  closed_seen [] closed = refl
  closed_seen (h ∷ hs) closed =
      let s = start M h in let r = seen (h ∷ hs) in
      path_seen (h ∷ hs) s closed ∙ same_vector _ _ (no_part q.y q.z r.x s.z s.y) (no_part q.z q.x r.y s.x s.z) (no_part q.x q.y r.z s.y s.x)

  seen-append : (xs ys : List ℕ) → seen (xs ++ ys) ≡ moved (seen xs) (seen ys)
  seen-append [] ys = sym (none_moved (seen ys))
  seen-append (x ∷ xs) ys = let a = swept_from M q x in ap (moved a) (seen-append xs ys) ∙ sym (moved_twice a (seen xs) (seen ys))

  content_seen : (x : LoopContent) → IsClosed M (items_of x) → area M (items_of x) ≡ seen (items_of x)
  content_seen (lone v) closed = refl
  content_seen (cycle hs) closed = closed_seen hs closed

  loops_seen : Sound M → (ls : List ℕ) → area M (items_in M ls) ≡ seen (items_in M ls)
  loops_seen sound [] = refl
  loops_seen sound (l ∷ ls) =
      area-append M (items_of (content M l)) (items_in M ls)
      ∙ (λ i. moved (content_seen (content M l) (loop_closed M sound l) i) (loops_seen sound ls i))
      ∙ sym (seen-append (items_of (content M l)) (items_in M ls))

  pub face_seen : Sound M → (k : ℕ) → normal M k ≡ seen (boundary M k)
  unfolding normal boundary
  face_seen sound k = loops_seen sound (loops_of M k)

  -- ---- along a vector

  module _ (n : Point) where
    none_back : (hs : List ℕ) → ((h : ℕ) → IsIn h hs → int_lt (dot n (swept_from M q h)) (pos 0) ≡ false) → int_lt (dot n (seen hs)) (pos 0) ≡ false
    none_back [] each = ap (λ h. int_lt h (pos 0)) (dot_turned n origin ∙ dot_origin n)
    none_back (h ∷ hs) each = ap (λ x. int_lt x (pos 0)) (dot_sum n (swept_from M q h) (seen hs)) ∙ no_less (dot n (swept_from M q h)) (dot n (seen hs)) (each h (IsIn_head h hs)) (none_back hs (λ x i. each x (IsIn_rest x h hs i)))

    goes_on : (hs : List ℕ) → ((h : ℕ) → IsIn h hs → int_lt (dot n (swept_from M q h)) (pos 0) ≡ false) → (x : ℕ) → IsIn x hs → int_lt (pos 0) (dot n (swept_from M q x)) ≡ true → int_lt (pos 0) (dot n (seen hs)) ≡ true
    goes_on [] each x i on = absurd (omega (arith, i))
    goes_on (h ∷ hs) each x i on = ap (int_lt (pos 0)) (dot_sum n (swept_from M q h) (seen hs)) ∙ elim (eqb_tells x h) [
      | inl e ↦ first_more (dot n (swept_from M q h)) (dot n (seen hs)) (ap (λ y. int_lt (pos 0) (dot n (swept_from M q y))) (sym e.1) ∙ on) (none_back hs (λ y j. each y (IsIn_rest y h hs j)))
      | inr e ↦ rest_more (dot n (swept_from M q h)) (dot n (seen hs)) (each h (IsIn_head h hs)) (goes_on hs (λ y j. each y (IsIn_rest y h hs j)) x (omega (arith, i, tick_other x h e.1)) on)
    ]

pub round_looks_along : RoundLooksAlong
round_looks_along M k n q sound round = ap (λ v. int_lt (pos 0) (dot n v)) (face_seen M q sound k) ∙ goes_on M q n (boundary M k) round.none_back round.half round.stands round.goes_on
