-- The test for equal points, and points that are met twice.
use Rattle.gluing.proofs.Prelude.{◌≡◌, ℕ, zero, suc, ◌+◌, ◌<◌, is_some, ℤ, Bool, true, false, ◌&&◌, ◌||◌, List, [], ◌∷◌, ◌++◌, length, refl, sym, ap, ◌∙◌, arith, true≢false, get_or, reverse, int_eq, list_any, or_parts, reverse-append, Point, same_point, same_as, or_false, or_true, has_repeats, place_from}

numbers_turned : (m n : ℤ) → int_eq m n ≡ int_eq n m
numbers_turned m n = grind arith

pub same_turned : (p q : Point) → same_point p q ≡ same_point q p
same_turned p q = λ i. numbers_turned p.x q.x i && numbers_turned p.y q.y i && numbers_turned p.z q.z i

-- a point has a place in a list where it is one of it
pub some_place : (n : ℕ) (p : Point) (ps : List Point) → is_some (place_from n p ps) ≡ list_any (same_point p) ps
some_place n p [] = refl
some_place n p (q ∷ qs) = grind (arith, same_turned q p, some_place (n + 1) p qs)

-- one point more is met
any_more : (p : Point) (old new : Point → Bool) → ((q : Point) → new q ≡ same_point p q || old q) → (ps : List Point) → list_any new ps ≡ list_any (same_point p) ps || list_any old ps
any_more p old new e [] = refl
any_more p old new e (q ∷ qs) = grind (arith, e q, any_more p old new e qs)

-- the first of some points isn't among those met before
pub new_point : (p : Point) (ps : List Point) (old new : Point → Bool) → old p ≡ false → ((q : Point) → new q ≡ same_point p q || old q) → list_any new ps || has_repeats ps ≡ list_any old (p ∷ ps) || has_repeats (p ∷ ps)
new_point p ps old new absent e = grind (arith, absent, any_more p old new e ps)

-- or it is
pub old_point : (p : Point) (ps : List Point) (old : Point → Bool) → old p ≡ true → true ≡ list_any old (p ∷ ps) || has_repeats (p ∷ ps)
old_point p ps old met = sym (ap (λ b. (b || list_any old ps) || has_repeats (p ∷ ps)) met)

-- a list read backwards has the same repeats
any_push : (p : Point) (ps : List Point) (q : Point) → list_any (same_point p) (ps ++ q ∷ []) ≡ list_any (same_point p) ps || same_point p q
any_push p [] q = or_false (same_point p q)
any_push p (r ∷ rs) q = grind (arith, any_push p rs q)

repeats_push : (ps : List Point) (q : Point) → has_repeats (ps ++ q ∷ []) ≡ list_any (same_point q) ps || has_repeats ps
repeats_push [] q = refl
repeats_push (p ∷ ps) q = grind (arith, any_push p ps q, same_turned p q, repeats_push ps q)

any_turned : (p : Point) (ps : List Point) → list_any (same_point p) (reverse ps) ≡ list_any (same_point p) ps
any_turned p [] = refl
any_turned p (q ∷ qs) = ap (list_any (same_point p)) (reverse-append (q ∷ []) qs) ∙ grind (arith, any_push p (reverse qs) q, any_turned p qs)

pub repeats_turned : (ps : List Point) → has_repeats (reverse ps) ≡ has_repeats ps
repeats_turned [] = refl
repeats_turned (p ∷ ps) = ap has_repeats (reverse-append (p ∷ []) ps) ∙ repeats_push (reverse ps) p ∙ (λ i. any_turned p ps i || repeats_turned ps i)

any_at : (p : Point) (ps : List Point) (i : ℕ) (d : Point) → i < length ps → p ≡ get_or ps i d → list_any (same_point p) ps ≡ true
any_at p [] i d l e = absurd (omega arith)
any_at p (q ∷ qs) zero d l e = ap (λ b. b || list_any (same_point p) qs) (ap (same_point p) (sym e) ∙ same_as p p refl)
any_at p (q ∷ qs) (suc i) d l e = ap (λ b. same_point p q || b) (any_at p qs i d (omega (arith, l)) e) ∙ or_true (same_point p q)

-- without repeats each point stands in one place
pub one_place : (ps : List Point) → has_repeats ps ≡ false → (i j : ℕ) (d : Point) → i < length ps → j < length ps → get_or ps i d ≡ get_or ps j d → i ≡ j
one_place [] apart i j d li lj e = absurd (omega arith)
one_place (p ∷ ps) apart zero zero d li lj e = refl
one_place (p ∷ ps) apart zero (suc j) d li lj e = absurd (true≢false (sym (any_at p ps j d (omega (arith, lj)) e) ∙ (or_parts (list_any (same_point p) ps) (has_repeats ps) apart).0))
one_place (p ∷ ps) apart (suc i) zero d li lj e = absurd (true≢false (sym (any_at p ps i d (omega (arith, li)) (sym e)) ∙ (or_parts (list_any (same_point p) ps) (has_repeats ps) apart).0))
one_place (p ∷ ps) apart (suc i) (suc j) d li lj e = ap suc (one_place ps (or_parts (list_any (same_point p) ps) (has_repeats ps) apart).1 i j d (omega (arith, li)) (omega (arith, lj)) e)
