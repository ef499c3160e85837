-- The walk round a vertex from h both ways, which leaves a stretch between its two ends unseen.
use Rattle.solid_walks.proofs.Prelude.{◌≡◌, ◌≢◌, ℕ, ◌+◌, ◌/◌, ◌≤◌, ◌<◌, true, false, List, [], ◌∷◌, ◌++◌, length, refl, sym, ap, subst, ◌∙◌, arith, ◌⊎◌, inl, inr, length-append, eqb_tells, count, tick, IsIn, IsApart, last_or, rest, successor, predecessor, IsPath, mate, edge_of, Model, items_of, content, cycle_of, loop_of, tail, before, round, Sound, HasHalf, count-append, tick_same, tick_other, rotation_at, count_at, IsRing-same, front_of, IsPath-left, IsPath_at, IsIn_predecessor, predecessor-successor, mate-mate, in-holds, cycle_there, cycle_sound, mate_there, length_below, Fan, fan_of, loop_after, steps, half_below, leads, leads_true, leads_false}
use Rattle.euler_operators.specs.Common.{after}

pub before_there : (M : Model) → Sound M → (x : ℕ) → HasHalf M x → HasHalf M (before M x)
unfolding before
before_there M sound x t = sound.only_edges (predecessor (cycle_of M x) x) (loop_of M x) (in-holds _ (content M (loop_of M x)) (IsIn_predecessor x (cycle_of M x) (cycle_there M sound x t)))

pub before_after : (M : Model) → Sound M → (x : ℕ) → HasHalf M x → before M (after M x) ≡ x
unfolding before after
before_after M sound x t = ap (λ l. predecessor (items_of (content M l)) (successor (cycle_of M x) x)) (loop_after M sound x t) ∙ predecessor-successor x (cycle_of M x) (cycle_sound M sound x t).apart (cycle_there M sound x t)

-- x stands at the vertex of h
abbrev pub IsAt : Model → ℕ → ℕ → Type 0
IsAt M h x = HasHalf M x × (tail M x ≡ tail M h)

-- the walk has come to a on one side and to b on the other. The half-edges between are unseen, at most n
pub record Unseen (M : Model) (h a b n : ℕ) : Type 0 where
  pub between : List ℕ
  pub path : IsPath (round M) (a ∷ between) b
  pub apart : IsApart between
  pub not_ahead : count a between ≡ 0
  pub not_behind : count b between ≡ 0
  pub at_vertex : (x : ℕ) → IsIn x between → IsAt M h x
  pub ahead : IsAt M h a
  pub behind : IsAt M h b
  pub seen : (x : ℕ) → HasHalf M x → tail M x ≡ tail M h → (edge_of h ≤ edge_of x) ⊎ IsIn x between
  pub short : length between ≤ n

-- the walk has come to a on one side, and looks at b on the other
pub record Facing (M : Model) (h a b n : ℕ) : Type 0 where
  pub last : ℕ
  pub walk : Unseen M h a last n
  pub comes : b ≡ mate (before M last)

-- edges compared by the halves of codes
pub less : (x h : ℕ) → x / 2 < h / 2 → edge_of x < edge_of h
unfolding edge_of
less x h l = l

pub not_less : (x h : ℕ) → h / 2 ≤ x / 2 → edge_of h ≤ edge_of x
unfolding edge_of
not_less x h l = l

no_first : (x y : ℕ) (xs : List ℕ) → y ≡ x → count x (y ∷ xs) ≡ 0 → ⊥
no_first x y xs e n = absurd (omega (arith, n, ap (tick x) e, tick_same x))

module _ (M : Model) (sound : Sound M) (h : ℕ) (there : HasHalf M h) where
  pub unseen_start : Unseen M h h h steps
  unseen_start =
      let fan : Fan (after M) M (tail M h) = fan_of M sound h there in
      let xs : List ℕ = fan.items in
      let i : IsIn h xs = fan.all h there refl in
      let ys : List ℕ = rest h xs in
      let same : (x : ℕ) → tick x h + count x ys ≡ count x xs = λ x. count_at x h xs i in
      let d : IsApart ys = λ x. omega (arith, same x, fan.apart x) in
      let once : count h ys ≡ 0 = omega (arith, same h, fan.apart h, tick_same h) in
      let of_it : (x : ℕ) → IsIn x ys → IsAt M h x = λ x j. fan.of_it x (omega (arith, same x, j)) in
      record {
        between = ys;
        path = IsRing-same (round M) xs (h ∷ ys) (rotation_at h xs i) fan.ring;
        apart = d;
        not_ahead = once;
        not_behind = once;
        at_vertex = of_it;
        ahead = (there, refl);
        behind = (there, refl);
        seen = λ x t e. elim (eqb_tells x h) [ inl s ↦ inl (omega (arith, ap edge_of s.1)) | inr n ↦ inr (omega (arith, same x, fan.all x t e, tick_other x h n.1)) ];
        short = length_below steps ys d (λ x j. half_below M sound x (of_it x j).0);
      }

  -- nothing is unseen
  none_unseen : (a b n : ℕ) (w : Unseen M h a b n) → w.between ≡ [] → leads M h ≡ true
  none_unseen a b n w z = leads_true M h there (λ x t e. elim (w.seen x t e) [ inl l ↦ l | inr i ↦ absurd (omega (arith, i, ap (count x) z)) ])

  pub unseen_ended : (a b n : ℕ) → Unseen M h a b n → n ≡ 0 → leads M h ≡ true
  unseen_ended a b n w z = none_unseen a b n w (empty w.between (omega (arith, z, w.short))) where
    empty : (xs : List ℕ) → length xs ≤ 0 → xs ≡ []
    empty [] l = refl
    empty (x ∷ xs) l = absurd (omega arith)

  module _ (a b n : ℕ) (w : Unseen M h a b n) where
    -- what the walk's next step ahead finds, and what it leaves
    abbrev AheadCases : Type 0
    AheadCases = ((w.between ≡ []) × (round M a ≡ b)) ⊎ ((left : List ℕ) × (w.between ≡ round M a ∷ left))

    ahead_cases : AheadCases
    ahead_cases = next_on_path w.between refl w.path where
      next_on_path : (xs : List ℕ) → w.between ≡ xs → IsPath (round M) (a ∷ xs) b → AheadCases
      next_on_path [] e p = inl (e, p.0)
      next_on_path (x ∷ xs) e p = inr (xs, e ∙ ap (λ y. y ∷ xs) (sym p.0))

    -- one comes back to where the walk goes ahead from, or to the last unseen one
    back_is : mate (before M b) ≡ last_or a w.between
    back_is =
        let f = front_of a w.between in
        let l : ℕ = last_or a w.between in
        let e : round M l ≡ b = IsPath_at (round M) f.0 l [] b (subst (λ q. IsPath (round M) q b) f.1 w.path) in
        let t : HasHalf M l = last_there w.between refl in
        ap (λ x. mate (before M x)) (sym e) ∙ ap mate (before_after M sound (mate l) (mate_there M l t)) ∙ mate-mate l where
          last_there : (xs : List ℕ) → w.between ≡ xs → HasHalf M (last_or a xs)
          last_there [] e = w.ahead.0
          last_there (x ∷ xs) e = let p = front_of x xs in (w.at_vertex (last_or x xs) (omega (arith, ap (count (last_or x xs)) e, ap (count (last_or x xs)) p.1, count-append (last_or x xs) p.0 (last_or x xs ∷ []), tick_same (last_or x xs)))).0

    -- and its next step back
    abbrev BehindCases : Type 0
    BehindCases = ((w.between ≡ []) × (mate (before M b) ≡ a)) ⊎ ((left : List ℕ) × (w.between ≡ left ++ mate (before M b) ∷ []))

    behind_cases : BehindCases
    behind_cases = last_behind w.between refl where
      last_behind : (xs : List ℕ) → w.between ≡ xs → BehindCases
      last_behind [] e = inl (e, back_is ∙ ap (last_or a) e)
      last_behind (x ∷ xs) e = let f = front_of x xs in inr (f.0, e ∙ f.1 ∙ ap (λ y. f.0 ++ y ∷ []) (sym (back_is ∙ ap (last_or a) e)))

    -- ---- a step ahead

    pub met_ahead : round M a ≡ b → leads M h ≡ true
    met_ahead e = elim ahead_cases [
      | inl z ↦ none_unseen a b n w z.0
      | inr s ↦ absurd (no_first b (round M a) s.0 e (sym (ap (count b) s.1) ∙ w.not_behind))
    ]

    first_unseen : (left : List ℕ) → w.between ≡ round M a ∷ left → IsAt M h (round M a)
    first_unseen left e = w.at_vertex (round M a) (omega (arith, ap (count (round M a)) e, tick_same (round M a)))

    -- neither end of the walk is of a lesser edge
    ahead_least : edge_of h ≤ edge_of a
    ahead_least = elim (w.seen a w.ahead.0 w.ahead.1) [ inl l ↦ l | inr i ↦ absurd (omega (arith, i, w.not_ahead)) ]

    behind_least : edge_of h ≤ edge_of b
    behind_least = elim (w.seen b w.behind.0 w.behind.1) [ inl l ↦ l | inr i ↦ absurd (omega (arith, i, w.not_behind)) ]

    pub lesser_ahead : edge_of (round M a) < edge_of h → leads M h ≡ false
    lesser_ahead l = elim ahead_cases [
      | inl z ↦ absurd (omega (arith, l, behind_least, ap edge_of z.1))
      | inr s ↦ let v = first_unseen s.0 s.1 in leads_false M h (round M a) v.0 v.1 l
    ]

    pub step_ahead : (k : ℕ) → n ≡ k + 1 → round M a ≢ b → edge_of h ≤ edge_of (round M a) → Unseen M h (round M a) b k
    step_ahead k m ne l = elim ahead_cases [
      | inl z ↦ absurd (ne z.1)
      | inr s ↦ let c : (x : ℕ) → count x w.between ≡ tick x (round M a) + count x s.0 = λ x. ap (count x) s.1 in record {
        between = s.0;
        path = (subst (λ q. IsPath (round M) (a ∷ q) b) s.1 w.path).1;
        apart = λ x. omega (arith, c x, w.apart x);
        not_ahead = omega (arith, c (round M a), w.apart (round M a), tick_same (round M a));
        not_behind = omega (arith, c b, w.not_behind);
        at_vertex = λ x i. w.at_vertex x (omega (arith, c x, i));
        ahead = first_unseen s.0 s.1;
        behind = w.behind;
        seen = λ x t e. elim (w.seen x t e) [
          | inl q ↦ inl q
          | inr i ↦ elim (eqb_tells x (round M a)) [ inl q ↦ inl (omega (arith, l, ap edge_of q.1)) | inr q ↦ inr (omega (arith, c x, i, tick_other x (round M a) q.1)) ]
        ];
        short = omega (arith, m, w.short, ap (λ (q : List ℕ). length q) s.1);
      }
    ]

    -- ---- a step back

    pub met_behind : mate (before M b) ≡ a → leads M h ≡ true
    met_behind e = elim behind_cases [
      | inl z ↦ none_unseen a b n w z.0
      | inr s ↦ absurd (omega (arith, w.not_ahead, ap (count a) s.1, count-append a s.0 (mate (before M b) ∷ []), ap (tick a) e, tick_same a))
    ]

    last_unseen : (left : List ℕ) → w.between ≡ left ++ mate (before M b) ∷ [] → IsAt M h (mate (before M b))
    last_unseen left e = let x = mate (before M b) in w.at_vertex x (omega (arith, ap (count x) e, count-append x left (x ∷ []), tick_same x))

    pub lesser_behind : edge_of (mate (before M b)) < edge_of h → leads M h ≡ false
    lesser_behind l = elim behind_cases [
      | inl z ↦ absurd (omega (arith, l, ahead_least, ap edge_of z.1))
      | inr s ↦ let v = last_unseen s.0 s.1 in leads_false M h (mate (before M b)) v.0 v.1 l
    ]

    pub step_behind : mate (before M b) ≢ a → edge_of h ≤ edge_of (mate (before M b)) → Unseen M h a (mate (before M b)) n
    step_behind ne l = elim behind_cases [
      | inl z ↦ absurd (ne z.1)
      | inr s ↦ let y : ℕ = mate (before M b) in let c : (x : ℕ) → count x w.between ≡ count x s.0 + tick x y = λ x. omega (arith, ap (count x) s.1, count-append x s.0 (y ∷ [])) in record {
        between = s.0;
        path = IsPath-left (round M) (a ∷ s.0) (y ∷ []) b (subst (λ q. IsPath (round M) (a ∷ q) b) s.1 w.path);
        apart = λ x. omega (arith, c x, w.apart x);
        not_ahead = omega (arith, c a, w.not_ahead);
        not_behind = omega (arith, c y, w.apart y, tick_same y);
        at_vertex = λ x i. w.at_vertex x (omega (arith, c x, i));
        ahead = w.ahead;
        behind = last_unseen s.0 s.1;
        seen = λ x t e. elim (w.seen x t e) [
          | inl q ↦ inl q
          | inr i ↦ elim (eqb_tells x y) [ inl q ↦ inl (omega (arith, l, ap edge_of q.1)) | inr q ↦ inr (omega (arith, c x, i, tick_other x y q.1)) ]
        ];
        short = omega (arith, w.short, ap (λ (q : List ℕ). length q) s.1, length-append s.0 (y ∷ []));
      }
    ]

  pub faced_there : (a b n : ℕ) → Facing M h a b n → HasHalf M b
  faced_there a b n w = subst (HasHalf M) (sym w.comes) (mate_there M (before M w.last) (before_there M sound w.last w.walk.behind.0))

  pub met_back : (a b n : ℕ) → Facing M h a b n → b ≡ a → leads M h ≡ true
  met_back a b n w e = met_behind a w.last n w.walk (sym w.comes ∙ e)

  pub lesser_back : (a b n : ℕ) → Facing M h a b n → edge_of b < edge_of h → leads M h ≡ false
  lesser_back a b n w l = lesser_behind a w.last n w.walk (subst (λ x. edge_of x < edge_of h) w.comes l)

  pub step_back : (a b n : ℕ) → Facing M h a b n → b ≢ a → edge_of h ≤ edge_of b → Unseen M h a b n
  step_back a b n w ne l =
      subst (λ x. Unseen M h a x n) (sym w.comes) (step_behind a w.last n w.walk (λ e. ne (w.comes ∙ e)) (subst (λ x. edge_of h ≤ edge_of x) w.comes l))
