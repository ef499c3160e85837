-- A walk round a ring, from an item on until it is met again.
use Rattle.solid_walks.proofs.Prelude.{◌≡◌, ◌≢◌, ℕ, ◌≤◌, min, List, [], ◌∷◌, ◌++◌, refl, sym, ap, ◌∙◌, arith, append_assoc, is_some, ne_eqb, count, IsIn, IsApart, head_or, least, rotate_to, canonical, successor, rest, Model, content, loop_of, cycle_of, Sound, HasHalf, StandsIn, count-append, tick_same, split_at, count-before, before_of, after_of, least_le, least_in, rotate_to-rotates, IsApart-rotate_to, count-rotate_to, rotate_to_is, successor_at, successor_same, IsIn_successor, in-holds, held_row, cycle_there, cycle_sound, number_real, items_left}
use Rattle.euler_operators.specs.Items.{before, after}
use Rattle.euler_operators.specs.Model as model
use Rattle.euler_conditions.proofs.Coded.{code_real}
pub use Rattle.solid_walks.specs.Left.{to_come}

-- the items of a walk from h that has come to x, x among them
abbrev pub seen : ℕ → List ℕ → ℕ → List ℕ
seen h xs x = before x (rotate_to h xs) ++ x ∷ []

head_seen : (h x : ℕ) (ps qs zs : List ℕ) → ps ++ x ∷ qs ≡ h ∷ zs → IsIn h (ps ++ x ∷ [])
head_seen h x [] qs zs e = let s : x ≡ h = cc in rw s (omega (arith, tick_same h))
head_seen h x (p ∷ ps) qs zs e = let s : p ≡ h = cc in rw s (omega (arith, tick_same h))

head_first : (h x : ℕ) (ps zs : List ℕ) → ps ++ x ∷ [] ≡ h ∷ zs → head_or x ps ≡ h
head_first h x [] zs e = cc
head_first h x (p ∷ ps) zs e = cc

module _ (h : ℕ) (xs : List ℕ) (apart : IsApart xs) (first : IsIn h xs) where
  abbrev ys : List ℕ
  ys = rotate_to h xs

  in_ys : (x : ℕ) → IsIn x xs → IsIn x ys
  in_ys x i = omega (arith, count-rotate_to x h xs)

  parts : (x : ℕ) → IsIn x xs → ys ≡ before x ys ++ x ∷ after x ys
  parts x i = split_at x ys (in_ys x i)

  next_is : (x : ℕ) → IsIn x xs → successor xs x ≡ head_or x (after x ys ++ before x ys)
  next_is x i = successor_same x xs ys (rotate_to-rotates h xs) apart i ∙ ap (λ (zs : List ℕ). successor zs x) (parts x i) ∙ successor_at x (before x ys) (after x ys) (count-before x ys)

  twice : (ps qs : List ℕ) → ys ≡ ps ++ h ∷ qs → IsIn h ps → ⊥
  twice ps qs e i = omega (arith, IsApart-rotate_to h xs apart h, ap (count h) e, count-append h ps (h ∷ qs), tick_same h)

  -- the walk comes to h again: it has met all items
  pub walk_ends : (x : ℕ) → IsIn x xs → successor xs x ≡ h → to_come h xs x ≡ []
  walk_ends x i back = none_after (after x ys) (parts x i) (sym (next_is x i) ∙ back) where
    none_after : (qs : List ℕ) → ys ≡ before x ys ++ x ∷ qs → head_or x (qs ++ before x ys) ≡ h → qs ≡ []
    none_after [] e n = refl
    none_after (y ∷ qs) e n = absurd (
        let s : y ≡ h = n in
        twice (before x ys ++ x ∷ []) qs (e ∙ sym (append_assoc (before x ys) (x ∷ []) (y ∷ qs)) ∙ ap (λ (k : ℕ). (before x ys ++ x ∷ []) ++ k ∷ qs) s)
        (head_seen h x (before x ys) (y ∷ qs) (rest h xs) (sym e ∙ rotate_to_is h xs first)))

  pub all_seen : (x : ℕ) → IsIn x xs → successor xs x ≡ h → seen h xs x ≡ ys
  all_seen x i back = sym (parts x i ∙ ap (λ (qs : List ℕ). before x ys ++ x ∷ qs) (walk_ends x i back))

  -- or it goes on to the next item
  pub walk_goes : (x : ℕ) → IsIn x xs → successor xs x ≢ h → (to_come h xs x ≡ successor xs x ∷ to_come h xs (successor xs x)) × (seen h xs (successor xs x) ≡ seen h xs x ++ successor xs x ∷ [])
  walk_goes x i on = next_after (after x ys) (parts x i) (next_is x i) where
    next_after : (qs : List ℕ) → ys ≡ before x ys ++ x ∷ qs → successor xs x ≡ head_or x (qs ++ before x ys) → (qs ≡ successor xs x ∷ to_come h xs (successor xs x)) × (seen h xs (successor xs x) ≡ seen h xs x ++ successor xs x ∷ [])
    next_after [] e n = absurd (on (n ∙ head_first h x (before x ys) (rest h xs) (sym e ∙ rotate_to_is h xs first)))
    next_after (y ∷ qs) e n =
        let split : ys ≡ (before x ys ++ x ∷ []) ++ y ∷ qs = e ∙ sym (append_assoc (before x ys) (x ∷ []) (y ∷ qs)) in
        let none : count y (before x ys ++ x ∷ []) ≡ 0 = omega (arith, IsApart-rotate_to h xs apart y, ap (count y) split, count-append y (before x ys ++ x ∷ []) (y ∷ qs), tick_same y) in
        let s : successor xs x ≡ y = n in
        rw s (ap (λ (zs : List ℕ). y ∷ zs) (sym (after_of y ys (before x ys ++ x ∷ []) qs split none)), ap (λ (zs : List ℕ). zs ++ y ∷ []) (before_of y ys (before x ys ++ x ∷ []) qs split none))

  -- a number of the ring that passes no item is the least
  pub least_is : (n : ℕ) → IsIn n xs → ((x : ℕ) → IsIn x ys → n ≤ x) → n ≡ least xs
  least_is n i below = let l = least_in xs n i in omega (arith, least_le xs n i, below (least xs) (in_ys (least xs) l))

  pub start_seen : seen h xs h ≡ h ∷ []
  start_seen = ap (λ (zs : List ℕ). zs ++ h ∷ []) (before_of h ys [] (rest h xs) (rotate_to_is h xs first) refl)

  pub start_is : ys ≡ h ∷ to_come h xs h
  start_is = rotate_to_is h xs first ∙ ap (λ (zs : List ℕ). h ∷ zs) (sym (after_of h ys [] (rest h xs) (rotate_to_is h xs first) refl))

-- an item of a loop is there, and its cycle is that loop's
pub item_of : (M : Model) → Sound M → (l g : ℕ) → IsIn g (model.items_of (content M l)) → HasHalf M g × (cycle_of M g ≡ model.items_of (content M l))
item_of M sound l g i = let s = in-holds g (content M l) i in (sound.only_edges g l s, ap (λ k. model.items_of (content M k)) (sound.one_loop g l s))

-- the items of a half-edge's loop
module _ (M : Model) (sound : Sound M) (h : ℕ) (there : HasHalf M h) where
  item_stands : (g : ℕ) → IsIn g (cycle_of M h) → StandsIn M g (loop_of M h)
  item_stands g i = in-holds g (content M (loop_of M h)) i

  pub item_there : (g : ℕ) → IsIn g (cycle_of M h) → HasHalf M g
  item_there g i = sound.only_edges g (loop_of M h) (item_stands g i)

  pub same_loop : (g : ℕ) → IsIn g (cycle_of M h) → loop_of M g ≡ loop_of M h
  same_loop g i = sound.one_loop g (loop_of M h) (item_stands g i)

  pub same_cycle : (g : ℕ) → IsIn g (cycle_of M h) → cycle_of M g ≡ cycle_of M h
  same_cycle g i = ap (λ l. model.items_of (content M l)) (same_loop g i)

  looped : (g : ℕ) → IsIn g (cycle_of M h) → loop_of M g ≢ 0
  looped g i = rw (same_loop g i) (number_real (loop_of M h) (sound.loops_fit (loop_of M h) (ap is_some (held_row M g (loop_of M h) (item_stands g i)))))

  -- what an arena answers as the next item
  pub next_item : (g r : ℕ) → IsIn g (cycle_of M h) → (loop_of M g ≢ 0 → r ≡ model.after M g) → r ≡ successor (cycle_of M h) g
  unfolding model.after
  next_item g r i n = n (looped g i) ∙ ap (λ (zs : List ℕ). successor zs g) (same_cycle g i)

  -- those of a walk round the loop, from h on
  pub round_there : (g : ℕ) → IsIn g (rotate_to h (cycle_of M h)) → HasHalf M g
  round_there g i = item_there g (omega (arith, i, count-rotate_to g h (cycle_of M h)))

  pub cycle_apart : IsApart (cycle_of M h)
  cycle_apart = (cycle_sound M sound h there).apart

  pub item_in : IsIn h (cycle_of M h)
  item_in = cycle_there M sound h there

  -- the cycle is written from its least item on
  pub from_least : h ≡ least (cycle_of M h) → cycle_of M h ≡ h ∷ to_come h (cycle_of M h) h
  unfolding canonical
  from_least e = sym (cycle_sound M sound h there).from_least ∙ ap (λ k. rotate_to k (cycle_of M h)) (sym e) ∙ start_is h (cycle_of M h) cycle_apart item_in

  -- a walk in the arena: the next item is another one, or the first again
  pub goes_on : (g r : ℕ) → IsIn g (cycle_of M h) → (loop_of M g ≢ 0 → r ≡ model.after M g) → r ≢ h
      → IsIn r (cycle_of M h) × (to_come h (cycle_of M h) g ≡ r ∷ to_come h (cycle_of M h) r) × (seen h (cycle_of M h) r ≡ seen h (cycle_of M h) g ++ r ∷ [])
  goes_on g r i n other =
      let e = next_item g r i n in
      let w = walk_goes h (cycle_of M h) cycle_apart item_in g i (λ s. other (e ∙ s)) in
      rw e (IsIn_successor g (cycle_of M h) i, w.0, w.1)

  pub comes_back : (g r : ℕ) → IsIn g (cycle_of M h) → (loop_of M g ≢ 0 → r ≡ model.after M g) → r ≡ h
      → (to_come h (cycle_of M h) g ≡ []) × (seen h (cycle_of M h) g ≡ rotate_to h (cycle_of M h))
  comes_back g r i n same =
      let back = sym (next_item g r i n) ∙ same in
      (walk_ends h (cycle_of M h) cycle_apart item_in g i back, all_seen h (cycle_of M h) cycle_apart item_in g i back)

-- the next one of a walk, where there is one
pub items_left_is : (M : Model) → Sound M → (h next : ℕ) → HasHalf M next → items_left M h next ≡ next ∷ to_come h (cycle_of M h) next
items_left_is M sound h next there = rw (ne_eqb next 0 (code_real M sound next there)) refl

-- the lesser of two items is one
pub lesser_in : (xs : List ℕ) (a b c : ℕ) → c ≡ min a b → IsIn a xs → IsIn b xs → IsIn c xs
lesser_in xs a b c e i j = grind (arith, e, i, j)
