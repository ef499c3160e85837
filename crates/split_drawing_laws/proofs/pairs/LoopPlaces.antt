-- The signs of three heights that follow one another, the first two and the last two of which are those of neighbours.
use Rattle.split_drawing_laws.proofs.Prelude.{list_any, ◌≡◌, Bool, true, false, cond, not, ◌&&◌, ◌||◌, ℤ, pos, arith, ℕ, suc, ◌+◌, ◌*◌, List, [], ◌∷◌, length, refl, sym, ap, ◌∙◌, true≢false, ◌≤◌, ◌++◌, subst, int_lt, ◌-◌, filter, int_eq, length-append, ints, not-false, false_from_ne_true, opposite, height, is_on, IsIn, head_or, count, IsPath, IsRing, Plane, Model, items_of, content, outer, loop_of, before, after, point_of, rings_of, Sound, HasHalf, tick_same, count-append, tick_le, predecessor-successor, in-holds, cycle_there, cycle_sound, count-filter, loop_after, light, start, finish, loops_of, items_in, boundary, is_place, places, is_touched, loop_is_cut}
use Rattle.std.proofs.lemmas.List.Elements.{filter-append}
use Rattle.split_drawing_laws.proofs.crossings.Premises.{any_passes}

-- b and c are opposite, or b is 0 and its neighbours are
abbrev pub crossed : ℤ → ℤ → ℤ → Bool
crossed a b c = opposite b c || (int_eq b (pos 0) && opposite a c)

-- whether b is above, and where it is 0 whether a is
abbrev pub side_from : ℤ → ℤ → Bool
side_from a b = cond (int_eq b (pos 0)) (int_lt (pos 0) a) (int_lt (pos 0) b)

pub side_turns : (a b c : ℤ) → crossed a b c ≡ true → side_from b c ≡ not (side_from a b)
side_turns a b c e = grind (arith, ints)

pub side_stays : (a b c : ℤ) → crossed a b c ≡ false → int_eq b (pos 0) ≡ false → side_from b c ≡ side_from a b
side_stays a b c e off = grind (arith, ints)

-- ---- sides that change round a ring: as often one way as the other, so an even number of times

-- from x to the next item the side becomes true, or becomes false
abbrev pub rises : (ℕ → ℕ) → (ℕ → Bool) → ℕ → Bool
rises next side x = not (side x) && side (next x)

abbrev pub falls : (ℕ → ℕ) → (ℕ → Bool) → ℕ → Bool
falls next side x = side x && not (side (next x))

-- twice some number
abbrev pub IsEven : ℕ → Type 0
IsEven n = (k : ℕ) × (n ≡ 2 * k)

pub two_less : (n : ℕ) → IsEven (suc (suc n)) → IsEven n
two_less n even = (even.0 - 1, omega (arith, even.1))

-- 1 where the side is true
abbrev one : Bool → ℕ
one b = cond b 1 0

step : (a b c : Bool) (x : ℕ) (rs fs : List ℕ) → length rs + one b ≡ length fs + one c →
    length (cond (not a && b) (x ∷ rs) rs) + one a ≡ length (cond (a && not b) (x ∷ fs) fs) + one c
step a b c x rs fs e = grind arith

-- a change that an item is the place of is a rise or a fall
changed : (t a b : Bool) (x : ℕ) (ts rs fs : List ℕ) → (t ≡ true → b ≡ not a) → (t ≡ false → b ≡ a) → length ts ≡ length rs + length fs →
    length (cond t (x ∷ ts) ts) ≡ length (cond (not a && b) (x ∷ rs) rs) + length (cond (a && not b) (x ∷ fs) fs)
changed t a b x ts rs fs e f g = grind (arith, true≢false)

module _ (next : ℕ → ℕ) (side : ℕ → Bool) where
  path_turns : (hs : List ℕ) (d : ℕ) → IsPath next hs d → length (filter (rises next side) hs) + one (side (head_or d hs)) ≡ length (filter (falls next side) hs) + one (side d)
  path_turns [] d p = refl
  path_turns (x ∷ xs) d p = grind (arith, step, path_turns xs d p.1)

  -- once round a ring the side rises as often as it falls
  pub as_many : (hs : List ℕ) → IsRing next hs → length (filter (rises next side) hs) ≡ length (filter (falls next side) hs)
  as_many [] r = refl
  as_many (x ∷ xs) r = omega (arith, path_turns (x ∷ xs) x r)

  -- turns picks the items from which the side changes
  module _ (turns : ℕ → Bool) where
    pub all_turns : (hs : List ℕ) → ((x : ℕ) → IsIn x hs → turns x ≡ true → side (next x) ≡ not (side x)) → ((x : ℕ) → IsIn x hs → turns x ≡ false → side (next x) ≡ side x) →
        length (filter turns hs) ≡ length (filter (rises next side) hs) + length (filter (falls next side) hs)
    all_turns [] on off = refl
    all_turns (x ∷ xs) on off = grind (arith, tick_same, changed, all_turns xs (λ y i. on y (omega (arith, i))) (λ y i. off y (omega (arith, i))))

    -- round a ring it changes an even number of times
    pub turns_even : (hs : List ℕ) → IsRing next hs → ((x : ℕ) → IsIn x hs → turns x ≡ true → side (next x) ≡ not (side x)) → ((x : ℕ) → IsIn x hs → turns x ≡ false → side (next x) ≡ side x) →
        IsEven (length (filter turns hs))
    turns_even hs r on off = (length (filter (rises next side) hs), omega (arith, all_turns hs on off, as_many hs r))

-- ---- each loop of a face has an even number of cut places; where a face has two in all, both are in its outer loop

-- ---- lists

count_within : (x : ℕ) (xs : List ℕ) → count x xs ≤ length xs
count_within x [] = omega arith
count_within x (y ∷ ys) = omega (arith, count_within x ys, tick_le x y)

some_picked : (t : ℕ → Bool) (xs : List ℕ) → list_any t xs ≡ true → 1 ≤ length (filter t xs)
some_picked t [] e = absurd (true≢false (sym e))
some_picked t (x ∷ xs) e = grind (arith, some_picked t xs)

-- a test that no item passes is false of each
pub none_passes : (t : ℕ → Bool) (x : ℕ) (xs : List ℕ) → list_any t xs ≡ false → IsIn x xs → t x ≡ false
none_passes t x xs none i = false_from_ne_true (t x) (λ e. true≢false (sym (any_passes t x xs i e) ∙ none))

then_true : (a b : Bool) → (a && not b) ≡ false → a ≡ true → b ≡ true
then_true a b e f = grind (arith, not-false, true≢false)

then_false : (a b : Bool) → (a ≡ true → b ≡ true) → b ≡ false → a ≡ false
then_false a b e f = grind (arith, true≢false)

pub before_after : (M : Model) → Sound M → (h : ℕ) → HasHalf M h → before M (after M h) ≡ h
unfolding before after
before_after M sound h there = grind (arith, loop_after, predecessor-successor, cycle_sound, cycle_there)

module _ (M : Model) (sound : Sound M) (p : Plane) where
  -- ---- one loop

  -- the side on which a loop lies as it comes to h's corner
  abbrev pub side : ℕ → Bool
  side h = side_from (height p (start M (before M h))) (height p (start M h))

  side_after : (h : ℕ) → HasHalf M h → side (after M h) ≡ side_from (height p (start M h)) (height p (finish M h))
  side_after h there = λ i. side_from (height p (start M (before_after M sound h there i))) (height p (point_of M (sound.ends_meet h there i)))

  place_is : (h : ℕ) → is_place M p h ≡ crossed (height p (start M (before M h))) (height p (start M h)) (height p (finish M h))
  unfolding is_place
  place_is h = refl

  -- at a cut place the side changes
  pub turns_at : (h : ℕ) → HasHalf M h → is_place M p h ≡ true → side (after M h) ≡ not (side h)
  turns_at h there e = side_after h there ∙ side_turns (height p (start M (before M h))) (height p (start M h)) (height p (finish M h)) (sym (place_is h) ∙ e)

  -- and elsewhere it stays, if no corner on the plane is without a cut place
  pub stays_at : (h : ℕ) → HasHalf M h → (is_on p (start M h) ≡ true → is_place M p h ≡ true) → is_place M p h ≡ false → side (after M h) ≡ side h
  stays_at h there untouched e = side_after h there ∙ side_stays (height p (start M (before M h))) (height p (start M h)) (height p (finish M h))
      (sym (place_is h) ∙ e) (then_false (is_on p (start M h)) (is_place M p h) untouched e)

  items_even : (l : ℕ) → ((h : ℕ) → IsIn h (items_of (content M l)) → is_on p (start M h) ≡ true → is_place M p h ≡ true) → IsEven (length (filter (is_place M p) (items_of (content M l))))
  items_even l untouched = turns_even (after M) side (is_place M p) (items_of (content M l)) (light M sound l).1
      (λ h i e. turns_at h (there h i) e) (λ h i e. stays_at h (there h i) (untouched h i) e) where
        there : (h : ℕ) → IsIn h (items_of (content M l)) → HasHalf M h
        there h i = sound.only_edges h l (in-holds h (content M l) i)

  -- ---- some loops

  some_even : (ls : List ℕ) → ((h : ℕ) → IsIn h (items_in M ls) → is_on p (start M h) ≡ true → is_place M p h ≡ true) → IsEven (length (filter (is_place M p) (items_in M ls)))
  some_even [] untouched = (0, refl)
  some_even (l ∷ ls) untouched =
      let first = items_even l (λ h i. untouched h (omega (arith, i, count-append h (items_of (content M l)) (items_in M ls)))) in
      let later = some_even ls (λ h i. untouched h (omega (arith, i, count-append h (items_of (content M l)) (items_in M ls)))) in
      subst IsEven
      (sym (ap length (filter-append (is_place M p) (items_of (content M l)) (items_in M ls)) ∙ length-append (filter (is_place M p) (items_of (content M l))) (filter (is_place M p) (items_in M ls))))
      ((first.0 + later.0, omega (arith, first.1, later.1)))

  -- ---- a face

  module _ (f : ℕ) (untouched : is_touched M p f ≡ false) where
    pub on_place : (h : ℕ) → IsIn h (boundary M f) → is_on p (start M h) ≡ true → is_place M p h ≡ true
    unfolding is_touched
    on_place h i = then_true (is_on p (start M h)) (is_place M p h) (none_passes (λ h. is_on p (start M h) && not (is_place M p h)) h (boundary M f) untouched i)

    abbrev first_items : List ℕ
    first_items = items_of (content M (outer M f))

    abbrev later_items : List ℕ
    later_items = items_in M (rings_of M f)

    abbrev first_places : List ℕ
    first_places = filter (is_place M p) first_items

    abbrev later_places : List ℕ
    later_places = filter (is_place M p) later_items

    boundary_is : boundary M f ≡ first_items ++ later_items
    unfolding boundary loops_of
    boundary_is = refl

    places_are : places M p f ≡ first_places ++ later_places
    unfolding places
    places_are = ap (filter (is_place M p)) boundary_is ∙ filter-append (is_place M p) first_items later_items

    pub places_even : IsEven (length (places M p f))
    unfolding places boundary
    places_even = some_even (loops_of M f) on_place

    in_first : (h : ℕ) → IsIn h first_items → IsIn h (boundary M f)
    in_first h i = subst (IsIn h) (sym boundary_is) (omega (arith, i, count-append h first_items later_items))

    -- two cut places in all are both in the outer loop, if that has one
    pub two_outer : loop_is_cut M p (outer M f) ≡ true → length (places M p f) ≡ 2 → (x : ℕ) → IsIn x (places M p f) → loop_of M x ≡ outer M f
    two_outer cut two x i =
        let even = items_even (outer M f) (λ h j. on_place h (in_first h j)) in
        let some : 1 ≤ length first_places = some_picked (is_place M p) first_items cut in
        let sum : length first_places + length later_places ≡ 2 =
        sym (ap length places_are ∙ length-append first_places later_places) ∙ two in
        let none : length later_places ≡ 0 = omega (arith, even.1, some, sum) in
        let here : IsIn x first_places = omega (
          arith,
          i,
          ap (count x) places_are,
          count-append x first_places later_places,
          count_within x later_places,
          none,
        ) in
        sound.one_loop x (outer M f) (in-holds x (content M (outer M f)) (omega (arith, here, count-filter (is_place M p) x first_items)))
