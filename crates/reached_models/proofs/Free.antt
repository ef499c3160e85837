-- A number that a table doesn't use, where its numbers go to different numbers of another table and one of these is missed.
use Rattle.reached_models.proofs.Prelude.{◌≡◌, ◌≢◌, ℕ, ◌+◌, ◌≤◌, ◌<◌, true, false, List, [], ◌∷◌, map, length, Some, None, is_some, refl, sym, ap, ◌∙◌, arith, true≢false, inl, inr, nat_tests, eqb_tells, IsIn, IsApart, Table, get, all_where, is_number, lists, strictly_rises, Has, NumbersFit, IsApart-images, length_below, number_fits, one_or_more, row_some, tick_same, tick_other, from_map, all_where_has, all_where_in, all_where-rises, counted_once, rises_apart, rises_on, first_listed, listed-from_in}
use Rattle.std.proofs.lemmas.List.{length-map}

-- a number of a kind that the table doesn't use
pub record Free {X : Type 0} (t : Table X) : Type 0 where
  pub number : ℕ
  pub fits : is_number number ≡ true
  pub free : get t number ≡ None

-- ---- the first gap of a rising list

not_listed : (n m : ℕ) (ns : List ℕ) → n ≢ m → lists ns n ≡ false → lists (m ∷ ns) n ≡ false
not_listed n m ns ne l = grind (arith, nat_tests)

past_none : (n m : ℕ) (ns : List ℕ) → strictly_rises (m ∷ ns) ≡ true → n ≤ m → lists ns n ≡ false
past_none n m ns r l = elim (lists ns n) as (λ b. lists ns n ≡ b → lists ns n ≡ false) [ true ↦ λ e. absurd (omega (arith, rises_apart m n ns r e)) | false ↦ λ e. e ] refl

record Gap (k : ℕ) (ns : List ℕ) : Type 0 where
  at : ℕ
  above : k < at
  near : at ≤ k + length ns + 1
  unused : lists ns at ≡ false

gap : (k : ℕ) (ns : List ℕ) → strictly_rises (k ∷ ns) ≡ true → Gap k ns
gap k [] r = record { at = k + 1; above = omega arith; near = omega arith; unused = refl }
gap k (m ∷ ns) r =
    let above_k : k < m = rises_apart k m (m ∷ ns) r (first_listed m ns) in
    let on : strictly_rises (m ∷ ns) ≡ true = rises_on k (m ∷ ns) r in
    elim (eqb_tells m (k + 1)) [
      | inl e ↦ let g : Gap m ns = gap m ns on in record {
        at = g.at;
        above = omega (arith, g.above);
        near = omega (arith, g.near, e.1);
        unused = not_listed g.at m ns (λ p. absurd (omega (arith, g.above))) g.unused;
      }
      | inr ne ↦ record {
        at = k + 1;
        above = omega arith;
        near = omega arith;
        unused = not_listed (k + 1) m ns (λ p. ne.1 (sym p)) (past_none (k + 1) m ns on (omega (arith, ne.1)));
      }
    ]

-- ---- the numbers of a table

abbrev used : {X : Type 0} → Table X → List ℕ
used t = all_where (λ _ _. true) t

module _ {X : Type 0} (t : Table X) where
  is_used : (n : ℕ) → Has t n → IsIn n (used t)
  is_used n there = let w = row_some (get t n) there in all_where_in (λ _ _. true) t n w.0 w.1 refl

  used_there : (n : ℕ) → IsIn n (used t) → Has t n
  used_there n i = ap is_some (all_where_has (λ _ _. true) t n i).1

  used_apart : IsApart (used t)
  used_apart n = counted_once n (used t) (all_where-rises (λ _ _. true) t)

  module _ (fit : NumbersFit t) where
    rises_above : (ns : List ℕ) → strictly_rises ns ≡ true → ((n : ℕ) → IsIn n ns → 0 < n) → strictly_rises (0 ∷ ns) ≡ true
    rises_above [] r h = refl
    rises_above (n ∷ ns) r h = let l : 0 < n = h n (omega (arith, tick_same n)) in grind (arith, nat_tests)

    above_zero : (n : ℕ) → IsIn n (used t) → 0 < n
    above_zero n i = one_or_more n (fit n (used_there n i))

    in_range : (n : ℕ) → 0 < n → n ≤ 1000000 → is_number n ≡ true
    in_range n a b = grind (arith, nat_tests)

    -- where not all numbers are used there is a free one
    free_below : length (used t) < 1000000 → Free t
    free_below short =
        let g : Gap 0 (used t) = gap 0 (used t) (rises_above (used t) (all_where-rises (λ _ _. true) t) above_zero) in
        record {
          number = g.at;
          fits = in_range g.at g.above (omega (arith, g.near));
          free = unused_free g.at g.unused (get t g.at) refl;
        } where
          unused_free : (n : ℕ) → lists (used t) n ≡ false → (o : _) → get t n ≡ o → get t n ≡ None
          unused_free n l None e = e
          unused_free n l (Some x) e = absurd (true≢false (sym (listed-from_in n (used t) (is_used n (ap is_some e))) ∙ l))

-- ---- one number is missed

-- the numbers of one table go to different numbers of another, and one of these is missed
pub record Missed {X Y : Type 0} (s : Table X) (t : Table Y) : Type 0 where
  pub to : ℕ → ℕ
  pub back : ℕ → ℕ
  pub there : (n : ℕ) → Has s n → Has t (to n)
  pub returns : (n : ℕ) → Has s n → back (to n) ≡ n
  pub missed : ℕ
  pub missed_there : Has t missed
  pub is_missed : to (back missed) ≢ missed

module _ {X Y : Type 0} (s : Table X) (t : Table Y) (s_fits : NumbersFit s) (t_fits : NumbersFit t) (m : Missed s t) where
  not_image : (n : ℕ) → Has s n → m.to n ≢ m.missed
  not_image n there e = m.is_missed (ap m.to (ap m.back (sym e) ∙ m.returns n there) ∙ e)

  abbrev images : List ℕ
  images = map m.to (used s)

  images_apart : IsApart images
  images_apart = IsApart-images m.to (used s) (used_apart s) (λ x y i j e. sym (m.returns x (used_there s x i)) ∙ ap m.back e ∙ m.returns y (used_there s y j))

  image_there : (n : ℕ) → IsIn n images → Has t n × (n ≢ m.missed)
  image_there n i =
      let w = from_map m.to n (used s) i in
      let there : Has s w.0 = used_there s w.0 w.1 in
      (ap (λ k. is_some (get t k)) w.2 ∙ m.there w.0 there, λ e. not_image w.0 there (sym w.2 ∙ e))

  -- 0 is no image, and the missed number isn't one
  abbrev with_two : List ℕ
  with_two = 0 ∷ m.missed ∷ images

  two_apart : IsApart with_two
  two_apart n =
      let missed_real : 0 < m.missed = one_or_more m.missed (t_fits m.missed m.missed_there) in
      grind (arith, images_apart n, eqb_tells n 0, eqb_tells n m.missed, image_there n, one_or_more n, t_fits n)

  two_below : (n : ℕ) → IsIn n with_two → n < 1000001
  two_below n i = grind (arith, eqb_tells n 0, eqb_tells n m.missed, number_fits n, t_fits n, image_there n, m.missed_there, tick_other n 0, tick_other n m.missed)

  -- the table that sends its numbers there has a free one
  pub free_number : Free s
  free_number = free_below s s_fits (omega (arith, length_below 1000001 with_two two_apart two_below, length-map (used s) m.to))

module _ {X Y : Type 0} (s : Table X) (t : Table Y) where
  -- of two numbers that come back to the same one is missed
  pub one_missed : (to back : ℕ → ℕ) → ((n : ℕ) → Has s n → Has t (to n)) → ((n : ℕ) → Has s n → back (to n) ≡ n) →
      (a b : ℕ) → Has t a → Has t b → a ≢ b → back a ≡ back b → Missed s t
  one_missed to back there returns a b a_there b_there apart same = elim (eqb_tells (to (back a)) a) [
    | inl e ↦ record { to = to; back = back; there = there; returns = returns; missed = b; missed_there = b_there; is_missed = λ p. apart (sym e.1 ∙ ap to same ∙ p) }
    | inr e ↦ record { to = to; back = back; there = there; returns = returns; missed = a; missed_there = a_there; is_missed = e.1 }
  ]
