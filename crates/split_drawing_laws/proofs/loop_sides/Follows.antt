-- What follows what once an edge stands between c and d; and sides that change at open places only.
use Rattle.split_drawing_laws.proofs.Prelude.{◌≡◌, ◌≢◌, ℕ, ◌+◌, Bool, cond, not, List, refl, sym, ap, ◌∙◌, subst, arith, eq-eqb, ne_eqb, ◌⊎◌, inl, inr, ◌==◌, eqb_tells, count, tick, IsIn, IsApart, after_mev, after_mef, Sided, splice_at, splice_at_other, splice_elsewhere, tick_same, tick_other}

-- ---- what follows what, once h is put before c and m before d

module _ (next : ℕ → ℕ) (h m c d : ℕ) where
  pub mev_at_h : h ≢ m → c ≢ d → after_mev next h m c d h ≡ c
  mev_at_h new_apart places_apart = rw (ne_eqb h m new_apart, eq-eqb h h refl, ne_eqb c d places_apart) refl

  mev_at_m : after_mev next h m c d m ≡ d
  mev_at_m = rw (eq-eqb m m refl) refl

  module _ (x : ℕ) (xh : x ≢ h) (xm : x ≢ m) where
    mev_at_c : h ≢ d → next x ≡ c → after_mev next h m c d x ≡ h
    mev_at_c new_not_d e = rw (ne_eqb x m xm, ne_eqb x h xh, eq-eqb (next x) c e, ne_eqb h d new_not_d) refl

    pub mev_at_d : c ≢ d → next x ≡ d → after_mev next h m c d x ≡ m
    mev_at_d places_apart e = rw (ne_eqb x m xm, ne_eqb x h xh, ne_eqb (next x) c (λ s. places_apart (sym s ∙ e)), eq-eqb (next x) d e) refl

    pub mev_else : next x ≢ c → next x ≢ d → after_mev next h m c d x ≡ next x
    mev_else a b = rw (ne_eqb x m xm, ne_eqb x h xh, ne_eqb (next x) c a, ne_eqb (next x) d b) refl

-- ---- sides

-- the new half-edges take the sides on which they go on
abbrev pub with_sides : ℕ → ℕ → ℕ → ℕ → (ℕ → Bool) → ℕ → Bool
with_sides h m c d side x = cond (x == h) (side d) (cond (x == m) (side c) (side x))

pub side_h : (h m c d : ℕ) (side : ℕ → Bool) → with_sides h m c d side h ≡ side d
side_h h m c d side = ap (λ b. cond b (side d) (cond (h == m) (side c) (side h))) (eq-eqb h h refl)

pub side_m : (h m c d : ℕ) (side : ℕ → Bool) → h ≢ m → with_sides h m c d side m ≡ side c
side_m h m c d side new_apart = ap (λ b. cond b (side d) (cond (m == m) (side c) (side m))) (ne_eqb m h (λ s. new_apart (sym s))) ∙ ap (λ b. cond b (side c) (side m)) (eq-eqb m m refl)

pub side_old : (h m c d : ℕ) (side : ℕ → Bool) (x : ℕ) → x ≢ h → x ≢ m → with_sides h m c d side x ≡ side x
side_old h m c d side x a b = ap (λ t. cond t (side d) (cond (x == m) (side c) (side x))) (ne_eqb x h a) ∙ ap (λ t. cond t (side c) (side x)) (ne_eqb x m b)

-- what is asked of the old items, and of the two open places c and d, on different sides
pub record Closing (Old : ℕ → Type 0) (next : ℕ → ℕ) (side : ℕ → Bool) (h m c d : ℕ) (before then_open : List ℕ) : Type 0 where
  pub new_apart : h ≢ m
  pub places_apart : c ≢ d
  pub fresh : (x : ℕ) → Old x → (x ≢ h) × (x ≢ m)
  pub goes_on : (x : ℕ) → Old x → Old (next x)
  pub c_old : Old c
  pub d_old : Old d
  pub apart : IsApart before
  pub none_new : (count h before ≡ 0) × (count m before ≡ 0)
  pub closed : (x : ℕ) → count x before ≡ count x then_open + tick x c + tick x d
  pub sides : side c ≡ not (side d)

module _ (Old New : ℕ → Type 0) (next : ℕ → ℕ) (side : ℕ → Bool) (h m c d : ℕ) (before then_open : List ℕ)
    (w : Closing Old next side h m c d before then_open) (s : Sided Old next side before) (cases : (x : ℕ) → New x → Old x ⊎ ((x ≡ h) ⊎ (x ≡ m))) where
  new_not_d : h ≢ d
  new_not_d e = (w.fresh d w.d_old).0 (sym e)

  abbrev F : ℕ → ℕ
  F = after_mef next h m c d

  as_mev : (x : ℕ) → Old x → F x ≡ after_mev next h m c d x
  as_mev x o = splice_elsewhere (after_mev next h m c d) h m x (w.fresh x o).0 (w.fresh x o).1

  abbrev side' : ℕ → Bool
  side' = with_sides h m c d side

  old_side : (x : ℕ) → Old x → with_sides h m c d side x ≡ side x
  old_side x o = side_old h m c d side x (w.fresh x o).0 (w.fresh x o).1

  not_open : (x : ℕ) → count x before ≡ 0 → count x then_open ≡ 0
  not_open x z = omega (arith, z, w.closed x)

  c_closed : count c then_open ≡ 0
  c_closed = omega (arith, w.closed c, tick_same c, w.apart c)

  -- where one comes then from an old item
  at_c : (x : ℕ) → Old x → next x ≡ c → (side' (F x) ≡ side' x) × (count (F x) then_open ≡ 0)
  at_c x o e =
      let g : F x ≡ h = as_mev x o ∙ mev_at_c next h m c d x (w.fresh x o).0 (w.fresh x o).1 new_not_d e in
      let t : side c ≡ not (side x) = ap side (sym e) ∙ s.across x o (subst (λ y. IsIn y before) (sym e) (omega (arith, w.closed c, tick_same c))) in
      (ap side' g ∙ side_h h m c d side ∙ grind arith ∙ sym (old_side x o), ap (λ y. count y then_open) g ∙ not_open h w.none_new.0)

  at_d : (x : ℕ) → Old x → next x ≡ d → (side' (F x) ≡ side' x) × (count (F x) then_open ≡ 0)
  at_d x o e =
      let g : F x ≡ m = as_mev x o ∙ mev_at_d next h m c d x (w.fresh x o).0 (w.fresh x o).1 w.places_apart e in
      let t : side d ≡ not (side x) = ap side (sym e) ∙ s.across x o (subst (λ y. IsIn y before) (sym e) (omega (arith, w.closed d, tick_same d))) in
      (ap side' g ∙ side_m h m c d side w.new_apart ∙ sym (grind arith) ∙ sym (old_side x o), ap (λ y. count y then_open) g ∙ not_open m w.none_new.1)

  at_h : (side' (F h) ≡ side' h) × (count (F h) then_open ≡ 0)
  at_h = grind (arith, splice_at, mev_at_m, old_side, side_h, tick_same)

  at_m : (side' (F m) ≡ side' m) × (count (F m) then_open ≡ 0)
  at_m =
      let g : F m ≡ c = splice_at_other (after_mev next h m c d) h m ∙ mev_at_h next h m c d w.new_apart w.places_apart in
      (ap side' g ∙ old_side c w.c_old ∙ sym (side_m h m c d side w.new_apart), ap (λ y. count y then_open) g ∙ c_closed)

  abbrev Goes : ℕ → Type 0
  Goes x = (count (F x) then_open ≡ 0 → side' (F x) ≡ side' x) × (IsIn (F x) then_open → side' (F x) ≡ not (side' x))

  closed_there : (x : ℕ) → (side' (F x) ≡ side' x) × (count (F x) then_open ≡ 0) → Goes x
  closed_there x e = ((λ z. e.0), (λ i. absurd (omega (arith, i, e.1))))

  elsewhere : (x : ℕ) → Old x → next x ≢ c → next x ≢ d → Goes x
  elsewhere x o a b =
      let g : F x ≡ next x = as_mev x o ∙ mev_else next h m c d x (w.fresh x o).0 (w.fresh x o).1 a b in
      let t : side' (F x) ≡ side (next x) = ap side' g ∙ old_side (next x) (w.goes_on x o) in
      let n : count (next x) before ≡ count (F x) then_open = omega (arith, w.closed (next x), tick_other (next x) c a, tick_other (next x) d b) ∙ ap (λ y. count y then_open) (sym g) in (
        (λ z. t ∙ s.along x o (n ∙ z) ∙ sym (old_side x o)),
        (λ i. t ∙ s.across x o (omega (arith, i, n)) ∙ ap not (sym (old_side x o))),
      )

  goes : (x : ℕ) → New x → Goes x
  goes x o = elim (cases x o) [
    | inl old ↦ elim (eqb_tells (next x) c) [
      | inl e ↦ closed_there x (at_c x old e.1)
      | inr a ↦ elim (eqb_tells (next x) d) [ inl e ↦ closed_there x (at_d x old e.1) | inr b ↦ elsewhere x old a.1 b.1 ]
    ]
    | inr new ↦ grind (arith, closed_there, at_h, at_m)
  ]

  pub sides_close : Sided New (after_mef next h m c d) (with_sides h m c d side) then_open
  sides_close = record { along = λ x o. (goes x o).0; across = λ x o. (goes x o).1 }
