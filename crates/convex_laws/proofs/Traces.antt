-- What becomes of the half-edges of a drawn solid as it is opened: each keeps its face, and that of its mate or a cap lies beyond.
use Rattle.convex_laws.proofs.Prelude.{◌≡◌, ◌⊎◌, ℕ, ◌≤◌, List, [], ◌∷◌, ◌++◌, map, length, refl, sym, ap, subst, ◌∙◌, arith, true≢false, inl, inr, eqb_tells, length-map, map-append, Plane, IsApart, IsIn, canonical, count, tick, cycle_of, edge_of, items_of, mate, plus, Model, content, face_at, face_of, loop_of, tail, Sound, HasHalf, lists, IsApart-map, IsIn-map, IsIn_or_not, content_row, count-append, count-canonical, cycle_there, face_row, from_map, in-holds, mate-mate, mate_minus, mate_plus, mate_there, row_of, tick_other, tick_same, halves_of_edge, Caps, Opening, Taken, all_opened, finish, numbers_after, opened_along, start, AreSectionCycles, IsBelowHalf, CanBeOpenedInTurn, halves_in, opened_sound, can_open, new_caps, opened_next, openings_carry, face_kept, half_cases, loop_row, mate_face, minus_face, none_in}
use Rattle.split_opening_laws.specs.strips.Opened.{CanBeOpened}
use Rattle.split_opening_laws.proofs.sections.Numbered.{length-numbers_after, renamed_onto}
use Rattle.split_opening_laws.proofs.sections.StillBetween.{no_mate, no_mates_mate, starts_elsewhere, there_in}
use Rattle.split_laws.proofs.opened.Starts.{finish_old, start_old, swap, swapped}

in_last : (f : ℕ) (g : Caps → ℕ) (ks : List Caps) (k : Caps) → f ≡ g k → IsIn f (map g (ks ++ k ∷ []))
in_last f g ks k e = omega (arith, ap (count f) (map-append g ks (k ∷ [])), count-append f (map g ks) (map g (k ∷ [])), ap (λ x. count f (x ∷ [])) (sym e), tick_same f)

in_front : (f : ℕ) (g : Caps → ℕ) (ks : List Caps) (k : Caps) → IsIn f (map g ks) → IsIn f (map g (ks ++ k ∷ []))
in_front f g ks k i = omega (arith, i, ap (count f) (map-append g ks (k ∷ [])), count-append f (map g ks) (map g (k ∷ [])))

count_through : (f : ℕ → ℕ) (xs : List ℕ) (x : ℕ) → count x xs ≤ count (f x) (map f xs)
count_through f [] x = omega arith
count_through f (y ∷ ys) x = elim (eqb_tells x y) [
  | inl e ↦ omega (arith, count_through f ys x, ap (tick x) e.1, tick_same x, ap (λ z. tick (f x) (f z)) e.1, tick_same (f x))
  | inr e ↦ omega (arith, count_through f ys x, tick_other x y e.1)
]

-- ---- one opening

module _ (Y : Model) (above : List ℕ) (s : ℕ) (c : Taken) (bs : List ℕ) (w : CanBeOpened Y above s c bs) (Z_sound : Sound (opened_along Y above s c bs)) where
  abbrev O : Model
  O = opened_along Y above s c bs

  -- what stands in the place of a half-edge stands in its face
  in_place : (y : ℕ) → HasHalf Y y → face_at O (swap Y above s c bs w y) ≡ face_at Y y
  in_place y there =
      let f = swap Y above s c bs w in
      let row = loop_row Y above s c bs w.sound w.free (loop_of Y y) _ (row_of Y w.sound y there) in
      let stands : IsIn (f y) (canonical (map f (cycle_of Y y))) = omega (arith, IsIn-map f y (cycle_of Y y) (cycle_there Y w.sound y there), count-canonical (f y) (map f (cycle_of Y y))) in
      ap (face_of O) (Z_sound.one_loop (f y) (loop_of Y y) (in-holds (f y) (content O (loop_of Y y)) (subst (λ x. IsIn (f y) (items_of x)) (sym (content_row O (loop_of Y y) _ row)) stands)))
      ∙ face_row O (loop_of Y y) _ row

  never_mate : (b : ℕ) → IsIn b bs → count b (map mate bs) ≡ 0
  never_mate b i = none_in b (map mate bs) (λ j. let r = from_map mate b bs j in true≢false (sym (w.cycle.halves r.0 r.1).mate_above ∙ ap (λ x. lists above (face_at Y x)) (sym r.2) ∙ (w.cycle.halves b i).below))

  mates_apart : IsApart (map mate bs)
  mates_apart = IsApart-map mate bs (λ x i y j e. sym (mate-mate x) ∙ ap mate e ∙ mate-mate y) (λ x. omega (arith, count_through (tail Y) bs x, w.cycle.starts_apart (tail Y x)))

  -- an edge round the cap above: one half stands in the place of a mate
  record OnRim (k : ℕ) : Type 0 where
    low : ℕ
    listed : IsIn low bs
    place : swap Y above s c bs w (mate low) ≡ plus k

  on_rim : (k : ℕ) → IsIn k (numbers_after c.edge (length bs)) → OnRim k
  on_rim k i =
      let rim = numbers_after c.edge (length bs) in
      let r = renamed_onto (map mate bs) (map plus rim) mates_apart (length-map bs mate ∙ sym (length-map rim plus ∙ length-numbers_after c.edge (length bs))) (plus k) (IsIn-map plus k rim i) in
      let m = from_map mate r.0 bs r.1 in
      record { low = m.0; listed = m.1; place = ap (swap Y above s c bs w) (sym m.2) ∙ r.2 }

-- ---- from the drawn solid on

module _ (D : Model) (above : List ℕ) (s : ℕ) where
  -- half-edge h of Y stands for one of D: it stands in its face, and beyond lies the face of its mate, or a cap
  pub record IsTraced (Y : Model) (ks : List Caps) (h : ℕ) : Type 0 where
    pub half : ℕ
    pub there : HasHalf D half
    pub starts : start Y h ≡ start D half
    pub ends : finish Y h ≡ finish D half
    pub here : face_at Y h ≡ face_at D half
    pub beyond : (face_at Y (mate h) ≡ face_at D (mate half)) ⊎ ((IsBelowHalf D above s half × IsIn (face_at Y (mate h)) (map (λ k. k.lower) ks)) ⊎ (IsBelowHalf D above s (mate half) × IsIn (face_at Y (mate h)) (map (λ k. k.upper) ks)))

  -- a half-edge of a cycle that is still to come is as it was
  record IsIntact (Y : Model) (b : ℕ) : Type 0 where
    below : IsBelowHalf D above s b
    starts : start Y b ≡ start D b
    ends : finish Y b ≡ finish D b
    here : face_at Y b ≡ face_at D b
    beyond : face_at Y (mate b) ≡ face_at D (mate b)

  pub record AreTraced (o : Opening) (cs : List (List ℕ)) : Type 0 where
    intact : (b : ℕ) → IsIn b (halves_in cs) → IsIntact o.model b
    pub traced : (h : ℕ) → HasHalf o.model h → IsTraced o.model o.caps h ⊎ IsTraced o.model o.caps (mate h)

  module _ (p : Plane) (o : Opening) (bs : List ℕ) (cs : List (List ℕ)) (w : CanBeOpenedInTurn above s o (bs ∷ cs)) (a : AreTraced o (bs ∷ cs)) where
    abbrev Y : Model
    Y = o.model

    abbrev c : Taken
    c = o.taken

    abbrev Z : Model
    Z = opened_along Y above s c bs

    abbrev ks : List Caps
    ks = o.caps ++ new_caps p o bs ∷ []

    can : CanBeOpened Y above s c bs
    can = can_open above s o bs cs w

    Z_sound : Sound Z
    Z_sound = opened_sound Y above s c bs can

    kept : (h : ℕ) → HasHalf Y h → count h (map mate bs) ≡ 0 → face_at Z h ≡ face_at Y h
    kept h there none = face_kept Y above s c bs can.sound can.free h there none

    later : (b : ℕ) → IsIn b (halves_in cs) → IsIntact Z b
    later b i =
        let was = a.intact b (omega (arith, i, count-append b bs (halves_in cs))) in
        let z = starts_elsewhere Y above s bs cs w.cycles b i in
        let there : HasHalf Y b = there_in Y above s c bs can.sound can.free can.cycle cs w.cycles.cycles.1 b i in
        record {
          below = was.below;
          starts = start_old Y above s c bs can b there ∙ was.starts;
          ends = finish_old Y above s c bs can b there ∙ was.ends;
          here = kept b there (no_mate Y above s c bs can.sound can.free can.cycle b z) ∙ was.here;
          beyond = kept (mate b) (mate_there Y b there) (no_mates_mate Y above s c bs can.sound can.free can.cycle b z) ∙ was.beyond;
        }

    below_traced : (b : ℕ) → IsIn b bs → IsTraced Z ks b
    below_traced b i =
        let was = a.intact b (omega (arith, i, count-append b bs (halves_in cs))) in
        let there = (can.cycle.halves b i).there in
        record {
          half = b;
          there = was.below.there;
          starts = start_old Y above s c bs can b there ∙ was.starts;
          ends = finish_old Y above s c bs can b there ∙ was.ends;
          here = kept b there (never_mate Y above s c bs can Z_sound b i) ∙ was.here;
          beyond = inr (inl (was.below, in_last (face_at Z (mate b)) (λ k. k.lower) o.caps (new_caps p o bs) (mate_face Y above s c bs Z_sound (mate b) (IsIn-map mate b bs i))));
        }

    rim_traced : (k : ℕ) → IsIn k (numbers_after c.edge (length bs)) → IsTraced Z ks (plus k)
    rim_traced k i =
        let r = on_rim Y above s c bs can Z_sound k i in
        let b = r.low in
        let was = a.intact b (omega (arith, r.listed, count-append b bs (halves_in cs))) in
        let there : HasHalf Y (mate b) = mate_there Y b (can.cycle.halves b r.listed).there in
        let ends = swapped Y above s c bs can (mate b) there in
        record {
          half = mate b;
          there = mate_there D b was.below.there;
          starts = ap (start Z) (sym r.place) ∙ ends.0 ∙ was.ends;
          ends = ap (finish Z) (sym r.place) ∙ ends.1 ∙ ap (start Y) (mate-mate b) ∙ was.starts ∙ ap (start D) (sym (mate-mate b));
          here = ap (face_at Z) (sym r.place) ∙ in_place Y above s c bs can Z_sound (mate b) there ∙ was.beyond;
          beyond = inr (inr (
            subst (IsBelowHalf D above s) (sym (mate-mate b)) was.below,
            in_last (face_at Z (mate (plus k))) (λ x. x.upper) o.caps (new_caps p o bs) (ap (face_at Z) (mate_plus k) ∙ minus_face Y above s c bs Z_sound k i),
          ));
        }

    still_traced : (h : ℕ) → HasHalf Y h → count h (map mate bs) ≡ 0 → count (mate h) (map mate bs) ≡ 0 → IsTraced Y o.caps h → IsTraced Z ks h
    still_traced h there none none_too t =
        let far : face_at Z (mate h) ≡ face_at Y (mate h) = kept (mate h) (mate_there Y h there) none_too in
        record {
          half = t.half;
          there = t.there;
          starts = start_old Y above s c bs can h there ∙ t.starts;
          ends = finish_old Y above s c bs can h there ∙ t.ends;
          here = kept h there none ∙ t.here;
          beyond = elim t.beyond [
            | inl e ↦ inl (far ∙ e)
            | inr l ↦ inr (elim l [
              | inl x ↦ inl (x.0, subst (λ f. IsIn f (map (λ k. k.lower) ks)) (sym far) (in_front (face_at Y (mate h)) (λ k. k.lower) o.caps (new_caps p o bs) x.1))
              | inr x ↦ inr (x.0, subst (λ f. IsIn f (map (λ k. k.upper) ks)) (sym far) (in_front (face_at Y (mate h)) (λ k. k.upper) o.caps (new_caps p o bs) x.1))
            ])
          ];
        }

    abbrev Either : ℕ → Type 0
    Either h = IsTraced Z ks h ⊎ IsTraced Z ks (mate h)

    old_traced : (h : ℕ) → HasHalf Y h → Either h
    old_traced h there = elim (IsIn_or_not h (map mate bs)) [
      | inl i ↦ let r = from_map mate h bs i in inr (subst (IsTraced Z ks) (sym (ap mate r.2 ∙ mate-mate r.0)) (below_traced r.0 r.1))
      | inr none ↦ elim (IsIn_or_not (mate h) (map mate bs)) [
        | inl i ↦ let r = from_map mate (mate h) bs i in inl (subst (IsTraced Z ks) (sym (sym (mate-mate h) ∙ ap mate r.2 ∙ mate-mate r.0)) (below_traced r.0 r.1))
        | inr none_too ↦ elim (a.traced h there) [
          | inl t ↦ inl (still_traced h there none none_too t)
          | inr t ↦ inr (still_traced (mate h) (mate_there Y h there) none_too (ap (λ x. count x (map mate bs)) (mate-mate h) ∙ none) t)
        ]
      ]
    ]

    all_traced : (h : ℕ) → HasHalf Z h → Either h
    all_traced h there = elim (half_cases Y above s c bs can.sound can.free h there) [
      | inl old ↦ old_traced h old
      | inr r ↦ elim (halves_of_edge h) [
        | inl e ↦ inl (subst (IsTraced Z ks) (sym e.0) (rim_traced (edge_of h) r.0))
        | inr e ↦ inr (subst (IsTraced Z ks) (sym (ap mate e.0 ∙ mate_minus (edge_of h))) (rim_traced (edge_of h) r.0))
      ]
    ]

    traced_on : AreTraced (opened_next p above s o bs) cs
    traced_on = record { intact = later; traced = all_traced }

  belows : (cs : List (List ℕ)) → AreSectionCycles D above s cs → (b : ℕ) → IsIn b (halves_in cs) → IsBelowHalf D above s b
  belows [] each b i = absurd (omega (arith, i))
  belows (bs ∷ cs) each b i = elim (IsIn_or_not b bs) [
    | inl j ↦ each.0.halves b j
    | inr z ↦ belows cs each.1 b (omega (arith, i, z, count-append b bs (halves_in cs)))
  ]

  pub openings_traced : (p : Plane) (taken : Taken) (cs : List (List ℕ)) → CanBeOpenedInTurn above s (record { model = D; taken = taken; caps = [] }) cs → AreTraced (all_opened p above s (record { model = D; taken = taken; caps = [] }) cs) []
  openings_traced p taken cs w = openings_carry above s p AreTraced (traced_on p) (record { model = D; taken = taken; caps = [] }) cs w (record {
    intact = λ b i. record { below = belows cs w.cycles.cycles b i; starts = refl; ends = refl; here = refl; beyond = refl };
    traced = λ h there. inl (record { half = h; there = there; starts = refl; ends = refl; here = refl; beyond = inl refl });
  })
