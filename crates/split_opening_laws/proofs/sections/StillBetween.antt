-- Once a solid is opened along a cycle, the other cycles of its section are still such.
use Rattle.split_opening_laws.proofs.Prelude.{◌≡◌, ◌≢◌, ℕ, ◌<◌, List, [], ◌∷◌, length, map, get_or, is_some, refl, sym, ap, subst, ◌∙◌, arith, ◌⊎◌, inl, inr, ◌+◌, ◌≤◌, true, false, ◌++◌, unwrap_or, true≢false, flat_map, map-append, get_or_default, eqb_tells, count, IsIn, IsApart, mate, edge_of, Model, tail, solid_of, loop_of, no_face, Sound, HasHalf, Has, face_at, lists, tick_same, count-append, IsIn_or_not, IsIn-get_or, Contains-from_in, from_map, mate-mate, row_of, mate_there, mate_there as half_mate, IsIn-map, in_use_within, halves_of_edge, other_last, listed-from_in, AreFree, Taken, numbers_after, next_place, opened_along, IsBelowHalf, IsSectionCycle, AreSectionCycles, AreApartCycles, halves_in, AreBetween, false_from_ne_true, none_in}
use Rattle.euler_operators.specs.Table as table
use Rattle.sweeps_laws.proofs.swept.Numbers.{next_within}
use Rattle.split_opening_laws.proofs.sections.OpenedRows.{solid_kept, face_kept, half_kept, tail_cases, tail_kept, half_cases, face_still, upper_row, mate_face, minus_face, plus_face}
use Rattle.split_opening_laws.proofs.cycles.Meets.{apart_before}

maps_agree : (f g : ℕ → ℕ) (xs : List ℕ) → ((x : ℕ) → IsIn x xs → f x ≡ g x) → map f xs ≡ map g xs
maps_agree f g [] e = refl
maps_agree f g (x ∷ xs) e = λ i. e x (omega (arith, tick_same x)) i ∷ maps_agree f g xs (λ y j. e y (omega (arith, j))) i

-- where a half of a cycle ends another one starts
follows : (M : Model) (above : List ℕ) (s : ℕ) (ds : List ℕ) → IsSectionCycle M above s ds → (d : ℕ) → IsIn d ds → (g : ℕ) × IsIn g ds × (tail M g ≡ tail M (mate d))
follows M above s ds w d i =
    let k = Contains-from_in d ds i in
    let e : get_or ds k.0 0 ≡ d = get_or_default ds k.0 0 d k.1 ∙ k.2 in
    let n : next_place (length ds) k.0 < length ds = next_within (length ds) k.0 k.1 in
    (get_or ds (next_place (length ds) k.0) 0, IsIn-get_or ds (next_place (length ds) k.0) 0 n, w.meet k.0 k.1 ∙ ap (λ x. tail M (mate x)) e)

module _ (M : Model) (above : List ℕ) (s : ℕ) (c : Taken) (bs : List ℕ) (sound : Sound M) (free : AreFree M c) (first : IsSectionCycle M above s bs) where
  abbrev N : Model
  N = opened_along M above s c bs

  abbrev vertices : List ℕ
  vertices = map (tail M) bs

  -- the mates of the cycle start at its vertices
  mate_vertex : (b : ℕ) → IsIn b bs → IsIn (tail M (mate b)) vertices
  mate_vertex b i = let r = follows M above s bs first b i in subst (λ v. IsIn v vertices) r.2 (IsIn-map (tail M) r.0 bs r.1)

  -- what starts elsewhere is no mate of the cycle, nor is its mate
  pub no_mate : (h : ℕ) → count (tail M h) vertices ≡ 0 → count h (map mate bs) ≡ 0
  no_mate h z = none_in h (map mate bs) (λ i. let r = from_map mate h bs i in omega (arith, z, ap (λ x. count (tail M x) vertices) r.2, mate_vertex r.0 r.1))

  pub no_mates_mate : (h : ℕ) → count (tail M h) vertices ≡ 0 → count (mate h) (map mate bs) ≡ 0
  no_mates_mate h z = elim (IsIn_or_not (mate h) (map mate bs)) [
    | inl i ↦ grind (arith, from_map, mate-mate, IsIn-map)
    | inr n ↦ n
  ]

  -- the faces on both sides of an edge that starts elsewhere
  face_same : (h : ℕ) → HasHalf M h → count (tail M h) vertices ≡ 0 → face_at N h ≡ face_at M h
  face_same h t z = face_kept M above s c bs sound free h t (no_mate h z)

  mate_face_same : (h : ℕ) → HasHalf M h → count (tail M h) vertices ≡ 0 → face_at N (mate h) ≡ face_at M (mate h)
  mate_face_same h t z = face_kept M above s c bs sound free (mate h) (mate_there M h t) (no_mates_mate h z)

  -- ---- another cycle

  module _ (ds : List ℕ) (w : IsSectionCycle M above s ds) (elsewhere : (d : ℕ) → IsIn d ds → count (tail M d) (map (tail M) bs) ≡ 0) where
    pub start_same : (d : ℕ) → IsIn d ds → tail N d ≡ tail M d
    start_same d i = tail_kept M above s c bs sound free d (w.halves d i).there (elsewhere d i)

    pub end_same : (d : ℕ) → IsIn d ds → tail N (mate d) ≡ tail M (mate d)
    end_same d i =
        let r = follows M above s ds w d i in
        tail_kept M above s c bs sound free (mate d) (mate_there M d (w.halves d i).there) (sym (ap (λ v. count v vertices) r.2) ∙ elsewhere r.0 r.1)

    still_alone : (h b : ℕ) → HasHalf N h → IsIn b ds → tail N h ≡ tail N b → lists above (face_at N h) ≢ lists above (face_at N (mate h)) → IsIn h ds ⊎ IsIn (mate h) ds
    still_alone h b t i e ne = elim (half_cases M above s c bs sound free h t) [
      | inr new ↦ absurd (too_high new.1)
      | inl old ↦ elim (tail_cases M above s c bs sound free h old) [
        | inr l ↦ absurd (too_high l)
        | inl k ↦
            let same : tail M h ≡ tail M b = sym k ∙ e ∙ start_same b i in
            let z : count (tail M h) vertices ≡ 0 = ap (λ v. count v vertices) same ∙ elsewhere b i in
            w.no_branch h b old i same (λ q. ne (ap (lists above) (face_same h old z) ∙ q ∙ sym (ap (lists above) (mate_face_same h old z))))
      ]
    ] where
      too_high : c.vertex < tail N h → ⊥
      too_high l = absurd (omega (arith, l, e, start_same b i, in_use_within M.vertices c.vertex free.vertices (tail M b) (sound.tails_there b (w.halves b i).there)))

    still_below : (d : ℕ) → IsIn d ds → IsBelowHalf M above s d → IsBelowHalf N above s d
    still_below d i b = record {
      there = half_kept M above s c bs sound free d b.there;
      of_solid = ap (solid_of N) (face_same d b.there (elsewhere d i))
          ∙ solid_kept M above s c bs sound free (face_at M d) (sound.loops_of_faces (loop_of M d) (ap is_some (row_of M sound d b.there))) ∙ b.of_solid;
      below = ap (lists above) (face_same d b.there (elsewhere d i)) ∙ b.below;
      mate_above = ap (lists above) (mate_face_same d b.there (elsewhere d i)) ∙ b.mate_above;
    }

    pub stays_cycle : IsSectionCycle (opened_along M above s c bs) above s ds
    stays_cycle = record {
      two_halves = w.two_halves;
      halves = λ d i. still_below d i (w.halves d i);
      meet = λ k l. start_same (get_or ds (next_place (length ds) k) 0) (IsIn-get_or ds (next_place (length ds) k) 0 (next_within (length ds) k l)) ∙ w.meet k l ∙ sym (end_same (get_or ds k 0) (IsIn-get_or ds k 0 l));
      starts_apart = subst IsApart (sym (maps_agree (tail N) (tail M) ds start_same)) w.starts_apart;
      no_branch = still_alone;
    }

  -- ---- all others

  all_stay : (cs : List (List ℕ)) → AreSectionCycles M above s cs → ((d : ℕ) → IsIn d (flat_map (λ bs. bs) cs) → count (tail M d) (map (tail M) bs) ≡ 0) → AreSectionCycles N above s cs
  all_stay [] w e = tt
  all_stay (ds ∷ cs) w e = (
    stays_cycle ds w.0 (λ d i. e d (omega (arith, i, count-append d ds (flat_map (λ bs. bs) cs)))),
    all_stay cs w.1 (λ d i. e d (omega (arith, i, count-append d ds (flat_map (λ bs. bs) cs)))),
  )

  pub there_in : (cs : List (List ℕ)) → AreSectionCycles M above s cs → (d : ℕ) → IsIn d (flat_map (λ bs. bs) cs) → HasHalf M d
  there_in [] w d i = absurd (omega arith)
  there_in (ds ∷ cs) w d i = elim (IsIn_or_not d ds) [
    | inl j ↦ (w.0.halves d j).there
    | inr z ↦ there_in cs w.1 d (omega (arith, i, z, count-append d ds (flat_map (λ bs. bs) cs)))
  ]

-- the halves of the others start elsewhere
pub starts_elsewhere : (M : Model) (above : List ℕ) (s : ℕ) (bs : List ℕ) (cs : List (List ℕ)) → AreApartCycles M above s (bs ∷ cs) → (d : ℕ) → IsIn d (flat_map (λ bs. bs) cs) → count (tail M d) (map (tail M) bs) ≡ 0
starts_elsewhere M above s bs cs w d i = let rest : List ℕ = flat_map (λ bs. bs) cs in
    omega (arith, w.starts_apart (tail M d), ap (count (tail M d)) (map-append (tail M) bs rest), count-append (tail M d) (map (tail M) bs) (map (tail M) rest), IsIn-map (tail M) d rest i)

pub cycles_stay : (M : Model) (above : List ℕ) (s : ℕ) (c : Taken) (bs : List ℕ) (cs : List (List ℕ)) → Sound M → AreFree M c → AreApartCycles M above s (bs ∷ cs) → AreApartCycles (opened_along M above s c bs) above s cs
cycles_stay M above s c bs cs sound free w =
    let rest : List ℕ = flat_map (λ bs. bs) cs in
    let elsewhere : (d : ℕ) → IsIn d rest → count (tail M d) (map (tail M) bs) ≡ 0 = starts_elsewhere M above s bs cs w in
    record {
      cycles = all_stay M above s c bs sound free w.cycles.0 cs w.cycles.1 elsewhere;
      starts_apart = subst IsApart
          (sym (maps_agree (tail (opened_along M above s c bs)) (tail M) rest (λ d i. tail_kept M above s c bs sound free d (there_in M above s c bs sound free w.cycles.0 cs w.cycles.1 d i) (elsewhere d i))))
          (λ v. omega (arith, w.starts_apart v, ap (count v) (map-append (tail M) bs rest), count-append v (map (tail M) bs) (map (tail M) rest)));
    }

-- ---- what is between the upper faces and the others, once a solid is opened along one cycle of several

module _ (M : Model) (above : List ℕ) (s : ℕ) (c : Taken) (bs : List ℕ) (cs : List (List ℕ)) (fs : List ℕ)
    (sound : Sound M) (free : AreFree M c) (apart : AreApartCycles M above s (bs ∷ cs)) (upper_there : (f : ℕ) → lists fs f ≡ true → Has M.faces f)
    (between : AreBetween M fs (halves_in (bs ∷ cs))) (then_sound : Sound (opened_along M above s c bs)) where
  abbrev K : Model
  K = opened_along M above s c bs

  abbrev u : ℕ
  u = c.face + length bs + 1

  abbrev first : IsSectionCycle M above s bs
  first = apart.cycles.0

  in_first : (b : ℕ) → IsIn b bs → IsIn b (halves_in (bs ∷ cs))
  in_first b i = omega (arith, i, count-append b bs (halves_in cs))

  in_rest : (d : ℕ) → IsIn d (halves_in cs) → IsIn d (halves_in (bs ∷ cs))
  in_rest d i = omega (arith, i, count-append d bs (halves_in cs))

  upper_old : (f : ℕ) → lists fs f ≡ true → f ≤ c.face
  upper_old f l = in_use_within M.faces c.face free.faces f (upper_there f l)

  face_old : (h : ℕ) → HasHalf M h → face_at M h ≤ c.face
  face_old h t = in_use_within M.faces c.face free.faces (face_at M h) (sound.loops_of_faces (loop_of M h) (ap is_some (row_of M sound h t)))

  old_listed : (f : ℕ) → f ≤ c.face → lists (fs ++ u ∷ []) f ≡ lists fs f
  old_listed f l = other_last fs u f (λ e. absurd (omega (arith, l, e)))

  listed_same : (h : ℕ) → HasHalf M h → count h (map mate bs) ≡ 0 → lists (fs ++ u ∷ []) (face_at K h) ≡ lists fs (face_at M h)
  listed_same h t z = ap (lists (fs ++ u ∷ [])) (face_kept M above s c bs sound free h t z) ∙ old_listed (face_at M h) (face_old h t)

  -- no half of the cycle is a mate
  half_no_mate : (b : ℕ) → IsIn b bs → count b (map mate bs) ≡ 0
  half_no_mate b i = none_in b (map mate bs) (λ j. let r = from_map mate b bs j in true≢false (sym (between.mates_above r.0 (in_first r.0 r.1)) ∙ ap (λ x. lists fs (face_at M x)) (sym r.2) ∙ between.below b (in_first b i)))

  of_mate : (a : ℕ) → IsIn a (map mate bs) → HasHalf M a
  of_mate a i = let r = from_map mate a bs i in subst (HasHalf M) (sym r.2) (half_mate M r.0 (first.halves r.0 r.1).there)

  module _ (h : ℕ) (f : lists (fs ++ u ∷ []) (face_at K h) ≡ false) (g : lists (fs ++ u ∷ []) (face_at K (mate h)) ≡ true) where
    -- a half-edge round a cap lies in an upper face
    not_new : IsIn (edge_of h) (numbers_after c.edge (length bs)) → ⊥
    not_new i = elim (halves_of_edge h) [
      | inl p ↦
          let a = plus_face M above s c bs then_sound sound free (apart_before (tail M) bs first.starts_apart) of_mate (edge_of h) i in
          let r = from_map mate a.0 bs a.1 in
          true≢false (sym (ap (λ x. lists (fs ++ u ∷ []) (face_at K x)) p.0 ∙ ap (lists (fs ++ u ∷ [])) a.2 ∙ old_listed (face_at M a.0) (face_old a.0 (of_mate a.0 a.1))
          ∙ ap (λ x. lists fs (face_at M x)) r.2 ∙ between.mates_above r.0 (in_first r.0 r.1)) ∙ f)
      | inr p ↦
          let last = listed-from_in u (fs ++ u ∷ []) (omega (arith, count-append u fs (u ∷ []), tick_same u)) in
          true≢false (sym (ap (λ x. lists (fs ++ u ∷ []) (face_at K x)) p.0 ∙ ap (lists (fs ++ u ∷ [])) (minus_face M above s c bs then_sound (edge_of h) i) ∙ last) ∙ f)
    ]

    -- the mate of a mate lies below
    not_mate : IsIn h (map mate bs) → ⊥
    not_mate i =
        let r = from_map mate h bs i in
        true≢false (sym g ∙ ap (λ x. lists (fs ++ u ∷ []) (face_at K x)) (ap mate r.2 ∙ mate-mate r.0)
        ∙ listed_same r.0 (first.halves r.0 r.1).there (half_no_mate r.0 r.1) ∙ between.below r.0 (in_first r.0 r.1))

    -- and the mates lie in the cap below
    not_half : IsIn (mate h) (map mate bs) → ⊥
    not_half i = grind (arith, from_map, mate_face, other_last, false_from_ne_true, upper_old)

    old_between : HasHalf M h → count h (map mate bs) ≡ 0 → count (mate h) (map mate bs) ≡ 0 → IsIn h (halves_in cs)
    old_between t y z =
        let i : IsIn h (halves_in (bs ∷ cs)) = between.only h t (sym (listed_same h t y) ∙ f) (sym (listed_same (mate h) (half_mate M h t) z) ∙ g) in
        elim (IsIn_or_not h bs) [
          | inl j ↦ absurd (omega (arith, z, IsIn-map mate h bs j))
          | inr n ↦ omega (arith, i, n, count-append h bs (halves_in cs))
        ]

    still_only : HasHalf K h → IsIn h (halves_in cs)
    still_only t = elim (half_cases M above s c bs sound free h t) [
      | inr new ↦ absurd (not_new new.0)
      | inl old ↦ grind (arith, IsIn_or_not, not_mate, not_half, old_between)
    ]

  rest_there : (d : ℕ) → IsIn d (halves_in cs) → HasHalf M d
  rest_there = there_in M above s c bs sound free first cs apart.cycles.1

  pub still_between : AreBetween (opened_along M above s c bs) (fs ++ (c.face + length bs + 1) ∷ []) (halves_in cs)
  still_between = record {
    below = λ d i. listed_same d (rest_there d i) (no_mate M above s c bs sound free first d (starts_elsewhere M above s bs cs apart d i)) ∙ between.below d (in_rest d i);
    mates_above = λ d i. listed_same (mate d) (half_mate M d (rest_there d i)) (no_mates_mate M above s c bs sound free first d (starts_elsewhere M above s bs cs apart d i)) ∙ between.mates_above d (in_rest d i);
    only = λ h t f g. still_only h f g t;
  }

  pub still_there : (f : ℕ) → lists (fs ++ (c.face + length bs + 1) ∷ []) f ≡ true → Has K.faces f
  still_there f l = elim (eqb_tells f u) [
    | inl e ↦ ap is_some (ap (table.get K.faces) e.1 ∙ upper_row M above s c bs)
    | inr e ↦ let t = upper_there f (sym (other_last fs u f e.1) ∙ l) in ap is_some (face_still M above s c bs sound free f t) ∙ t
  ]

  pub still_of_solid : ((f : ℕ) → lists fs f ≡ true → solid_of M f ≡ s) → (f : ℕ) → lists (fs ++ (c.face + length bs + 1) ∷ []) f ≡ true → solid_of K f ≡ s
  unfolding solid_of
  still_of_solid of f l = elim (eqb_tells f u) [
    | inl e ↦ ap (λ o. (unwrap_or o no_face).solid) (ap (table.get K.faces) e.1 ∙ upper_row M above s c bs)
    | inr e ↦ let k = sym (other_last fs u f e.1) ∙ l in solid_kept M above s c bs sound free f (upper_there f k) ∙ of f k
  ]
