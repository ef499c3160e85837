-- The two faces of a lamina.
use Rattle.command_laws.proofs.Prelude.{◌≡◌, ℕ, zero, suc, ◌+◌, ◌≤◌, ◌<◌, List, ◌∷◌, None, is_some, refl, sym, ap, subst, ◌∙◌, arith, inl, inr, length, map, reverse, take, map-append, reverse-append, nat_tests, eqb_tells, Point, canonical, plus, minus, Model, point_of, Sound, content_row, solid_row, outer_row, plus_tail_row, minus_tail_row, less_still, all_hold, start, Taken, taken_in, numbers_after, lamina_conditions, lamina_refusal, lamina_at, lamina_model, greatest-put_last, lamina_is_sound, HasFree, taken_free, nth, turned_back, IsFaceOf}
use Rattle.euler_operators.specs.Table as table
use Rattle.sweeps_laws.specs.lamina.Path.{out}
use Rattle.sweeps_laws.proofs.lamina.Lists.{plus_halves, minus_halves}
use Rattle.sweeps_laws.proofs.LaminaRows as rows
use Rattle.sweeps_laws.proofs.LaminaVolumes.{earlier, back_from_first}
use Rattle.command_laws.proofs.Outlines.{take_next, take_whole, points_are, plane_is}
use Rattle.command_laws.proofs.SweptLoops.{face_counted}
use Rattle.sweeps_laws.proofs.Block.{lamina_is}

-- ---- a lamina of the points a, b and others

module _ (M : Model) (c : Taken) (s : ℕ) (a b : Point) (rest : List Point) (has_free : HasFree M c) where
  abbrev ps : List Point
  ps = a ∷ b ∷ rest

  abbrev pub drawn : Model
  drawn = rows.drawn M c s ps

  abbrev halves : List ℕ
  halves = map plus (numbers_after c.edge (length ps))

  abbrev halves_back : List ℕ
  halves_back = canonical (reverse (map minus (numbers_after c.edge (length ps))))

  -- ---- where half-edges start

  plus_at : (i : ℕ) → i < suc (suc (length rest)) → start drawn (plus (c.edge + suc i)) ≡ nth ps i
  plus_at i l = elim (eqb_tells i (suc (length rest))) [
    | inl p ↦ subst (λ k. start drawn (plus (c.edge + suc k)) ≡ nth ps k) (sym p.1) (ap (point_of drawn) (plus_tail_row drawn (c.edge + suc (suc (length rest))) _ (rows.last_edge_at M c s ps)) ∙ rows.point_at M c s ps (suc (length rest)) (omega arith))
    | inr p ↦ ap (point_of drawn) (plus_tail_row drawn (c.edge + suc i) _ (rows.edge_at M c s ps i (omega (arith, less_still i (suc (length rest)) l p.1)))) ∙ rows.point_at M c s ps i l
  ]

  minus_at : (i : ℕ) → i < suc (length rest) → start drawn (minus (c.edge + suc i)) ≡ nth ps (suc i)
  minus_at i l = grind (arith, minus_tail_row drawn (c.edge + suc i), rows.edge_at M c s ps i, rows.point_at M c s ps (suc i))

  minus_last : start drawn (minus (c.edge + suc (suc (length rest)))) ≡ a
  minus_last = ap (point_of drawn) (minus_tail_row drawn (c.edge + suc (suc (length rest))) _ (rows.last_edge_at M c s ps)) ∙ rows.point_at M c s ps 0 (omega arith)

  out_starts : (k : ℕ) → k ≤ suc (suc (length rest)) → map (start drawn) (out c.edge k) ≡ take k ps
  out_starts zero m = refl
  out_starts (suc k) m = grind (arith, out_starts k (omega (arith, m)), map-append, plus_at, take_next)

  earlier_starts : (j : ℕ) → j ≤ length rest → map (start drawn) (earlier c.edge j) ≡ reverse (take j rest)
  earlier_starts zero m = refl
  earlier_starts (suc j) m = grind (arith, earlier_starts j (omega (arith, m)), minus_at, reverse-append, take_next)

  -- ---- the faces

  module _ (sound : Sound drawn) where
    pub one : IsFaceOf drawn (c.face + 1) s ps
    one =
        let out_is = outer_row drawn (c.face + 1) (rows.first_face M c s ps) (rows.face_one M c s ps) in
        let is = content_row drawn (c.loop + 1) (rows.first_loop M c s ps) (rows.loop_one M c s ps) in
        let told = points_are drawn (c.face + 1) (c.loop + 1) halves (rows.rings_one M c s ps has_free) out_is is ∙ ap (map (start drawn)) (plus_halves c.edge (length ps))
        ∙ out_starts (suc (suc (length rest))) (omega arith) ∙ take_whole ps in
        record {
          there = ap is_some (rows.face_one M c s ps);
          solid = solid_row drawn (c.face + 1) (rows.first_face M c s ps) (rows.face_one M c s ps);
          plain = rows.rings_one M c s ps has_free;
          points = told;
          plane = plane_is drawn (c.face + 1) (c.loop + 1) halves (rows.rings_one M c s ps has_free) out_is is sound (ap is_some (rows.loop_one M c s ps)) (omega arith) ps told;
        }

    back_is : halves_back ≡ minus (c.edge + 1) ∷ minus (c.edge + suc (suc (length rest))) ∷ earlier c.edge (length rest)
    back_is = ap canonical (minus_halves c.edge (length ps)) ∙ back_from_first c.edge (suc (length rest))

    pub two : IsFaceOf drawn (c.face + 2) s (turned_back ps)
    two =
        let out_is = outer_row drawn (c.face + 2) (rows.second_face M c s ps) (rows.face_two M c s ps) in
        let is = content_row drawn (c.loop + 2) (rows.second_loop M c s ps) (rows.loop_two M c s ps) in
        let told = points_are drawn (c.face + 2) (c.loop + 2) halves_back (rows.rings_two M c s ps has_free) out_is is ∙ ap (map (start drawn)) back_is
        ∙ (λ t. minus_at 0 (omega arith) t ∷ minus_last t ∷ (earlier_starts (length rest) (omega arith) ∙ ap reverse (take_whole rest)) t) in
        record {
          there = ap is_some (rows.face_two M c s ps);
          solid = solid_row drawn (c.face + 2) (rows.second_face M c s ps) (rows.face_two M c s ps);
          plain = rows.rings_two M c s ps has_free;
          points = told;
          plane = plane_is drawn (c.face + 2) (c.loop + 2) halves_back (rows.rings_two M c s ps has_free) out_is is sound (ap is_some (rows.loop_two M c s ps)) (subst (λ hs. 0 < length hs) (sym back_is) (omega arith)) (turned_back ps) told;
        }

pub greatest_drawn : (M : Model) (c : Taken) (s : ℕ) (ps : List Point) → table.greatest M.faces ≤ c.face → table.greatest (lamina_at M c s ps).faces ≡ c.face + 2
greatest_drawn M c s ps low = greatest-put_last (table.put M.faces (c.face + 1) (record { solid = s; outer = c.loop + 1 })) (c.face + 2) (record { solid = s; outer = c.loop + 2 })
    (omega (arith, greatest-put_last M.faces (c.face + 1) (record { solid = s; outer = c.loop + 1 }) (omega (arith, low))))

many_points : (M : Model) (s : ℕ) (ps : List Point) → lamina_refusal M s ps ≡ None → 3 ≤ length ps
unfolding lamina_conditions
many_points M s ps e = grind (arith, nat_tests, all_hold)

-- of any list of three points or more
two_faces : (M : Model) (s : ℕ) (ps : List Point) → 3 ≤ length ps → HasFree M (taken_in M) → Sound (lamina_at M (taken_in M) s ps) →
    IsFaceOf (lamina_at M (taken_in M) s ps) ((taken_in M).face + 1) s ps × IsFaceOf (lamina_at M (taken_in M) s ps) ((taken_in M).face + 2) s (turned_back ps)
two_faces M s (p ∷ q ∷ ps) many b sound = (one M (taken_in M) s p q ps b sound, two M (taken_in M) s p q ps b sound)
two_faces M s ps many b sound = absurd (omega arith)

pub lamina_faces : (M : Model) (s : ℕ) (ps : List Point) → Sound M → lamina_refusal M s ps ≡ None →
    IsFaceOf (lamina_model M s ps) ((taken_in M).face + 1) s ps × IsFaceOf (lamina_model M s ps) ((taken_in M).face + 2) s (turned_back ps)
lamina_faces M s ps sound goes = subst (λ N. IsFaceOf N ((taken_in M).face + 1) s ps × IsFaceOf N ((taken_in M).face + 2) s (turned_back ps)) (sym (lamina_is M s ps))
    (two_faces M s ps (many_points M s ps goes) (taken_free M sound) (subst Sound (lamina_is M s ps) (lamina_is_sound M s ps sound goes)))

pub lamina_counted : (M : Model) (s : ℕ) (ps : List Point) → table.greatest (lamina_model M s ps).faces ≡ table.greatest M.faces + 2
lamina_counted M s ps = ap (λ (N : Model). table.greatest N.faces) (lamina_is M s ps) ∙ greatest_drawn M (taken_in M) s ps (omega (arith, face_counted M)) ∙ ap (λ g. g + 2) (face_counted M)
