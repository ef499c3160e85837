-- What follows what in a model, once an edge is drawn or loops are joined.
use Rattle.split_drawing_laws.proofs.Prelude.{◌≡◌, ◌≢◌, ℕ, ◌++◌, None, is_some, sym, ap, ◌∙◌, subst, arith, ◌⊎◌, inl, inr, true≢false, ◌+◌, Bool, true, false, not, List, [], ◌∷◌, pos, refl, int_lt, eqb_tells, count, IsIn, IsApart, tick, head_or, IsRing, IsPath, mef_old, mef_new, mekr_ring, after_mef, edge_of, plus, minus, Model, items_of, loop_of, content, cycle_of, after, tail, point_of, Sound, Has, HasHalf, Point, Plane, height, is_on, ring_in, count-append, IsIn_or_not, tick_same, tick_other, next_is_successor, IsRing-mef, IsRing-mekr, IsRing-led_over_other, IsRing-splice_other, plus_row, minus_row, same_edge, mate_plus, plus_other, content_row, in-holds, cycle_there, cycle_sound, same_content, loop_there, row_elsewhere, get-put_other, level_is, light, none_free, half_after, none_else, start, Stays, DrawnIn, Sided, LiesOn, Parted}
use Rattle.euler_operators.specs.Table as table
use Rattle.split_drawing_laws.proofs.drawings.Drawn.{CanDraw, draw_sound, CanJoin, join_sound, face_drawn, loops_joined}
use Rattle.split_drawing_laws.proofs.drawings.Stays.{second_in, row_old, row_new, row_else, edges_are, row_joined, row_gone, row_other, joined_edges, draw_stays, join_stays, draw_tails, join_tails, stays_on, start_stays}
use Rattle.split_drawing_laws.proofs.drawings.Rings.{RingOf, Newer, ring_goes, ring_stays, ring_back, moved_after}
use Rattle.split_drawing_laws.proofs.loop_sides.Follows.{Closing, sides_close, with_sides, side_old}

-- a function that leads round each loop tells what follows what
rings_lead : (K : Model) (F : ℕ → ℕ) → Sound K → ((q : ℕ) → Has K.loops q → IsRing F (items_of (content K q))) → (x : ℕ) → HasHalf K x → after K x ≡ F x
unfolding after
rings_lead K F sound ring x there = sym (next_is_successor F (cycle_of K x) x (ring (loop_of K x) (loop_there K sound x there)) (cycle_there K sound x there))

-- the half-edges of a model with one edge more
new_cases : (M N : Model) (e : ℕ) → ((n : ℕ) → n ≢ e → table.get N.edges n ≡ table.get M.edges n) → (x : ℕ) → HasHalf N x → HasHalf M x ⊎ ((x ≡ plus e) ⊎ (x ≡ minus e))
new_cases M N e same x there = elim (eqb_tells (edge_of x) e) [
  | inl s ↦ elim (same_edge x (plus e) (s.1 ∙ sym (plus_row e).0)) [ inl a ↦ inr (inl a) | inr a ↦ inr (inr (a ∙ mate_plus e)) ]
  | inr s ↦ inl (ap is_some (sym (same (edge_of x) s.1)) ∙ there)
]

-- no half-edge of the model before is a new one
pub none_new : (M : Model) (e x : ℕ) → table.get M.edges e ≡ None → HasHalf M x → (x ≢ plus e) × (x ≢ minus e)
none_new M e x free there = grind (arith, row_elsewhere, plus_row, minus_row)

module _ (M : Model) (e c d : ℕ) (sound : Sound M) (free : table.get M.edges e ≡ None) where
  plus_in_no_loop : (q : ℕ) → count (plus e) (items_of (content M q)) ≡ 0
  plus_in_no_loop q = none_free M sound (plus e) (ap (table.get M.edges) (plus_row e).0 ∙ free) q

  minus_in_no_loop : (q : ℕ) → count (minus e) (items_of (content M q)) ≡ 0
  minus_in_no_loop q = none_free M sound (minus e) (ap (table.get M.edges) (minus_row e).0 ∙ free) q

  ring_of : (q : ℕ) → IsRing (after M) (items_of (content M q))
  ring_of q = (light M sound q).1

  -- a loop with neither corner is left alone
  other_ring : (q : ℕ) → q ≢ loop_of M c → q ≢ loop_of M d → IsRing (after_mef (after M) (plus e) (minus e) c d) (items_of (content M q))
  other_ring q a b = IsRing-splice_other _ (plus e) (minus e) (items_of (content M q)) (plus_in_no_loop q) (minus_in_no_loop q)
      (IsRing-led_over_other _ d (minus e) (items_of (content M q)) (none_else M sound d q b) (minus_in_no_loop q)
      (IsRing-led_over_other (after M) c (plus e) (items_of (content M q)) (none_else M sound c q a) (plus_in_no_loop q) (ring_of q)))

-- ---- an edge drawn

module _ (M : Model) (u k e f l : ℕ) (can : CanDraw M u k e f l) where
  abbrev K : Model
  K = face_drawn M u k e f l

  two_rings : IsRing (after_mef (after M) (plus e) (minus e) u k) (mef_old (plus e) u k (cycle_of M u)) × IsRing (after_mef (after M) (plus e) (minus e) u k) (mef_new (minus e) u k (cycle_of M u))
  two_rings = IsRing-mef (plus e) (minus e) u k (cycle_of M u) (cycle_sound M can.sound u can.u_there).apart (plus_other e)
      (plus_in_no_loop M e u k can.sound can.edge_free (loop_of M u)) (minus_in_no_loop M e u k can.sound can.edge_free (loop_of M u))
      (after M) (cycle_there M can.sound u can.u_there) (second_in M u k e f l can) (ring_of M e u k can.sound can.edge_free (loop_of M u))

  rings_drawn : (q : ℕ) → Has (face_drawn M u k e f l).loops q → IsRing (after_mef (after M) (plus e) (minus e) u k) (items_of (content (face_drawn M u k e f l) q))
  rings_drawn q there = elim (eqb_tells q (loop_of M u)) [
    | inl a ↦ subst (λ c. IsRing (after_mef (after M) (plus e) (minus e) u k) (items_of c)) (sym (ap (content K) a.1 ∙ content_row K (loop_of M u) _ (row_old M u k e f l can))) two_rings.0
    | inr a ↦ elim (eqb_tells q l) [
      | inl b ↦ subst (λ c. IsRing (after_mef (after M) (plus e) (minus e) u k) (items_of c)) (sym (ap (content K) b.1 ∙ content_row K l _ (row_new M u k e f l can))) two_rings.1
      | inr b ↦ subst (λ c. IsRing (after_mef (after M) (plus e) (minus e) u k) (items_of c)) (sym (same_content M K q (row_else M u k e f l can q a.1 b.1)))
          (other_ring M e u k can.sound can.edge_free q a.1 (λ s. a.1 (s ∙ sym can.one_loop)))
    ]
  ]

  pub after_drawn : (x : ℕ) → HasHalf (face_drawn M u k e f l) x → after (face_drawn M u k e f l) x ≡ after_mef (after M) (plus e) (minus e) u k x
  after_drawn x there = rings_lead K (after_mef (after M) (plus e) (minus e) u k) (draw_sound M u k e f l can) rings_drawn x there

  pub halves_drawn : (x : ℕ) → HasHalf (face_drawn M u k e f l) x → HasHalf M x ⊎ ((x ≡ plus e) ⊎ (x ≡ minus e))
  halves_drawn x there = new_cases M K e (λ n ne. ap (λ t. table.get t n) (edges_are M u k e f l can) ∙ get-put_other M.edges e _ n ne) x there

-- ---- two loops joined

module _ (M : Model) (c d e : ℕ) (can : CanJoin M c d e) where
  abbrev J : Model
  J = loops_joined M c d e

  in_one : (x : ℕ) → IsIn x (cycle_of M c) → IsIn x (cycle_of M d) → ⊥
  in_one x i j = can.loops_apart (sym (can.sound.one_loop x (loop_of M c) (in-holds x (content M (loop_of M c)) i)) ∙ can.sound.one_loop x (loop_of M d) (in-holds x (content M (loop_of M d)) j))

  apart_both : IsApart (cycle_of M c ++ cycle_of M d)
  apart_both x = grind (arith, IsIn_or_not, in_one, count-append, cycle_sound)

  joined_ring : IsRing (after_mef (after M) (plus e) (minus e) c d) (mekr_ring (plus e) (minus e) c d (cycle_of M c) (cycle_of M d))
  joined_ring = IsRing-mekr (after M) (plus e) (minus e) c d (cycle_of M c) (cycle_of M d) apart_both (cycle_there M can.sound c can.c_there) (cycle_there M can.sound d can.d_there) (plus_other e)
      (omega (arith, count-append (plus e) (cycle_of M c) (cycle_of M d), plus_in_no_loop M e c d can.sound can.edge_free (loop_of M c), plus_in_no_loop M e c d can.sound can.edge_free (loop_of M d)))
      (omega (arith, count-append (minus e) (cycle_of M c) (cycle_of M d), minus_in_no_loop M e c d can.sound can.edge_free (loop_of M c), minus_in_no_loop M e c d can.sound can.edge_free (loop_of M d)))
      (ring_of M e c d can.sound can.edge_free (loop_of M c)) (ring_of M e c d can.sound can.edge_free (loop_of M d))

  rings_joined : (q : ℕ) → Has (loops_joined M c d e).loops q → IsRing (after_mef (after M) (plus e) (minus e) c d) (items_of (content (loops_joined M c d e) q))
  rings_joined q there = elim (eqb_tells q (loop_of M c)) [
    | inl a ↦ subst (λ x. IsRing (after_mef (after M) (plus e) (minus e) c d) (items_of x)) (sym (ap (content J) a.1 ∙ content_row J (loop_of M c) _ (row_joined M c d e can))) joined_ring
    | inr a ↦ elim (eqb_tells q (loop_of M d)) [
      | inl b ↦ absurd (true≢false (sym there ∙ ap is_some (ap (table.get J.loops) b.1 ∙ row_gone M c d e can)))
      | inr b ↦ subst (λ x. IsRing (after_mef (after M) (plus e) (minus e) c d) (items_of x)) (sym (same_content M J q (row_other M c d e can q a.1 b.1)))
          (other_ring M e c d can.sound can.edge_free q a.1 b.1)
    ]
  ]

  pub after_joined : (x : ℕ) → HasHalf (loops_joined M c d e) x → after (loops_joined M c d e) x ≡ after_mef (after M) (plus e) (minus e) c d x
  after_joined x there = rings_lead J (after_mef (after M) (plus e) (minus e) c d) (join_sound M c d e can) rings_joined x there

  pub halves_joined : (x : ℕ) → HasHalf (loops_joined M c d e) x → HasHalf M x ⊎ ((x ≡ plus e) ⊎ (x ≡ minus e))
  halves_joined x there = new_cases M J e (λ n ne. ap (λ t. table.get t n) (joined_edges M c d e can) ∙ get-put_other M.edges e _ n ne) x there

-- ---- the sides of half-edges as a pair is joined, as an edge is drawn, and as a ring is moved

-- a point on the plane lies on both closed sides
pub on_both : (p : Plane) (q : Point) → is_on p q ≡ true → (b : Bool) → LiesOn p b q
on_both p q e true = ap (λ n. int_lt n (pos 0)) (level_is (height p q) e)
on_both p q e false = ap (int_lt (pos 0)) (level_is (height p q) e)

-- what is asked of the two open places c and d that are closed: `places` are open before and `rest` after
pub record Opposed (B : Model) (p : Plane) (first : ℕ → Bool) (c d : ℕ) (places rest : List ℕ) : Type 0 where
  pub c_there : HasHalf B c
  pub d_there : HasHalf B d
  pub apart : c ≢ d
  pub c_on : is_on p (start B c) ≡ true
  pub d_on : is_on p (start B d) ≡ true
  pub sides : first c ≡ not (first d)
  pub places_there : (x : ℕ) → IsIn x places → HasHalf B x
  pub places_apart : IsApart places
  pub closed : (x : ℕ) → count x places ≡ count x rest + tick x c + tick x d

-- ---- one edge more, between c and d

module _ (B N K : Model) (p : Plane) (first : ℕ → Bool) (OfSolid : ℕ → Type 0) (c d e : ℕ) (places rest : List ℕ)
    (sound : Sound N) (free : table.get N.edges e ≡ None) (o : Opposed B p first c d places rest) (w : Parted B N p first OfSolid places) (stays : Stays N K)
    (leads : (x : ℕ) → HasHalf K x → after K x ≡ after_mef (after N) (plus e) (minus e) c d x)
    (cases : (x : ℕ) → HasHalf K x → HasHalf N x ⊎ ((x ≡ plus e) ⊎ (x ≡ minus e)))
    (tails : (tail K (plus e) ≡ tail N c) × (tail K (minus e) ≡ tail N d)) where
  none_counted : (x : ℕ) → (HasHalf N x → ⊥) → count x places ≡ 0
  none_counted x never = elim (IsIn_or_not x places) [ inl i ↦ absurd (never (w.stays.halves x (o.places_there x i))) | inr n ↦ n ]

  closing : Closing (HasHalf N) (after N) w.side (plus e) (minus e) c d places rest
  closing = record {
    new_apart = plus_other e;
    places_apart = o.apart;
    fresh = λ x there. none_new N e x free there;
    goes_on = half_after N sound;
    c_old = w.stays.halves c o.c_there;
    d_old = w.stays.halves d o.d_there;
    apart = o.places_apart;
    none_new = (none_counted (plus e) (λ t. (none_new N e (plus e) free t).0 refl), none_counted (minus e) (λ t. (none_new N e (minus e) free t).1 refl));
    closed = o.closed;
    sides = w.kept c o.c_there ∙ o.sides ∙ ap not (sym (w.kept d o.d_there));
  }

  led : Sided (HasHalf K) (after_mef (after N) (plus e) (minus e) c d) (with_sides (plus e) (minus e) c d w.side) rest
  led = sides_close (HasHalf N) (HasHalf K) (after N) w.side (plus e) (minus e) c d places rest closing w.sided cases

  to_now : Stays B K
  to_now = stays_on B N K w.stays stays

  -- a new half-edge starts where c or d does, on the plane
  on_plane : (x y : ℕ) → HasHalf B y → tail K x ≡ tail N y → is_on p (start B y) ≡ true → is_on p (start K x) ≡ true
  on_plane x y there same on = ap (is_on p) (ap (point_of K) (same ∙ w.stays.tails y there ∙ sym (to_now.tails y there)) ∙ start_stays B K to_now y there) ∙ on

  level_now : (h : ℕ) → HasHalf K h → OfSolid h → LiesOn p (with_sides (plus e) (minus e) c d w.side h) (start K h)
  level_now h there mine = elim (cases h there) [
    | inl old ↦
        let f = none_new N e h free old in
        let s : start K h ≡ start N h = start_stays N K stays h old in
        subst (λ b. LiesOn p b (start K h)) (sym (side_old (plus e) (minus e) c d w.side h f.0 f.1)) (subst (LiesOn p (w.side h)) (sym s) (w.level h old mine))
    | inr new ↦ grind (arith, on_both, on_plane, with_sides)
  ]

  pub parted_more : Parted B K p first OfSolid rest
  parted_more = record {
    stays = to_now;
    side = with_sides (plus e) (minus e) c d w.side;
    kept = λ h there. let f = none_new N e h free (w.stays.halves h there) in side_old (plus e) (minus e) c d w.side h f.0 f.1 ∙ w.kept h there;
    sided = record {
      along = λ x there z. ap (with_sides (plus e) (minus e) c d w.side) (leads x there) ∙ led.along x there (ap (λ y. count y rest) (sym (leads x there)) ∙ z);
      across = λ x there i. ap (with_sides (plus e) (minus e) c d w.side) (leads x there) ∙ led.across x there (subst (λ y. IsIn y rest) (leads x there) i);
    };
    level = level_now;
  }

-- an edge drawn
pub parted_drawn : (B N : Model) (p : Plane) (first : ℕ → Bool) (OfSolid : ℕ → Type 0) (u k e f l : ℕ) (places rest : List ℕ) →
    CanDraw N u k e f l → Opposed B p first u k places rest → Parted B N p first OfSolid places → Parted B (face_drawn N u k e f l) p first OfSolid rest
parted_drawn B N p first OfSolid u k e f l places rest can o w = grind (arith, parted_more, draw_stays, after_drawn, halves_drawn, draw_tails)

-- two loops joined
pub parted_joined : (B N : Model) (p : Plane) (first : ℕ → Bool) (OfSolid : ℕ → Type 0) (c d e : ℕ) (places rest : List ℕ) →
    CanJoin N c d e → Opposed B p first c d places rest → Parted B N p first OfSolid places → Parted B (loops_joined N c d e) p first OfSolid rest
parted_joined B N p first OfSolid c d e places rest can o w = grind (arith, parted_more, join_stays, after_joined, halves_joined, join_tails)

-- a ring moved
module _ (M B N : Model) (p : Plane) (first : ℕ → Bool) (OfSolid : ℕ → Type 0) (f l k : ℕ) (places : List ℕ) (drawn : DrawnIn M N f) (ring : RingOf N f l) (newer : Newer M N f k)
    (w : Parted B N p first OfSolid places) where
  old_half : (x : ℕ) → HasHalf (ring_in N l k) x → HasHalf N x
  old_half x there = ring_back N l k drawn.sound (ring_goes M N f l k drawn ring newer) x there

  leads_same : (x : ℕ) → HasHalf (ring_in N l k) x → after (ring_in N l k) x ≡ after N x
  leads_same x there = moved_after M N f l k drawn ring newer x (old_half x there)

  pub parted_moved : Parted B (ring_in N l k) p first OfSolid places
  parted_moved = record {
    stays = stays_on B N (ring_in N l k) w.stays (ring_stays N l k drawn.sound (ring_goes M N f l k drawn ring newer));
    side = w.side;
    kept = w.kept;
    sided = record {
      along = λ x there z. ap w.side (leads_same x there) ∙ w.sided.along x (old_half x there) (ap (λ y. count y places) (sym (leads_same x there)) ∙ z);
      across = λ x there i. ap w.side (leads_same x there) ∙ w.sided.across x (old_half x there) (subst (λ y. IsIn y places) (leads_same x there) i);
    };
    level = λ h there mine. subst (LiesOn p (w.side h)) (sym (start_stays N (ring_in N l k) (ring_stays N l k drawn.sound (ring_goes M N f l k drawn ring newer)) h (old_half h there))) (w.level h (old_half h there) mine);
  }

-- ---- no place is open

path_constant : (next : ℕ → ℕ) (side : ℕ → Bool) (xs : List ℕ) (d : ℕ) → IsPath next xs d → ((x : ℕ) → IsIn x xs → side (next x) ≡ side x) →
    (side (head_or d xs) ≡ side d) × ((z : ℕ) → IsIn z xs → side z ≡ side d)
path_constant next side [] d path stays = (refl, λ z i. absurd (omega (arith, i)))
path_constant next side (x ∷ xs) d path stays = grind (arith, tick_same, tick_other, path_constant next side xs d path.1 (λ z i. stays z (omega (arith, i))))

module _ (B N : Model) (p : Plane) (first : ℕ → Bool) (OfSolid : ℕ → Type 0) (sound : Sound N) (w : Parted B N p first OfSolid []) where
  half_in : (x z : ℕ) → IsIn z (cycle_of N x) → HasHalf N z
  half_in x z i = sound.only_edges z (loop_of N x) (in-holds z (content N (loop_of N x)) i)

  -- the half-edges of a loop are on one side
  pub loop_on_one_side : (x y : ℕ) → HasHalf N x → HasHalf N y → loop_of N x ≡ loop_of N y → w.side x ≡ w.side y
  loop_on_one_side x y xt yt same =
      let r = path_constant (after N) w.side (cycle_of N x) (head_or 0 (cycle_of N x)) (light N sound (loop_of N x)).1 (λ z i. w.sided.along z (half_in x z i) refl) in
      r.1 x (cycle_there N sound x xt) ∙ sym (r.1 y (subst (λ q. IsIn y (items_of (content N q))) (sym same) (cycle_there N sound y yt)))

  -- so they all start on the one closed side or all on the other
  pub corners_on_one_side : (x y : ℕ) → HasHalf N x → HasHalf N y → loop_of N x ≡ loop_of N y → OfSolid x → OfSolid y → (b : Bool) × LiesOn p b (start N x) × LiesOn p b (start N y)
  corners_on_one_side x y xt yt same mx my =
      (w.side y, subst (λ b. LiesOn p b (start N x)) (loop_on_one_side x y xt yt same) (w.level x xt mx), w.level y yt my)
