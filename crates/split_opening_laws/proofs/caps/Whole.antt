-- All strips joined: kemr of the first strip_riser parts their loop, and mfkrh makes a face of the ring; from the strips to the caps.
use Rattle.split_opening_laws.proofs.Prelude.{◌≡◌, ◌≢◌, ℕ, suc, ◌+◌, ◌-◌, ◌≤◌, List, [], ◌∷◌, ◌++◌, map, length, Some, None, is_some, unwrap_or, cond, refl, sym, ap, ◌∙◌, subst, arith, inl, inr, ◌<◌, reverse, take, get_or, eq-eqb, ne_eqb, append_assoc, take_all, cases_lt, length-reverse, map-append, count, IsIn, IsApart, canonical, rest, successor, plus, minus, half, Model, LoopRow, cycle, no_face, loop_of, face_of, solid_of, outer, cycle_of, tail, after, Sound, first_false, effect, kemr, mfkrh, cycle_or_lone, loop_to_face, count-append, tick_same, before_at, after_at, canonical-rotates, rest_same, rest_at, plus_row, code-half, mate_plus, mate_minus, map_one, get-put_here, put-put, put_same, face_row, successor_same, successor_head, successor_last, Kemr, Mfkrh, Kef, KemrGoes, MakeGoes, mfkrh_accepted, effect_keeps_sound, Around, apart_xs, loop_is, half_is, cycle_is, face_is, Leads, leads_first, leads_on, leads_one, leads_sound, next_last, Taken, numbers_after, without_rows, next_place, without_first, HasStrips, strip_riser, strip_loop, joined_loop, joined_part, capped, partings, joinings, cap_ops, take-suc, numbers_last}
use Rattle.euler_operators.specs.Table as table
use Rattle.euler_laws.proofs.kemr.KemrSound as parted
use Rattle.euler_laws.proofs.mekr.Mekr.{kemr_accepted}
use Rattle.split_opening_laws.proofs.caps.Joined.{canonical_run, gone_free, gone_below, joined_faces, joined_loops, joined_edges, at_first, at_else, next_joined}
use Rattle.split_opening_laws.proofs.strips.Whole.{all_lead}

-- some items make a cycle
some_cycle : (xs : List ℕ) (v : ℕ) → 1 ≤ length xs → cycle_or_lone xs v ≡ cycle (canonical xs)
some_cycle xs v e = grind arith

module _ (N : Model) (s : ℕ) (c : Taken) (hs : List ℕ) (w : HasStrips N s c hs) (n : ℕ) (all : length hs ≡ suc n) (sound : Sound (joined_part N c hs n)) where
  abbrev m : ℕ
  m = length hs

  abbrev P : Model
  P = joined_part N c hs n

  abbrev f1 : ℕ
  f1 = c.face + 1

  abbrev l1 : ℕ
  l1 = c.loop + 1

  abbrev F : ℕ
  F = c.face + m + 1

  abbrev L : ℕ
  L = c.loop + m + 1

  abbrev x : ℕ
  x = strip_riser c m 0

  -- the two caps' items
  abbrev lower : List ℕ
  lower = reverse hs

  abbrev upper : List ℕ
  upper = map minus (numbers_after c.edge m)

  abbrev ring : List ℕ
  ring = lower ++ plus x ∷ (upper ++ minus x ∷ [])

  loop_here : joined_loop c hs n ≡ ring
  loop_here = (λ i. reverse (take (sym all i) hs) ++ plus x ∷ (map minus (numbers_after c.edge (sym all i)) ++ minus (strip_riser c m (next_last m n (omega (arith, all)) i)) ∷ []))
      ∙ ap (λ xs. reverse xs ++ plus x ∷ (upper ++ minus x ∷ [])) (take_all m hs (omega arith))

  around : Around P l1 f1 ring
  around = record { sound = sound; at = at_first N s c hs w n ∙ ap (λ xs. Some (record { face = f1; content = cycle (canonical xs) })) loop_here }

  h_in : IsIn (plus x) ring
  h_in = omega (arith, count-append (plus x) lower (plus x ∷ (upper ++ minus x ∷ [])), tick_same (plus x))

  m_in : IsIn (minus x) ring
  m_in = omega (arith, count-append (minus x) lower (plus x ∷ (upper ++ minus x ∷ [])), count-append (minus x) upper (minus x ∷ []), tick_same (minus x))

  loop_h : loop_of P (plus x) ≡ l1
  loop_h = loop_is P l1 f1 ring around (plus x) h_in

  face_l1 : face_of P l1 ≡ f1
  face_l1 = face_is P l1 f1 ring around

  goes : KemrGoes P (plus x) L
  goes = record {
    h_there = half_is P l1 f1 ring around (plus x) h_in;
    loop_free = at_else N s c hs w n L (λ q. omega (arith, q, w.some)) ∙ gone_free N.loops l1 n L w.loop_free;
    one_loop = loop_h ∙ sym (ap (loop_of P) (mate_plus x) ∙ loop_is P l1 f1 ring around (minus x) m_in);
    loop_fits = w.loop_fits;
  }

  kemr_ok : first_false P (Kemr (half (plus x)) L) ≡ None
  kemr_ok = kemr_accepted P (half (plus x)) L sound (subst (λ h. KemrGoes P h L) (sym (code-half (plus x))) goes)

  -- ---- the loop parted

  apart : IsApart ring
  apart = apart_xs P l1 f1 ring around

  rest_h : rest (plus x) (cycle_of P (plus x)) ≡ upper ++ minus x ∷ lower
  rest_h = ap (rest (plus x)) (cycle_is P l1 f1 ring around (plus x) h_in)
      ∙ sym (rest_same (plus x) ring (canonical ring) (canonical-rotates ring) apart h_in)
      ∙ rest_at (plus x) lower (upper ++ minus x ∷ []) (omega (arith, apart (plus x), count-append (plus x) lower (plus x ∷ (upper ++ minus x ∷ [])), tick_same (plus x)))
      ∙ append_assoc upper (minus x ∷ []) lower

  none_upper : count (minus x) upper ≡ 0
  none_upper = omega (arith, apart (minus x), count-append (minus x) lower (plus x ∷ (upper ++ minus x ∷ [])), count-append (minus x) upper (minus x ∷ []), tick_same (minus x))

  abbrev lower_row : LoopRow
  lower_row = record { face = f1; content = cycle (canonical lower) }

  abbrev ring_row : LoopRow
  ring_row = record { face = f1; content = cycle (canonical upper) }

  abbrev upper_row : LoopRow
  upper_row = record { face = F; content = cycle (canonical upper) }

  abbrev K : Model
  K = record P {
    loops = table.put (table.put P.loops l1 lower_row) L ring_row;
    edges = table.remove P.edges x;
  }

  kemr_loops : (kemr P (plus x) L).loops ≡ K.loops
  kemr_loops = grind (arith, parted.loops_are, goes, loop_h, face_l1, some_cycle, length-reverse, mate_plus, rest_h, before_at, none_upper, after_at)

  kemr_is : effect P (Kemr (half (plus x)) L) ≡ K
  unfolding effect kemr
  kemr_is = ap (λ h. kemr P h L) (code-half (plus x)) ∙ (λ i. record P { loops = kemr_loops i; edges = table.remove P.edges ((plus_row x).0 i) })

  sound_K : Sound K
  sound_K = subst Sound kemr_is (effect_keeps_sound P (Kemr (half (plus x)) L) sound kemr_ok)

  -- ---- the ring made a face

  at_L : table.get K.loops L ≡ Some ring_row
  at_L = get-put_here (table.put P.loops l1 lower_row) L ring_row

  face_L : face_of K L ≡ f1
  face_L = face_row K L ring_row at_L

  face_row_1 : table.get K.faces f1 ≡ Some (record { solid = s; outer = l1 })
  face_row_1 = ap (λ t. table.get t f1) (joined_faces N s c hs w n) ∙ gone_below N.faces f1 n f1 (omega arith) ∙ w.faces 0 (omega (arith, w.some))

  solid_1 : solid_of K f1 ≡ s
  unfolding solid_of
  solid_1 = ap (λ o. (unwrap_or o no_face).solid) face_row_1

  makes : MakeGoes K L F
  unfolding outer
  makes = record {
    l_there = ap is_some at_L;
    face_free = ap (λ t. table.get t F) (joined_faces N s c hs w n) ∙ gone_free N.faces f1 n F w.face_free;
    is_ring = λ q. omega (arith, sym (sym (ap (λ o. (unwrap_or o no_face).outer) face_row_1) ∙ ap (outer K) (sym face_L) ∙ q), w.some);
    face_fits = w.face_fits;
  }

  abbrev X : Model
  X = capped N s c hs

  gives : (q : ℕ) (row : LoopRow) → q ≢ L → loop_to_face L F q row ≡ row
  gives q row ne = ap (λ b. cond b (record row { face = F }) row) (ne_eqb q L ne)

  given : loop_to_face L F L ring_row ≡ upper_row
  given = ap (λ b. cond b upper_row ring_row) (eq-eqb L L refl)

  before_last : n ≡ m - 1
  before_last = omega (arith, all)

  canonical_upper : canonical upper ≡ upper
  canonical_upper = subst (λ j. canonical (map minus (numbers_after c.edge j)) ≡ map minus (numbers_after c.edge j)) (sym all) (canonical_run c.edge n)

  loops_after : table.map_rows (loop_to_face L F) K.loops ≡ X.loops
  unfolding capped
  loops_after = map_one (loop_to_face L F) K.loops L ring_row at_L (λ q row ne at. gives q row ne)
      ∙ put-put (table.put P.loops l1 lower_row) L ring_row (loop_to_face L F L ring_row)
      ∙ ap (table.put (table.put P.loops l1 lower_row) L) given
      ∙ ap (λ t. table.put (table.put t l1 lower_row) L upper_row) (joined_loops N s c hs w n)
      ∙ ap (λ t. table.put t L upper_row) (put-put (without_rows N.loops (numbers_after l1 n)) l1 (record { face = f1; content = cycle (canonical (joined_loop c hs n)) }) lower_row)
      ∙ (λ i. table.put (table.put (without_rows N.loops (numbers_after l1 (before_last i))) l1 lower_row) L (record { face = F; content = cycle (canonical_upper i) }))
      ∙ refl

  faces_after : table.put K.faces F (record { solid = solid_of K (face_of K L); outer = L }) ≡ X.faces
  unfolding capped
  faces_after = (λ i. table.put (joined_faces N s c hs w n i) F (record { solid = (ap (solid_of K) face_L ∙ solid_1) i; outer = L }))
      ∙ ap (λ j. table.put (without_rows N.faces (numbers_after f1 j)) F (record { solid = s; outer = L })) before_last
      ∙ refl

  edges_after : K.edges ≡ X.edges
  unfolding capped
  edges_after = ap (λ t. table.remove t x) (joined_edges N s c hs w n)
      ∙ sym (without_first N.edges (numbers_after (c.edge + m + 1) n) x)
      ∙ ap (λ j. without_rows N.edges (numbers_after (c.edge + m) j)) (sym all)
      ∙ refl

  kept_after : (P.solids ≡ X.solids) × (P.vertices ≡ X.vertices)
  unfolding joined_part capped
  kept_after = (refl, refl)

  -- the two operators are accepted, and then there are two caps
  pub parting_leads : Leads P X (partings c m)
  unfolding effect mfkrh
  parting_leads = leads_first P K X (Kemr (half (plus x)) L) (Mfkrh L F ∷ []) kemr_ok kemr_is (leads_one K X (Mfkrh L F) (mfkrh_accepted K L F sound_K makes)
      (λ i. record { solids = kept_after.0 i; faces = faces_after i; loops = loops_after i; edges = edges_after i; vertices = kept_after.1 i }))

-- ---- a cycle has two strips at least: the mate of a single one would end where it starts

-- what follows an item in a loop of a model
after_in : (M : Model) (l f : ℕ) (xs : List ℕ) → Around M l f xs → (g : ℕ) → IsIn g xs → after M g ≡ successor xs g
unfolding after
after_in M l f xs a g i = ap (λ ys. successor ys g) (cycle_is M l f xs a g i) ∙ sym (successor_same g xs (canonical xs) (canonical-rotates xs) (apart_xs M l f xs a) i)

module _ (N : Model) (s : ℕ) (c : Taken) (hs : List ℕ) (sound : Sound N) (w : HasStrips N s c hs) (single : length hs ≡ 1) where
  abbrev a : ℕ
  a = get_or hs 0 0

  abbrev riser : ℕ
  riser = strip_riser c (length hs) 0

  abbrev strip : List ℕ
  strip = (a ∷ plus riser ∷ minus (c.edge + 1) ∷ []) ++ minus riser ∷ []

  strip_around : Around N (c.loop + 1) (c.face + 1) strip
  strip_around = grind (arith, w.loops, w.some, next_last)

  strip_apart : IsApart strip
  strip_apart = apart_xs N (c.loop + 1) (c.face + 1) strip strip_around

  a_in : IsIn a strip
  a_in = omega (arith, tick_same a)

  x_in : IsIn (minus riser) strip
  x_in = omega (arith, tick_same (minus riser), count-append (minus riser) (a ∷ plus riser ∷ minus (c.edge + 1) ∷ []) (minus riser ∷ []))

  after_x : after N (minus riser) ≡ a
  after_x = after_in N (c.loop + 1) (c.face + 1) strip strip_around (minus riser) x_in
      ∙ successor_last a (minus riser) (plus riser ∷ minus (c.edge + 1) ∷ []) (omega (arith, strip_apart (minus riser), tick_same (minus riser), count-append (minus riser) (a ∷ plus riser ∷ minus (c.edge + 1) ∷ []) (minus riser ∷ [])))

  no_single : ⊥
  no_single = sound.ends_differ a (half_is N (c.loop + 1) (c.face + 1) strip strip_around a a_in)
      (ap (tail N) (sym after_x) ∙ sound.ends_meet (minus riser) (half_is N (c.loop + 1) (c.face + 1) strip strip_around (minus riser) x_in) ∙ ap (tail N) (mate_minus riser)
      ∙ ap (tail N) (sym (after_in N (c.loop + 1) (c.face + 1) strip strip_around a a_in ∙ successor_head a (plus riser ∷ minus (c.edge + 1) ∷ minus riser ∷ [])))
      ∙ sound.ends_meet a (half_is N (c.loop + 1) (c.face + 1) strip strip_around a a_in))

pub two_strips : (N : Model) (s : ℕ) (c : Taken) (hs : List ℕ) → Sound N → HasStrips N s c hs → 2 ≤ length hs
two_strips N s c hs sound w = elim (cases_lt (length hs) 2) [
  | inl l ↦ absurd (no_single N s c hs sound w (omega (arith, l, w.some)))
  | inr l ↦ l
]

-- ---- from the strips to the caps, operator by operator

module _ (N : Model) (s : ℕ) (c : Taken) (hs : List ℕ) (sound : Sound N) (w : HasStrips N s c hs) where
  abbrev long : ℕ
  long = length hs

  -- before the first operator the first strip stands alone
  loop_alone : strip_loop c hs 0 ≡ joined_loop c hs 0
  loop_alone = ap (λ xs. reverse xs ++ plus (strip_riser c long 0) ∷ minus (c.edge + 1) ∷ minus (strip_riser c long (next_place long 0)) ∷ []) (sym (take-suc hs 0 0 (omega (arith, w.some))))

  first_alone : N ≡ joined_part N c hs 0
  unfolding joined_part
  first_alone = λ i. record N {
    loops = sym (put_same N.loops (c.loop + 1) (record { face = c.face + 1; content = cycle (canonical (joined_loop c hs 0)) })
        (w.loops 0 (omega (arith, w.some)) ∙ ap (λ xs. Some (record { face = c.face + 1; content = cycle (canonical xs) })) loop_alone)) i;
  }

  joinings_last : (n : ℕ) → joinings c long (suc n) ≡ joinings c long n ++ Kef (half (minus (c.edge + long + 1 + suc n))) ∷ []
  joinings_last n = ap (map (λ e. Kef (half (minus e)))) (numbers_last (c.edge + long + 1) n) ∙ map-append (λ e. Kef (half (minus e))) (numbers_after (c.edge + long + 1) n) ((c.edge + long + 1 + suc n) ∷ [])

  -- some strips joined
  pub joins : (n : ℕ) → n < long → Leads N (joined_part N c hs n) (joinings c long n)
  joins n l = all_lead (joined_part N c hs) (joinings c long) (λ i. Kef (half (minus (c.edge + long + 1 + suc i)))) (long - 1) joinings_last
      (λ i lt so. let t = next_joined N s c hs w i (omega (arith, lt)) so in leads_one _ _ _ t.0 t.1) N sound (record { accepted = tt; made = first_alone }) n (omega (arith, l))

  -- no operator is refused, and they leave two caps
  pub caps_lead : Leads N (capped N s c hs) (cap_ops c long)
  unfolding cap_ops
  caps_lead =
      let joined = joins (long - 1) (omega (arith, w.some)) in
      let P : Model = joined_part N c hs (long - 1) in
      leads_on N P (capped N s c hs) (joinings c long (long - 1)) (partings c long) joined (parting_leads N s c hs w (long - 1) (omega (arith, w.some)) (leads_sound N P (joinings c long (long - 1)) sound joined))

  pub capped_sound : Sound (capped N s c hs)
  capped_sound = leads_sound N (capped N s c hs) (cap_ops c long) sound caps_lead
