-- Numbers in a run, and the rows of such numbers that go.
use Rattle.split_opening_laws.proofs.Prelude.{◌≡◌, ◌≢◌, ℕ, suc, ◌+◌, ◌≤◌, ◌<◌, map, None, is_some, refl, sym, ap, ◌∙◌, arith, inl, inr, List, [], ◌∷◌, ◌++◌, length, Some, unwrap_or, subst, reverse, take, get_or, append_assoc, nat_tests, eqb_tells, take-suc, map-append, reverse-append, IsIn, IsApart, canonical, rest, minus, edge_of, mate, plus, half, Table, tables, same_table, Has, Sound, Model, cycle, no_face, loop_of, face_of, outer, cycle_of, face_at, first_false, effect, kef, Kef, count-append, tick_same, get-put_here, get-put_other, canonical-rotates, canonical_same, rest_same, rest_at, minus_row, code-half, mate_minus, same_face, from_map, IsIn_or_not, KefGoes, kef_accepted, Around, apart_xs, loop_is, half_is, cycle_is, face_is, numbers_after, Taken, without_rows, next_place, without_gone, without_more, without_there, canonical_first, numbers_last, next_inner, HasStrips, strip_riser, joined_loop, joined_part}
use Rattle.euler_operators.specs.Table as table
use Rattle.euler_laws.proofs.mef.KefSound as kill
use Rattle.split_opening_laws.proofs.sections.Numbered.{in_numbers, numbers_in}

-- ---- numbers

pub next_number : (k n : ℕ) → k + 1 + suc n ≡ k + suc (suc n)
next_number k n = omega arith

-- the halves of a run of edges stand in their canonical form
pub canonical_run : (k n : ℕ) → canonical (map minus (numbers_after k (suc n))) ≡ map minus (numbers_after k (suc n))
canonical_run k n = canonical_first (minus (k + 1)) (map minus (numbers_after (k + 1) n)) (λ y i. let m = from_map minus y (numbers_after (k + 1) n) i in omega (arith, m.2, (in_numbers (k + 1) n m.0 m.1).0))

-- ---- rows

module _ {X : Type 0} (t : Table X) (k n : ℕ) where
  -- one number more
  pub gone_more : without_rows t (numbers_after k (suc n)) ≡ table.remove (without_rows t (numbers_after k n)) (k + suc n)
  gone_more = ap (without_rows t) (numbers_last k n) ∙ without_more t (numbers_after k n) (k + suc n)

  -- the rows outside the run stay, those in it go
  pub gone_within : (q : ℕ) → k < q → q ≤ k + n → table.get (without_rows t (numbers_after k n)) q ≡ None
  gone_within q a b = without_gone t (numbers_after k n) q (numbers_in k n q a b)

  gone_else : (q : ℕ) → ((k < q) × (q ≤ k + n) → ⊥) → table.get (without_rows t (numbers_after k n)) q ≡ table.get t q
  gone_else q out = grind (arith, IsIn_or_not, in_numbers, without_there)

  pub gone_below : (q : ℕ) → q ≤ k → table.get (without_rows t (numbers_after k n)) q ≡ table.get t q
  gone_below q l = gone_else q (λ w. omega (arith, l, w.0))

  pub gone_above : (q : ℕ) → k + n < q → table.get (without_rows t (numbers_after k n)) q ≡ table.get t q
  gone_above q l = gone_else q (λ w. omega (arith, l, w.1))

  -- a free number stays free, and what is left is as it was
  pub gone_free : (q : ℕ) → table.get t q ≡ None → table.get (without_rows t (numbers_after k n)) q ≡ None
  gone_free q free = grind (arith, IsIn_or_not, without_gone, without_there)

  pub gone_back : (q : ℕ) → Has (without_rows t (numbers_after k n)) q → table.get (without_rows t (numbers_after k n)) q ≡ table.get t q
  gone_back q there = grind (arith, IsIn_or_not, without_gone, without_there)

-- ---- one strip more joined to the first ones: kef of the strip_riser between them

module _ (N : Model) (s : ℕ) (c : Taken) (hs : List ℕ) (w : HasStrips N s c hs) (n : ℕ) where
  -- the tables with some strips joined
  pub joined_faces : (joined_part N c hs n).faces ≡ without_rows N.faces (numbers_after (c.face + 1) n)
  unfolding joined_part
  joined_faces = refl

  pub joined_loops : (joined_part N c hs n).loops ≡ table.put (without_rows N.loops (numbers_after (c.loop + 1) n)) (c.loop + 1) (record { face = c.face + 1; content = cycle (canonical (joined_loop c hs n)) })
  unfolding joined_part
  joined_loops = refl

  pub joined_edges : (joined_part N c hs n).edges ≡ without_rows N.edges (numbers_after (c.edge + length hs + 1) n)
  unfolding joined_part
  joined_edges = refl

  pub at_first : table.get (joined_part N c hs n).loops (c.loop + 1) ≡ Some (record { face = c.face + 1; content = cycle (canonical (joined_loop c hs n)) })
  at_first = ap (λ t. table.get t (c.loop + 1)) joined_loops ∙ get-put_here _ (c.loop + 1) _

  pub at_else : (q : ℕ) → q ≢ c.loop + 1 → table.get (joined_part N c hs n).loops q ≡ table.get (without_rows N.loops (numbers_after (c.loop + 1) n)) q
  at_else q ne = ap (λ t. table.get t q) joined_loops ∙ get-put_other _ (c.loop + 1) _ q ne

module _ (N : Model) (s : ℕ) (c : Taken) (hs : List ℕ) (w : HasStrips N s c hs) (n : ℕ) (later : suc n < length hs) (sound : Sound (joined_part N c hs n)) where
  abbrev m : ℕ
  m = length hs

  abbrev P : Model
  P = joined_part N c hs n

  -- the first face and loop, those of the next strip, and the strip_riser between them
  abbrev f1 : ℕ
  f1 = c.face + 1

  abbrev l1 : ℕ
  l1 = c.loop + 1

  abbrev f : ℕ
  f = c.face + suc (suc n)

  abbrev l : ℕ
  l = c.loop + suc (suc n)

  abbrev x : ℕ
  x = strip_riser c m (suc n)

  abbrev a : ℕ
  a = get_or hs (suc n) 0

  -- the copy of the next strip, and the strip_riser behind it
  abbrev e : ℕ
  e = minus (c.edge + suc (suc n))

  abbrev z : ℕ
  z = minus (strip_riser c m (next_place m (suc n)))

  abbrev mates : List ℕ
  mates = reverse (take (suc n) hs)

  abbrev copies : List ℕ
  copies = map minus (numbers_after c.edge (suc n))

  abbrev front : List ℕ
  front = mates ++ plus (c.edge + m + 1) ∷ copies

  abbrev strip : List ℕ
  strip = a ∷ plus x ∷ e ∷ z ∷ []

  loop_here : joined_loop c hs n ≡ front ++ minus x ∷ []
  loop_here = grind (arith, next_inner, append_assoc)

  around_first : Around P l1 f1 (front ++ minus x ∷ [])
  around_first = record { sound = sound; at = at_first N s c hs w n ∙ ap (λ xs. Some (record { face = f1; content = cycle (canonical xs) })) loop_here }

  around_next : Around P l f strip
  around_next =
      record { sound = sound; at = at_else N s c hs w n l (λ q. omega (arith, q)) ∙ gone_above N.loops l1 n l (omega arith) ∙ w.loops (suc n) later }

  h_in : IsIn (minus x) (front ++ minus x ∷ [])
  h_in = omega (arith, count-append (minus x) front (minus x ∷ []), tick_same (minus x))

  k_in : IsIn (plus x) strip
  k_in = omega (arith, tick_same (plus x))

  loop_h : loop_of P (minus x) ≡ l1
  loop_h = loop_is P l1 f1 (front ++ minus x ∷ []) around_first (minus x) h_in

  loop_k : loop_of P (mate (minus x)) ≡ l
  loop_k = ap (loop_of P) (mate_minus x) ∙ loop_is P l f strip around_next (plus x) k_in

  face_l1 : face_of P l1 ≡ f1
  face_l1 = face_is P l1 f1 (front ++ minus x ∷ []) around_first

  face_k : face_at P (mate (minus x)) ≡ f
  face_k = ap (face_of P) loop_k ∙ face_is P l f strip around_next

  face_row_f : table.get P.faces f ≡ Some (record { solid = s; outer = l })
  face_row_f = ap (λ t. table.get t f) (joined_faces N s c hs w n) ∙ gone_above N.faces f1 n f (omega arith) ∙ w.faces (suc n) later

  -- no other loop is of the next strip's face
  only_l : (q : ℕ) → Has P.loops q → face_of P q ≡ f → l ≡ q
  only_l q there is = elim (eqb_tells q l1) [
    | inl p ↦ absurd (omega (arith, sym face_l1 ∙ ap (face_of P) (sym p.1) ∙ is))
    | inr ne ↦
        let kept : table.get P.loops q ≡ table.get (without_rows N.loops (numbers_after l1 n)) q = at_else N s c hs w n q ne.1 in
        let same : table.get P.loops q ≡ table.get N.loops q = kept ∙ gone_back N.loops l1 n q (sym (ap is_some kept) ∙ there) in
        w.alone (suc n) q later (sym (ap is_some same) ∙ there) (same_face P N q (sym same) ∙ is)
  ]

  goes : KefGoes P (minus x)
  unfolding outer
  goes = record {
    h_there = half_is P l1 f1 (front ++ minus x ∷ []) around_first (minus x) h_in;
    faces_apart = λ q. omega (arith, sym (ap (face_of P) loop_h ∙ face_l1) ∙ q ∙ face_k);
    no_rings = λ q there is. ap (outer P) face_k ∙ ap (λ o. (unwrap_or o no_face).outer) face_row_f ∙ only_l q there (is ∙ face_k);
  }

  riser_is : c.edge + m + 1 + suc n ≡ x
  riser_is = next_number (c.edge + m) n

  next_ok : first_false P (Kef (half (minus x))) ≡ None
  next_ok = kef_accepted P (half (minus x)) sound (subst (KefGoes P) (sym (code-half (minus x))) goes)

  -- ---- the model after

  abbrev X : Model
  X = joined_part N c hs (suc n)

  rest_h : rest (minus x) (cycle_of P (minus x)) ≡ front
  rest_h =
      let d : IsApart (front ++ minus x ∷ []) = apart_xs P l1 f1 (front ++ minus x ∷ []) around_first in
      ap (rest (minus x)) (cycle_is P l1 f1 (front ++ minus x ∷ []) around_first (minus x) h_in)
      ∙ sym (rest_same (minus x) (front ++ minus x ∷ []) (canonical (front ++ minus x ∷ [])) (canonical-rotates (front ++ minus x ∷ [])) d h_in)
      ∙ rest_at (minus x) front [] (omega (arith, d (minus x), count-append (minus x) front (minus x ∷ []), tick_same (minus x)))

  rest_k : rest (mate (minus x)) (cycle_of P (mate (minus x))) ≡ e ∷ z ∷ a ∷ []
  rest_k =
      let d : IsApart strip = apart_xs P l f strip around_next in
      (λ i. rest (mate_minus x i) ((ap (cycle_of P) (mate_minus x) ∙ cycle_is P l f strip around_next (plus x) k_in) i))
      ∙ sym (rest_same (plus x) strip (canonical strip) (canonical-rotates strip) d k_in)
      ∙ rest_at (plus x) (a ∷ []) (e ∷ z ∷ []) (omega (arith, d (plus x), tick_same (plus x)))

  mates_next : reverse (take (suc (suc n)) hs) ≡ a ∷ mates
  mates_next = ap reverse (take-suc hs (suc n) 0 later) ∙ reverse-append (take (suc n) hs) (a ∷ [])

  copies_next : map minus (numbers_after c.edge (suc (suc n))) ≡ copies ++ e ∷ []
  copies_next = ap (map minus) (numbers_last c.edge (suc n)) ∙ map-append minus (numbers_after c.edge (suc n)) ((c.edge + suc (suc n)) ∷ [])

  loop_next : joined_loop c hs (suc n) ≡ (a ∷ front) ++ e ∷ z ∷ []
  loop_next = (λ i. mates_next i ++ plus (c.edge + m + 1) ∷ (copies_next i ++ z ∷ []))
      ∙ ap (λ xs. a ∷ mates ++ plus (c.edge + m + 1) ∷ xs) (append_assoc copies (e ∷ []) (z ∷ []))
      ∙ ap (λ xs. a ∷ xs) (sym (append_assoc mates (plus (c.edge + m + 1) ∷ copies) (e ∷ z ∷ [])))

  turned : canonical (rest (mate (minus x)) (cycle_of P (mate (minus x))) ++ rest (minus x) (cycle_of P (minus x))) ≡ canonical (joined_loop c hs (suc n))
  turned = (λ i. canonical (rest_k i ++ rest_h i))
      ∙ canonical_same ((e ∷ z ∷ a ∷ []) ++ front) (joined_loop c hs (suc n)) (record { front = e ∷ z ∷ []; back = a ∷ front; here = refl; there = loop_next })
      (subst IsApart (λ i. rest_k i ++ rest_h i) (kill.apart_zs P sound (minus x) goes))

  put_gone : {Y : Type 0} (t : Table Y) (b d : ℕ) (u v : Y) → d ≢ b → table.remove (table.put (table.put t b u) b v) d ≡ table.put (table.remove t d) b v
  put_gone t b d u v ne = same_table _ _ (λ q. grind (arith, nat_tests, tables))

  gone_next : {Y : Type 0} (t : Table Y) (k : ℕ) → table.remove (without_rows t (numbers_after (k + 1) n)) (k + suc (suc n)) ≡ without_rows t (numbers_after (k + 1) (suc n))
  gone_next t k = ap (table.remove (without_rows t (numbers_after (k + 1) n))) (sym (next_number k n)) ∙ sym (gone_more t (k + 1) n)

  loops_next : (kef P (minus x)).loops ≡ X.loops
  loops_next = kill.loops_are P sound (minus x) goes
      ∙ (λ i. table.remove (table.put (joined_loops N s c hs w n i) (loop_h i) (record { face = (ap (face_of P) loop_h ∙ face_l1) i; content = cycle (turned i) })) (loop_k i))
      ∙ put_gone (without_rows N.loops (numbers_after l1 n)) l1 l _ _ (λ q. omega (arith, q))
      ∙ ap (λ t. table.put t l1 (record { face = f1; content = cycle (canonical (joined_loop c hs (suc n))) })) (gone_next N.loops c.loop)
      ∙ sym (joined_loops N s c hs w (suc n))

  faces_next : table.remove P.faces (face_at P (mate (minus x))) ≡ X.faces
  faces_next = (λ i. table.remove (joined_faces N s c hs w n i) (face_k i)) ∙ gone_next N.faces c.face ∙ sym (joined_faces N s c hs w (suc n))

  edges_next : table.remove P.edges (edge_of (minus x)) ≡ X.edges
  edges_next = (λ i. table.remove (joined_edges N s c hs w n i) ((minus_row x).0 i)) ∙ gone_next N.edges (c.edge + m) ∙ sym (joined_edges N s c hs w (suc n))

  kept_next : (P.solids ≡ X.solids) × (P.vertices ≡ X.vertices)
  unfolding joined_part
  kept_next = (refl, refl)

  next_is : effect P (Kef (half (minus x))) ≡ X
  unfolding effect kef
  next_is = ap (kef P) (code-half (minus x))
      ∙ (λ i. record { solids = kept_next.0 i; faces = faces_next i; loops = loops_next i; edges = edges_next i; vertices = kept_next.1 i })

  -- the next strip_riser goes, and its strip is joined too
  pub next_joined : (first_false P (Kef (half (minus (c.edge + m + 1 + suc n)))) ≡ None) × (effect P (Kef (half (minus (c.edge + m + 1 + suc n)))) ≡ X)
  next_joined = subst (λ r. (first_false P (Kef (half (minus r))) ≡ None) × (effect P (Kef (half (minus r))) ≡ X)) (sym riser_is) (next_ok, next_is)
