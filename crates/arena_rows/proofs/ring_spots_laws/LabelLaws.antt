-- Labels where rings are cut and put into loops.
use Rattle.arena_rows.proofs.Prelude.{◌≡◌, ◌≢◌, ℕ, zero, suc, ◌+◌, ◌-◌, ◌<◌, ◌≤◌, Bool, true, List, [], ◌∷◌, length, refl, sym, ap, subst, ◌∙◌, arith, ◌⊎◌, inl, inr, length-set, vec_capacity, cases_eq, count, IsIn, IsApart, cut_left, cut_right, IsIn_or_not, tick_le, tick_other, IsIn-cut, IsIn_head, IsIn_one, length_below, Labels, Spots, codes, live, label, ring, labelled, spliced, AreRings, loop_at, in_loops, IsChain, IsUsed, HaveRoom, AreLabelledBut, AreLabelled, CanHandOut, StandsFor, IsHandedOut}
use Rattle.arena_rows.proofs.ring_spots_laws.SpotLaws.{ring_same, live-labelled, ring-labelled, label-labelled_in, label-labelled_out, AreRings-labelled, live-spliced, label-spliced, AreRings-cut, ring_left, ring_right, ring_beside, cut_items}
use Rattle.arena_rows.proofs.ring_spots_laws.SpotTables.{codes_are}
use Rattle.arena_rows.proofs.ring_spots_laws.LabelTables.{table_as, IsGiven, given, stands, stands_here, stands_other}
use Rattle.arena_rows.proofs.ring_spots_laws.LoopSpots.{same_spots, blank-labelled, blank-loops, live-loops, label-loops, ring-loops, loops-spliced, loops-labelled}

-- the same, told by equations
pub labelled_is : (sp new : Spots) (known known' : ℕ → Bool) (t : Labels) → AreLabelled sp known t → new ≡ sp → known' ≡ known → AreLabelled new known' t
labelled_is sp new known known' t A is same = subst (λ k. AreLabelled new k t) (sym same) (subst (λ s. AreLabelled s known t) (sym is) A)

-- the room stays where no code wakes and no row goes
pub room_as : (sp new : Spots) (known : ℕ → Bool) (t now : Labels) → HaveRoom sp known t → ((c : ℕ) → live new c ≡ true → live sp c ≡ true) → vec_capacity now.loops ≡ vec_capacity t.loops → length t.loops.items ≤ length now.loops.items → HaveRoom new known now
room_as sp new known t now H lives cap len = record {
  live_known = λ c a. H.live_known c (lives c a);
  room = λ c k. omega (arith, cap, H.room c k);
  some = λ p. omega (arith, len, H.some (omega (arith, p, cap)));
}

module _ (sp : Spots) (known : ℕ → Bool) (t : Labels) (hs : List ℕ) (A : AreLabelledBut sp known t hs) where
  -- label 0 has its row where a code is known
  pub some_row : (c : ℕ) → known c ≡ true → 0 < length t.loops.items
  some_row c k = A.room.some (omega (arith, A.room.room c k))

  -- the label of a live code has its row
  pub label_row : (c : ℕ) → live sp c ≡ true → count c hs ≡ 0 → label sp c < length t.loops.items
  label_row c a out = elim (cases_eq (label sp c) 0) [
    | inl z ↦ omega (arith, z, some_row c (A.room.live_known c a))
    | inr z ↦ (A.table.there (label sp c) z (c, a, out, refl)).0
  ]

  -- none is free: so each label up to k has a code of its own
  module _ (none : (n : ℕ) → count n A.table.frees ≡ 0) where
    abbrev users : (k : ℕ) → k < length t.loops.items → List ℕ
    users zero h = []
    users (suc k) h = (A.table.taken (suc k) (omega arith) h (none (suc k))).0 ∷ users k (omega (arith, h))

    length-users : (k : ℕ) (h : k < length t.loops.items) → length (users k h) ≡ k
    length-users zero h = refl
    length-users (suc k) h = ap suc (length-users k (omega (arith, h)))

    -- these codes are live, and their labels are at most k
    user : (k : ℕ) (h : k < length t.loops.items) (x : ℕ) → IsIn x (users k h) → (live sp x ≡ true) × (label sp x ≤ k)
    user zero h x i = absurd (omega (arith, i))
    user (suc k) h x i = let u = A.table.taken (suc k) (omega arith) h (none (suc k)) in elim (cases_eq x u.0) [
      | inl q ↦ (ap (live sp) q ∙ u.1, omega (arith, ap (label sp) q ∙ u.3))
      | inr ne ↦ let w = user k (omega (arith, h)) x (omega (arith, i, tick_other x u.0 ne)) in (w.0, omega (arith, w.1))
    ]

    users-apart : (k : ℕ) (h : k < length t.loops.items) → IsApart (users k h)
    users-apart zero h x = omega arith
    users-apart (suc k) h x = let u = A.table.taken (suc k) (omega arith) h (none (suc k)) in elim (cases_eq x u.0) [
      | inl q ↦ elim (IsIn_or_not x (users k (omega (arith, h)))) [
        | inl i ↦ absurd (omega (arith, (user k (omega (arith, h)) x i).1, ap (label sp) q ∙ u.3))
        | inr n ↦ omega (arith, n, tick_le x u.0)
      ]
      | inr ne ↦ omega (arith, users-apart k (omega (arith, h)) x, tick_other x u.0 ne)
    ]

    -- where the live codes are below b there are at most b such labels
    users_below : (b : ℕ) → ((x : ℕ) → live sp x ≡ true → x < b) → 0 < length t.loops.items → length t.loops.items ≤ b + 1
    users_below b below some =
        let h : length t.loops.items - 1 < length t.loops.items = omega (arith, some) in
        omega (arith, some, length-users (length t.loops.items - 1) h, length_below b (users (length t.loops.items - 1) h) (users-apart (length t.loops.items - 1) h) (λ x i. below x (user (length t.loops.items - 1) h x i).0))

  -- so a label can be handed out where a code is known
  pub spare : (c : ℕ) → known c ≡ true → CanHandOut t
  spare c k = spare_of A.table.frees refl where
    spare_of : (fs : List ℕ) → A.table.frees ≡ fs → CanHandOut t
    spare_of [] e =
        let free : t.free ≡ 0 = subst (IsChain t.loops.items t.free) e A.table.chain in
        let none : (n : ℕ) → count n A.table.frees ≡ 0 = λ n. ap (count n) e in
        record {
          first = λ z. absurd (z free);
          room = λ z. omega (arith, A.room.room c k, users_below none (vec_capacity t.loops - 2) (λ x a. omega (arith, A.room.room x (A.room.live_known x a))) (some_row c k));
          limit = λ z. omega (arith, codes_are, users_below none codes A.rings.bound (some_row c k));
        }
    spare_of (n ∷ ns) e =
        let chain : IsChain t.loops.items t.free (n ∷ ns) = subst (IsChain t.loops.items t.free) e A.table.chain in
        let w = A.table.within n (subst (IsIn n) (sym e) (IsIn_head n ns)) in
        record {
          first = λ z. omega (arith, w.1, chain.0);
          room = λ z. absurd (w.0 (sym chain.0 ∙ z));
          limit = λ z. absurd (w.0 (sym chain.0 ∙ z));
        }

  -- the label of a code stands for another loop
  pub labelled-stands : (now : Labels) (c l : ℕ) → live sp c ≡ true → count c hs ≡ 0 → label sp c ≢ 0 → StandsFor t now (label sp c) l → AreLabelledBut sp known now hs
  labelled-stands now c l a out named h = record {
    rings = A.rings;
    room = room_as sp sp known t now A.room (λ q k. k) h.room (omega (arith, ap length h.rows, length-set t.loops.items (label sp c) l));
    table = stands t now (IsUsed sp hs) A.table (label sp c) l h named (c, a, out, refl);
    alone = A.alone;
    one = A.one;
  }

-- a ring gets a label that was free
module _ (sp : Spots) (known : ℕ → Bool) (t : Labels) (c : ℕ) (A : AreLabelledBut sp known t (ring sp c)) (there : live sp c ≡ true) where
  abbrev hs : List ℕ
  hs = ring sp c

  module _ (now : Labels) (m l : ℕ) (h : IsHandedOut t now m l) where
    abbrev new : Spots
    new = labelled sp m hs

    is_given : IsGiven t now (IsUsed sp hs) m l
    is_given = given t now (IsUsed sp hs) A.table m l (some_row sp known t hs A c (A.room.live_known c there)) h

    -- each ring has a label of its own
    pub labelled-given : AreLabelled new known now
    labelled-given = record {
      rings = AreRings-labelled sp A.rings c m there;
      room = room_as sp new known t now A.room (λ d k. sym (live-labelled sp m hs d) ∙ k) h.room is_given.longer;
      table = table_as now (λ n. IsUsed sp hs n ⊎ (n ≡ m)) (IsUsed new []) is_given.table
          (λ n z u. elim u [
            | inl v ↦ (v.0, live-labelled sp m hs v.0 ∙ v.1, refl, label-labelled_out sp m hs v.0 v.2 ∙ v.3)
            | inr q ↦ (c, live-labelled sp m hs c ∙ there, refl, label-labelled_in sp m hs c (A.rings.rings c there).item there ∙ sym q)
          ])
          (λ n z u. let k = sym (live-labelled sp m hs u.0) ∙ u.1 in elim (IsIn_or_not u.0 hs) [
            | inl i ↦ inr (sym u.3 ∙ label-labelled_in sp m hs u.0 i k)
            | inr o ↦ inl (u.0, k, o, sym (label-labelled_out sp m hs u.0 o) ∙ u.3)
          ]);
      alone = λ d a _ z. let k = sym (live-labelled sp m hs d) ∙ a in elim (IsIn_or_not d hs) [
        | inl i ↦ absurd (is_given.named (sym (label-labelled_in sp m hs d i k) ∙ z))
        | inr o ↦ ring-labelled sp A.rings c m there d ∙ A.alone d k o (sym (label-labelled_out sp m hs d o) ∙ z)
      ];
      one = λ d e a b _ _ z q.
          let k = sym (live-labelled sp m hs d) ∙ a in
          let j = sym (live-labelled sp m hs e) ∙ b in
          subst (IsIn e) (sym (ring-labelled sp A.rings c m there d)) (elim (IsIn_or_not d hs) [
            | inl i ↦ elim (IsIn_or_not e hs) [
              | inl i' ↦ subst (IsIn e) (sym (ring_same sp A.rings c d there i)) i'
              | inr o' ↦ absurd (is_given.fresh (e, j, o', sym (label-labelled_out sp m hs e o') ∙ q ∙ label-labelled_in sp m hs d i k))
            ]
            | inr o ↦ elim (IsIn_or_not e hs) [
              | inl i' ↦ absurd (is_given.fresh (d, k, o, sym (label-labelled_out sp m hs d o) ∙ sym q ∙ label-labelled_in sp m hs e i' j))
              | inr o' ↦ A.one d e k j o o' (λ w. z (label-labelled_out sp m hs d o ∙ w)) (sym (label-labelled_out sp m hs e o') ∙ q ∙ label-labelled_out sp m hs d o)
            ]
          ]);
    }

    -- the ring stands in loop l, and the others where they stood
    pub loops-given : in_loops now.loops.items new ≡ labelled (in_loops t.loops.items sp) l hs
    loops-given = loops-labelled sp new t.loops.items now.loops.items l hs (blank-labelled sp m hs)
        (λ q k i. ap (loop_at now.loops.items) (label-labelled_in sp m hs q i k) ∙ is_given.here)
        (λ q k o. ap (loop_at now.loops.items) (label-labelled_out sp m hs q o) ∙ is_given.other (label sp q) (λ e. is_given.fresh (q, k, o, e)))

  -- a ring of one gets label 0
  module _ (alone : ring sp c ≡ c ∷ []) where
    abbrev loose : Spots
    loose = labelled sp 0 hs

    -- each ring has a label of its own, or is a ring of one
    pub labelled-loose : AreLabelled loose known t
    labelled-loose = record {
      rings = AreRings-labelled sp A.rings c 0 there;
      room = room_as sp loose known t t A.room (λ d k. sym (live-labelled sp 0 hs d) ∙ k) refl (omega arith);
      table = table_as t (IsUsed sp hs) (IsUsed loose []) A.table
          (λ n z u. (u.0, live-labelled sp 0 hs u.0 ∙ u.1, refl, label-labelled_out sp 0 hs u.0 u.2 ∙ u.3))
          (λ n z u. let k = sym (live-labelled sp 0 hs u.0) ∙ u.1 in elim (IsIn_or_not u.0 hs) [
            | inl i ↦ absurd (z (sym u.3 ∙ label-labelled_in sp 0 hs u.0 i k))
            | inr o ↦ (u.0, k, o, sym (label-labelled_out sp 0 hs u.0 o) ∙ u.3)
          ]);
      alone = λ d a _ z. let k = sym (live-labelled sp 0 hs d) ∙ a in ring-labelled sp A.rings c 0 there d ∙ elim (IsIn_or_not d hs) [
        | inl i ↦ let e : d ≡ c = IsIn_one c d (subst (IsIn d) alone i) in subst (λ x. ring sp x ≡ x ∷ []) (sym e) alone
        | inr o ↦ A.alone d k o (sym (label-labelled_out sp 0 hs d o) ∙ z)
      ];
      one = λ d e a b _ _ z q.
          let k = sym (live-labelled sp 0 hs d) ∙ a in
          let j = sym (live-labelled sp 0 hs e) ∙ b in
          subst (IsIn e) (sym (ring-labelled sp A.rings c 0 there d)) (elim (IsIn_or_not d hs) [
            | inl i ↦ absurd (z (label-labelled_in sp 0 hs d i k))
            | inr o ↦ elim (IsIn_or_not e hs) [
              | inl i' ↦ absurd (z (sym q ∙ label-labelled_in sp 0 hs e i' j))
              | inr o' ↦ A.one d e k j o o' (λ w. z (label-labelled_out sp 0 hs d o ∙ w)) (sym (label-labelled_out sp 0 hs e o') ∙ q ∙ label-labelled_out sp 0 hs d o)
            ]
          ]);
    }

    -- the ring stands in no loop
    pub loops-loose : in_loops t.loops.items loose ≡ labelled (in_loops t.loops.items sp) 0 hs
    loops-loose = loops-labelled sp loose t.loops.items t.loops.items 0 hs (blank-labelled sp 0 hs)
        (λ q k i. ap (loop_at t.loops.items) (label-labelled_in sp 0 hs q i k) ∙ A.table.none)
        (λ q k o. ap (loop_at t.loops.items) (label-labelled_out sp 0 hs q o))

module _ (sp : Spots) (known : ℕ → Bool) (t : Labels) (A : AreLabelled sp known t) where
  -- where the ring of a code has label 0, nothing has to be said of it
  pub but_loose : (c : ℕ) → live sp c ≡ true → label sp c ≡ 0 → AreLabelledBut sp known t (ring sp c)
  but_loose c a zero_is = record {
    rings = A.rings;
    room = A.room;
    table = table_as t (IsUsed sp []) (IsUsed sp (ring sp c)) A.table
        (λ n z u. elim (IsIn_or_not u.0 (ring sp c)) [
          | inl i ↦ absurd (z (sym u.3 ∙ (A.rings.rings c a).one_label u.0 i ∙ zero_is))
          | inr o ↦ (u.0, u.1, o, u.3)
        ])
        (λ n z u. (u.0, u.1, refl, u.3));
    alone = λ d k _ z. A.alone d k refl z;
    one = λ d e k j _ _ z q. A.one d e k j refl refl z q;
  }

  -- the ring of a code with another label stands in loop l now
  pub loops-stands : (now : Labels) (c l : ℕ) → live sp c ≡ true → label sp c ≢ 0 → StandsFor t now (label sp c) l → in_loops now.loops.items sp ≡ labelled (in_loops t.loops.items sp) l (ring sp c)
  loops-stands now c l a named h = loops-labelled sp sp t.loops.items now.loops.items l (ring sp c) (λ q. refl)
      (λ q k i. ap (loop_at now.loops.items) ((A.rings.rings c a).one_label q i) ∙ stands_here t now (label sp c) l h (label_row sp known t [] A c a refl))
      (λ q k o. stands_other t now (label sp c) l h (label sp q) (λ e. absurd (omega (arith, o, A.one c q a k refl refl named e))))

  -- a ring is cut
  module _ (a b : ℕ) (a_there : live sp a ≡ true) (together : IsIn b (ring sp a)) (ne : a ≢ b) where
    abbrev cutted : Spots
    cutted = spliced sp a b

    -- b is live
    cut_b_there : live sp b ≡ true
    cut_b_there = (A.rings.rings a a_there).awake b together

    -- the rings are rings
    cut_rings : AreRings cutted
    cut_rings = AreRings-cut sp A.rings a b a_there cut_b_there together ne

    -- a stands in the left part, b in the right one
    cut_sides : IsIn a (cut_left a b (ring sp a)) × IsIn b (cut_right a b (ring sp a))
    cut_sides = let o = A.rings.rings a a_there in IsIn-cut a b (ring sp a) o.apart o.item together ne

    -- the two rings have the items of the one between them
    cut_count : (x : ℕ) → count x (ring cutted a) + count x (ring cutted b) ≡ count x (ring sp a)
    cut_count x = (λ i. count x ((ring_left sp A.rings a b a_there cut_b_there together ne a cut_sides.0).0 i) + count x ((ring_right sp A.rings a b a_there cut_b_there together ne b cut_sides.1).0 i))
        ∙ cut_items sp A.rings a b a_there cut_b_there together ne x

    -- so each item stands in one of them
    cut_here : (x : ℕ) → live sp x ≡ true → IsIn x (ring cutted x)
    cut_here x k = (cut_rings.rings x (live-spliced sp a b x ∙ k)).item

    -- the label of a cut ring isn't 0, since it had two items
    cut_named : label sp a ≢ 0
    cut_named z =
        let one : ring sp a ≡ a ∷ [] = A.alone a a_there refl z in
        ne (sym (IsIn_one a b (subst (IsIn b) one together)))

    -- nothing has to be said of the labels of one of the two, since the other one has the label that both share
    module _ (part rest : ℕ) (rest_there : live sp rest ≡ true) (rest_in : IsIn rest (ring sp a)) (items : (x : ℕ) → count x (ring cutted part) + count x (ring cutted rest) ≡ count x (ring sp a)) where
      rest_out : count rest (ring cutted part) ≡ 0
      rest_out = omega (arith, items rest, cut_here rest rest_there, (A.rings.rings a a_there).apart rest)

      but_part : AreLabelledBut cutted known t (ring cutted part)
      but_part = record {
        rings = cut_rings;
        room = room_as sp cutted known t t A.room (λ c h. sym (live-spliced sp a b c) ∙ h) refl (omega arith);
        table = table_as t (IsUsed sp []) (IsUsed cutted (ring cutted part)) A.table
            (λ n z u. elim (IsIn_or_not u.0 (ring cutted part)) [
              | inl i ↦
                  let o = A.rings.rings a a_there in
                  let j : IsIn u.0 (ring sp a) = omega (arith, i, items u.0) in
                  (rest, live-spliced sp a b rest ∙ rest_there, rest_out, label-spliced sp a b rest ∙ o.one_label rest rest_in ∙ sym (o.one_label u.0 j) ∙ u.3)
              | inr m ↦ (u.0, live-spliced sp a b u.0 ∙ u.1, m, label-spliced sp a b u.0 ∙ u.3)
            ])
            (λ n z u. (u.0, sym (live-spliced sp a b u.0) ∙ u.1, refl, sym (label-spliced sp a b u.0) ∙ u.3));
        alone = λ c h out z.
            let k = sym (live-spliced sp a b c) ∙ h in
            let zero_is = sym (label-spliced sp a b c) ∙ z in
            elim (IsIn_or_not c (ring sp a)) [
              | inl i ↦ absurd (cut_named (sym ((A.rings.rings a a_there).one_label c i) ∙ zero_is))
              | inr m ↦ (ring_beside sp A.rings a b a_there cut_b_there together ne c k m).0 ∙ A.alone c k refl zero_is
            ];
        one = λ c d h g out away z e.
            let k = sym (live-spliced sp a b c) ∙ h in
            let j = sym (live-spliced sp a b d) ∙ g in
            let i : IsIn d (ring sp c) = A.one c d k j refl refl (λ q. z (label-spliced sp a b c ∙ q)) (sym (label-spliced sp a b d) ∙ e ∙ label-spliced sp a b c) in
            elim (IsIn_or_not c (ring sp a)) [
              | inl m ↦
                  let c_in : IsIn c (ring cutted rest) = omega (arith, items c, out, m) in
                  let whole : IsIn d (ring sp a) = subst (IsIn d) (ring_same sp A.rings a c a_there m) i in
                  let d_in : IsIn d (ring cutted rest) = omega (arith, items d, away, whole) in
                  subst (IsIn d) (sym (ring_same cutted cut_rings rest c (live-spliced sp a b rest ∙ rest_there) c_in)) d_in
              | inr m ↦ subst (IsIn d) (sym (ring_beside sp A.rings a b a_there cut_b_there together ne c k m).0) i
            ];
      }

    but_first : AreLabelledBut cutted known t (ring cutted a)
    but_first = but_part a b cut_b_there together cut_count

    but_second : AreLabelledBut cutted known t (ring cutted b)
    but_second = but_part b a a_there (A.rings.rings a a_there).item (λ x. omega (arith, cut_count x))

    -- b stands beside the ring of a
    second_out : count b (ring cutted a) ≡ 0
    second_out = rest_out a b cut_b_there together cut_count

    -- what is seen where b's part gets loop l
    seen_second : (l : ℕ) → labelled (in_loops t.loops.items cutted) l (ring cutted b) ≡ labelled (spliced (in_loops t.loops.items sp) a b) l (ring (spliced (in_loops t.loops.items sp) a b) b)
    seen_second l =
        (λ i. labelled (in_loops t.loops.items cutted) l (sym (ring-loops t.loops.items cutted b) i))
        ∙ ap (λ (s : Spots). labelled s l (ring s b)) (loops-spliced t.loops.items sp a b)

    -- the same, where the shared label gets loop l, and a's part another label, which stands for the loop in which the ring stood
    seen_first : (now : Labels) (l kept : ℕ) → StandsFor t now (label cutted b) l → kept ≡ loop_at t.loops.items (label sp a) → labelled (in_loops now.loops.items cutted) kept (ring cutted a) ≡ labelled (in_loops t.loops.items cutted) l (ring cutted b)
    seen_first now l kept h is = same_spots (labelled (in_loops now.loops.items cutted) kept (ring cutted a)) (labelled (in_loops t.loops.items cutted) l (ring cutted b))
        (λ q. blank-labelled (in_loops now.loops.items cutted) kept (ring cutted a) q ∙ blank-loops now.loops.items cutted q ∙ sym (blank-labelled (in_loops t.loops.items cutted) l (ring cutted b) q ∙ blank-loops t.loops.items cutted q))
        (λ q a_live.
        let k : live cutted q ≡ true = sym (live-labelled (in_loops now.loops.items cutted) kept (ring cutted a) q ∙ live-loops now.loops.items cutted q) ∙ a_live in
        let old = sym (live-spliced sp a b q) ∙ k in
        let o = A.rings.rings a a_there in
        elim (IsIn_or_not q (ring cutted b)) [
          | inl i ↦
              let whole : IsIn q (ring sp a) = omega (arith, i, cut_count q) in
              label-labelled_out (in_loops now.loops.items cutted) kept (ring cutted a) q (omega (arith, i, cut_count q, o.apart q))
              ∙ label-loops now.loops.items cutted q k ∙ ap (loop_at now.loops.items) (label_of q whole)
              ∙ stands_here t now (label cutted b) l h (label_row cutted known t (ring cutted a) but_first b (live-spliced sp a b b ∙ cut_b_there) second_out)
              ∙ sym (label-labelled_in (in_loops t.loops.items cutted) l (ring cutted b) q i (live-loops t.loops.items cutted q ∙ k))
          | inr n ↦ elim (IsIn_or_not q (ring cutted a)) [
            | inl i ↦
                let whole : IsIn q (ring sp a) = omega (arith, i, cut_count q) in
                label-labelled_in (in_loops now.loops.items cutted) kept (ring cutted a) q i (live-loops now.loops.items cutted q ∙ k)
                ∙ is ∙ ap (loop_at t.loops.items) (sym (o.one_label q whole) ∙ sym (label-spliced sp a b q))
                ∙ sym (label-labelled_out (in_loops t.loops.items cutted) l (ring cutted b) q n ∙ label-loops t.loops.items cutted q k)
            | inr m ↦
                label-labelled_out (in_loops now.loops.items cutted) kept (ring cutted a) q m ∙ label-loops now.loops.items cutted q k
                ∙ stands_other t now (label cutted b) l h (label cutted q) (λ e. let i : IsIn q (ring sp a) = A.one a q a_there old refl refl cut_named (sym (label-spliced sp a b q) ∙ e ∙ label-spliced sp a b b ∙ o.one_label b together) in absurd (omega (arith, i, n, m, cut_count q)))
                ∙ sym (label-labelled_out (in_loops t.loops.items cutted) l (ring cutted b) q n ∙ label-loops t.loops.items cutted q k)
          ]
        ])
      where
        label_of : (q : ℕ) → IsIn q (ring sp a) → label cutted q ≡ label cutted b
        label_of q i = let o = A.rings.rings a a_there in label-spliced sp a b q ∙ o.one_label q i ∙ sym (label-spliced sp a b b ∙ o.one_label b together)

    -- what is seen of the cut ring, in either case
    pub seen_cut_first : (after : Spots) → after ≡ cutted → (now : Labels) (l kept : ℕ) → StandsFor t now (label after b) l → kept ≡ loop_at t.loops.items (label sp a) →
        labelled (in_loops now.loops.items after) kept (ring after a) ≡ labelled (spliced (in_loops t.loops.items sp) a b) l (ring (spliced (in_loops t.loops.items sp) a b) b)
    seen_cut_first after is now l kept h k = ap (λ (s : Spots). labelled (in_loops now.loops.items s) kept (ring s a)) is ∙ seen_first now l kept (subst (λ (s : Spots). StandsFor t now (label s b) l) is h) k ∙ seen_second l

    pub seen_cut_second : (after : Spots) → after ≡ cutted → (l : ℕ) → labelled (in_loops t.loops.items after) l (ring after b) ≡ labelled (spliced (in_loops t.loops.items sp) a b) l (ring (spliced (in_loops t.loops.items sp) a b) b)
    seen_cut_second after is l = ap (λ (s : Spots). labelled (in_loops t.loops.items s) l (ring s b)) is ∙ seen_second l

-- a ring was cut, and its two parts share its label
pub record IsCut (sp : Spots) (known : ℕ → Bool) (t : Labels) (a b : ℕ) : Type 0 where
  pub rings : AreRings sp
  pub a_there : live sp a ≡ true
  pub b_there : live sp b ≡ true
  pub first : AreLabelledBut sp known t (ring sp a)
  pub second : AreLabelledBut sp known t (ring sp b)
  pub beside : count b (ring sp a) ≡ 0
  pub named : label sp b ≢ 0

pub is_cut : (sp : Spots) (known : ℕ → Bool) (t : Labels) (A : AreLabelled sp known t) (a b : ℕ) (a_there : live sp a ≡ true) (together : IsIn b (ring sp a)) (ne : a ≢ b) (new : Spots) (known' : ℕ → Bool) → new ≡ spliced sp a b → known' ≡ known → IsCut new known' t a b
is_cut sp known t A a b a_there together ne new known' is same = subst (λ k. IsCut new k t a b) (sym same) (subst (λ s. IsCut s known t a b) (sym is) (record {
  rings = cut_rings sp known t A a b a_there together ne;
  a_there = live-spliced sp a b a ∙ a_there;
  b_there = live-spliced sp a b b ∙ cut_b_there sp known t A a b a_there together ne;
  first = but_first sp known t A a b a_there together ne;
  second = but_second sp known t A a b a_there together ne;
  beside = second_out sp known t A a b a_there together ne;
  named = λ z. cut_named sp known t A a b a_there together ne (sym ((A.rings.rings a a_there).one_label b together) ∙ sym (label-spliced sp a b b) ∙ z);
}))
