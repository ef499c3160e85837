-- Labels where two rings are joined.
use Rattle.arena_rows.proofs.Prelude.{◌≡◌, ◌≢◌, ℕ, ◌+◌, Bool, true, List, [], refl, sym, ap, subst, ◌∙◌, arith, inl, inr, vec_capacity, cases_eq, count, IsIn, joined, IsIn_or_not, Labels, Spots, live, label, ring, labelled, spliced, AreRings, loop_at, in_loops, IsUsed, AreLabelled, StandsFor, IsTakenBack}
use Rattle.arena_rows.proofs.ring_spots_laws.SpotLaws.{live-labelled, ring-labelled, label-labelled_in, label-labelled_out, AreRings-labelled, live-spliced, label-spliced, AreRings-join, ring_joint, ring_aside, join_items}
use Rattle.arena_rows.proofs.ring_spots_laws.LabelTables.{table_as, IsFreed, freed, stands_here, stands_other}
use Rattle.arena_rows.proofs.ring_spots_laws.LabelLaws.{room_as, label_row, labelled-stands}
use Rattle.arena_rows.proofs.ring_spots_laws.LoopSpots.{blank-labelled, loops-spliced, loops-labelled}

-- the ring of `part` gets the label of the ring of `rest`, which isn't 0, and the two are joined
module _ (sp : Spots) (known : ℕ → Bool) (t : Labels) (A : AreLabelled sp known t) (part rest : ℕ) (part_there : live sp part ≡ true) (rest_there : live sp rest ≡ true) (named : label sp rest ≢ 0) (other : label sp part ≢ label sp rest) where
  abbrev shared : Spots
  shared = labelled sp (label sp rest) (ring sp part)

  -- the two share no item
  two_rings : (x : ℕ) → IsIn x (ring sp part) → count x (ring sp rest) ≡ 0
  two_rings x i = elim (IsIn_or_not x (ring sp rest)) [
    | inl j ↦ absurd (other (sym ((A.rings.rings part part_there).one_label x i) ∙ (A.rings.rings rest rest_there).one_label x j))
    | inr n ↦ n
  ]

  -- both have one label then
  pub shared_rest : label shared rest ≡ label sp rest
  shared_rest = label-labelled_out sp (label sp rest) (ring sp part) rest (elim (IsIn_or_not rest (ring sp part)) [
    | inl i ↦ absurd (other (sym ((A.rings.rings part part_there).one_label rest i)))
    | inr n ↦ n
  ])

  pub shared_part : label shared part ≡ label sp rest
  shared_part = label-labelled_in sp (label sp rest) (ring sp part) part (A.rings.rings part part_there).item part_there

  pub shared_rings : AreRings shared
  shared_rings = AreRings-labelled sp A.rings part (label sp rest) part_there

  pub shared_ring : (q : ℕ) → ring shared q ≡ ring sp q
  shared_ring = ring-labelled sp A.rings part (label sp rest) part_there

  module _ (new : Spots) (N : AreRings new) (joint : List ℕ) (items : (q : ℕ) → count q joint ≡ count q (ring sp part) + count q (ring sp rest)) (in_joint : (q : ℕ) → IsIn q joint → ring new q ≡ joint)
      (aside : (q : ℕ) → live sp q ≡ true → count q joint ≡ 0 → ring new q ≡ ring sp q) (lives : (q : ℕ) → live new q ≡ live sp q) (labels : (q : ℕ) → label new q ≡ label shared q)
      (now : Labels) (F : IsFreed t now (IsUsed sp []) (label sp part)) (cap : vec_capacity now.loops ≡ vec_capacity t.loops) where
    -- the label of an item of `part`, and of another code
    in_part : (q : ℕ) → live sp q ≡ true → IsIn q (ring sp part) → label new q ≡ label sp rest
    in_part q k i = labels q ∙ label-labelled_in sp (label sp rest) (ring sp part) q i k

    beside : (q : ℕ) → count q (ring sp part) ≡ 0 → label new q ≡ label sp q
    beside q n = labels q ∙ label-labelled_out sp (label sp rest) (ring sp part) q n

    -- the label of the joint ring, and who has it
    of_joint : (q : ℕ) → live sp q ≡ true → IsIn q joint → label new q ≡ label sp rest
    of_joint q k i = elim (IsIn_or_not q (ring sp part)) [
      | inl j ↦ in_part q k j
      | inr n ↦ beside q n ∙ (A.rings.rings rest rest_there).one_label q (omega (arith, i, n, items q))
    ]

    to_joint : (q : ℕ) → live sp q ≡ true → label new q ≡ label sp rest → IsIn q joint
    to_joint q k e = elim (IsIn_or_not q (ring sp part)) [
      | inl j ↦ omega (arith, j, items q)
      | inr n ↦ let i : IsIn q (ring sp rest) = A.one rest q rest_there k refl refl named (sym (beside q n) ∙ e) in omega (arith, i, items q)
    ]

    pub labelled-joint : AreLabelled new known now
    labelled-joint = record {
      rings = N;
      room = room_as sp new known t now A.room (λ q a. sym (lives q) ∙ a) cap (omega (arith, F.len));
      table = table_as now (λ n. IsUsed sp [] n × (n ≢ label sp part)) (IsUsed new []) F.table
          (λ n z u. let c = u.0.0 in elim (IsIn_or_not c (ring sp part)) [
            | inl i ↦ absurd (u.1 (sym u.0.3 ∙ (A.rings.rings part part_there).one_label c i))
            | inr o ↦ (c, lives c ∙ u.0.1, refl, beside c o ∙ u.0.3)
          ])
          (λ n z u. let k = sym (lives u.0) ∙ u.1 in elim (IsIn_or_not u.0 (ring sp part)) [
            | inl i ↦
                let e : label sp rest ≡ n = sym (in_part u.0 k i) ∙ u.3 in
                ((rest, rest_there, refl, e), λ q. other (sym q ∙ sym e))
            | inr o ↦
                let e : label sp u.0 ≡ n = sym (beside u.0 o) ∙ u.3 in
                ((u.0, k, refl, e), λ q. absurd (let i : IsIn u.0 (ring sp part) = A.one part u.0 part_there k refl refl (λ w. z (q ∙ w)) (e ∙ q) in omega (arith, i, o)))
          ]);
      alone = λ c a _ z. let k = sym (lives c) ∙ a in elim (IsIn_or_not c joint) [
        | inl i ↦ absurd (named (sym (of_joint c k i) ∙ z))
        | inr o ↦ aside c k o ∙ A.alone c k refl (sym (beside c (omega (arith, o, items c))) ∙ z)
      ];
      one = λ c d a b _ _ z q.
          let k = sym (lives c) ∙ a in
          let j = sym (lives d) ∙ b in
          elim (IsIn_or_not c joint) [
            | inl i ↦ subst (IsIn d) (sym (in_joint c i)) (to_joint d j (q ∙ of_joint c k i))
            | inr o ↦
                let c_label = beside c (omega (arith, o, items c)) in
                let d_out : count d joint ≡ 0 = elim (IsIn_or_not d joint) [
                  | inl i ↦ absurd (let w = to_joint c k (sym q ∙ of_joint d j i) in omega (arith, w, o))
                  | inr n ↦ n
                ] in
                subst (IsIn d) (sym (aside c k o)) (A.one c d k j refl refl (λ w. z (c_label ∙ w)) (sym (beside d (omega (arith, d_out, items d))) ∙ q ∙ c_label))
          ];
    }

  -- a label that stays with a code but `part`'s stands for the loop for which it stood
  pub freed_other : (now : Labels) (F : IsFreed t now (IsUsed sp []) (label sp part)) (q : ℕ) → live sp q ≡ true → count q (ring sp part) ≡ 0 → loop_at now.loops.items (label sp q) ≡ loop_at t.loops.items (label sp q)
  freed_other now F q k n = elim (cases_eq (label sp q) (label sp part)) [
    | inr ne ↦ F.other (label sp q) ne
    | inl e ↦ elim (cases_eq (label sp q) 0) [
      | inl z ↦ ap (loop_at now.loops.items) z ∙ F.table.none ∙ sym (ap (loop_at t.loops.items) z ∙ A.table.none)
      | inr z ↦ absurd (let i : IsIn q (ring sp part) = A.one part q part_there k refl refl (λ w. z (e ∙ w)) e in omega (arith, i, n))
    ]
  ]

-- the rings of a and b are joined, and the joint ring keeps the label of one of them
module _ (sp : Spots) (known : ℕ → Bool) (t : Labels) (A : AreLabelled sp known t) (a b : ℕ) (a_there : live sp a ≡ true) (b_there : live sp b ≡ true) (other : label sp b ≢ label sp a) where
  -- that of a
  module _ (named : label sp a ≢ 0) (now : Labels) (h : IsTakenBack t now (label sp b)) where
    first_freed : IsFreed t now (IsUsed sp []) (label sp b)
    first_freed = freed t now (IsUsed sp []) A.table (label sp b) (λ z. (b, b_there, refl, refl)) h

    abbrev like_a : Spots
    like_a = labelled sp (label sp a) (ring sp b)

    a_rings : AreRings like_a
    a_rings = shared_rings sp known t A b a b_there a_there named other

    a_ring : (q : ℕ) → ring like_a q ≡ ring sp q
    a_ring = shared_ring sp known t A b a b_there a_there named other

    a_one : label like_a b ≡ label like_a a
    a_one = shared_part sp known t A b a b_there a_there named other ∙ sym (shared_rest sp known t A b a b_there a_there named other)

    a_apart : count b (ring like_a a) ≡ 0
    a_apart = ap (count b) (a_ring a) ∙ two_rings sp known t A b a b_there a_there named other b (A.rings.rings b b_there).item

    pub labelled-first : AreLabelled (spliced like_a a b) known now
    labelled-first =
        let k : live like_a a ≡ true = live-labelled sp (label sp a) (ring sp b) a ∙ a_there in
        let j : live like_a b ≡ true = live-labelled sp (label sp a) (ring sp b) b ∙ b_there in
        labelled-joint sp known t A b a b_there a_there named other (spliced like_a a b) (AreRings-join like_a a_rings a b k j a_apart a_one) (joined a b (ring like_a a) (ring like_a b))
        (λ q. omega (arith, join_items like_a a_rings a b k j a_apart a_one q, ap (count q) (a_ring a), ap (count q) (a_ring b)))
        (λ q i. (ring_joint like_a a_rings a b k j a_apart a_one q i).0)
        (λ q l n. (ring_aside like_a a_rings a b k j a_apart a_one q (live-labelled sp (label sp a) (ring sp b) q ∙ l) n).0 ∙ a_ring q)
        (λ q. live-spliced like_a a b q ∙ live-labelled sp (label sp a) (ring sp b) q)
        (λ q. label-spliced like_a a b q)
        now first_freed h.room

    pub loops-first : in_loops now.loops.items (spliced like_a a b) ≡ spliced (labelled (in_loops t.loops.items sp) (loop_at t.loops.items (label sp a)) (ring sp b)) a b
    loops-first = loops-spliced now.loops.items like_a a b
        ∙ ap (λ (s : Spots). spliced s a b) (loops-labelled sp like_a t.loops.items now.loops.items (loop_at t.loops.items (label sp a)) (ring sp b) (blank-labelled sp (label sp a) (ring sp b))
        (λ q k i. ap (loop_at now.loops.items) (label-labelled_in sp (label sp a) (ring sp b) q i k) ∙ first_freed.other (label sp a) (λ e. other (sym e)))
        (λ q k n. ap (loop_at now.loops.items) (label-labelled_out sp (label sp a) (ring sp b) q n) ∙ freed_other sp known t A b a b_there a_there named other now first_freed q k n))

  -- that of b, which then stands for the loop of a
  module _ (named : label sp b ≢ 0) (mid now : Labels) (kept : ℕ) (s : StandsFor t mid (label sp b) kept) (h : IsTakenBack mid now (label sp a)) (is : kept ≡ loop_at t.loops.items (label sp a)) where
    M : AreLabelled sp known mid
    M = labelled-stands sp known t [] A mid b kept b_there refl named s

    ne : label sp a ≢ label sp b
    ne e = other (sym e)

    second_freed : IsFreed mid now (IsUsed sp []) (label sp a)
    second_freed = freed mid now (IsUsed sp []) M.table (label sp a) (λ z. (a, a_there, refl, refl)) h

    abbrev like_b : Spots
    like_b = labelled sp (label sp b) (ring sp a)

    b_rings : AreRings like_b
    b_rings = shared_rings sp known mid M a b a_there b_there named ne

    b_ring : (q : ℕ) → ring like_b q ≡ ring sp q
    b_ring = shared_ring sp known mid M a b a_there b_there named ne

    b_one : label like_b b ≡ label like_b a
    b_one = shared_rest sp known mid M a b a_there b_there named ne ∙ sym (shared_part sp known mid M a b a_there b_there named ne)

    b_apart : count b (ring like_b a) ≡ 0
    b_apart = ap (count b) (b_ring a) ∙ elim (IsIn_or_not b (ring sp a)) [
      | inl i ↦ absurd (let n = two_rings sp known mid M a b a_there b_there named ne b i in omega (arith, n, (A.rings.rings b b_there).item))
      | inr n ↦ n
    ]

    pub labelled-second : AreLabelled (spliced like_b a b) known now
    labelled-second =
        let k : live like_b a ≡ true = live-labelled sp (label sp b) (ring sp a) a ∙ a_there in
        let j : live like_b b ≡ true = live-labelled sp (label sp b) (ring sp a) b ∙ b_there in
        labelled-joint sp known mid M a b a_there b_there named ne (spliced like_b a b) (AreRings-join like_b b_rings a b k j b_apart b_one) (joined a b (ring like_b a) (ring like_b b))
        (λ q. omega (arith, join_items like_b b_rings a b k j b_apart b_one q, ap (count q) (b_ring a), ap (count q) (b_ring b)))
        (λ q i. (ring_joint like_b b_rings a b k j b_apart b_one q i).0)
        (λ q l n. (ring_aside like_b b_rings a b k j b_apart b_one q (live-labelled sp (label sp b) (ring sp a) q ∙ l) n).0 ∙ b_ring q)
        (λ q. live-spliced like_b a b q ∙ live-labelled sp (label sp b) (ring sp a) q)
        (λ q. label-spliced like_b a b q)
        now second_freed h.room

    -- the label of b stands for the loop of a
    at_b : loop_at now.loops.items (label sp b) ≡ loop_at t.loops.items (label sp a)
    at_b = second_freed.other (label sp b) other ∙ stands_here t mid (label sp b) kept s (label_row sp known t [] A b b_there refl) ∙ is

    pub loops-second : in_loops now.loops.items (spliced like_b a b) ≡ spliced (labelled (in_loops t.loops.items sp) (loop_at t.loops.items (label sp a)) (ring sp b)) a b
    loops-second = loops-spliced now.loops.items like_b a b
        ∙ ap (λ (v : Spots). spliced v a b) (loops-labelled sp like_b t.loops.items now.loops.items (loop_at t.loops.items (label sp a)) (ring sp b) (blank-labelled sp (label sp b) (ring sp a))
        (λ q k i. ap (loop_at now.loops.items) (label-labelled_out sp (label sp b) (ring sp a) q (elim (IsIn_or_not q (ring sp a)) [
          | inl j ↦ absurd (let n = two_rings sp known mid M a b a_there b_there named ne q j in omega (arith, n, i))
          | inr n ↦ n
        ]) ∙ (A.rings.rings b b_there).one_label q i) ∙ at_b)
        (λ q k n. elim (IsIn_or_not q (ring sp a)) [
          | inl i ↦ ap (loop_at now.loops.items) (label-labelled_in sp (label sp b) (ring sp a) q i k) ∙ at_b ∙ ap (loop_at t.loops.items) (sym ((A.rings.rings a a_there).one_label q i))
          | inr m ↦ ap (loop_at now.loops.items) (label-labelled_out sp (label sp b) (ring sp a) q m) ∙ freed_other sp known mid M a b a_there b_there named ne now second_freed q k m
              ∙ stands_other t mid (label sp b) kept s (label sp q) (λ e. absurd (let i : IsIn q (ring sp b) = A.one b q b_there k refl refl named e in omega (arith, i, n)))
        ]))
