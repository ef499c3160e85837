-- A cut and a join, as the nodes and rows do them.
use Rattle.arena_rows.proofs.Prelude.{◌≡◌, ◌≢◌, ℕ, ◌+◌, true, List, Option, Some, None, sym, ap, subst, ◌∙◌, arith, inl, inr, eqb_tells, count, IsIn, head_or, IsIn_or_not, LoopCell, Empty, At, remove, tabulate, row_at, ArenaRows, RowsAreTied, loosened, Spots, codes, live, label, ring, spliced, labelled, AreRings, AreLoops, StandsAt, edge_row, loose_row, cut_left, cut_right, joined, IsIn-cut}
use Rattle.arena_rows.proofs.ring_spots_laws.SpotLaws.{ring_left, ring_right, ring_beside, cut_items, AreRings-cut, AreRings-labelled, ring-labelled, live-labelled, live-spliced, label-spliced, label-labelled_in, label-labelled_out, ring_joint, ring_aside, join_items, AreRings-join}
use Rattle.arena_rows.proofs.ring_spots_laws.SpotTables.{loose_none, loose_kept, loose_removed, loose_same, edges_same, tails-labelled, tails-spliced}
use Rattle.arena_rows.proofs.Tellings.{loose_added, same_loop}
use Rattle.arena_rows.proofs.Writes.{IsBare, none_in_bare, IsKept, IsTold, told_at, loops_told}

-- a and b live in one loop, apart, and loop l takes what is cut off; where l is 0 it becomes loose
pub record CutFacts (sp : Spots) (loops : List (Option LoopCell)) (a b l : ℕ) : Type 0 where
  pub a_there : live sp a ≡ true
  pub b_there : live sp b ≡ true
  pub looped : label sp a ≢ 0
  pub one : label sp b ≡ label sp a
  pub apart : a ≢ b
  pub free : l ≢ 0 → IsBare sp loops l

-- a lives in a loop, and b in another or in none
pub record JoinFacts (sp : Spots) (a b : ℕ) : Type 0 where
  pub a_there : live sp a ≡ true
  pub b_there : live sp b ≡ true
  pub looped : label sp a ≢ 0
  pub other : label sp b ≢ label sp a

module _ (arena : ArenaRows) (tied : RowsAreTied arena) where
  open arena use {spots, loops}
  open tied use {rings, loops_tied as are}

  module _ (a b l : ℕ) (g : CutFacts spots loops a b l) where
    abbrev label_a : ℕ
    label_a = label spots a

    abbrev whole : List ℕ
    whole = ring spots a

    abbrev left : List ℕ
    left = cut_left a b whole

    abbrev right : List ℕ
    right = cut_right a b whole

    abbrev cut_spots : Spots
    cut_spots = spliced spots a b

    abbrev labelled_spots : Spots
    labelled_spots = labelled cut_spots l (ring cut_spots b)

    -- b stands in the ring of a
    together : IsIn b whole
    together = same_loop spots loops rings are a b g.a_there g.b_there g.looped g.one

    -- the rings are rings once that one is cut
    pub rings_cut : AreRings cut_spots
    rings_cut = AreRings-cut spots rings a b g.a_there g.b_there together g.apart

    -- b is live then
    pub b_live_cut : live cut_spots b ≡ true
    b_live_cut = live-spliced spots a b b ∙ g.b_there

    -- the rings are rings once what is cut off has the label l
    pub rings_labelled : AreRings labelled_spots
    rings_labelled = AreRings-labelled cut_spots rings_cut b l b_live_cut

    -- a stands in the part that stays
    a_left : IsIn a left
    a_left = (IsIn-cut a b whole (rings.rings a g.a_there).apart (rings.rings a g.a_there).item together g.apart).0

    -- b stands in the part that is cut off
    b_right : IsIn b right
    b_right = (IsIn-cut a b whole (rings.rings a g.a_there).apart (rings.rings a g.a_there).item together g.apart).1

    -- the ring of b is the part that is cut off
    right_is : ring cut_spots b ≡ right
    right_is = (ring_right spots rings a b g.a_there g.b_there together g.apart b b_right).0

    -- the two parts have the items of the ring between them
    items : (x : ℕ) → count x left + count x right ≡ count x whole
    items = cut_items spots rings a b g.a_there g.b_there together g.apart

    -- the live codes stay
    pub live_cut : (x : ℕ) → live labelled_spots x ≡ live spots x
    live_cut x = live-labelled cut_spots l (ring cut_spots b) x ∙ live-spliced spots a b x

    -- the items of the ring are live
    awake_whole : (x : ℕ) → IsIn x whole → live spots x ≡ true
    awake_whole x i = (rings.rings a g.a_there).awake x i

    -- the items of the part that is cut off have the label l
    label_right : (x : ℕ) → IsIn x right → label labelled_spots x ≡ l
    label_right x i = label-labelled_in cut_spots l (ring cut_spots b) x (subst (IsIn x) (sym right_is) i) (live-spliced spots a b x ∙ awake_whole x (omega (arith, items x)))

    -- each other code keeps its label
    label_not_right : (x : ℕ) → count x right ≡ 0 → label labelled_spots x ≡ label spots x
    label_not_right x n = label-labelled_out cut_spots l (ring cut_spots b) x (ap (count x) right_is ∙ n) ∙ label-spliced spots a b x

    -- so do the items of the part that stays
    label_left : (x : ℕ) → IsIn x left → label labelled_spots x ≡ label_a
    label_left x i = label_not_right x (omega (arith, items x, (rings.rings a g.a_there).apart x)) ∙ (rings.rings a g.a_there).one_label x (omega (arith, items x))

    -- the label changes no ring
    ring_labelled : (x : ℕ) → ring labelled_spots x ≡ ring cut_spots x
    ring_labelled x = ring-labelled cut_spots rings_cut b l b_live_cut x

    -- the ring of a is the part that stays
    pub ring_of_left : ring labelled_spots a ≡ left
    ring_of_left = ring_labelled a ∙ (ring_left spots rings a b g.a_there g.b_there together g.apart a a_left).0

    -- the ring of b is the part that is cut off
    pub ring_of_right : ring labelled_spots b ≡ right
    ring_of_right = ring_labelled b ∙ right_is

    -- a code of another ring keeps its ring
    ring_out : (x : ℕ) → live spots x ≡ true → count x whole ≡ 0 → ring labelled_spots x ≡ ring spots x
    ring_out x h n = ring_labelled x ∙ (ring_beside spots rings a b g.a_there g.b_there together g.apart x h n).0

    -- a code of another ring keeps its label
    label_out : (x : ℕ) → count x whole ≡ 0 → label labelled_spots x ≡ label spots x
    label_out x n = label_not_right x (omega (arith, items x))

    -- what is labelled otherwise isn't in the ring
    out : (x : ℕ) → label spots x ≢ label_a → count x whole ≡ 0
    out x n = elim (IsIn_or_not x whole) [ inl i ↦ absurd (n ((rings.rings a g.a_there).one_label x i)) | inr m ↦ m ]

    -- the codes of another loop keep their rings
    pub ring_elsewhere : (q c : ℕ) → q ≢ label_a → live spots c ≡ true → label spots c ≡ q → ring labelled_spots c ≡ ring spots c
    ring_elsewhere q c n h e = ring_out c h (out c (λ z. n (sym e ∙ z)))

    -- a loop that is empty is another than that of a
    pub apart_rows : l ≢ 0 → l ≢ label_a
    apart_rows n e = none_in_bare spots loops a l (g.free n) (subst (StandsAt spots loops a) (sym e) (are.stands a g.a_there g.looped))

    -- the label l is another than that of a
    other_loop : l ≢ label_a
    other_loop e = elim (eqb_tells l 0) [ inl z ↦ g.looped (sym e ∙ z.1) | inr n ↦ apart_rows n.1 e ]

    -- what the two loops hold then
    in_left : (x : ℕ) → live labelled_spots x ≡ true → label labelled_spots x ≡ label_a → IsIn x left
    in_left x a' e = elim (IsIn_or_not x right) [
      | inl i ↦ absurd (other_loop (sym (label_right x i) ∙ e))
      | inr m ↦ let w : IsIn x whole = same_loop spots loops rings are a x g.a_there (sym (live_cut x) ∙ a') g.looped (sym (label_not_right x m) ∙ e) in omega (arith, items x)
    ]

    -- what has the label l is cut off, where l is a loop
    in_right : l ≢ 0 → (x : ℕ) → live labelled_spots x ≡ true → label labelled_spots x ≡ l → IsIn x right
    in_right n x a' e = elim (IsIn_or_not x right) [
      | inl i ↦ i
      | inr m ↦
          let o = sym (label_not_right x m) ∙ e in
          absurd (none_in_bare spots loops x l (g.free n) (subst (StandsAt spots loops x) o (are.stands x (sym (live_cut x) ∙ a') (λ z. n (sym o ∙ z)))))
    ]

    -- the rows after the cut
    module _ (new : List (Option LoopCell)) (fa : ℕ) (at_la : row_at new label_a ≡ Some (record { face = fa; stored = At a })) (at_l : l ≢ 0 → (f : ℕ) × (row_at new l ≡ Some (record { face = f; stored = At b })))
        (elsewhere : (q : ℕ) → q ≢ label_a → q ≢ l → row_at new q ≡ row_at loops q) (new_zero : row_at new 0 ≡ None) where
      -- the row of the loop of a says what it holds
      told_left : IsTold labelled_spots new label_a
      told_left = told_at labelled_spots new label_a fa (At a) at_la (live_cut a ∙ g.a_there, label_left a a_left) (λ x h e. subst (IsIn x) (sym ring_of_left) (in_left x h e))

      -- the row of loop l says what it holds
      told_right : l ≢ 0 → IsTold labelled_spots new l
      told_right n = told_at labelled_spots new l (at_l n).0 (At b) (at_l n).1 (live_cut b ∙ g.b_there, label_right b b_right) (λ x h e. subst (IsIn x) (sym ring_of_right) (in_right n x h e))

      -- the row of each other loop says what it said
      kept_loop : (q : ℕ) → q ≢ label_a → q ≢ l → IsKept spots labelled_spots loops new q
      kept_loop q n m = record {
        row = elsewhere q n m;
        stays = λ c h e. let o = out c (λ z. n (sym e ∙ z)) in (live_cut c ∙ h, label_out c o ∙ e, ring_out c h o);
        stood = λ c h e. elim (IsIn_or_not c right) [ inl i ↦ absurd (m (sym e ∙ label_right c i)) | inr k ↦ (sym (live_cut c) ∙ h, sym (label_not_right c k) ∙ e) ];
      }

      -- so the rows say what the loops hold
      pub AreLoops-cut : AreLoops labelled_spots new
      AreLoops-cut = loops_told spots labelled_spots loops new are new_zero (λ q some. elim (eqb_tells q label_a) [
        | inl p ↦ inr (subst (IsTold labelled_spots new) (sym p.1) told_left)
        | inr p ↦ elim (eqb_tells q l) [ inl r ↦ inr (subst (IsTold labelled_spots new) (sym r.1) (told_right (λ z. some (r.1 ∙ z)))) | inr r ↦ inl (kept_loop q p.1 r.1) ]
      ])

    -- the loose rings after the cut
    out_alike : (k : ℕ) → count k whole ≡ 0 → loose_row labelled_spots k ≡ loose_row spots k
    out_alike k n = loose_kept spots labelled_spots k (live_cut k) (λ h. (label_out k n, ring_out k h n))

    -- no item of the ring led a loose ring before
    in_none : (k : ℕ) → IsIn k whole → loose_row spots k ≡ None
    in_none k i = loose_none spots k (λ z. g.looped (sym ((rings.rings a g.a_there).one_label k i) ∙ z))

    -- the loose rings stay, where l is a loop
    pub loose-cut_to : l ≢ 0 → tabulate (loose_row labelled_spots) codes ≡ tabulate (loose_row spots) codes
    loose-cut_to n = loose_same spots labelled_spots (λ k. elim (IsIn_or_not k left) [
      | inl i ↦ loose_none labelled_spots k (λ z. g.looped (sym (label_left k i) ∙ z)) ∙ sym (in_none k (omega (arith, items k)))
      | inr m ↦ elim (IsIn_or_not k right) [
        | inl i ↦ loose_none labelled_spots k (λ z. n (sym (label_right k i) ∙ z)) ∙ sym (in_none k (omega (arith, items k)))
        | inr j ↦ out_alike k (omega (arith, items k))
      ]
    ])

    -- the part that is cut off becomes a loose ring, where l is 0
    pub loose-cut_loose : l ≡ 0 → tabulate (loose_row labelled_spots) codes ≡ loosened right (tabulate (loose_row spots) codes)
    loose-cut_loose z = loose_added spots labelled_spots rings rings_labelled b right (live_cut b ∙ g.b_there) (label_right b b_right ∙ z) ring_of_right (λ k i. in_none k (omega (arith, items k)))
        (λ k m. elim (IsIn_or_not k left) [
          | inl i ↦ loose_none labelled_spots k (λ y. g.looped (sym (label_left k i) ∙ y)) ∙ sym (in_none k (omega (arith, items k)))
          | inr j ↦ out_alike k (omega (arith, items k))
        ])

    -- the table of edges stays
    pub edges-cut : tabulate (edge_row labelled_spots) codes ≡ tabulate (edge_row spots) codes
    edges-cut = edges_same spots labelled_spots (λ q. tails-labelled cut_spots l (ring cut_spots b) q ∙ tails-spliced spots a b q)

  -- a's loop takes the ring of b, which stands in another loop or in none
  module _ (a b : ℕ) (g : JoinFacts spots a b) where
    abbrev label_of_a : ℕ
    label_of_a = label spots a

    abbrev label_of_b : ℕ
    label_of_b = label spots b

    abbrev ring_a : List ℕ
    ring_a = ring spots a

    abbrev ring_b : List ℕ
    ring_b = ring spots b

    abbrev relabelled_spots : Spots
    relabelled_spots = labelled spots label_of_a ring_b

    abbrev joined_spots : Spots
    joined_spots = spliced relabelled_spots a b

    abbrev joint : List ℕ
    joint = joined a b ring_a ring_b

    -- the rings are rings once the ring of b has the label of a
    pub rings_relabelled : AreRings relabelled_spots
    rings_relabelled = AreRings-labelled spots rings b label_of_a g.b_there

    -- a is live
    pub a_live : live relabelled_spots a ≡ true
    a_live = live-labelled spots label_of_a ring_b a ∙ g.a_there

    -- b is live
    pub b_live : live relabelled_spots b ≡ true
    b_live = live-labelled spots label_of_a ring_b b ∙ g.b_there

    -- the label changes no ring
    ring_relabelled : (x : ℕ) → ring relabelled_spots x ≡ ring spots x
    ring_relabelled x = ring-labelled spots rings b label_of_a g.b_there x

    -- the two rings have no item in common
    parted : (x : ℕ) → IsIn x ring_a → count x ring_b ≡ 0
    parted x i = elim (IsIn_or_not x ring_b) [ inl j ↦ absurd (g.other (sym ((rings.rings b g.b_there).one_label x j) ∙ (rings.rings a g.a_there).one_label x i)) | inr n ↦ n ]

    -- b stands in another ring than a
    b_apart : count b (ring relabelled_spots a) ≡ 0
    b_apart = ap (count b) (ring_relabelled a) ∙ elim (IsIn_or_not b ring_a) [ inl i ↦ absurd (g.other ((rings.rings a g.a_there).one_label b i)) | inr n ↦ n ]

    -- the items of the ring of b have the label of a
    label_in_b : (x : ℕ) → IsIn x ring_b → label relabelled_spots x ≡ label_of_a
    label_in_b x i = label-labelled_in spots label_of_a ring_b x i ((rings.rings b g.b_there).awake x i)

    -- each other code keeps its label
    label_not_in_b : (x : ℕ) → count x ring_b ≡ 0 → label relabelled_spots x ≡ label spots x
    label_not_in_b x n = label-labelled_out spots label_of_a ring_b x n

    -- so does a
    label_a_stays : label relabelled_spots a ≡ label_of_a
    label_a_stays = label_not_in_b a (parted a (rings.rings a g.a_there).item)

    -- b has the label that a has
    same_label : label relabelled_spots b ≡ label relabelled_spots a
    same_label = label_in_b b (rings.rings b g.b_there).item ∙ sym label_a_stays

    -- the rings are rings once the two are joined
    pub rings_joined : AreRings joined_spots
    rings_joined = AreRings-join relabelled_spots rings_relabelled a b a_live b_live b_apart same_label

    -- the joint ring is the same for the rings with the new label
    joint_relabelled : joined a b (ring relabelled_spots a) (ring relabelled_spots b) ≡ joint
    joint_relabelled = ap (λ w. joined a b w (ring relabelled_spots b)) (ring_relabelled a) ∙ ap (joined a b ring_a) (ring_relabelled b)

    -- the joint ring has the items of the two
    joint_items : (x : ℕ) → count x joint ≡ count x ring_a + count x ring_b
    joint_items x = ap (count x) (sym joint_relabelled) ∙ join_items relabelled_spots rings_relabelled a b a_live b_live b_apart same_label x ∙ ap (λ w. count x w + count x (ring relabelled_spots b)) (ring_relabelled a) ∙ ap (λ w. count x ring_a + count x w) (ring_relabelled b)

    -- the live codes stay
    pub live_joined : (x : ℕ) → live joined_spots x ≡ live spots x
    live_joined x = live-spliced relabelled_spots a b x ∙ live-labelled spots label_of_a ring_b x

    -- the items of the joint ring have the label of a
    label_in_joint : (x : ℕ) → IsIn x joint → label joined_spots x ≡ label_of_a
    label_in_joint x i = label-spliced relabelled_spots a b x ∙ elim (IsIn_or_not x ring_b) [
      | inl j ↦ label_in_b x j
      | inr n ↦ label_not_in_b x n ∙ (rings.rings a g.a_there).one_label x (omega (arith, joint_items x))
    ]

    -- a code that is not in the ring of b keeps its label
    label_stays : (x : ℕ) → count x ring_b ≡ 0 → label joined_spots x ≡ label spots x
    label_stays x n = label-spliced relabelled_spots a b x ∙ label_not_in_b x n

    -- the joint ring is the ring of its items
    ring_in_joint : (x : ℕ) → IsIn x joint → ring joined_spots x ≡ joint
    ring_in_joint x i = (ring_joint relabelled_spots rings_relabelled a b a_live b_live b_apart same_label x (subst (IsIn x) (sym joint_relabelled) i)).0 ∙ joint_relabelled

    -- a code of another ring keeps its ring
    ring_stays : (x : ℕ) → live spots x ≡ true → count x joint ≡ 0 → ring joined_spots x ≡ ring spots x
    ring_stays x h n = (ring_aside relabelled_spots rings_relabelled a b a_live b_live b_apart same_label x (live-labelled spots label_of_a ring_b x ∙ h) (ap (count x) joint_relabelled ∙ n)).0 ∙ ring_relabelled x

    -- what is labelled otherwise is in neither
    not_in_joint : (x : ℕ) → label spots x ≢ label_of_a → label spots x ≢ label_of_b → count x joint ≡ 0
    not_in_joint x n m = elim (IsIn_or_not x joint) [
      | inl i ↦ elim (IsIn_or_not x ring_a) [
        | inl j ↦ absurd (n ((rings.rings a g.a_there).one_label x j))
        | inr k ↦ let j : IsIn x ring_b = omega (arith, joint_items x) in absurd (m ((rings.rings b g.b_there).one_label x j))
      ]
      | inr k ↦ k
    ]

    -- the codes of another loop keep their rings
    pub ring_beside_joint : (q c : ℕ) → q ≢ label_of_a → q ≢ label_of_b → live spots c ≡ true → label spots c ≡ q → ring joined_spots c ≡ ring spots c
    ring_beside_joint q c n m h e = ring_stays c h (not_in_joint c (λ z. n (sym e ∙ z)) (λ z. m (sym e ∙ z)))

    -- the items of the ring of b stand in the joint one
    item_of_b : (x : ℕ) → IsIn x ring_b → IsIn x joint
    item_of_b x i = omega (arith, joint_items x)

    -- the table of edges stays
    pub edges-join : tabulate (edge_row joined_spots) codes ≡ tabulate (edge_row spots) codes
    edges-join = edges_same spots joined_spots (λ q. tails-spliced relabelled_spots a b q ∙ tails-labelled spots label_of_a ring_b q)

    -- a code of another ring leads the loose ring that it led
    loose_beside_joint : (k : ℕ) → count k joint ≡ 0 → loose_row joined_spots k ≡ loose_row spots k
    loose_beside_joint k n = loose_kept spots joined_spots k (live_joined k) (λ h. (label_stays k (omega (arith, joint_items k)), ring_stays k h n))

    -- no item of the joint ring leads a loose ring
    none_in_joint : (k : ℕ) → IsIn k joint → loose_row joined_spots k ≡ None
    none_in_joint k i = loose_none joined_spots k (λ z. g.looped (sym (label_in_joint k i) ∙ z))

    -- the loose rings stay, where b was in a loop
    pub loose-join_loops : label_of_b ≢ 0 → tabulate (loose_row joined_spots) codes ≡ tabulate (loose_row spots) codes
    loose-join_loops n = loose_same spots joined_spots (λ k. elim (IsIn_or_not k ring_a) [
      | inl i ↦ none_in_joint k (omega (arith, joint_items k)) ∙ sym (loose_none spots k (λ z. g.looped (sym ((rings.rings a g.a_there).one_label k i) ∙ z)))
      | inr m ↦ elim (IsIn_or_not k ring_b) [
        | inl i ↦ none_in_joint k (omega (arith, joint_items k)) ∙ sym (loose_none spots k (λ z. n (sym ((rings.rings b g.b_there).one_label k i) ∙ z)))
        | inr j ↦ loose_beside_joint k (omega (arith, joint_items k))
      ]
    ])

    -- the ring of b goes from the loose ones, where it was loose
    pub loose-join_loose : tabulate (loose_row joined_spots) codes ≡ remove (tabulate (loose_row spots) codes) (head_or 0 ring_b)
    loose-join_loose = loose_removed spots joined_spots rings rings_joined b g.b_there (λ k i. none_in_joint k (item_of_b k i))
        (λ k m. elim (IsIn_or_not k ring_a) [
          | inl i ↦ none_in_joint k (omega (arith, joint_items k)) ∙ sym (loose_none spots k (λ z. g.looped (sym ((rings.rings a g.a_there).one_label k i) ∙ z)))
          | inr j ↦ loose_beside_joint k (omega (arith, joint_items k))
        ])

    -- the items of the ring of a stand in the joint one
    joint_in : (d : ℕ) → IsIn d ring_a → IsIn d joint
    joint_in d i = omega (arith, i, joint_items d)

    -- each of them has the joint ring
    pub ring_of_joint : (d : ℕ) → IsIn d ring_a → ring joined_spots d ≡ joint
    ring_of_joint d i = ring_in_joint d (joint_in d i)

    -- what the two loops hold then
    in_joint : (x : ℕ) → live joined_spots x ≡ true → label joined_spots x ≡ label_of_a → IsIn x joint
    in_joint x h e = elim (IsIn_or_not x joint) [
      | inl i ↦ i
      | inr m ↦
          let w : IsIn x ring_a = same_loop spots loops rings are a x g.a_there (sym (live_joined x) ∙ h) g.looped (sym (label_stays x (omega (arith, joint_items x))) ∙ e) in
          omega (arith, joint_items x)
    ]

    -- nothing has the label of b any more, where b was in a loop
    none_left : label_of_b ≢ 0 → (x : ℕ) → live joined_spots x ≡ true → label joined_spots x ≡ label_of_b → ⊥
    none_left n x h e = elim (IsIn_or_not x joint) [
      | inl i ↦ g.other (sym e ∙ label_in_joint x i)
      | inr m ↦
          let w : IsIn x ring_b = same_loop spots loops rings are b x g.b_there (sym (live_joined x) ∙ h) n (sym (label_stays x (omega (arith, joint_items x))) ∙ e) in
          absurd (omega (arith, joint_items x))
    ]

    -- the rows after the join: loop b is empty, if it is a loop, and loop a has an entry d of its own
    module _ (d : ℕ) (d_in : IsIn d (ring spots a)) (new : List (Option LoopCell)) (fa : ℕ) (at_la : row_at new label_of_a ≡ Some (record { face = fa; stored = At d })) (at_lb : label_of_b ≢ 0 → (f : ℕ) × (row_at new label_of_b ≡ Some (record { face = f; stored = Empty })))
        (elsewhere : (q : ℕ) → q ≢ label_of_a → q ≢ label_of_b → row_at new q ≡ row_at loops q) (new_zero : row_at new 0 ≡ None) where
      -- the row of a's loop says what it holds
      told_joint : IsTold joined_spots new label_of_a
      told_joint = told_at joined_spots new label_of_a fa (At d) at_la (live_joined d ∙ (rings.rings a g.a_there).awake d d_in, label_in_joint d (joint_in d d_in)) (λ x h e. subst (IsIn x) (sym (ring_of_joint d d_in)) (in_joint x h e))

      -- the row of b's loop says that it is empty
      told_empty : label_of_b ≢ 0 → IsTold joined_spots new label_of_b
      told_empty n = told_at joined_spots new label_of_b (at_lb n).0 Empty (at_lb n).1 tt (λ x h e. absurd (none_left n x h e))

      -- the row of each other loop says what it said
      joined_kept : (q : ℕ) → q ≢ label_of_a → q ≢ label_of_b → IsKept spots joined_spots loops new q
      joined_kept q n m = record {
        row = elsewhere q n m;
        stays = λ c h e. let o = not_in_joint c (λ z. n (sym e ∙ z)) (λ z. m (sym e ∙ z)) in (live_joined c ∙ h, label_stays c (omega (arith, joint_items c)) ∙ e, ring_stays c h o);
        stood = λ c h e. elim (IsIn_or_not c joint) [ inl i ↦ absurd (n (sym e ∙ label_in_joint c i)) | inr k ↦ (sym (live_joined c) ∙ h, sym (label_stays c (omega (arith, joint_items c))) ∙ e) ];
      }

      -- so the rows say what the loops hold
      pub AreLoops-join : AreLoops joined_spots new
      AreLoops-join = loops_told spots joined_spots loops new are new_zero (λ q some. elim (eqb_tells q label_of_a) [
        | inl p ↦ inr (subst (IsTold joined_spots new) (sym p.1) told_joint)
        | inr p ↦ elim (eqb_tells q label_of_b) [ inl r ↦ inr (subst (IsTold joined_spots new) (sym r.1) (told_empty (λ z. some (r.1 ∙ z)))) | inr r ↦ inl (joined_kept q p.1 r.1) ]
      ])
