-- Labels where edges come and go, and where there is room for more.
use Rattle.arena_rows.proofs.Prelude.{◌≡◌, ◌≢◌, ℕ, ◌+◌, ◌<◌, ◌≤◌, Bool, true, false, cond, [], ◌∷◌, Some, is_some, refl, sym, ap, subst, ◌∙◌, arith, ne_eqb, inl, inr, vec_capacity, cases_eq, insert, contains_key, RingMap, spot, or_zero, of_spot, ring_of_one, IsIn, plus, minus, IsIn_one, Labels, Spots, live, next, label, ring, woken, asleep, AreRings, loop_at, in_loops, IsUsed, AreLabelled, HaveMoreRoom, IsTakenBack, set_tail}
use Rattle.arena_rows.proofs.ring_spots_laws.SpotLaws.{live-set_tail, label-set_tail, ring-set_tail, AreRings-set_tail}
use Rattle.arena_rows.proofs.ring_spots_laws.RingMaps.{spot-insert, known-same}
use Rattle.arena_rows.proofs.ring_spots_laws.EdgeSpots.{w_rings, w_cases, w_label, w_old, old_ring, r_plus, r_minus, w_plus, w_minus, s_rings, s_ring, s_left, s_other}
use Rattle.arena_rows.proofs.ring_spots_laws.LabelTables.{table_as, table_more, rows_more, IsFreed, freed}
use Rattle.arena_rows.proofs.ring_spots_laws.LabelLaws.{labelled_is, room_as, label_row}
use Rattle.arena_rows.proofs.ring_spots_laws.LoopSpots.{loops-same, loops-asleep, loops-woken}
use Rattle.arena_rows.proofs.ring_spots_laws.Alone.{ring_alone}

-- a code wakes
pub spot-woken : (m new : RingMap) (c t : ℕ) → new ≡ insert m c (Some (ring_of_one c t)) → spot new ≡ woken (spot m) c t
spot-woken m new c t wakes = λ i q. (ap (λ (k : RingMap). spot k q) wakes ∙ spot-insert m c (Some (ring_of_one c t)) q) i

-- where a known code wakes the known codes stay
pub known-woken : (m new : RingMap) (c t : ℕ) → contains_key m c ≡ true → new ≡ insert m c (Some (ring_of_one c t)) → contains_key new ≡ contains_key m
known-woken m new c t there wakes = ap (λ (k : RingMap). contains_key k) wakes ∙ known-same m c (Some (ring_of_one c t)) there

-- whether another code is live
pub live-woken_other : (sp : Spots) (c t q : ℕ) → q ≢ c → live (woken sp c t) q ≡ live sp q
live-woken_other sp c t q n = ap (λ b. is_some (cond b (Some (ring_of_one c t)) (sp q))) (ne_eqb q c n)

module _ (sp : Spots) (known : ℕ → Bool) (t : Labels) (A : AreLabelled sp known t) where
  -- there is room for more labels, and more codes may be known
  module _ (new : Labels) (M : HaveMoreRoom t new) (now : Spots) (is : now ≡ sp) where
    pub labelled-room : (known' : ℕ → Bool) → ((c : ℕ) → known c ≡ true → known' c ≡ true) → ((c : ℕ) → known' c ≡ true → c + 2 < vec_capacity new.loops) → AreLabelled now known' new
    labelled-room known' more room = labelled_is sp now known' known' new (record {
      rings = A.rings;
      room = record { live_known = λ c a. more c (A.room.live_known c a); room = room; some = M.some A.room.some };
      table = table_more t new (IsUsed sp []) A.table M;
      alone = A.alone;
      one = A.one;
    }) is refl

    -- each code is seen in the loop in which it was seen
    pub loops-room : in_loops new.loops.items now ≡ in_loops t.loops.items sp
    loops-room = ap (in_loops new.loops.items) is ∙ loops-same sp sp t.loops.items new.loops.items (λ q. refl) (λ q a. rows_more t new M (label sp q) (label_row sp known t [] A q a refl))

  -- the live codes, their labels and their rings stay
  labelled_alike : (new : Spots) → AreRings new → ((q : ℕ) → live new q ≡ live sp q) → ((q : ℕ) → label new q ≡ label sp q) → ((q : ℕ) → ring new q ≡ ring sp q) → AreLabelled new known t
  labelled_alike new N lives labels rings = record {
    rings = N;
    room = room_as sp new known t t A.room (λ q a. sym (lives q) ∙ a) refl (omega arith);
    table = table_as t (IsUsed sp []) (IsUsed new []) A.table (λ n z u. (u.0, lives u.0 ∙ u.1, refl, labels u.0 ∙ u.3)) (λ n z u. (u.0, sym (lives u.0) ∙ u.1, refl, sym (labels u.0) ∙ u.3));
    alone = λ c a _ z. rings c ∙ A.alone c (sym (lives c) ∙ a) refl (sym (labels c) ∙ z);
    one = λ c d a b _ _ z e. subst (IsIn d) (sym (rings c)) (A.one c d (sym (lives c) ∙ a) (sym (lives d) ∙ b) refl refl (λ q. z (labels c ∙ q)) (sym (labels d) ∙ e ∙ labels c));
  }

  -- a half-edge starts elsewhere
  pub labelled-set_tail : (c v : ℕ) (now : Spots) (known' : ℕ → Bool) → now ≡ set_tail sp c v → known' ≡ known → AreLabelled now known' t
  labelled-set_tail c v now known' = labelled_is (set_tail sp c v) now known known' t (labelled_alike (set_tail sp c v) (AreRings-set_tail sp A.rings c v) (live-set_tail sp c v) (label-set_tail sp c v) (ring-set_tail sp A.rings c v))

  -- an edge goes to sleep, whose half-edges are rings of one, and their labels are taken back
  module _ (e : ℕ) (plus_live : live sp (plus e) ≡ true) (minus_live : live sp (minus e) ≡ true) (plus_next : next sp (plus e) ≡ plus e) (minus_next : next sp (minus e) ≡ minus e)
      (mid now : Labels) (h : IsTakenBack t mid (label sp (plus e))) (g : IsTakenBack mid now (label sp (minus e))) where
    -- each of the two half-edges is a ring of one
    alone_plus : ring sp (plus e) ≡ plus e ∷ []
    alone_plus = ring_alone sp A.rings (plus e) plus_live plus_next

    alone_minus : ring sp (minus e) ≡ minus e ∷ []
    alone_minus = ring_alone sp A.rings (minus e) minus_live minus_next

    abbrev less : Spots
    less = asleep (asleep sp (plus e)) (minus e)

    -- each other code keeps its label
    label_left : (c : ℕ) → c ≢ plus e → c ≢ minus e → label less c ≡ label sp c
    label_left c n m = ap (λ o. or_zero (of_spot (λ s. s.label) o)) (s_other sp A.rings e alone_plus alone_minus c n m)

    -- no other code has the label of one of the two, unless it is 0
    not_plus : (c : ℕ) → live sp c ≡ true → c ≢ plus e → label sp c ≢ 0 → label sp c ≢ label sp (plus e)
    not_plus c a ne z q = ne (IsIn_one (plus e) c (subst (IsIn c) alone_plus (A.one (plus e) c plus_live a refl refl (λ w. z (q ∙ w)) q)))

    not_minus : (c : ℕ) → live sp c ≡ true → c ≢ minus e → label sp c ≢ 0 → label sp c ≢ label sp (minus e)
    not_minus c a ne z q = ne (IsIn_one (minus e) c (subst (IsIn c) alone_minus (A.one (minus e) c minus_live a refl refl (λ w. z (q ∙ w)) q)))

    first : IsFreed t mid (IsUsed sp []) (label sp (plus e))
    first = freed t mid (IsUsed sp []) A.table (label sp (plus e)) (λ z. (plus e, plus_live, refl, refl)) h

    second : IsFreed mid now (λ n. IsUsed sp [] n × (n ≢ label sp (plus e))) (label sp (minus e))
    second = freed mid now (λ n. IsUsed sp [] n × (n ≢ label sp (plus e))) first.table (label sp (minus e)) (λ z. ((minus e, minus_live, refl, refl), not_plus (minus e) minus_live (λ q. absurd (omega (arith, q))) z)) g

    -- each ring has a label of its own once the edge sleeps
    pub labelled-asleep : AreLabelled less known now
    labelled-asleep = record {
      rings = s_rings sp A.rings e alone_plus alone_minus;
      room = room_as sp less known t now A.room (λ c a. (s_left sp A.rings e alone_plus alone_minus c a).2) (g.room ∙ h.room) (omega (arith, first.len, second.len));
      table = table_as now (λ n. (IsUsed sp [] n × (n ≢ label sp (plus e))) × (n ≢ label sp (minus e))) (IsUsed less []) second.table
          (λ n z u.
          let c = u.0.0.0 in
          let p : c ≢ plus e = λ q. u.0.1 (sym u.0.0.3 ∙ ap (label sp) q) in
          let m : c ≢ minus e = λ q. u.1 (sym u.0.0.3 ∙ ap (label sp) q) in
          (c, ap is_some (s_other sp A.rings e alone_plus alone_minus c p m) ∙ u.0.0.1, refl, label_left c p m ∙ u.0.0.3))
          (λ n z u.
          let l = s_left sp A.rings e alone_plus alone_minus u.0 u.1 in
          let is : label sp u.0 ≡ n = sym (label_left u.0 l.0 l.1) ∙ u.3 in
          let named : label sp u.0 ≢ 0 = λ q. z (sym is ∙ q) in
          (((u.0, l.2, refl, is), λ q. not_plus u.0 l.2 l.0 named (is ∙ q)), λ q. not_minus u.0 l.2 l.1 named (is ∙ q)));
      alone = λ c a _ z.
          let l = s_left sp A.rings e alone_plus alone_minus c a in
          (s_ring sp A.rings e alone_plus alone_minus c l.2 l.0 l.1).0 ∙ A.alone c l.2 refl (sym (label_left c l.0 l.1) ∙ z);
      one = λ c d a b _ _ z q.
          let l = s_left sp A.rings e alone_plus alone_minus c a in
          let k = s_left sp A.rings e alone_plus alone_minus d b in
          subst (IsIn d) (sym (s_ring sp A.rings e alone_plus alone_minus c l.2 l.0 l.1).0) (A.one c d l.2 k.2 refl refl (λ w. z (label_left c l.0 l.1 ∙ w)) (sym (label_left d k.0 k.1) ∙ q ∙ label_left c l.0 l.1));
    }

    -- what is seen of an edge that goes to sleep is that it sleeps
    pub loops-asleep_both : in_loops now.loops.items less ≡ asleep (asleep (in_loops t.loops.items sp) (plus e)) (minus e)
    loops-asleep_both =
        loops-same less less t.loops.items now.loops.items (λ q. refl) (λ q a.
        let l = s_left sp A.rings e alone_plus alone_minus q a in
        let is = label_left q l.0 l.1 in
        elim (cases_eq (label less q) 0) [
          | inl z ↦ ap (loop_at now.loops.items) z ∙ second.table.none ∙ sym (ap (loop_at t.loops.items) z ∙ A.table.none)
          | inr z ↦
              let named : label sp q ≢ 0 = λ w. z (is ∙ w) in
              second.other (label less q) (λ w. not_minus q l.2 l.1 named (sym is ∙ w)) ∙ first.other (label less q) (λ w. not_plus q l.2 l.0 named (sym is ∙ w))
        ])
        ∙ loops-asleep t.loops.items (asleep sp (plus e)) (minus e) ∙ ap (λ s. asleep s (minus e)) (loops-asleep t.loops.items sp (plus e))

  -- an edge wakes, and each half-edge has label 0
  module _ (e u v : ℕ) (limit : e ≤ 1000000) (dead_plus : live sp (plus e) ≡ false) (dead_minus : live sp (minus e) ≡ false) (plus_known : known (plus e) ≡ true) (minus_known : known (minus e) ≡ true) where
    abbrev wide : Spots
    wide = woken (woken sp (plus e) u) (minus e) v

    -- a live code with another label was live
    was_live : (c : ℕ) → live wide c ≡ true → label wide c ≢ 0 → live sp c ≡ true
    was_live c a z = elim (w_cases sp A.rings e u v limit dead_plus dead_minus c a) [
      | inl p ↦ absurd (z (ap (label wide) p ∙ ap (λ o. or_zero (of_spot (λ s. s.label) o)) (w_plus sp A.rings e u v limit dead_plus dead_minus)))
      | inr (inl p) ↦ absurd (z (ap (label wide) p ∙ ap (λ o. or_zero (of_spot (λ s. s.label) o)) (w_minus sp A.rings e u v limit dead_plus dead_minus)))
      | inr (inr b) ↦ b
    ]

    label_kept : (c : ℕ) → live sp c ≡ true → label wide c ≡ label sp c
    label_kept = w_label sp A.rings e u v limit dead_plus dead_minus

    ring_is_kept : (c : ℕ) → live sp c ≡ true → ring wide c ≡ ring sp c
    ring_is_kept c a = (old_ring sp A.rings e u v limit dead_plus dead_minus c a).0

    pub labelled-woken : (now : Spots) (known' : ℕ → Bool) → now ≡ wide → known' ≡ known → AreLabelled now known' t
    labelled-woken now known' = labelled_is wide now known known' t (record {
      rings = w_rings sp A.rings e u v limit dead_plus dead_minus;
      room = record {
        live_known = λ c a. elim (w_cases sp A.rings e u v limit dead_plus dead_minus c a) [
          | inl p ↦ ap known p ∙ plus_known
          | inr (inl p) ↦ ap known p ∙ minus_known
          | inr (inr b) ↦ A.room.live_known c b
        ];
        room = A.room.room;
        some = A.room.some;
      };
      table = table_as t (IsUsed sp []) (IsUsed wide []) A.table
          (λ n z w. (w.0, ap is_some (w_old sp A.rings e u v limit dead_plus dead_minus w.0 w.1) ∙ w.1, refl, label_kept w.0 w.1 ∙ w.3))
          (λ n z w. let b = was_live w.0 w.1 (λ q. z (sym w.3 ∙ q)) in (w.0, b, refl, sym (label_kept w.0 b) ∙ w.3));
      alone = λ c a _ z. elim (w_cases sp A.rings e u v limit dead_plus dead_minus c a) [
        | inl p ↦ subst (λ x. ring wide x ≡ x ∷ []) (sym p) (r_plus sp A.rings e u v limit dead_plus dead_minus).0
        | inr (inl p) ↦ subst (λ x. ring wide x ≡ x ∷ []) (sym p) (r_minus sp A.rings e u v limit dead_plus dead_minus).0
        | inr (inr b) ↦ ring_is_kept c b ∙ A.alone c b refl (sym (label_kept c b) ∙ z)
      ];
      one = λ c d a b _ _ z q.
          let k = was_live c a z in
          let j = was_live d b (λ w. z (sym q ∙ w)) in
          subst (IsIn d) (sym (ring_is_kept c k)) (A.one c d k j refl refl (λ w. z (label_kept c k ∙ w)) (sym (label_kept d j) ∙ q ∙ label_kept c k));
    })

  -- what is seen of it is that it wakes in no loop
  pub loops-woken_both : (e u v : ℕ) (now : Spots) → now ≡ woken (woken sp (plus e) u) (minus e) v → in_loops t.loops.items now ≡ woken (woken (in_loops t.loops.items sp) (plus e) u) (minus e) v
  loops-woken_both e u v now is = ap (in_loops t.loops.items) is ∙ loops-woken t.loops.items (woken sp (plus e) u) A.table.none (minus e) v ∙ ap (λ s. woken s (minus e) v) (loops-woken t.loops.items sp A.table.none (plus e) u)
