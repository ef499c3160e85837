-- How many operators a split takes.
use Rattle.commands.proofs.Prelude.{◌≡◌, ◌≢◌, ℕ, zero, suc, ◌+◌, ◌*◌, ◌-◌, ◌≤◌, Bool, true, false, cond, not, ◌&&◌, nat_eq, nat_lt, None, List, [], ◌∷◌, ◌++◌, length, length-append, map, filter, flat_map, fold, refl, sym, ap, ◌∙◌, arith, Plane, half, minus, Model, loop_of, is_ring_of, face_at, Sound, has_rings, Op, Taken, Growing, growing, undrawn, crossing_edges, straddling_faces, pair_count, next_cut, with_crossings, Drawing, FacePairs, in_one_loop, join_edge, join_pair, join_next, all_joined, ring_free, stuck_at, draw_pair, draw_next, all_drawn, rings_above, with_rings, drawn_between, next_drawn, straddling_pairs, with_drawings, numbers_after, below_halves, is_hole, holes_in, Caps, Opening, next_opened, upper_left, outer_caps, split_refusal, gives_ring, SplitsTakeSteps}
use Rattle.euler_operators.specs.declared.Op.TheVariants.{Kef, Part}
use Rattle.shapes.proofs.split.Facts.{split_opens}
use Rattle.split_drawing_laws.specs.crossings.CrossingOps as crossings
use Rattle.split_drawing_laws.specs.drawings.DrawingOps.{join_ops, draw_ops, ring_ops, share_ops, face_ops, ops_from, drawing_ops}
use Rattle.split_drawing_laws.specs.drawings.Pairs.{AllOf, pairs_in}
use Rattle.split_drawing_laws.proofs.crossings.Premises.{faces_not_zero}
use Rattle.split_drawing_laws.proofs.drawings.Counted.{pairs_counted, of_all_pairs}
use Rattle.split_drawing_laws.proofs.drawings.Passes.{join_next_one, join_next_two, draw_next_two, stuck_now}
use Rattle.split_drawing_laws.proofs.loop_sides.SidesWhole.{draws_go_on, not_stuck}
use Rattle.split_opening_laws.specs.strips.StripOps.{strip_ops, cut_strip, copy_ops, raise_copy}
use Rattle.split_opening_laws.specs.strips.Strips.{strips_cut}
use Rattle.split_opening_laws.specs.caps.CapOps.{joinings, partings, cap_ops}
use Rattle.split_opening_laws.specs.opening.OpeningOps.{opening_ops}
use Rattle.split_opening_laws.specs.sections.InTurn.{CanBeOpenedInTurn}
use Rattle.split_opening_laws.proofs.sections.InTurn.{can_open, others_on}
use Rattle.split_opening_laws.proofs.sections.Numbered.{length-numbers_after}
use Rattle.split_opening_laws.proofs.cycles.NextBelow.{cycles_long}
use Rattle.split_laws.specs.SplitOps.{openings_ops, closing_ops, hole_ops, split_ops}
use Rattle.split_laws.proofs.Flags.{filter_trues, flags_are, trues}
use Rattle.split_laws.proofs.drawn.Drawn.{never_stuck, drawn_sound, above_facts, can_open_all}
use Rattle.split_laws.proofs.Stages.{stages}

-- ---- the operators that give no ring to another face

abbrev others : List Op → ℕ
others ops = length (filter (λ o. not (gives_ring o)) ops)

abbrev one_if : Bool → ℕ
one_if b = cond b 1 0

length-cond : {X : Type 0} (b : Bool) (x : X) (xs : List X) → length (cond b (x ∷ xs) xs) ≡ one_if b + length xs
length-cond true x xs = omega arith
length-cond false x xs = omega arith

one_or_other : (b : Bool) → one_if (not b) + one_if b ≡ 1
one_or_other true = refl
one_or_other false = refl

others_and_rings : (ops : List Op) → length ops ≡ others ops + length (filter gives_ring ops)
others_and_rings [] = refl
others_and_rings (o ∷ ops) =
    omega (arith, others_and_rings ops, one_or_other (gives_ring o), length-cond (not (gives_ring o)) o (filter (λ x. not (gives_ring x)) ops), length-cond (gives_ring o) o (filter gives_ring ops))

others-append : (xs ys : List Op) → others (xs ++ ys) ≡ others xs + others ys
others-append [] ys = omega arith
others-append (x ∷ xs) ys =
    let b : Bool = not (gives_ring x) in
    omega (arith, others-append xs ys, length-cond b x (filter (λ o. not (gives_ring o)) (xs ++ ys)), length-cond b x (filter (λ o. not (gives_ring o)) xs))

-- ---- the first rewriting

crossing_others : (p : Plane) (g : Growing) (es : List ℕ) → others (crossings.ops_from p g es) ≡ length es
crossing_others p g [] = refl
crossing_others p g (e ∷ es) = ap suc (crossing_others p (next_cut p g e) es)

-- ---- the second

join_others : (M : Model) (q : ℕ × ℕ) (e : ℕ) → others (join_pair M q e ∷ []) ≡ 1
join_others M q e = either (is_ring_of M (face_at M q.0) (loop_of M q.0)) where
  either : (b : Bool) → others (cond b (join_edge q.1 q.0 e) (join_edge q.0 q.1 e) ∷ []) ≡ 1
  either true = refl
  either false = refl

-- each pair is joined or left
one_joined : (d : Drawing) (q : ℕ × ℕ) (b : Bool) → in_one_loop d.model q ≡ b → others (cond (in_one_loop d.model q) [] (join_pair d.model q (d.taken.edge + 1) ∷ [])) + length (join_next d q).left ≡ length d.left + 1
one_joined d q true e =
    omega (arith, ap (λ b. others (cond b [] (join_pair d.model q (d.taken.edge + 1) ∷ []))) e, ap (λ (x : Drawing). length x.left) (join_next_one d q e), length-append d.left (q ∷ []))
one_joined d q false e =
    omega (arith, ap (λ b. others (cond b [] (join_pair d.model q (d.taken.edge + 1) ∷ []))) e, ap (λ (x : Drawing). length x.left) (join_next_two d q e), join_others d.model q (d.taken.edge + 1))

joined_others : (d : Drawing) (qs : List (ℕ × ℕ)) → others (join_ops d qs) + length (fold join_next d qs).left ≡ length d.left + length qs
joined_others d [] = omega arith
joined_others d (q ∷ qs) =
    omega (arith, one_joined d q (in_one_loop d.model q) refl, joined_others (join_next d q) qs, others-append (cond (in_one_loop d.model q) [] (join_pair d.model q (d.taken.edge + 1) ∷ [])) (join_ops (join_next d q) qs))

-- where the drawing isn't stuck each pair that is left is drawn
one_drawn : (f : ℕ) → f ≢ 0 → (d : Drawing) (q : ℕ × ℕ) (qs : List (ℕ × ℕ)) → (fold (draw_next f) (draw_next f d q) qs).stuck ≡ 0 → (b : Bool) → in_one_loop d.model q ≡ b → others (cond (in_one_loop d.model q) (draw_pair d.taken q ∷ []) []) ≡ 1
one_drawn f some d q qs free true e = ap (λ b. others (cond b (draw_pair d.taken q ∷ []) [])) e
one_drawn f some d q qs free false e = absurd ((draws_go_on f (stuck_at f d) qs).stuck (stuck_now f d some) (ap (λ (x : Drawing). (fold (draw_next f) x qs).stuck) (sym (draw_next_two f d q e)) ∙ free))

drawn_others : (f : ℕ) → f ≢ 0 → (d : Drawing) (qs : List (ℕ × ℕ)) → (fold (draw_next f) d qs).stuck ≡ 0 → others (draw_ops f d qs) ≡ length qs
drawn_others f some d [] free = refl
drawn_others f some d (q ∷ qs) free =
    omega (arith, one_drawn f some d q qs free (in_one_loop d.model q) refl, drawn_others f some (draw_next f d q) qs free, others-append (cond (in_one_loop d.model q) (draw_pair d.taken q ∷ []) []) (draw_ops f (draw_next f d q) qs))

ring_others : (ls : List ℕ) (k : ℕ) → others (ring_ops ls k) ≡ 0
ring_others [] k = refl
ring_others (l ∷ ls) k = ring_others ls k

module _ (p : Plane) (f : ℕ) (qs : List (ℕ × ℕ)) (d : Drawing) (some : f ≢ 0) (free : (drawn_between p f qs d).stuck ≡ 0) where
  abbrev J : Drawing
  J = all_joined qs d

  abbrev R : Drawing
  R = ring_free f qs J

  abbrev L : Drawing
  L = all_drawn f R

  shared_others : (b : Bool) → others (cond b (ring_ops (rings_above L.model p f) L.taken.face) []) ≡ 0
  shared_others true = ring_others (rings_above L.model p f) L.taken.face
  shared_others false = refl

  shared_stuck : (b : Bool) → (cond b (record L { model = with_rings L.model (rings_above L.model p f) L.taken.face }) L).stuck ≡ L.stuck
  shared_stuck true = refl
  shared_stuck false = refl

  same_left : (b : Bool) → (cond b (stuck_at f J) J).left ≡ J.left
  same_left true = refl
  same_left false = refl

  face_others : others (face_ops p f qs d) ≡ length qs
  face_others =
      let joins : List Op = join_ops (record d { left = [] }) qs in
      let draws : List Op = draw_ops f R R.left in
      let shares : List Op = share_ops p f qs L in
      omega (
        arith,
        others-append joins (draws ++ shares),
        others-append draws shares,
        joined_others (record d { left = [] }) qs,
        ap length (same_left (nat_lt 1 (length qs) && has_rings J.model f)),
        drawn_others f some R R.left (sym (shared_stuck (nat_eq (length qs) 1)) ∙ free),
        shared_others (nat_eq (length qs) 1),
      )

faces_others : (p : Plane) (d : Drawing) (fs : List FacePairs) → AllOf (λ (f : FacePairs). f.face ≢ 0) fs → (fold (next_drawn p) d fs).stuck ≡ 0 → others (ops_from p d fs) ≡ pairs_in fs
unfolding next_drawn
faces_others p d [] some free = refl
faces_others p d (f ∷ fs) some free =
    omega (arith, others-append (face_ops p f.face f.pairs d) (ops_from p (next_drawn p d f) fs), face_others p f.face f.pairs d some.0 (not_stuck p (next_drawn p d f) fs free), faces_others p (next_drawn p d f) fs some.1 free)

-- ---- the third

strips_others : (M : Model) (s : ℕ) (c : Taken) (bs : List ℕ) (i : ℕ) → others (strip_ops M s c bs i) ≡ i
strips_others M s c bs zero = refl
strips_others M s c bs (suc i) = omega (arith, others-append (strip_ops M s c bs i) (cut_strip (strips_cut M s c bs i) c bs i ∷ []), strips_others M s c bs i)

copies_others : (M : Model) (c : Taken) (bs : List ℕ) (i : ℕ) → others (copy_ops M c bs i) ≡ i
copies_others M c bs zero = refl
copies_others M c bs (suc i) = omega (arith, others-append (copy_ops M c bs i) (raise_copy M c bs i ∷ []), copies_others M c bs i)

kills_others : (es : List ℕ) → others (map (λ e. Kef (half (minus e))) es) ≡ length es
kills_others [] = refl
kills_others (e ∷ es) = ap suc (kills_others es)

opening_others : (M : Model) (s : ℕ) (c : Taken) (bs : List ℕ) → 1 ≤ length bs → others (opening_ops M s c bs) ≡ 3 * length bs + 1
unfolding opening_ops cap_ops
opening_others M s c bs some =
    let m = length bs in let strips : List Op = strip_ops M s c bs m in let copies : List Op = copy_ops M c bs m in
    omega (
      arith,
      some,
      others-append (strips ++ copies) (joinings c m (m - 1) ++ partings c m),
      others-append strips copies,
      others-append (joinings c m (m - 1)) (partings c m),
      strips_others M s c bs m,
      copies_others M c bs m,
      kills_others (numbers_after (c.edge + m + 1) (m - 1)),
      length-numbers_after (c.edge + m + 1) (m - 1),
    )

openings_others : (above : List ℕ) (s : ℕ) (p : Plane) (o : Opening) (cs : List (List ℕ)) → CanBeOpenedInTurn above s o cs → others (openings_ops above s p o cs) ≡ 3 * length (flat_map (λ bs. bs) cs) + length cs
openings_others above s p o [] w = refl
openings_others above s p o (bs ∷ cs) w =
    omega (
      arith,
      others-append (opening_ops o.model s o.taken bs) (openings_ops above s p (next_opened p above s o bs) cs),
      length-append bs (flat_map (λ bs. bs) cs),
      opening_others o.model s o.taken bs (omega (arith, (can_open above s o bs cs w).cycle.two_halves)),
      openings_others above s p (next_opened p above s o bs) cs (others_on above s p o bs cs w),
    )

closing_others : (o : Caps) (ks : List Caps) → others (closing_ops o ks) ≡ 2 * length ks
closing_others o [] = refl
closing_others o (k ∷ ks) = omega (arith, closing_others o ks)

-- as many of some things pass a test as of others, where the answers are the same
same_passes : {X Y : Type 0} (f : X → Bool) (g : Y → Bool) (xs : List X) (ys : List Y) → map f xs ≡ map g ys → length (filter f xs) ≡ length (filter g ys)
same_passes f g xs ys e = filter_trues f xs ∙ ap trues e ∙ sym (filter_trues g ys)

-- ---- a split

module _ (M : Model) (s : ℕ) (p : Plane) (t : ℕ) (sound : Sound M) (accepted : split_refusal M s p t ≡ None) where
  open stages M s p t use {drawing as d, above, cycles, begun, opened}

  abbrev section : List ℕ
  section = below_halves d.model above s

  drawings : others (drawing_ops p (with_crossings M s p) (straddling_pairs M s p)) ≡ pair_count M p (straddling_faces M p s)
  unfolding drawing_ops with_drawings
  drawings =
      faces_others p (undrawn (with_crossings M s p)) (straddling_pairs M s p) (of_all_pairs (λ (f : FacePairs). f.face ≢ 0) M (with_crossings M s p).model p (straddling_faces M p s) (faces_not_zero M sound s p)) (never_stuck M s p t sound accepted)
      ∙ pairs_counted M (with_crossings M s p).model p (straddling_faces M p s)

  crossing : others (crossings.crossing_ops M s p) ≡ length (crossing_edges M p s)
  unfolding crossings.crossing_ops
  crossing = crossing_others p (growing M) (crossing_edges M p s)

  can_open_cycles : CanBeOpenedInTurn above s begun cycles
  can_open_cycles = can_open_all M s p t sound accepted

  long : length (flat_map (λ bs. bs) cycles) ≡ length section
  long = cycles_long d.model above s (drawn_sound M s p t sound accepted) (λ f l. (above_facts M s p t sound accepted f l).1) (split_opens M s p t accepted).unbranched

  holes : length (filter (λ (k : Caps). k.hole) opened.caps) ≡ length (holes_in d.model p cycles)
  holes = same_passes (λ (k : Caps). k.hole) (is_hole d.model p) opened.caps cycles (flags_are above s p begun cycles can_open_cycles)

  split_others : others (split_ops M s p t) ≡ length (crossing_edges M p s) + pair_count M p (straddling_faces M p s) + 3 * length section + length cycles + 2 * length (holes_in d.model p cycles) + 1
  unfolding split_ops
  split_others =
      let cuts : List Op = crossings.crossing_ops M s p in let draws : List Op = drawing_ops p (with_crossings M s p) (straddling_pairs M s p) in
      let opens : List Op = openings_ops above s p begun cycles in let closes : List Op = hole_ops opened.caps in let parts : List Op = Part s t (upper_left above opened.caps) ∷ [] in
      omega (
        arith,
        others-append (cuts ++ draws) (opens ++ (closes ++ parts)),
        others-append cuts draws,
        others-append opens (closes ++ parts),
        others-append closes parts,
        crossing,
        drawings,
        openings_others above s p begun cycles can_open_cycles,
        long,
        closing_others (outer_caps opened.caps) (filter (λ (k : Caps). k.hole) opened.caps),
        holes,
      )

pub splits_take_steps : SplitsTakeSteps
splits_take_steps M s p t sound accepted = omega (arith, others_and_rings (split_ops M s p t), split_others M s p t sound accepted)
