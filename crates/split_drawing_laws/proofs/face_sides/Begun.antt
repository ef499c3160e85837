-- The loops of a solid whose faces straddle a plane: each holds a half-edge, which tells its side, so that once the faces are drawn each lies on one side.
use Rattle.split_drawing_laws.proofs.Prelude.{◌≡◌, ℕ, Bool, true, false, ◌&&◌, ◌||◌, List, [], ◌∷◌, is_some, refl, sym, ap, ◌∙◌, subst, arith, inl, inr, map, not, nat_eq, eqb-true, eq-eqb, false_from_ne_true, first_fails, and_false, tick_other, count-append, tick_same, IsIn_or_not, in-holds, content_cycle, cycle_there, lone_there, same_outer, never_lone, same_solid as solid_same, zero_first_where, IsIn-map, IsIn-filter, IsIn_some_head, from_map, Plane, is_above, is_below, count, IsIn, head_or, Model, cycle, items_of, content, tail, loop_of, face_of, solid_of, outer, after, cycle_of, point_of, faces_of, LoopContent, has_half, Sound, Has, HasHalf, face_at, is_lone, lists, half_after, loop_after, half_face, no_zero, loop_row, not_lone_cycle, IsIn-from_listed, listed-from_in, none_counted, none_is_lone, split_begins, start, finish, boundary, vertices_on, loops_of, vertices_in, corners, some_above, reaches_above, straddling_faces, straddles, reaches_below, is_place, places, with_crossings, from_place, drawn_pairs, all_pairs, faces_drawn, undrawn, straddling_pairs, with_drawings, Kept, CanBegin, AllFit, ends, LiesOn, Parted, half_is_above, side_of, is_own, CanBeDrawn, TakeSides}
use Rattle.euler_operators.specs.Table as table
use Rattle.split_drawing_laws.proofs.crossings.Premises.{item_in_face, face_facts, in_solid, faces_not_zero, loop_in_face, solid_facts}
use Rattle.split_drawing_laws.proofs.crossings.Whole.{can_cut, crossings_keep, crossings_sound, same_solid}
use Rattle.split_drawing_laws.proofs.pairs.LoopPlaces.{none_passes}
use Rattle.split_drawing_laws.proofs.pairs.Whole.{place_now, pairs_fit, lone_pair, can_be_drawn, outer_cut}
use Rattle.split_drawing_laws.proofs.half_sides.PlaceEnds.{side_within, place_in_ends, pairs_up, side_beside, take_sides}
use Rattle.split_drawing_laws.proofs.face_sides.Beside.{HoldsOld}
use Rattle.split_drawing_laws.proofs.face_sides.OneFace.{IsSided, PairsOf, AllOld, Stage, all_done}
use Rattle.split_drawing_laws.proofs.face_sides.Shared.{any_from, HeldOn, none_from}
use Rattle.split_drawing_laws.proofs.drawings.Whole.{drawable, drawing_sound}
use Rattle.split_drawing_laws.proofs.loop_sides.Parting.{loop_on_one_side}
use Rattle.split_drawing_laws.proofs.loop_sides.SidesWhole.{all_drawn_parted, loops_on_one_side}
use Rattle.split_drawing_laws.specs.face_sides.Lone.{NoLoopIsLone}
use Rattle.split_drawing_laws.specs.face_sides.Laws.{IsDrawn}
use Rattle.split_drawing_laws.proofs.drawn_volumes.Bounds.{loop_facts}
use Rattle.split_drawing_laws.proofs.drawings.Counted.{of_all_pairs, faces_are}

-- the half-edges of pairs that fit are there
fits_old : (N : Model) (f : ℕ) (qs : List (ℕ × ℕ)) → AllFit N f qs → AllOld N qs
fits_old N f [] w = tt
fits_old N f (q ∷ qs) w = ((w.0.u_there, w.0.k_there), fits_old N f qs w.1)

-- ---- from the first conditions of a split to the sides of its loops and faces

cycle_of_items : (c : LoopContent) (zs : List ℕ) → c ≡ cycle zs → c ≡ cycle (items_of c)
cycle_of_items c zs e = e ∙ ap (λ d. cycle (items_of d)) (sym e)

-- a vertex on loops that aren't lone is the tail of one of their half-edges
pub record TailIn (D : Model) (v : ℕ) (ls : List ℕ) : Type 0 where
  pub half : ℕ
  pub loop : ℕ
  pub loop_in : IsIn loop ls
  pub half_in : IsIn half (items_of (content D loop))
  pub is : v ≡ tail D half

pub tail_in : (D : Model) (v : ℕ) (ls : List ℕ) → ((q : ℕ) → IsIn q ls → content D q ≡ cycle (items_of (content D q))) → IsIn v (vertices_in D ls) → TailIn D v ls
tail_in D v [] cycles i = absurd (omega (arith, i))
tail_in D v (l ∷ ls) cycles i = elim (IsIn_or_not v (vertices_on D (content D l))) [
  | inl j ↦
      let r = from_map (tail D) v (items_of (content D l)) (subst (λ c. IsIn v (vertices_on D c)) (cycles l (omega (arith, tick_same l))) j) in
      record { half = r.0; loop = l; loop_in = omega (arith, tick_same l); half_in = r.1; is = r.2 }
  | inr z ↦
      let r = tail_in D v ls (λ q k. cycles q (omega (arith, k))) (omega (arith, i, z, count-append v (vertices_on D (content D l)) (vertices_in D ls))) in
      record { half = r.half; loop = r.loop; loop_in = omega (arith, r.loop_in); half_in = r.half_in; is = r.is }
]

module _ (M : Model) (s : ℕ) (p : Plane) (t : ℕ) (sound : Sound M) (begins : CanBegin M s p t) where
  abbrev N : Model
  N = (with_crossings M s p).model

  abbrev fs : List ℕ
  fs = straddling_faces M p s

  abbrev side : ℕ → Bool
  side = side_of M s p

  new_sound : Sound N
  new_sound = crossings_sound M s p t sound begins

  keep : Kept M N
  keep = crossings_keep M s p t sound begins

  -- ---- no loop of the solid is lone

  no_lone : table.first_where (λ _ row. is_lone row.content && lists (faces_of M s) row.face) M.loops ≡ 0
  no_lone = none_is_lone M (faces_of M s) (split_begins M s p t begins).none_lone

  is_cycle : (q : ℕ) → Has M.loops q → solid_of M (face_of M q) ≡ s → content M q ≡ cycle (items_of (content M q))
  is_cycle q there of_s = not_lone_cycle (content M q) (first_fails (is_lone (content M q)) (lists (faces_of M s) (face_of M q))
      (zero_first_where (λ _ row. is_lone row.content && lists (faces_of M s) row.face) M.loops (λ l row at z. no_zero l z (sound.loops_fit l (ap is_some at))) no_lone q _ (loop_row M q there)) listed) where
        listed : lists (faces_of M s) (face_of M q) ≡ true
        listed = listed-from_in (face_of M q) (faces_of M s) (in_solid M (face_of M q) s (sound.loops_of_faces q there) of_s)

  -- so each holds a half-edge
  pub loop_holds : (q : ℕ) → Has (with_crossings M s p).model.loops q → solid_of (with_crossings M s p).model (face_of (with_crossings M s p).model q) ≡ s → HoldsOld (with_crossings M s p).model (with_crossings M s p).model q
  loop_holds q there of_s =
      let was : Has M.loops q = sym (keep.loops q) ∙ there in
      let is : content M q ≡ cycle (items_of (content M q)) = is_cycle q was (ap (solid_of M) (sym (keep.face q)) ∙ sym (same_solid M s p t sound begins (face_of N q)) ∙ of_s) in
      let h = head_or 0 (items_of (content M q)) in
      let holds_h = in-holds h (content M q) (IsIn_some_head (items_of (content M q)) (sound.cycles q (items_of (content M q)) was is).some_item) in
      let h_there : HasHalf M h = sound.only_edges h q holds_h in
      record { half = h; old = keep.halves h h_there; at = keep.loop h h_there ∙ sound.one_loop h q holds_h }

  -- a face that doesn't straddle lies on one side
  pub sided_first : (g : ℕ) → Has (with_crossings M s p).model.faces g → solid_of (with_crossings M s p).model g ≡ s → count g (straddling_faces M p s) ≡ 0 → IsSided (with_crossings M s p).model (with_crossings M s p).model (side_of M s p) g
  sided_first g there of_s z = (
    reaches_above M p g,
    λ q q_there at.
        let a : HoldsOld N N q = loop_holds q q_there (ap (solid_of N) at ∙ of_s) in
        let face : face_at N a.half ≡ g = ap (face_of N) a.at ∙ at in
        record { held = a; on = side_beside M s p t sound begins a.half (ap (lists fs) face ∙ false_from_ne_true (lists fs g) (λ e. absurd (omega (arith, z, IsIn-from_listed g fs e)))) ∙ ap (reaches_above M p) face },
  )

  -- ---- the faces that straddle

  module _ (f : ℕ) (i : IsIn f (straddling_faces M p s)) where
    -- a loop of f with a corner above holds a half-edge above, and one without holds one below
    module _ (r : ℕ) (there : Has N.loops r) (at : face_of N r ≡ f) where
      some_half : HoldsOld N N r
      some_half = loop_holds r there (ap (solid_of N) at ∙ same_solid M s p t sound begins f ∙ (face_facts M s p f i).1)

      abbrev h : ℕ
      h = some_half.half

      abbrev xs : List ℕ
      xs = cycle_of N h

      content_is : content N r ≡ cycle xs
      content_is = ap (content N) (sym some_half.at) ∙ content_cycle N new_sound h some_half.old

      side_own : (z : ℕ) → loop_of N z ≡ r → side z ≡ half_is_above N p z
      side_own z e = side_within M s p t sound begins z (subst (λ g. IsIn g fs) (sym (ap (face_of N) e ∙ at)) i)

      item_loop : (z : ℕ) → IsIn z xs → HasHalf N z × (loop_of N z ≡ r)
      item_loop z j = let st = in-holds z (content N (loop_of N h)) j in (new_sound.only_edges z (loop_of N h) st, new_sound.one_loop z (loop_of N h) st ∙ some_half.at)

      held_above : some_above N p (vertices_on N (content N r)) ≡ true → HeldOn N N side r true
      held_above e =
          let v = any_from (λ v. is_above p (point_of N v)) (map (tail N) xs) (sym (ap (λ c. some_above N p (vertices_on N c)) content_is) ∙ e) in
          let z = from_map (tail N) v.0 xs v.1 in
          let w = item_loop z.0 z.1 in
          let up : is_above p (start N z.0) ≡ true = ap (λ u. is_above p (point_of N u)) (sym z.2) ∙ v.2 in
          record { held = record { half = z.0; old = w.0; at = w.1 }; on = side_own z.0 w.1 ∙ ap (λ b. b || is_above p (finish N z.0)) up }

      not_above : some_above N p (vertices_on N (content N r)) ≡ false → (z : ℕ) → IsIn z xs → is_above p (start N z) ≡ false
      not_above e z j = none_passes (λ v. is_above p (point_of N v)) (tail N z) (map (tail N) xs) (sym (ap (λ c. some_above N p (vertices_on N c)) content_is) ∙ e) (IsIn-map (tail N) z xs j)

      next_in : IsIn (after N h) xs
      next_in = subst (λ q. IsIn (after N h) (items_of (content N q))) (loop_after N new_sound h some_half.old) (cycle_there N new_sound (after N h) (half_after N new_sound h some_half.old))

      held_below : some_above N p (vertices_on N (content N r)) ≡ false → HeldOn N N side r false
      held_below e =
          let low : is_above p (start N h) ≡ false = not_above e h (cycle_there N new_sound h some_half.old) in
          let end : is_above p (finish N h) ≡ false = ap (λ u. is_above p (point_of N u)) (sym (new_sound.ends_meet h some_half.old)) ∙ not_above e (after N h) next_in in
          record { held = some_half; on = side_own h some_half.at ∙ (λ k. low k || end k) }

      ring_side : HeldOn N N side r (some_above N p (vertices_on N (content N r)))
      ring_side = above_or_below (some_above N p (vertices_on N (content N r))) refl where
        above_or_below : (b : Bool) → some_above N p (vertices_on N (content N r)) ≡ b → HeldOn N N side r b
        above_or_below true e = held_above e
        above_or_below false e = held_below e

    -- a cut place of the outer loop
    abbrev outer_items : List ℕ
    outer_items = items_of (content M (outer M f))

    outer_place : (x : ℕ) × IsIn x outer_items × (is_place M p x ≡ true)
    outer_place = any_from (is_place M p) outer_items (outer_cut M p f ((can_cut M s p t sound begins).not_often f i))

    abbrev x : ℕ
    x = outer_place.0

    outer_facts : Has M.loops (outer M f) × (face_of M (outer M f) ≡ f)
    outer_facts = sound.outers_there f (face_facts M s p f i).0

    x_place : IsIn x (places M p f)
    unfolding places
    x_place = IsIn-filter (is_place M p) x (boundary M f) (subst (λ g. IsIn x (boundary M g)) outer_facts.1 (item_in_face M x (outer M f) outer_facts.0 outer_place.1)) outer_place.2

    x_loop : loop_of N (from_place N p x) ≡ outer N f
    x_loop = (place_now M s p t sound begins f i x x_place).loop ∙ sound.one_loop x (outer M f) (in-holds x (content M (outer M f)) outer_place.1)
        ∙ sym (same_outer M N f (ap (λ u. table.get u f) keep.faces))

    x_end : IsIn (from_place N p x) (ends (drawn_pairs M N p f))
    x_end = place_in_ends M s p t sound begins f i x x_place

    single_outer : (q : ℕ × ℕ) → drawn_pairs M N p f ≡ q ∷ [] → loop_of N q.0 ≡ outer N f
    single_outer q e = grind (arith, x_loop, x_end, tick_other, eqb-true, lone_pair)

    pub pairs_of : PairsOf N (side_of M s p) p f (drawn_pairs M N p f)
    pairs_of = grind (arith, x_end, fits_old, pairs_fit, pairs_up, single_outer, ring_side)

  module _ (ends : (faces_drawn p (undrawn (with_crossings M s p)) (straddling_pairs M s p)).stuck ≡ 0) where
    abbrev D : Model
    D = (faces_drawn p (undrawn (with_crossings M s p)) (straddling_pairs M s p)).model

    can : CanBeDrawn (with_crossings M s p) (straddling_pairs M s p)
    can = can_be_drawn M s p t sound begins

    D_sound : Sound D
    D_sound = drawing_sound p (with_crossings M s p) (straddling_pairs M s p) can

    sides : TakeSides p (with_crossings M s p) (straddling_pairs M s p) side (is_own M s p)
    sides = take_sides M s p t sound begins

    parted : Parted N D p side (λ h. is_own M s p h ≡ true) []
    parted = all_drawn_parted p (with_crossings M s p) (straddling_pairs M s p) side (is_own M s p) can sides ends

    -- ---- the faces, from the first one drawn to the last

    straddling_there : (f : ℕ) → IsIn f fs → Has N.faces f
    straddling_there f i = subst (λ u. Has u f) (sym (crossings_keep M s p t sound begins).faces) (face_facts M s p f i).0

    face_in : (f : ℕ) → IsIn f (map (λ q. q.face) (all_pairs M N p fs)) → IsIn f fs
    face_in f i = subst (IsIn f) (faces_are M N p fs) i

    stage : Stage N D side s fs []
    stage = all_done N side s fs p new_sound (undrawn (with_crossings M s p)) (straddling_pairs M s p) 0 (drawable (with_crossings M s p) (straddling_pairs M s p) can) (λ f i. faces_not_zero M sound s p f (face_in f i)) face_in (of_all_pairs (λ q. PairsOf N side p q.face q.pairs) M N p fs pairs_of) ends
        (subst (Stage N N side s fs) (sym (faces_are M N p fs)) (grind (arith, sided_first, straddling_there)))

    -- ---- the half-edges of the solid

    own_before : (h : ℕ) → HasHalf N h → solid_of D (face_at D h) ≡ s → solid_of N (face_at N h) ≡ s
    own_before h there of_s = straddling_or_not (lists fs (face_at N h)) refl where
      straddling_or_not : (b : Bool) → lists fs (face_at N h) ≡ b → solid_of N (face_at N h) ≡ s
      straddling_or_not true e = same_solid M s p t sound begins (face_at N h) ∙ (face_facts M s p (face_at N h) (IsIn-from_listed (face_at N h) fs e)).1
      straddling_or_not false e = sym (solid_same N D (face_at N h) (stage.rows (face_at N h) (half_face N new_sound h there))) ∙ ap (solid_of D) (sym (stage.kept h there (none_counted (face_at N h) fs e))) ∙ of_s

    is_own_then : (h : ℕ) → solid_of D (face_at D h) ≡ s → is_own M s p h ≡ true
    unfolding is_own
    is_own_then h of_s = there_or_not (has_half N h) refl where
      there_or_not : (b : Bool) → has_half N h ≡ b → (not (has_half N h) || nat_eq (solid_of N (face_at N h)) s) ≡ true
      there_or_not false e = ap (λ b. not b || nat_eq (solid_of N (face_at N h)) s) e
      there_or_not true e = ap (λ b. not b || nat_eq (solid_of N (face_at N h)) s) e ∙ eq-eqb (solid_of N (face_at N h)) s (own_before h e of_s)

    pub loops_are_sided : (x y : ℕ) → HasHalf D x → HasHalf D y → loop_of D x ≡ loop_of D y → solid_of D (face_at D x) ≡ s → (b : Bool) × LiesOn p b (start D x) × LiesOn p b (start D y)
    loops_are_sided x y xt yt same of_s = loops_on_one_side p (with_crossings M s p) (straddling_pairs M s p) side (is_own M s p) can sides ends x y xt yt same
        (is_own_then x of_s) (is_own_then y (ap (λ q. solid_of D (face_of D q)) (sym same) ∙ of_s))

    -- ---- the corners of a face of the solid

    module _ (f : ℕ) (there : Has D.faces f) (of_s : solid_of D f ≡ s) where
      sided : IsSided N D side f
      sided = stage.done f there of_s refl

      abbrev b : Bool
      b = sided.0

      loop_cycle : (q : ℕ) → IsIn q (loops_of D f) → content D q ≡ cycle (items_of (content D q))
      loop_cycle q i = grind (arith, sided, loop_facts, D_sound, cycle_of_items, content_cycle, stage)

      item_lies : (h q : ℕ) → IsIn q (loops_of D f) → IsIn h (items_of (content D q)) → LiesOn p b (start D h)
      item_lies h q i j =
          let w = sided.1 q (loop_facts D D_sound f there q i).0 (loop_facts D D_sound f there q i).1 in
          let stands = in-holds h (content D q) j in
          let h_there : HasHalf D h = D_sound.only_edges h q stands in
          let at : loop_of D h ≡ q = D_sound.one_loop h q stands in
          let same : parted.side h ≡ b = loop_on_one_side N D p side (λ x. is_own M s p x ≡ true) D_sound parted h w.held.half h_there (stage.stays.halves w.held.half w.held.old) (at ∙ sym w.held.at)
          ∙ parted.kept w.held.half w.held.old ∙ w.on in
          subst (λ c. LiesOn p c (start D h)) same (parted.level h h_there (is_own_then h (ap (λ l. solid_of D (face_of D l)) at ∙ ap (solid_of D) (loop_facts D D_sound f there q i).1 ∙ of_s)))

      corner_lies : (v : ℕ) → IsIn v (corners D f) → LiesOn p b (point_of D v)
      unfolding corners
      corner_lies v i =
          let r : TailIn D v (loops_of D f) = tail_in D v (loops_of D f) loop_cycle i in
          subst (λ u. LiesOn p b (point_of D u)) (sym r.is) (item_lies r.half r.loop r.loop_in r.half_in)

      either_none : (c : Bool) → ((v : ℕ) → IsIn v (corners D f) → LiesOn p c (point_of D v)) → straddles D p f ≡ false
      unfolding straddles
      either_none true lies = ap (λ a. reaches_above D p f && a) (none_from (λ v. is_below p (point_of D v)) (corners D f) lies)
          ∙ and_false (reaches_above D p f)
      either_none false lies = ap (λ a. a && reaches_below D p f) (none_from (λ v. is_above p (point_of D v)) (corners D f) lies)

      pub face_is_sided : straddles D p f ≡ false
      face_is_sided = either_none b corner_lies

    -- ---- no loop of the solid is lone: each has a half-edge that is old

    pub drawn_none_lone : NoLoopIsLone D s
    drawn_none_lone l v at of_s =
        let there : Has D.loops l = lone_there D l v at in
        let face : Has D.faces (face_of D l) = D_sound.loops_of_faces l there in
        never_lone (items_of (content D l)) v (sym (loop_cycle (face_of D l) face of_s l (loop_in_face D l there)) ∙ at)

-- ---- the laws

pub loops_lie : (M D : Model) (s : ℕ) (p : Plane) (t : ℕ) → Sound M → CanBegin M s p t → IsDrawn M s p D → (x y : ℕ) → HasHalf D x → HasHalf D y →
    loop_of D x ≡ loop_of D y → solid_of D (face_at D x) ≡ s → (b : Bool) × LiesOn p b (start D x) × LiesOn p b (start D y)
unfolding with_drawings
loops_lie M D s p t sound begins drawn = subst (λ X. (x y : ℕ) → HasHalf X x → HasHalf X y → loop_of X x ≡ loop_of X y → solid_of X (face_at X x) ≡ s → (b : Bool) × LiesOn p b (start X x) × LiesOn p b (start X y))
    drawn.1 (loops_are_sided M s p t sound begins drawn.0)

pub none_straddles : (M D : Model) (s : ℕ) (p : Plane) (t : ℕ) → Sound M → CanBegin M s p t → IsDrawn M s p D → (f : ℕ) → lists (faces_of D s) f ≡ true → straddles D p f ≡ false
unfolding with_drawings
none_straddles M D s p t sound begins drawn = subst (λ X. (f : ℕ) → lists (faces_of X s) f ≡ true → straddles X p f ≡ false) drawn.1 (λ f i.
    let X : Model = (faces_drawn p (undrawn (with_crossings M s p)) (straddling_pairs M s p)).model in
    let w = solid_facts X s f (IsIn-from_listed f (faces_of X s) i) in
    face_is_sided M s p t sound begins drawn.0 f w.0 w.1)

pub none_lone : (M D : Model) (s : ℕ) (p : Plane) (t : ℕ) → Sound M → CanBegin M s p t → IsDrawn M s p D → NoLoopIsLone D s
unfolding with_drawings
none_lone M D s p t sound begins drawn = subst (λ X. NoLoopIsLone X s) drawn.1 (drawn_none_lone M s p t sound begins drawn.0)
