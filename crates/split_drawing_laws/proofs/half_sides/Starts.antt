-- The side of a half-edge, by the heights of its ends.
use Rattle.split_drawing_laws.proofs.Prelude.{◌≡◌, true, false, not, ◌||◌, ℤ, pos, arith, ℕ, cond, ◌&&◌, List, sym, ap, ◌∙◌, subst, ◌⊎◌, inl, inr, true≢false, int_lt, int_eq, ints, and_parts, opposite, height, are_opposite, is_on, Plane, count, IsIn, edge_of, plus, minus, Model, tail, loop_of, face_of, after, before, point_of, Sound, HasHalf, face_at, IsIn_or_not, edge_of-mate, mate_plus, mate_minus, cycle_there, plus_there, minus_there, loop_there, mate_there, IsIn-filter, halves_of_edge, half_after, loop_after, back_of, start, finish, boundary, crosses, straddling_faces, crossing_edges, is_place, places, with_crossings, from_place, Kept, CanBegin, Cuttable, none_in}
use Rattle.split_drawing_laws.proofs.crossings.Premises.{item_in_face, crossing_is_place, edge_facts, plus_crosses, minus_crosses, minus_is}
use Rattle.split_drawing_laws.proofs.crossings.Whole.{plus_on, minus_off, can_cut, crossings_keep, crossings_sound, start_minus, start_plus}
use Rattle.split_drawing_laws.proofs.crossings.Runs.{kept_point}
use Rattle.split_drawing_laws.proofs.pairs.LoopPlaces.{on_place, before_after}
use Rattle.split_drawing_laws.proofs.half_sides.Pieces.{after_once, CutBy, Pieces, crossing_pieces}

-- b is where two half-edges meet: off the plane both lie on one side
pub side_kept : (a b c : ℤ) → opposite a b ≡ false → opposite b c ≡ false → int_eq b (pos 0) ≡ false → (int_lt (pos 0) b || int_lt (pos 0) c) ≡ (int_lt (pos 0) a || int_lt (pos 0) b)
side_kept a b c x y off = grind (arith, ints)

-- and on it, between opposite ends, they lie on different sides
pub side_changed : (a b c : ℤ) → int_eq b (pos 0) ≡ true → opposite a c ≡ true → (int_lt (pos 0) b || int_lt (pos 0) c) ≡ not (int_lt (pos 0) a || int_lt (pos 0) b)
side_changed a b c on x = grind (arith, ints)

-- what doesn't cross the plane starts on its closed side
pub starts_above : (a b : ℤ) → opposite a b ≡ false → (int_lt (pos 0) a || int_lt (pos 0) b) ≡ true → int_lt a (pos 0) ≡ false
starts_above a b x e = grind (arith, ints)

pub starts_below : (a b : ℤ) → (int_lt (pos 0) a || int_lt (pos 0) b) ≡ false → int_lt (pos 0) a ≡ false
starts_below a b e = grind (arith, ints)

-- what starts on the plane lies where it ends
pub side_ahead : (a b : ℤ) → int_eq a (pos 0) ≡ true → (int_lt (pos 0) a || int_lt (pos 0) b) ≡ int_lt (pos 0) b
side_ahead a b on = grind (arith, ints)

-- an end on the plane crosses nothing
pub level_start : (a b : ℤ) → int_eq a (pos 0) ≡ true → opposite a b ≡ false
level_start a b on = grind (arith, ints)

pub level_end : (a b : ℤ) → int_eq b (pos 0) ≡ true → opposite a b ≡ false
level_end a b on = grind (arith, ints)

pub crosses_back : (a b : ℤ) → opposite a b ≡ false → opposite b a ≡ false
crosses_back a b x = grind (arith, ints)

-- ---- where half-edges start once the crossing edges of a solid are cut, and where its loops then turn at the plane

-- what follows x in N starts at a cut place of M, and there the loop comes from one side and goes to the other
pub record TurnAt (M N : Model) (p : Plane) (x : ℕ) : Type 0 where
  pub place : ℕ
  pub of_face : IsIn place (places M p (face_at N (after N x)))
  pub is : from_place N p place ≡ after N x
  pub ends : finish N (after N x) ≡ finish M place
  pub across : are_opposite p (start N x) (finish N (after N x)) ≡ true

module _ (M : Model) (s : ℕ) (p : Plane) (t : ℕ) (sound : Sound M) (begins : CanBegin M s p t) where
  abbrev N : Model
  N = (with_crossings M s p).model

  abbrev es : List ℕ
  es = crossing_edges M p s

  pieces : Pieces M N es
  pieces = crossing_pieces M s p t sound begins

  premises : Cuttable M s p
  premises = can_cut M s p t sound begins

  keep : Kept M N
  keep = crossings_keep M s p t sound begins

  new_sound : Sound N
  new_sound = crossings_sound M s p t sound begins

  -- ---- old half-edges

  uncut_start : (h : ℕ) → HasHalf M h → count (edge_of h) es ≡ 0 → start N h ≡ start M h
  uncut_start h there z = elim (halves_of_edge h) [
    | inl e ↦ subst (λ x. start N x ≡ start M x) (sym e.0) (start_plus M s p t sound begins (edge_of h) there z)
    | inr e ↦ subst (λ x. start N x ≡ start M x) (sym e.0) (start_minus M s p t sound begins (edge_of h) there)
  ]

  pub old_face : (h : ℕ) → HasHalf M h → face_at N h ≡ face_at M h
  old_face h there = ap (face_of N) (keep.loop h there) ∙ keep.face (loop_of M h)

  crossing_half : (h : ℕ) → IsIn (edge_of h) es → crosses M p h ≡ true
  crossing_half h i = grind (arith, halves_of_edge, edge_facts, minus_is, premises)

  in_boundary : (h f : ℕ) → HasHalf M h → face_at M h ≡ f → IsIn h (boundary M f)
  in_boundary h f there at = subst (λ g. IsIn h (boundary M g)) at (item_in_face M h (loop_of M h) (loop_there M sound h there) (cycle_there M sound h there))

  in_places : (h f : ℕ) → HasHalf M h → face_at M h ≡ f → is_place M p h ≡ true → IsIn h (places M p f)
  unfolding places
  in_places h f there at place = IsIn-filter (is_place M p) h (boundary M f) (in_boundary h f there at) place

  -- ---- new half-edges

  module _ (e k : ℕ) (i : IsIn e es) (w : CutBy M N e k) where
    first_start : start N (plus k) ≡ start M (plus e)
    first_start = ap (point_of N) w.starts ∙ kept_point M N keep (tail M (plus e)) (sound.tails_there (plus e) (plus_there M e w.old))

    second_start : start N (minus k) ≡ start N (plus e)
    second_start = ap (point_of N) (ap (tail N) (sym w.second) ∙ new_sound.ends_meet (minus e) (keep.halves (minus e) (minus_there M e w.old)) ∙ ap (tail N) (mate_minus e))

    first_face : face_at N (plus k) ≡ face_at M (plus e)
    first_face = ap (face_of N) (sym (loop_after N new_sound (plus k) (plus_there N k w.there)) ∙ ap (loop_of N) w.first) ∙ old_face (plus e) (plus_there M e w.old)

    second_face : face_at N (minus k) ≡ face_at M (minus e)
    second_face = ap (face_of N) (ap (loop_of N) (sym w.second) ∙ loop_after N new_sound (minus e) (keep.halves (minus e) (minus_there M e w.old))) ∙ old_face (minus e) (minus_there M e w.old)

    first_off : is_on p (start N (plus k)) ≡ true → ⊥
    first_off on = grind (arith, true≢false, plus_crosses, premises, level_start, first_start)

  -- a half-edge starts on the plane, or where one of its face did
  abbrev pub Comes : ℕ → Type 0
  Comes h = (is_on p (start N h) ≡ true) ⊎ ((g : ℕ) × HasHalf M g × (start N h ≡ start M g) × (face_at N h ≡ face_at M g))

  old_comes : (h : ℕ) → HasHalf M h → start N h ≡ start M h → Comes h
  old_comes h there same = inr (h, there, same, old_face h there)

  pub comes_from : (h : ℕ) → HasHalf N h → Comes h
  comes_from h there = elim (pieces.edges (edge_of h) there) [
    | inl old ↦ elim (halves_of_edge h) [
      | inl a ↦ grind (arith, IsIn_or_not, plus_on, old_comes, uncut_start)
      | inr a ↦ old_comes h old (ap (start N) a.0 ∙ start_minus M s p t sound begins (edge_of h) old ∙ ap (start M) (sym a.0))
    ]
    | inr w ↦ elim (halves_of_edge h) [
      | inl a ↦ inr (plus w.0, plus_there M w.0 w.2.old, ap (start N) a.0 ∙ first_start w.0 (edge_of h) w.1 w.2, ap (face_at N) a.0 ∙ first_face w.0 (edge_of h) w.1 w.2)
      | inr a ↦ inl (ap (λ x. is_on p (start N x)) a.0 ∙ ap (is_on p) (second_start w.0 (edge_of h) w.1 w.2) ∙ plus_on M s p t sound begins w.0 w.1)
    ]
  ]

  -- ---- where a loop of a face that straddles meets the plane

  module _ (x : ℕ) (there : HasHalf N x) (on : is_on p (start N (after N x)) ≡ true) (straddling : IsIn (face_at N (after N x)) (straddling_faces M p s)) where
    abbrev y : ℕ
    y = after N x

    abbrev f : ℕ
    f = face_at N y

    -- inside an edge, from its plus half
    at_plus : (e : ℕ) → IsIn e es → after N x ≡ plus e → TurnAt M N p x
    at_plus e i is =
        let k : ℕ = (pieces.cuts e i).0 in
        let w : CutBy M N e k = (pieces.cuts e i).1 in
        let from : x ≡ plus k = after_once N new_sound x (plus k) there (plus_there N k w.there) (is ∙ sym w.first) in
        let end : finish N (after N x) ≡ start M (minus e) = ap (finish N) is ∙ ap (start N) (mate_plus e) ∙ start_minus M s p t sound begins e w.old in
        record {
          place = plus e;
          of_face = in_places (plus e) f (plus_there M e w.old) (sym (old_face (plus e) (plus_there M e w.old)) ∙ ap (face_at N) (sym is)) (crossing_is_place M p (plus e) (edge_facts M sound s p e i).2);
          is = ap (λ b. cond b (plus e) (after N (plus e))) (plus_on M s p t sound begins e i) ∙ sym is;
          ends = end ∙ sym (ap (start M) (mate_plus e));
          across = (λ j. are_opposite p ((ap (start N) from ∙ first_start e k i w) j) (end j)) ∙ plus_crosses M sound s p premises e i;
        }

    -- inside an edge, from its minus half
    at_minus : (e k : ℕ) → IsIn e es → CutBy M N e k → after N x ≡ minus k → TurnAt M N p x
    at_minus e k i w is =
        let old : HasHalf M (minus e) = minus_there M e w.old in
        let from : x ≡ minus e = after_once N new_sound x (minus e) there (keep.halves (minus e) old) (is ∙ sym w.second) in
        let end : finish N (after N x) ≡ start M (plus e) = ap (finish N) is ∙ ap (start N) (mate_minus k) ∙ first_start e k i w in
        record {
          place = minus e;
          of_face = in_places (minus e) f old (sym (second_face e k i w) ∙ ap (face_at N) (sym is)) (crossing_is_place M p (minus e) (minus_is M sound s p premises e i));
          is = ap (λ b. cond b (minus e) (after N (minus e))) (minus_off M s p t sound begins e i) ∙ w.second ∙ sym is;
          ends = end ∙ sym (ap (start M) (mate_minus e));
          across = (λ j. are_opposite p ((ap (start N) from ∙ start_minus M s p t sound begins e w.old) j) (end j)) ∙ minus_crosses M sound s p premises e i;
        }

    -- at a corner of M
    module _ (old : HasHalf M (after N x)) (uncut : count (edge_of (after N x)) es ≡ 0) where
      on_old : is_on p (start M y) ≡ true
      on_old = ap (is_on p) (sym (uncut_start y old uncut)) ∙ on

      of_f : face_at M y ≡ f
      of_f = sym (old_face y old)

      is_then_place : is_place M p y ≡ true
      is_then_place = on_place M sound p f (premises.untouched f straddling) y (in_boundary y f old of_f) on_old

      crosses_not : crosses M p y ≡ false
      crosses_not = level_start (height p (start M y)) (height p (finish M y)) on_old

      opposite_then : are_opposite p (start M (before M y)) (finish M y) ≡ true
      unfolding is_place
      opposite_then = (and_parts (is_on p (start M y)) (are_opposite p (start M (before M y)) (finish M y))
          (sym (ap (λ a. a || (is_on p (start M y) && are_opposite p (start M (before M y)) (finish M y))) crosses_not) ∙ is_then_place)).1

      abbrev back : ℕ
      back = (back_of M sound y old).0

      back_there : HasHalf M back
      back_there = (back_of M sound y old).1

      back_leads : after M back ≡ y
      back_leads = (back_of M sound y old).2

      back_uncut : count (edge_of back) es ≡ 0
      back_uncut = none_in (edge_of back) es (λ i. true≢false (sym (crossing_half back i) ∙ level_end (height p (start M back)) (height p (finish M back))
          (ap (λ v. is_on p (point_of M v)) (sym (sound.ends_meet back back_there)) ∙ ap (λ z. is_on p (start M z)) back_leads ∙ on_old)))

      from_back : x ≡ back
      from_back = after_once N new_sound x back there (keep.halves back back_there)
          (sym (pieces.follows back back_there back_uncut (ap (λ z. count (edge_of z) es) back_leads ∙ uncut) ∙ back_leads))

      at_corner : TurnAt M N p x
      at_corner =
          grind (arith, in_places, of_f, is_then_place, from_back, uncut_start, back_there, back_uncut, opposite_then, back_leads, before_after, mate_there, edge_of-mate)

    pub turn_at : TurnAt M N p x
    turn_at = elim (pieces.edges (edge_of y) (half_after N new_sound x there)) [
      | inl old ↦ elim (IsIn_or_not (edge_of y) es) [
        | inl i ↦ elim (halves_of_edge y) [
          | inl a ↦ at_plus (edge_of y) i a.0
          | inr a ↦ absurd (true≢false (sym on ∙ ap (λ z. is_on p (start N z)) a.0 ∙ minus_off M s p t sound begins (edge_of y) i))
        ]
        | inr z ↦ at_corner old z
      ]
      | inr w ↦ grind (arith, halves_of_edge, first_off, at_minus)
    ]
