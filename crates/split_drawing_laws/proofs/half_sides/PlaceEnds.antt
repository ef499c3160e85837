-- The half-edges that start at the cut places of faces, each once, and the sides that the half-edges of the solid take.
use Rattle.split_drawing_laws.proofs.Prelude.{list_all, ◌≡◌, ℕ, ◌≤◌, List, [], ◌∷◌, ap, subst, arith, inl, inr, ◌≢◌, Bool, true, false, cond, not, pos, refl, sym, ◌∙◌, true≢false, ◌&&◌, ◌||◌, map, eqb-true, eqb_tells, and_parts, false_from_ne_true, Plane, count, IsIn, IsApart, tick, Model, solid_of, after, tail, loop_of, face_of, point_of, faces_of, height, is_on, cut_between, are_opposite, is_above, is_below, edge_of, plus, minus, Sound, Has, HasHalf, face_at, differ, lists, count-append, tick_same, tick_other, IsIn_or_not, plus_row, mate_plus, mate_minus, IsIn-map, IsApart-images, filter_passes, IsIn-filter, from_map, level_on, cycle_there, loop_there, halves_of_edge, back_of, half_after, loop_after, half_face, listed-from_in, IsIn-from_listed, drawn_pairs, all_pairs, from_place, straddling_pairs, start, finish, boundary, corners, edges_of, crosses, reaches_above, straddling_faces, crossing_edges, straddles, reaches_below, is_place, place_point, places, goes_up, is_crossed, is_up_and_down, in_pairs, up_first, sorted, sorted_pairs, place_pairs, with_crossings, AllOf, ends, all_ends, Crosses, AllCross, LiesOn, FacesCross, CanBegin, half_is_above, side_of, is_own, count-sorted, TakeSides}
use Rattle.split_drawing_laws.proofs.crossings.Whole.{item_there, item_face, turned, in_crossing, on_when, can_cut, crossings_sound, same_solid, none_crosses}
use Rattle.split_drawing_laws.proofs.crossings.Premises.{edge_facts, crossing_here, crossing_point, one_point, face_facts, any_passes, tail_in_face, faces_not_zero, in_solid, edge_listed}
use Rattle.split_drawing_laws.proofs.pairs.Sorted.{between, drawn, points_apart, all_places_drawn, sorted_apart}
use Rattle.split_drawing_laws.proofs.pairs.LoopPlaces.{places_even, none_passes}
use Rattle.split_drawing_laws.proofs.pairs.Whole.{places_in, places_apart, place_now, place_face}
use Rattle.split_drawing_laws.proofs.half_sides.Starts.{side_ahead, TurnAt, turn_at, side_kept, side_changed, starts_above, starts_below, crosses_back, comes_from}
use Rattle.euler_operators.specs.Table as table
use Rattle.split_drawing_laws.proofs.drawings.Counted.{of_all_pairs, straddling_apart, faces_are}
use Rattle.split_drawing_laws.proofs.loop_sides.Parting.{on_both}

module _ (M N : Model) (p : Plane) where
  pub in_all_ends : (f y : ℕ) (fs : List ℕ) → IsIn f fs → IsIn y (ends (drawn_pairs M N p f)) → IsIn y (all_ends (all_pairs M N p fs))
  in_all_ends f y [] i j = absurd (omega (arith, i))
  in_all_ends f y (g ∷ fs) i j = elim (eqb_tells f g) [
    | inl s ↦ grind (arith, count-append)
    | inr s ↦ omega (arith, in_all_ends f y fs (omega (arith, i, tick_other f g s.1)) j, count-append y (ends (drawn_pairs M N p g)) (all_ends (all_pairs M N p fs)))
  ]

  pub from_all_ends : (y : ℕ) (fs : List ℕ) → IsIn y (all_ends (all_pairs M N p fs)) → (f : ℕ) × IsIn f fs × IsIn y (ends (drawn_pairs M N p f))
  from_all_ends y [] i = absurd (omega (arith, i))
  from_all_ends y (g ∷ fs) i = elim (IsIn_or_not y (ends (drawn_pairs M N p g))) [
    | inl j ↦ (g, omega (arith, tick_same g), j)
    | inr z ↦
        let r = from_all_ends y fs (omega (arith, i, z, count-append y (ends (drawn_pairs M N p g)) (all_ends (all_pairs M N p fs)))) in
        (r.0, omega (arith, r.1), r.2)
  ]

  -- where those of each face stand once, and tell their face
  pub all_ends_apart : (fs : List ℕ) → IsApart fs → ((f : ℕ) → IsIn f fs → IsApart (ends (drawn_pairs M N p f))) →
      ((f g y : ℕ) → IsIn f fs → IsIn g fs → IsIn y (ends (drawn_pairs M N p f)) → IsIn y (ends (drawn_pairs M N p g)) → f ≡ g) → IsApart (all_ends (all_pairs M N p fs))
  all_ends_apart [] apart each one y = omega arith
  all_ends_apart (f ∷ fs) apart each one y =
      let f_in : IsIn f (f ∷ fs) = omega (arith, tick_same f) in
      let now : count y (ends (drawn_pairs M N p f)) ≤ 1 = each f f_in y in
      let later : count y (all_ends (all_pairs M N p fs)) ≤ 1 = all_ends_apart fs (λ x. omega (arith, apart x)) (λ g i. each g (omega (arith, i))) (λ g h z i j. one g h z (omega (arith, i)) (omega (arith, j))) y in
      elim (IsIn_or_not y (ends (drawn_pairs M N p f))) [
        | inl i ↦ grind (arith, IsIn_or_not, from_all_ends, tick_same, count-append)
        | inr z ↦ omega (arith, later, z, count-append y (ends (drawn_pairs M N p f)) (all_ends (all_pairs M N p fs)))
      ]

-- ---- the half-edges that start at the cut places of faces that straddle: on the plane, each once, and on the side to which the loop goes there

-- of each pair the first is above and the second below
abbrev pub AllUp : (ℕ → Bool) → List (ℕ × ℕ) → Type 0
AllUp side = AllOf (λ q. (side q.0 ≡ true) × (side q.1 ≡ false))

module _ (M : Model) (s : ℕ) (p : Plane) (t : ℕ) (sound : Sound M) (begins : CanBegin M s p t) where
  abbrev N : Model
  N = (with_crossings M s p).model

  abbrev fs : List ℕ
  fs = straddling_faces M p s

  -- in a face that straddles the side of a half-edge is its own
  pub side_within : (h : ℕ) → IsIn (face_at N h) fs → side_of M s p h ≡ half_is_above N p h
  unfolding side_of
  side_within h i = ap (λ b. cond b (half_is_above N p h) (reaches_above M p (face_at N h))) (listed-from_in (face_at N h) fs i)

  module _ (f : ℕ) (i : IsIn f (straddling_faces M p s)) where
    place_half : (h : ℕ) → IsIn h (places M p f) → face_at M h ≡ f
    place_half h j = item_face M sound f (face_facts M s p f i).0 h (places_in M sound f p h j)

    pub place_there : (h : ℕ) → IsIn h (places M p f) → HasHalf N (from_place N p h)
    place_there h j = (place_now M s p t sound begins f i h j).there

    -- no two places lead to one half-edge
    pub place_once : (a b : ℕ) → IsIn a (places M p f) → IsIn b (places M p f) → from_place N p a ≡ from_place N p b → a ≡ b
    place_once a b j k e = elim (eqb_tells a b) [
      | inl same ↦ same.1
      | inr other ↦ absurd (points_apart M p f ((can_cut M s p t sound begins).uncrossed f i) a b j k other.1 (sym (place_now M s p t sound begins f i a j).starts ∙ ap (start N) e ∙ (place_now M s p t sound begins f i b k).starts))
    ]

    edge_in : (h : ℕ) → IsIn h (places M p f) → crosses M p h ≡ true → IsIn (edge_of h) (crossing_edges M p s)
    edge_in h j c =
        let there : Has M.edges (edge_of h) = item_there M sound f (face_facts M s p f i).0 h (places_in M sound f p h j) in
        let of_s : solid_of M (face_at M h) ≡ s = ap (solid_of M) (place_half h j) ∙ (face_facts M s p f i).1 in
        elim (halves_of_edge h) [
          | inl e ↦ in_crossing M s p t sound begins (edge_of h) there (ap (λ x. solid_of M (face_at M x)) (sym e.0) ∙ of_s) (ap (crosses M p) (sym e.0) ∙ c)
          | inr e ↦ grind (arith, in_crossing, plus_row, mate_plus, turned)
        ]

    -- the point of a place inside an edge
    cut_level : (h : ℕ) → IsIn (edge_of h) (crossing_edges M p s) → height p (place_point M p h) ≡ pos 0
    cut_level h k = grind (arith, can_cut, crossing_point, edge_facts, crossing_here, halves_of_edge, one_point)

    point_on : (h : ℕ) → IsIn h (places M p f) → is_on p (place_point M p h) ≡ true
    unfolding place_point places
    point_on h j = cut_or_corner (crosses M p h) refl where
      cut_or_corner : (b : Bool) → crosses M p h ≡ b → is_on p (place_point M p h) ≡ true
      cut_or_corner true c = level_on (height p (place_point M p h)) (cut_level h (edge_in h j c))
      cut_or_corner false c =
          let on : is_on p (start M h) ≡ true = on_when M s p t sound begins h (filter_passes (is_place M p) h (boundary M f) j) c in
          ap (is_on p) (ap (λ b. cond b (start M h) (cut_between p (start M h) (finish M h))) on) ∙ on

    pub place_on : (h : ℕ) → IsIn h (places M p f) → is_on p (start N (from_place N p h)) ≡ true
    place_on h j = ap (is_on p) (place_now M s p t sound begins f i h j).starts ∙ point_on h j

    -- from there one goes where the loop went from the place
    finish_is : (h : ℕ) → IsIn h (places M p f) → finish N (from_place N p h) ≡ finish M h
    finish_is h j =
        let b = back_of N (crossings_sound M s p t sound begins) (from_place N p h) (place_there h j) in
        let face : face_at N (after N b.0) ≡ f = ap (face_at N) b.2 ∙ place_face M s p t sound begins f i h j in
        let w : TurnAt M N p b.0 = turn_at M s p t sound begins b.0 b.1 (ap (λ z. is_on p (start N z)) b.2 ∙ place_on h j) (subst (λ z. IsIn z fs) (sym face) i) in
        let same : w.place ≡ h = place_once w.place h (subst (λ z. IsIn w.place (places M p z)) face w.of_face) j (w.is ∙ b.2) in
        ap (finish N) (sym b.2) ∙ w.ends ∙ ap (finish M) same

    -- ---- pairs of places, one up and one down

    two_cross : (a b : ℕ) → IsIn a (places M p f) → IsIn b (places M p f) → a ≢ b → goes_up M p a ≡ not (goes_up M p b) → Crosses N p (side_of M s p) (between M N p (a, b))
    two_cross a b j k ne turned_up = grind (arith, place_there, place_once, place_on, side_within, place_face, side_ahead, finish_is)

    either_cross : (c : Bool) (a b : ℕ) → Crosses N p (side_of M s p) (between M N p (a, b)) → Crosses N p (side_of M s p) (between M N p (b, a)) → Crosses N p (side_of M s p) (between M N p (cond c (a, b) (b, a)))
    either_cross c a b e f = grind arith

    differing : (a b : Bool) → differ a b ≡ true → (a ≡ not b) × (b ≡ not a)
    differing a b e = grind (arith, true≢false)

    all_up_and_down : list_all (is_up_and_down M p) (sorted_pairs M p f) ≡ true
    unfolding is_crossed
    all_up_and_down = grind (arith, can_cut)

    -- what holds of each two such places, the one that goes up first, holds of all pairs
    module _ (P : ℕ × ℕ → Type 0)
        (each : (h k : ℕ) → IsIn h (places M p f) → IsIn k (places M p f) → h ≢ k → (goes_up M p h ≡ not (goes_up M p k)) × (goes_up M p k ≡ not (goes_up M p h)) → P (between M N p (up_first M p (h, k)))) where
      of_sorted : (hs : List ℕ) → ((x : ℕ) → IsIn x hs → IsIn x (places M p f)) → IsApart hs → list_all (is_up_and_down M p) (in_pairs hs) ≡ true → AllOf P (drawn M N p hs)
      of_sorted [] within apart e = tt
      of_sorted (h ∷ []) within apart e = tt
      of_sorted (h ∷ k ∷ ks) within apart e =
          let b = and_parts (is_up_and_down M p (h, k)) (list_all (is_up_and_down M p) (in_pairs ks)) e in (
            each h k (within h (omega (arith, tick_same h))) (within k (omega (arith, tick_same k))) (λ z. omega (arith, apart h, tick_same h, ap (tick h) z)) (differing (goes_up M p h) (goes_up M p k) b.0),
            of_sorted ks (λ x i. within x (omega (arith, i))) (λ x. omega (arith, apart x)) b.1,
          )

      of_drawn : AllOf P (drawn_pairs M N p f)
      unfolding drawn_pairs place_pairs sorted_pairs
      of_drawn = of_sorted (sorted M p (places M p f)) (λ x j. omega (arith, j, count-sorted M p x (places M p f))) (sorted_apart M p (places M p f) (places_apart M sound f p)) all_up_and_down

    pub pairs_cross : AllCross N p (side_of M s p) (drawn_pairs M N p f)
    pairs_cross = of_drawn (Crosses N p (side_of M s p)) (λ h k j l ne d. either_cross (goes_up M p h) h k (two_cross h k j l ne d.0) (two_cross k h l j (λ z. ne (sym z)) d.1))

    -- the up place stands first
    either_up : (c : Bool) (a b : ℕ) → IsIn a (places M p f) → IsIn b (places M p f) → goes_up M p a ≡ c → goes_up M p b ≡ not c →
        (side_of M s p (between M N p (cond c (a, b) (b, a))).0 ≡ true) × (side_of M s p (between M N p (cond c (a, b) (b, a))).1 ≡ false)
    either_up c a b e f g t = grind (arith, side_within, place_face, side_ahead, place_on, finish_is)

    pub pairs_up : AllUp (side_of M s p) (drawn_pairs M N p f)
    pairs_up = of_drawn (λ q. (side_of M s p q.0 ≡ true) × (side_of M s p q.1 ≡ false)) (λ h k j l ne d. either_up (goes_up M p h) h k j l refl d.1)

    -- ---- the half-edges of the pairs

    counted : (y : ℕ) → count y (ends (drawn_pairs M N p f)) ≡ count y (map (from_place N p) (places M p f))
    counted y = all_places_drawn M N p y f (places_even M sound p f ((can_cut M s p t sound begins).untouched f i))

    pub place_in_ends : (h : ℕ) → IsIn h (places M p f) → IsIn (from_place N p h) (ends (drawn_pairs M N p f))
    place_in_ends h j = omega (arith, IsIn-map (from_place N p) h (places M p f) j, counted (from_place N p h))

    pub place_of_end : (y : ℕ) → IsIn y (ends (drawn_pairs M N p f)) → (h : ℕ) × IsIn h (places M p f) × (y ≡ from_place N p h)
    place_of_end y j = from_map (from_place N p) y (places M p f) (omega (arith, j, counted y))

    pub ends_once : IsApart (ends (drawn_pairs M N p f))
    ends_once y = omega (arith, counted y, IsApart-images (from_place N p) (places M p f) (places_apart M sound f p) place_once y)

  -- ---- from the first conditions of a split to the sides that half-edges take

  abbrev side : ℕ → Bool
  side = side_of M s p

  new_sound : Sound N
  new_sound = crossings_sound M s p t sound begins

  -- in a face that doesn't straddle all half-edges have one side
  pub side_beside : (h : ℕ) → lists (straddling_faces M p s) (face_at (with_crossings M s p).model h) ≡ false → side_of M s p h ≡ reaches_above M p (face_at (with_crossings M s p).model h)
  unfolding side_of
  side_beside h e = ap (λ b. cond b (half_is_above N p h) (reaches_above M p (face_at N h))) e

  -- ---- no half-edge of the solid crosses the plane

  plus_stays_aside : (e : ℕ) → Has N.edges e → solid_of N (face_at N (plus e)) ≡ s → crosses N p (plus e) ≡ false
  plus_stays_aside e there of_s = false_from_ne_true (crosses N p (plus e)) (λ c.
      let i : IsIn e [] = subst (IsIn e) (none_crosses M s p t sound begins) (IsIn-filter (λ x. crosses N p (plus x)) e (edges_of N s) (edge_listed N s e there of_s) c) in absurd (omega (arith, i)))

  pub stays_aside : (h : ℕ) → HasHalf (with_crossings M s p).model h → solid_of (with_crossings M s p).model (face_at (with_crossings M s p).model h) ≡ s → crosses (with_crossings M s p).model p h ≡ false
  stays_aside h there of_s = elim (halves_of_edge h) [
    | inl e ↦ ap (crosses N p) e.0 ∙ plus_stays_aside (edge_of h) there (ap (λ x. solid_of N (face_at N x)) (sym e.0) ∙ of_s)
    | inr e ↦
        let aside : crosses N p (plus (edge_of h)) ≡ false = plus_stays_aside (edge_of h) there
        (new_sound.one_solid (plus (edge_of h)) (ap (table.has N.edges) (plus_row (edge_of h)).0 ∙ there) ∙ ap (λ x. solid_of N (face_at N x)) (mate_plus (edge_of h) ∙ sym e.0) ∙ of_s) in
        ap (crosses N p) e.0
        ∙ crosses_back (height p (finish N (minus (edge_of h)))) (height p (start N (minus (edge_of h))))
        ((λ i. are_opposite p (start N (mate_minus (edge_of h) i)) (start N (sym (mate_plus (edge_of h)) i))) ∙ aside)
  ]

  -- ---- where a half-edge starts

  both_ways : (f : ℕ) → reaches_above M p f ≡ true → reaches_below M p f ≡ true → straddles M p f ≡ true
  unfolding straddles
  both_ways f a b = λ i. a i && b i

  -- a corner of a face that doesn't straddle lies on its side
  corner_lies : (g : ℕ) → HasHalf M g → solid_of M (face_at M g) ≡ s → lists fs (face_at M g) ≡ false → LiesOn p (reaches_above M p (face_at M g)) (start M g)
  corner_lies g there of_s beside = above_or_below (reaches_above M p face) refl where
    face : ℕ
    face = face_at M g

    corner : IsIn (tail M g) (corners M face)
    corner = tail_in_face M g (loop_of M g) (loop_there M sound g there) (cycle_there M sound g there)

    of_solid : IsIn face (faces_of M s)
    of_solid = in_solid M face s (half_face M sound g there) of_s

    above_or_below : (b : Bool) → reaches_above M p face ≡ b → LiesOn p b (start M g)
    above_or_below true up = false_from_ne_true (is_below p (start M g)) (λ a. true≢false (sym (listed-from_in face fs (IsIn-filter (straddles M p) face (faces_of M s) of_solid
        (both_ways face up (any_passes (λ v. is_below p (point_of M v)) (tail M g) (corners M face) corner a)))) ∙ beside))
    above_or_below false none = none_passes (λ v. is_above p (point_of M v)) (tail M g) (corners M face) none corner

  lies_beside : (h : ℕ) → HasHalf N h → solid_of N (face_at N h) ≡ s → lists fs (face_at N h) ≡ false → LiesOn p (side h) (start N h)
  lies_beside h there of_s beside = elim (comes_from M s p t sound begins h there) [
    | inl on ↦ on_both p (start N h) on (side h)
    | inr w ↦ grind (arith, side_beside, corner_lies, same_solid)
  ]

  lies_within : (h : ℕ) → HasHalf N h → solid_of N (face_at N h) ≡ s → IsIn (face_at N h) fs → LiesOn p (side h) (start N h)
  lies_within h there of_s i = subst (λ b. LiesOn p b (start N h)) (sym (side_within h i)) (ahead_or_behind (half_is_above N p h) refl) where
    ahead_or_behind : (b : Bool) → half_is_above N p h ≡ b → LiesOn p b (start N h)
    ahead_or_behind true e = starts_above (height p (start N h)) (height p (finish N h)) (stays_aside h there of_s) e
    ahead_or_behind false e = starts_below (height p (start N h)) (height p (finish N h)) e

  own_solid : (h : ℕ) → HasHalf N h → is_own M s p h ≡ true → solid_of N (face_at N h) ≡ s
  unfolding is_own
  own_solid h there own = grind (arith, eqb-true)

  lies : (h : ℕ) → HasHalf N h → is_own M s p h ≡ true → LiesOn p (side h) (start N h)
  lies h there own = straddling_or_not (lists fs (face_at N h)) refl where
    straddling_or_not : (b : Bool) → lists fs (face_at N h) ≡ b → LiesOn p (side h) (start N h)
    straddling_or_not true e = lies_within h there (own_solid h there own) (IsIn-from_listed (face_at N h) fs e)
    straddling_or_not false e = lies_beside h there (own_solid h there own) e

  -- ---- what follows a half-edge

  -- a half-edge of the pairs starts on the plane, in a face that straddles
  place_facts : (y : ℕ) → IsIn y (all_ends (all_pairs M N p fs)) → HasHalf N y × IsIn (face_at N y) fs × (is_on p (start N y) ≡ true)
  place_facts y j = grind (arith, from_all_ends, place_of_end, place_there, place_face, place_on)

  abbrev Goes : ℕ → Type 0
  Goes x = (count (after N x) (all_ends (all_pairs M N p fs)) ≡ 0 → side (after N x) ≡ side x) × (IsIn (after N x) (all_ends (all_pairs M N p fs)) → side (after N x) ≡ not (side x))

  never_place : (x : ℕ) → (IsIn (after N x) (all_ends (all_pairs M N p fs)) → ⊥) → side (after N x) ≡ side x → Goes x
  never_place x never same = ((λ z. same), (λ i. absurd (never i)))

  module _ (x : ℕ) (there : HasHalf N x) where
    one_face : face_at N (after N x) ≡ face_at N x
    one_face = ap (face_of N) (loop_after N new_sound x there)

    meets : finish N x ≡ start N (after N x)
    meets = ap (point_of N) (sym (new_sound.ends_meet x there))

    -- in a face that straddles
    module _ (i : IsIn (face_at N (after N x)) (straddling_faces M p s)) where
      side_here : side x ≡ half_is_above N p x
      side_here = side_within x (subst (λ f. IsIn f fs) one_face i)

      ends_at : half_is_above N p x ≡ (is_above p (start N x) || is_above p (start N (after N x)))
      ends_at = ap (λ q. is_above p (start N x) || is_above p q) meets

      of_s : solid_of N (face_at N (after N x)) ≡ s
      of_s = same_solid M s p t sound begins (face_at N (after N x)) ∙ (face_facts M s p (face_at N (after N x)) i).1

      aside_here : are_opposite p (start N x) (start N (after N x)) ≡ false
      aside_here = ap (are_opposite p (start N x)) (sym meets) ∙ stays_aside x there (ap (solid_of N) (sym one_face) ∙ of_s)

      goes_off : is_on p (start N (after N x)) ≡ false → Goes x
      goes_off off = never_place x (λ j. true≢false (sym (place_facts (after N x) j).2 ∙ off))
          (side_within (after N x) i
          ∙ side_kept (height p (start N x)) (height p (start N (after N x))) (height p (finish N (after N x))) aside_here (stays_aside (after N x) (half_after N new_sound x there) of_s) off
          ∙ sym (side_here ∙ ends_at))

      goes_on : is_on p (start N (after N x)) ≡ true → Goes x
      goes_on on =
          let w : TurnAt M N p x = turn_at M s p t sound begins x there on i in
          let in_ends : IsIn (after N x) (all_ends (all_pairs M N p fs)) = in_all_ends M N p (face_at N (after N x)) (after N x) fs i
          (subst (λ y. IsIn y (ends (drawn_pairs M N p (face_at N (after N x))))) w.is (place_in_ends (face_at N (after N x)) i w.place w.of_face)) in
          let changes : side (after N x) ≡ not (side x) = side_within (after N x) i
          ∙ side_changed (height p (start N x)) (height p (start N (after N x))) (height p (finish N (after N x))) on w.across
          ∙ ap not (sym (side_here ∙ ends_at)) in
          ((λ z. absurd (omega (arith, z, in_ends))), (λ j. changes))

    goes : Goes x
    goes = place_or_not (lists fs (face_at N (after N x))) (is_on p (start N (after N x))) refl refl where
      place_or_not : (a b : Bool) → lists fs (face_at N (after N x)) ≡ a → is_on p (start N (after N x)) ≡ b → Goes x
      place_or_not false b e f = never_place x (λ i. true≢false (sym (listed-from_in (face_at N (after N x)) fs (place_facts (after N x) i).1) ∙ e))
          (side_beside (after N x) e ∙ ap (reaches_above M p) one_face ∙ sym (side_beside x (ap (lists fs) (sym one_face) ∙ e)))
      place_or_not true true e f = goes_on (IsIn-from_listed (face_at N (after N x)) fs e) f
      place_or_not true false e f = goes_off (IsIn-from_listed (face_at N (after N x)) fs e) f

  -- ---- all

  faces_cross : FacesCross N p side (all_pairs M N p fs)
  faces_cross = of_all_pairs (λ f. AllCross N p side f.pairs) M N p fs pairs_cross

  one_place_face : (f g y : ℕ) → IsIn f fs → IsIn g fs → IsIn y (ends (drawn_pairs M N p f)) → IsIn y (ends (drawn_pairs M N p g)) → f ≡ g
  one_place_face f g y i j a b =
      let v = place_of_end f i y a in
      let w = place_of_end g j y b in
      sym (place_face M s p t sound begins f i v.0 v.1) ∙ ap (face_at N) (sym v.2 ∙ w.2) ∙ place_face M s p t sound begins g j w.0 w.1

  pub take_sides : TakeSides p (with_crossings M s p) (straddling_pairs M s p) (side_of M s p) (is_own M s p)
  take_sides =
      grind (arith, faces_not_zero, faces_are, faces_cross, place_facts, all_ends_apart, straddling_apart, ends_once, one_place_face, goes, lies)
