-- Faces whose loops go round from other points on: they keep their planes, and what lay on them does.
use Rattle.command_laws.proofs.Prelude.{list_all, ◌≡◌, ℕ, true, not, ◌&&◌, List, [], ◌∷◌, ◌++◌, Bool, refl, sym, ap, subst, ◌∙◌, neg_ℤ, ◌⊎◌, inl, inr, append-nil, append_assoc, map, get_or, drop, map-append, list_all-append, list_all-map, and_parts, Point, Plane, origin, dot, same_point, is_on, direction, IsIn, canonical, Model, LoopContent, lone, cycle, items_of, content, solid_of, point_of, Sound, Has, canonical-rotates, IsIn_head, IsIn_rest, dot_turned, start, loops_of, vertices_on, vertices_in, corners, rewritten, normal, anchor, plane_of, is_plane_of, is_flat, list_parts, are_on, anchor_on, plane_told, loop_points, AreTurned, IsTakenOver}
use Rattle.command_laws.proofs.Outlines.{starts_are}

-- ---- points

turned_all : (p : Point → Bool) (ps qs : List Point) → AreTurned ps qs → list_all p ps ≡ true → list_all p qs ≡ true
turned_all p ps qs turn e =
    let w = and_parts (list_all p turn.front) (list_all p turn.back) (sym (ap (list_all p) turn.here ∙ list_all-append p turn.front turn.back) ∙ e) in
    ap (list_all p) turn.there ∙ list_all-append p turn.back turn.front ∙ (λ i. w.1 i && w.0 i)

pub not_turned : (ps qs : List Point) → qs ≡ ps → AreTurned ps qs
not_turned ps qs e = record { front = ps; back = []; here = sym (append-nil ps); there = e }

-- where a list is parted in two ways, one of the parts goes on into the other
parted_twice : (ps qs rs ts : List Point) → ps ++ qs ≡ rs ++ ts → ((us : List Point) × (ps ≡ rs ++ us) × (ts ≡ us ++ qs)) ⊎ ((us : List Point) × (rs ≡ ps ++ us) × (qs ≡ us ++ ts))
parted_twice [] qs rs ts e = inr (rs, refl, e)
parted_twice (p ∷ ps) qs [] ts e = inl (p ∷ ps, refl, sym e)
parted_twice (p ∷ ps) qs (r ∷ rs) ts e =
    let h : p ≡ r = ap (λ xs. get_or xs 0 p) e in
    elim (parted_twice ps qs rs ts (ap (drop 1) e)) [
      | inl w ↦ inl (w.0, (λ i. h i ∷ w.1 i), w.2)
      | inr w ↦ inr (w.0, (λ i. sym h i ∷ w.1 i), w.2)
    ]

turned_twice : (ps qs rs : List Point) → AreTurned ps qs → AreTurned qs rs → AreTurned ps rs
turned_twice ps qs rs v w = elim (parted_twice v.back v.front w.front w.back (sym v.there ∙ w.here)) [
  | inl c ↦ record {
    front = v.front ++ w.front;
    back = c.0;
    here = v.here ∙ ap (λ xs. v.front ++ xs) c.1 ∙ sym (append_assoc v.front w.front c.0);
    there = w.there ∙ ap (λ xs. xs ++ w.front) c.2 ∙ append_assoc c.0 v.front w.front;
  }
  | inr c ↦ record {
    front = c.0;
    back = w.back ++ v.back;
    here = v.here ∙ ap (λ xs. xs ++ v.back) c.2 ∙ append_assoc c.0 w.back v.back;
    there = w.there ∙ ap (λ xs. w.back ++ xs) c.1 ∙ sym (append_assoc w.back v.back c.0);
  }
]

-- ---- a loop that is rewritten: what stands in the place of each half-edge starts where that did

module _ (M N : Model) (swap : ℕ → ℕ) where
  swapped_starts : (ys : List ℕ) → ((y : ℕ) → IsIn y ys → start N (swap y) ≡ start M y) → map (start N) (map swap ys) ≡ map (start M) ys
  swapped_starts [] e = refl
  swapped_starts (y ∷ ys) e = λ t. e y (IsIn_head y ys) t ∷ swapped_starts ys (λ z i. e z (IsIn_rest z y ys i)) t

  pub rewritten_turned : (c : LoopContent) → ((y : ℕ) → IsIn y (items_of c) → start N (swap y) ≡ start M y) → ((v : ℕ) → c ≡ lone v → point_of N v ≡ point_of M v) →
      AreTurned (map (point_of M) (vertices_on M c)) (map (point_of N) (vertices_on N (rewritten (map swap) c)))
  rewritten_turned (lone v) starts points = not_turned _ _ (ap (λ p. p ∷ []) (points v refl))
  rewritten_turned (cycle cs) starts points =
      let zs = canonical (map swap cs) in
      let turn = canonical-rotates (map swap cs) in
      record {
        front = map (start N) turn.front;
        back = map (start N) turn.back;
        here = starts_are M cs ∙ sym (swapped_starts cs starts) ∙ ap (map (start N)) turn.here ∙ map-append (start N) turn.front turn.back;
        there = starts_are N zs ∙ ap (map (start N)) turn.there ∙ map-append (start N) turn.back turn.front;
      }

-- ---- a face

-- face k of M is in N, with its loops, each of which has the corner points that it had, maybe from another on; and with its normal
pub record IsTurned (M N : Model) (k : ℕ) : Type 0 where
  pub there : Has N.faces k
  pub loops : loops_of N k ≡ loops_of M k
  pub points : (l : ℕ) → IsIn l (loops_of M k) → AreTurned (loop_points M l) (loop_points N l)
  pub normal : normal N k ≡ normal M k

pub turned_on : (M N P : Model) (k : ℕ) → IsTurned M N k → IsTurned N P k → IsTurned M P k
turned_on M N P k v w = record {
  there = w.there;
  loops = w.loops ∙ v.loops;
  points = λ l i. turned_twice (loop_points M l) (loop_points N l) (loop_points P l) (v.points l i) (w.points l (subst (IsIn l) (sym v.loops) i));
  normal = w.normal ∙ v.normal;
}

-- it lies on the planes on which it lay
module _ (M N : Model) (k : ℕ) (plane : Plane) (w : IsTurned M N k) where
  loops_on : (ls : List ℕ) → ((l : ℕ) → IsIn l ls → IsIn l (loops_of M k)) → are_on M plane (vertices_in M ls) ≡ true → are_on N plane (vertices_in N ls) ≡ true
  loops_on [] inside e = refl
  loops_on (l ∷ ls) inside e =
      let parts = list_parts (λ v. is_on plane (point_of M v)) (vertices_on M (content M l)) (vertices_in M ls) e in
      let one = turned_all (is_on plane) (loop_points M l) (loop_points N l) (w.points l (inside l (IsIn_head l ls))) (list_all-map (is_on plane) (point_of M) (vertices_on M (content M l)) ∙ parts.0) in
      list_all-append (λ v. is_on plane (point_of N v)) (vertices_on N (content N l)) (vertices_in N ls)
      ∙ (λ t. (sym (list_all-map (is_on plane) (point_of N) (vertices_on N (content N l))) ∙ one) t && loops_on ls (λ q j. inside q (IsIn_rest q l ls j)) parts.1 t)

  pub turned_lies : are_on M plane (corners M k) ≡ true → are_on N plane (corners N k) ≡ true
  unfolding corners
  turned_lies on = ap (λ ls. are_on N plane (vertices_in N ls)) w.loops ∙ loops_on (loops_of M k) (λ l i. i) on

-- its corners pass the tests of points that they passed
module _ (M N : Model) (k : ℕ) (test : Point → Bool) (w : IsTurned M N k) where
  loops_pass : (ls : List ℕ) → ((l : ℕ) → IsIn l ls → IsIn l (loops_of M k)) → list_all (λ v. test (point_of M v)) (vertices_in M ls) ≡ true → list_all (λ v. test (point_of N v)) (vertices_in N ls) ≡ true
  loops_pass [] inside e = refl
  loops_pass (l ∷ ls) inside e =
      let parts = list_parts (λ v. test (point_of M v)) (vertices_on M (content M l)) (vertices_in M ls) e in
      let one = turned_all test (loop_points M l) (loop_points N l) (w.points l (inside l (IsIn_head l ls))) (list_all-map test (point_of M) (vertices_on M (content M l)) ∙ parts.0) in
      list_all-append (λ v. test (point_of N v)) (vertices_on N (content N l)) (vertices_in N ls)
      ∙ (λ t. (sym (list_all-map test (point_of N) (vertices_on N (content N l))) ∙ one) t && loops_pass ls (λ q j. inside q (IsIn_rest q l ls j)) parts.1 t)

  pub turned_pass : list_all (λ v. test (point_of M v)) (corners M k) ≡ true → list_all (λ v. test (point_of N v)) (corners N k) ≡ true
  unfolding corners
  turned_pass e = ap (λ ls. list_all (λ v. test (point_of N v)) (vertices_in N ls)) w.loops ∙ loops_pass (loops_of M k) (λ l i. i) e

-- so it keeps its plane, and is flat where it was
module _ (M N : Model) (k s : ℕ) (sound : Sound N) (flat : is_flat M k ≡ true) (of : solid_of N k ≡ s) (w : IsTurned M N k) where
  abbrev plane : Plane
  plane = plane_of M k

  was_flat : (not (same_point (direction plane) origin) ≡ true) × (are_on M plane (corners M k) ≡ true)
  unfolding is_flat
  was_flat = and_parts (not (same_point (direction plane) origin)) (are_on M plane (corners M k)) flat

  all_on : are_on N plane (corners N k) ≡ true
  all_on = turned_lies M N k plane w was_flat.1

  offset_is : dot (normal N k) (anchor N k) ≡ dot (normal M k) (anchor M k)
  offset_is = ap (λ n. dot n (anchor N k)) w.normal ∙ dot_turned (normal M k) (anchor N k) ∙ plane_told M k (anchor N k) (anchor_on N plane k sound w.there all_on) ∙ dot_turned (anchor M k) (normal M k)

  plane_is : plane_of N k ≡ plane_of M k
  unfolding plane_of
  plane_is = λ t. record { a = (w.normal t).x; b = (w.normal t).y; c = (w.normal t).z; d = neg_ℤ (offset_is t) }

  flat_still : is_flat N k ≡ true
  unfolding is_flat
  flat_still = ap (λ p. is_plane_of N p (corners N k)) plane_is ∙ (λ t. was_flat.0 t && all_on t)

  pub turned_over : IsTakenOver M N k s
  turned_over = record { there = w.there; solid = of; loops = w.loops; points = w.points; plane = plane_is; flat = flat_still }
