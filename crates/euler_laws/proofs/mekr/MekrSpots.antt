-- The corners that mekr joins: a loop, its vertex, and the half-edges of the loop from the corner on, none where it is lone.
use Rattle.euler_laws.proofs.Prelude.{◌≡◌, ◌≢◌, ℕ, true, List, [], ◌∷◌, None, is_some, IsTrue, refl, sym, ap, ◌∙◌, subst, arith, ◌⊎◌, inl, inr, Bool, not, nat_eq, ◌&&◌, eqb-true, nat_tests, not-true, eqb-false, count, IsIn, IsApart, head_or, canonical, rotate_to, IsRing, HalfEdge, Corner, At, Lone, code, edge_of, Model, lone, items_of, tail, after, loop_of, content, cycle_of, face_of, outer, is_number, Sound, Has, HasHalf, StandsIn, first_false, conditions, corner_tail, corner_loop, corner_list, corner_known, corner_lone, cycle_or_lone, tick_same, rotate_to_is, IsApart-rotate_to, canonical-rotate_to, canonical-rotates, IsRotation-sym, IsRing-same, edge_of-code, in-holds, row_of, content_cycle, cycle_there, cycle_sound, no_row, same_head, Mekr}
use Rattle.euler_operators.specs.Table as table
use Rattle.euler_laws.proofs.shared.Loops.{light}
use Rattle.euler_laws.proofs.shared.Rows.{is_ring, items_or_lone, count_or_lone}
use Rattle.euler_laws.proofs.shared.Goes.{all_hold}

-- loop q reads zs from a corner at vertex v on, or is lone there
pub record Spot (M : Model) (q v : ℕ) (zs : List ℕ) : Type 0 where
  pub there : Has M.loops q
  pub holds_it : content M q ≡ cycle_or_lone zs v
  pub apart : IsApart zs
  pub starts : (y : ℕ) (ys : List ℕ) → zs ≡ y ∷ ys → tail M y ≡ v

-- the loop of a half-edge, from it on
pub spot_at : (M : Model) → Sound M → (x : ℕ) → HasHalf M x → Spot M (loop_of M x) (tail M x) (rotate_to x (cycle_of M x))
spot_at M sound x there =
    grind (arith, cycle_sound, sound, there, rotate_to_is, cycle_there, row_of, content_cycle, canonical-rotate_to, IsApart-rotate_to, same_head)

-- each corner that is known is a spot
pub spot_of : (M : Model) → Sound M → (c : Corner) → (corner_known M c).holds ≡ true → (corner_lone M c).holds ≡ true → Spot M (corner_loop M c) (corner_tail M c) (corner_list M c)
spot_of M sound (At g) known bare = spot_at M sound (code g) (ap (λ x. is_some (table.get M.edges x)) (edge_of-code g) ∙ known)
spot_of M sound (Lone l) known bare = grind arith

-- what the conditions of mekr say of the loops q, from which Y is read, and l, from which X is
pub record JoinGoes (M : Model) (h q l u w : ℕ) (Y X : List ℕ) : Type 0 where
  pub first : Spot M q u Y
  pub second : Spot M l w X
  pub edge_free : table.get M.edges (edge_of h) ≡ None
  pub edge_fits : IsTrue (is_number (edge_of h))
  pub loops_apart : q ≢ l
  pub one_face : face_of M q ≡ face_of M l
  pub no_outer : outer M (face_of M l) ≢ l
  pub ends_apart : u ≢ w

pub ring_is : (b : Bool) (f o k : ℕ) → (b && nat_eq f f && not (nat_eq o k)) ≡ true → o ≢ k
ring_is b f o k e p = grind (arith, nat_tests)

-- what the conditions of mekr say of its two corners, and of what these stand for
pub record MekrHolds (M : Model) (c d : Corner) (h : HalfEdge) : Type 0 where
  pub first_known : (corner_known M c).holds ≡ true
  pub second_known : (corner_known M d).holds ≡ true
  pub first_lone : (corner_lone M c).holds ≡ true
  pub second_lone : (corner_lone M d).holds ≡ true
  pub joins : JoinGoes M (code h) (corner_loop M c) (corner_loop M d) (corner_tail M c) (corner_tail M d) (corner_list M c) (corner_list M d)

pub mekr_holds : (M : Model) (c d : Corner) (h : HalfEdge) → Sound M → first_false M (Mekr c d h) ≡ None → MekrHolds M c d h
unfolding first_false conditions
mekr_holds M c d h sound e =
    grind (arith, all_hold (conditions M (Mekr c d h)) e, spot_of M sound c, spot_of M sound d, edge_of-code, not-true, no_row, eqb-true, eqb-false, is_ring M)

pub join_goes : (M : Model) (c d : Corner) (h : HalfEdge) → Sound M → first_false M (Mekr c d h) ≡ None →
    JoinGoes M (code h) (corner_loop M c) (corner_loop M d) (corner_tail M c) (corner_tail M d) (corner_list M c) (corner_list M d)
join_goes M c d h sound e = (mekr_holds M c d h sound e).joins

first_of : (k : ℕ) (zs : List ℕ) → ((zs ≡ []) × (head_or k zs ≡ k)) ⊎ ((ys : List ℕ) × (zs ≡ head_or k zs ∷ ys))
first_of k [] = inl (refl, refl)
first_of k (z ∷ zs) = inr (zs, refl)

-- ---- what a sound model says of a spot

module _ (M : Model) (sound : Sound M) (q v : ℕ) (zs : List ℕ) (spot : Spot M q v zs) where
  pub count_spot : (x : ℕ) → count x (items_of (content M q)) ≡ count x zs
  count_spot x = ap (λ c. count x (items_of c)) spot.holds_it ∙ count_or_lone x zs v

  pub stands_there : (x : ℕ) → IsIn x zs → StandsIn M x q
  stands_there x i = in-holds x (content M q) (omega (arith, i, count_spot x))

  pub half_there : (x : ℕ) → IsIn x zs → HasHalf M x
  half_there x i = sound.only_edges x q (stands_there x i)

  pub loop_there : (x : ℕ) → IsIn x zs → loop_of M x ≡ q
  loop_there x i = sound.one_loop x q (stands_there x i)

  pub ring_there : IsRing (after M) zs
  ring_there = IsRing-same (after M) (canonical zs) zs (IsRotation-sym zs (canonical zs) (canonical-rotates zs))
      (subst (IsRing (after M)) (ap items_of spot.holds_it ∙ items_or_lone zs v) (light M sound q).1)

  -- the loop is lone, and nothing starts at its vertex; or it reads on from its first item, which starts there
  pub first_cases : (k : ℕ) → ((zs ≡ []) × (head_or k zs ≡ k) × (content M q ≡ lone v)) ⊎ (IsIn (head_or k zs) zs × (tail M (head_or k zs) ≡ v))
  first_cases k = elim (first_of k zs) [
    | inl e ↦ inl (e.0, e.1, spot.holds_it ∙ ap (λ ys. cycle_or_lone ys v) e.0)
    | inr e ↦ inr (subst (IsIn (head_or k zs)) (sym e.1) (omega (arith, tick_same (head_or k zs))), spot.starts (head_or k zs) e.0 e.1)
  ]

  pub vertex_there : Has M.vertices v
  vertex_there = grind (arith, first_cases 0, sound.tails_there (head_or 0 zs), half_there (head_or 0 zs))

  -- no other loop is lone there
  pub only_lone : (p : ℕ) → content M p ≡ lone v → p ≡ q
  only_lone p e = grind (arith, first_cases 0, sound.one_lone p q v e, sound.lone_is_no_tail p (head_or 0 zs), half_there (head_or 0 zs))
