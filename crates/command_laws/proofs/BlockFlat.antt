-- Each face of a block is a parallelogram.
use Rattle.command_laws.proofs.Prelude.{◌≡◌, ◌≢◌, ℕ, zero, suc, ◌+◌, ◌-◌, ◌≤◌, ◌<◌, ◌⊎◌, inl, inr, ℤ, pos, ◌+ℤ◌, ◌-ℤ◌, ◌*ℤ◌, neg_ℤ, is_some, true, false, not, List, [], ◌∷◌, refl, sym, ap, subst, ◌∙◌, arith, true≢false, int_le, length, cases_eq, cases_lt, not-true, ints, Point, origin, moved, cross, content, face_of, solid_of, Sound, Has, IsIn, is_empty, is_lone, has_rings, same_vector, same_content, same_solid, all_hold, no_rings_means, listed-from_in, loops_of, towards, next_place, vector, base_of, block_conditions, is_flat, face_of_loop, at_most_greatest, no_product, Machine, held, IsBlock, IsFaceOf, all_moved, last_face, nth, side_over, turned_back, up_by, IsClosedFlat, lie_flat, BlocksLieFlat, BlockKeepsFlat, StandsAsBefore, loop_in_face}
use Rattle.euler_operators.specs.Table as table
use Rattle.sweeps_laws.proofs.BlockOps.{blocks_are_sound}
use Rattle.command_laws.proofs.BlockFaces.{block_has_top_and_bottom, block_has_four_sides, block_takes_six_faces}
use Rattle.command_laws.proofs.Kept.{block_keeps_faces}
use Rattle.command_laws.proofs.Outlines.{outer_cycles}
use Rattle.command_laws.proofs.LyingFlat.{faces_lie_flat, sides_lie_flat, parallelogram, stands_flat}
use Rattle.command_laws.proofs.DrawnAlone.{block_keeps_loops, block_keeps_shapes}

-- ---- numbers that aren't 0

not_none : (x : ℤ) → int_le (pos 1) x ≡ true → x ≢ pos 0
not_none x e z = true≢false (sym e ∙ ap (int_le (pos 1)) z)

neither_none : (x : ℤ) → x ≢ pos 0 → neg_ℤ x ≢ pos 0
neither_none x ne z = ne (turned x z) where
  turned : (y : ℤ) → neg_ℤ y ≡ pos 0 → y ≡ pos 0
  turned y e = omega (arith, ints)

less_none : (x : ℤ) → x -ℤ pos 0 ≡ pos 0 → x ≡ pos 0
less_none x e = omega (arith, ints)

from_none : (x : ℤ) → pos 0 -ℤ x ≡ pos 0 → x ≡ pos 0
from_none x e = omega (arith, ints)

product : (x y : ℤ) → x ≢ pos 0 → y ≢ pos 0 → x *ℤ y ≢ pos 0
product x y a b e = a (no_product y x e b)

-- vectors along two axes have a product across
along_x_z : (x z : ℤ) → x ≢ pos 0 → z ≢ pos 0 → cross (vector x (pos 0) (pos 0)) (vector (pos 0) (pos 0) z) ≢ origin
along_x_z x z a b e = product x z a b (from_none (x *ℤ z) (ap (λ p. p.y) e))

along_y_z : (y z : ℤ) → y ≢ pos 0 → z ≢ pos 0 → cross (vector (pos 0) y (pos 0)) (vector (pos 0) (pos 0) z) ≢ origin
along_y_z y z a b e = product y z a b (less_none (y *ℤ z) (ap (λ p. p.x) e))

along_x_y : (x y : ℤ) → x ≢ pos 0 → y ≢ pos 0 → cross (vector x (pos 0) (pos 0)) (vector (pos 0) y (pos 0)) ≢ origin
along_x_y x y a b e = product x y a b (less_none (x *ℤ y) (ap (λ p. p.z) e))

-- ---- the corners of the six faces

-- three corners beside the first, written in another way
rewritten_flat : (a b c d f g h : Point) → b ≡ f → c ≡ g → d ≡ h → lie_flat (a ∷ b ∷ c ∷ d ∷ []) ≡ true → lie_flat (a ∷ f ∷ g ∷ h ∷ []) ≡ true
rewritten_flat a b c d f g h q r s is = ap lie_flat (λ i. a ∷ sym q i ∷ sym r i ∷ sym s i ∷ []) ∙ is

pub second : (p d : ℤ) → (p +ℤ pos 0) +ℤ d ≡ (p +ℤ d) +ℤ pos 0
second p d = omega (arith, ints)

pub third : (p d : ℤ) → ((p +ℤ pos 0) +ℤ d) +ℤ pos 0 ≡ (p +ℤ d) +ℤ pos 0
third p d = omega (arith, ints)

pub fourth : (p d : ℤ) → ((p +ℤ pos 0) +ℤ pos 0) +ℤ d ≡ (p +ℤ d) +ℤ pos 0
fourth p d = omega (arith, ints)

pub still : (p : ℤ) → (p +ℤ pos 0) +ℤ pos 0 ≡ p +ℤ pos 0
still p = omega (arith, ints)

pub at_end_turned : (p d : ℤ) → (p +ℤ d) +ℤ pos 0 ≡ (p +ℤ pos 0) +ℤ d
at_end_turned p d = omega (arith, ints)

pub at_ends_turned : (p d : ℤ) → ((p +ℤ d) +ℤ pos 0) +ℤ pos 0 ≡ (p +ℤ pos 0) +ℤ d
at_ends_turned p d = omega (arith, ints)

pub still_all : (q : ℤ) → ((q +ℤ pos 0) +ℤ pos 0) +ℤ pos 0 ≡ q +ℤ pos 0
still_all q = omega (arith, ints)

pub at_end : (p d : ℤ) → (p +ℤ d) +ℤ pos 0 ≡ p +ℤ d
at_end p d = omega (arith, ints)

pub back : (p d : ℤ) → (p +ℤ d) +ℤ neg_ℤ d ≡ p
back p d = omega (arith, ints)

pub back_still : (p d : ℤ) → ((p +ℤ d) +ℤ neg_ℤ d) +ℤ pos 0 ≡ p +ℤ pos 0
back_still p d = omega (arith, ints)

pub none_more : (p : ℤ) → (p +ℤ pos 0) +ℤ pos 0 ≡ p
none_more p = omega (arith, ints)

pub none_then : (p d : ℤ) → ((p +ℤ pos 0) +ℤ pos 0) +ℤ d ≡ p +ℤ d
none_then p d = omega (arith, ints)

pub none_before : (p d : ℤ) → (p +ℤ pos 0) +ℤ d ≡ p +ℤ d
none_before p d = omega (arith, ints)

pub ahead : (p d : ℤ) → (p +ℤ d) -ℤ p ≡ d
ahead p d = omega (arith, ints)

pub ahead_still : (p d : ℤ) → (p +ℤ d) -ℤ (p +ℤ pos 0) ≡ d
ahead_still p d = omega (arith, ints)

pub behind : (p d : ℤ) → (p +ℤ pos 0) -ℤ (p +ℤ d) ≡ neg_ℤ d
behind p d = omega (arith, ints)

pub behind_all : (p d : ℤ) → p -ℤ (p +ℤ d) ≡ neg_ℤ d
behind_all p d = omega (arith, ints)

pub nothing : (p : ℤ) → p -ℤ p ≡ pos 0
nothing p = omega (arith, ints)

pub nothing_more : (p : ℤ) → (p +ℤ pos 0) -ℤ p ≡ pos 0
nothing_more p = omega (arith, ints)

pub nothing_less : (p : ℤ) → p -ℤ (p +ℤ pos 0) ≡ pos 0
nothing_less p = omega (arith, ints)

-- the corners of a block's base, but the first
pub record BaseCorners : Type 0 where
  pub q : Point
  pub r : Point
  pub t : Point

abbrev pub base_corners : Point → ℤ → ℤ → BaseCorners
base_corners p dx dy = record { q = moved p (vector dx (pos 0) (pos 0)); r = moved p (vector dx dy (pos 0)); t = moved p (vector (pos 0) dy (pos 0)) }

module _ (p : Point) (dx dy dz : ℤ) (x : dx ≢ pos 0) (y : dy ≢ pos 0) (z : dz ≢ pos 0) where
  abbrev up : Point
  up = up_by dz

  abbrev along_x : Point
  along_x = vector dx (pos 0) (pos 0)

  abbrev along_y : Point
  along_y = vector (pos 0) dy (pos 0)

  abbrev back_x : Point
  back_x = vector (neg_ℤ dx) (pos 0) (pos 0)

  abbrev back_y : Point
  back_y = vector (pos 0) (neg_ℤ dy) (pos 0)

  open base_corners p dx dy use {q, r, t}

  top_flat : lie_flat (all_moved up (base_of p dx dy)) ≡ true
  top_flat = let a = moved p up in
      rewritten_flat a (moved a along_x) (moved (moved a along_x) along_y) (moved a along_y) (moved q up) (moved r up) (moved t up)
      (same_vector (moved a along_x) (moved q up) (second p.x dx) refl (at_end_turned p.z dz))
      (same_vector (moved (moved a along_x) along_y) (moved r up) (third p.x dx) (fourth p.y dy) (at_ends_turned p.z dz))
      (same_vector (moved a along_y) (moved t up) refl (second p.y dy) (at_end_turned p.z dz))
      (parallelogram a along_x along_y (along_x_y dx dy x y))

  bottom_flat : lie_flat (turned_back (base_of p dx dy)) ≡ true
  bottom_flat =
      rewritten_flat q (moved q back_x) (moved (moved q back_x) along_y) (moved q along_y) p t r
      (same_vector (moved q back_x) p (back p.x dx) (none_more p.y) (none_more p.z))
      (same_vector (moved (moved q back_x) along_y) t (back_still p.x dx) (none_then p.y dy) (still_all p.z))
      (same_vector (moved q along_y) r (at_end p.x dx) (none_before p.y dy) (still p.z))
      (parallelogram q back_x along_y (along_x_y (neg_ℤ dx) dy (neither_none dx x) y))

  side_flat : (a b u : Point) → towards a b ≡ u → cross u up ≢ origin → lie_flat (side_over up a b) ≡ true
  side_flat a b u e ne = sides_lie_flat up a b (λ o. ne (ap (λ w. cross w up) (sym e) ∙ o))

  all_sides_flat : (i : ℕ) → i < 4 → lie_flat (side_over up (nth (base_of p dx dy) i) (nth (base_of p dx dy) (next_place 4 i))) ≡ true
  all_sides_flat zero l = side_flat p q along_x (same_vector (towards p q) along_x (ahead p.x dx) (nothing_more p.y) (nothing_more p.z)) (along_x_z dx dz x z)
  all_sides_flat (suc zero) l = side_flat q r along_y (same_vector (towards q r) along_y (nothing (p.x +ℤ dx)) (ahead_still p.y dy) (nothing (p.z +ℤ pos 0))) (along_y_z dy dz y z)
  all_sides_flat (suc (suc zero)) l = side_flat r t back_x (same_vector (towards r t) back_x (behind p.x dx) (nothing (p.y +ℤ dy)) (nothing (p.z +ℤ pos 0))) (along_x_z (neg_ℤ dx) dz (neither_none dx x) z)
  all_sides_flat (suc (suc (suc zero))) l = side_flat t p back_y (same_vector (towards t p) back_y (nothing_less p.x) (behind_all p.y dy) (nothing_less p.z)) (along_y_z (neg_ℤ dy) dz (neither_none dy y) z)
  all_sides_flat (suc (suc (suc (suc i)))) l = absurd (omega (arith, l))

-- ---- no other face is of the block

abbrev pub IsOneOf : ℕ → ℕ → Type 0
IsOneOf n k = (k ≡ n + 1) ⊎ ((k ≡ n + 2) ⊎ ((i : ℕ) × (i < 4) × (k ≡ n + 3 + i)))

pub one_of : (n k : ℕ) → n < k → k ≤ n + 6 → IsOneOf n k
one_of n k after within = elim (cases_eq k (n + 1)) [
  | inl e ↦ inl e
  | inr a ↦ elim (cases_eq k (n + 2)) [
    | inl e ↦ inr (inl e)
    | inr b ↦ inr (inr (k - (n + 3), omega (arith, after, within, a, b), omega (arith, after, within, a, b)))
  ]
]

module _ (before after : Machine) (s : ℕ) (p : Point) (dx dy dz : ℤ) (sound : Sound (held before)) (made : IsBlock before after s p dx dy dz) where
  sizes : (dx ≢ pos 0) × (dy ≢ pos 0) × (dz ≢ pos 0)
  unfolding block_conditions
  sizes = let hold = (all_hold (block_conditions (held before) s p dx dy dz) made.0).1.1 in (not_none dx hold.0, not_none dy hold.1.0, not_none dz hold.1.1.0)

  was_free : table.has (held before).solids s ≡ false
  unfolding block_conditions
  was_free = not-true _ (all_hold (block_conditions (held before) s p dx dy dz) made.0).1.0

  -- such a face is flat, and has no lone loop
  abbrev IsPlain : ℕ → Type 0
  IsPlain k = (is_flat (held after) k ≡ true) × ((l : ℕ) → Has (held after).loops l → face_of (held after) l ≡ k → is_lone (content (held after) l) ≡ false)

  plain_face : (k : ℕ) (ps : List Point) → IsFaceOf (held after) k s ps → lie_flat ps ≡ true → 2 ≤ length ps → IsPlain k
  unfolding has_rings
  plain_face k ps face flat many = (
    faces_lie_flat (held after) k s ps face ∙ flat,
    λ l has on. ap (λ q. is_lone (content (held after) q)) (sym (no_rings_means (held after) k (ap (λ rs. not (is_empty rs)) face.plain) l has on)) ∙ outer_cycles face many,
  )

  plain_one : (k : ℕ) → IsOneOf (last_face before) k → IsPlain k
  plain_one k (inl e) = subst IsPlain (sym e) (plain_face (last_face before + 1) (all_moved (up_by dz) (base_of p dx dy)) (block_has_top_and_bottom before after s p dx dy dz sound made).0 (top_flat p dx dy dz sizes.0 sizes.1 sizes.2) (omega arith))
  plain_one k (inr (inl e)) = subst IsPlain (sym e) (plain_face (last_face before + 2) (turned_back (base_of p dx dy)) (block_has_top_and_bottom before after s p dx dy dz sound made).1 (bottom_flat p dx dy dz sizes.0 sizes.1 sizes.2) (omega arith))
  plain_one k (inr (inr (i, l, e))) = subst IsPlain (sym e)
      (plain_face (last_face before + 3 + i) (side_over (up_by dz) (nth (base_of p dx dy) i) (nth (base_of p dx dy) (next_place 4 i))) (block_has_four_sides before after s p dx dy dz i sound made l) (all_sides_flat p dx dy dz sizes.0 sizes.1 sizes.2 i l) (omega arith))

  pub no_older : (k : ℕ) → k ≤ last_face before → Has (held after).faces k → solid_of (held after) k ≡ s → ⊥
  no_older k m there of =
      let row = block_keeps_faces before after s p dx dy dz made k m in
      let has = sound.faces_of_solids k (sym (ap is_some row) ∙ there) in
      true≢false (sym has ∙ ap (table.has (held before).solids) (sym (same_solid (held before) (held after) k row) ∙ of) ∙ was_free)

  plain_all : (k : ℕ) → Has (held after).faces k → solid_of (held after) k ≡ s → IsPlain k
  plain_all k there of = elim (cases_lt (last_face before) k) [
    | inr m ↦ absurd (no_older k m there of)
    | inl m ↦ plain_one k (one_of (last_face before) k m (subst (λ n. k ≤ n) (block_takes_six_faces before after s p dx dy dz sound made) (at_most_greatest (held after).faces k there)))
  ]

  pub sound_after : Sound (held after)
  sound_after = subst Sound (sym (ap held made.1)) (blocks_are_sound (held before) s p dx dy dz sound made.0)

  pub closed_flat : IsClosedFlat (held after) s
  closed_flat = record {
    flat = λ k there of. (plain_all k there of).0;
    closed = λ l has of. (plain_all (face_of (held after) l) (sound_after.loops_of_faces l has) of).1 l has refl;
  }

  -- ---- other solids

  pub of_block : (k : ℕ) → IsOneOf (last_face before) k → solid_of (held after) k ≡ s
  of_block k (inl e) = ap (solid_of (held after)) e ∙ (block_has_top_and_bottom before after s p dx dy dz sound made).0.solid
  of_block k (inr (inl e)) = ap (solid_of (held after)) e ∙ (block_has_top_and_bottom before after s p dx dy dz sound made).1.solid
  of_block k (inr (inr (i, l, e))) = ap (solid_of (held after)) e ∙ (block_has_four_sides before after s p dx dy dz i sound made l).solid

  module _ (u : ℕ) (other : u ≢ s) (was : IsClosedFlat (held before) u) (k : ℕ) (there : Has (held after).faces k) (of : solid_of (held after) k ≡ u) where
    older : k ≤ last_face before
    older = elim (cases_lt (last_face before) k) [
      | inr m ↦ m
      | inl m ↦ absurd (other (sym of ∙ of_block k (one_of (last_face before) k m (subst (λ n. k ≤ n) (block_takes_six_faces before after s p dx dy dz sound made) (at_most_greatest (held after).faces k there)))))
    ]

    row : table.get (held after).faces k ≡ table.get (held before).faces k
    row = block_keeps_faces before after s p dx dy dz made k older

    had : Has (held before).faces k
    had = sym (ap is_some row) ∙ there

    of_before : solid_of (held before) k ≡ u
    of_before = sym (same_solid (held before) (held after) k row) ∙ of

    same : StandsAsBefore (held before) (held after) k
    same = block_keeps_shapes before after s p dx dy dz sound made k had tt

    still_flat : is_flat (held after) k ≡ true
    still_flat = stands_flat (held before) (held after) k same ∙ was.flat k had of_before

    same_loops : loops_of (held after) k ≡ loops_of (held before) k
    unfolding loops_of
    same_loops = λ t. same.outer t ∷ same.rings t

    still_closed : (l : ℕ) → Has (held after).loops l → face_of (held after) l ≡ k → is_lone (content (held after) l) ≡ false
    still_closed l has on =
        let inside = subst (λ ls. IsIn l ls) (ap (loops_of (held after)) on ∙ same_loops) (loop_in_face (held after) l has) in
        let old = face_of_loop (held before) sound k l had (listed-from_in l (loops_of (held before) k) inside) in
        ap is_lone (same_content (held before) (held after) l (block_keeps_loops before after s p dx dy dz sound made l old.0 tt)) ∙ was.closed l old.0 (ap (solid_of (held before)) old.1 ∙ of_before)

pub block_keeps_flat : BlockKeepsFlat
block_keeps_flat before after s p dx dy dz u sound made other was = record {
  flat = λ k there of. still_flat before after s p dx dy dz sound made u other was k there of;
  closed = λ l has of. still_closed before after s p dx dy dz sound made u other was (face_of (held after) l) ((sound_after before after s p dx dy dz sound made).loops_of_faces l has) of l has refl;
}

pub blocks_lie_flat : BlocksLieFlat
blocks_lie_flat = closed_flat
