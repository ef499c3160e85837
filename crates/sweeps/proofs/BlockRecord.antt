-- The steps of a block, as its record keeps it.
use Rattle.sweeps.proofs.Prelude.{◌≡◌, ℕ, suc, ◌+◌, ◌<◌, ℤ, pos, List, [], ◌∷◌, ◌++◌, None, refl, sym, ap, ◌∙◌, arith, get_or, map, Point, HalfEdge, At, half, plus, moved, Model, no_point, Sound, Op, Mvfs, Mev, Mef, Lone, start, point_of, Taken, taken_in, numbers_after, lamina_at, lamina_model, vector, base_of, block_refusal, half-plus, half-minus, first_point, further_points, last_edge, IsInRange, lamina_operators, loop_ops, block_operators, with_lamina}
use Rattle.std.proofs.Common.{◌+ℤ◌, drop, take}
use Rattle.std.proofs.lemmas.Int.{ints}
use Rattle.euler_operators.specs.Common.{minus}
use Rattle.sweeps_laws.proofs.LaminaRows as rows
use Rattle.undo_journal.specs.Blocks.{HasLeft, block_steps, edge_from, leading, returning}
use Rattle.undo_journal.specs.declared.blocks.Block.{Block}
use Rattle.sweeps.specs.Asked.{asked}
use Rattle.sweeps_laws.proofs.lamina.Blocks.{block_goes}
use Rattle.sweeps.proofs.BlockSteps.{block_ops}

led : (x y : ℕ) → x ≡ y → half (plus x) ≡ leading y
led x y e = half-plus x ∙ ap leading e

led_back : (x y : ℕ) → x ≡ y → half (minus x) ≡ returning y
led_back x y e = half-minus x ∙ ap returning e

rise : {h g e w : HalfEdge} {v u : ℕ} {p q : Point} → h ≡ g → e ≡ w → v ≡ u → p ≡ q → Mev (At h) (At h) e v p ≡ Mev (At g) (At g) w u q
rise a b c d i = Mev (At (a i)) (At (a i)) (b i) (c i) (d i)

side : {a b e x y z : HalfEdge} {f g l k : ℕ} → a ≡ x → b ≡ y → e ≡ z → f ≡ g → l ≡ k → Mef a b e f l ≡ Mef x y z g k
side p q r s t i = Mef (p i) (q i) (r i) (s i) (t i)

next : {a b : Op} {xs ys : List Op} → a ≡ b → xs ≡ ys → a ∷ xs ≡ b ∷ ys
next e f i = e i ∷ f i

point : {a q : Point} → a.x ≡ q.x → a.y ≡ q.y → a.z ≡ q.z → a ≡ q
point x y z i = record { x = x i; y = y i; z = z i }

module _ (M : Model) (c : Taken) (s : ℕ) (p : Point) (dx dy dz : ℤ) where
  abbrev block : Block
  block = asked c s p (vector dx dy dz)

  abbrev base : Model
  base = lamina_at M c s (base_of p dx dy)

  abbrev up : Point
  up = vector (pos 0) (pos 0) dz

  raised : (i h : ℕ) (q : Point) → i < 4 → h ≡ c.edge + suc i → moved (get_or (base_of p dx dy) i no_point) up ≡ q → moved (start base (plus h)) up ≡ q
  raised i h q l e is =
      ap (λ (n : ℕ). moved (start base (plus n)) up) e
      ∙ ap (λ (n : ℕ). moved (point_of base n) up) (rows.tail_at M c s (base_of p dx dy) i l)
      ∙ ap (λ (a : Point). moved a up) (rows.point_at M c s (base_of p dx dy) i l) ∙ is

  sides_are : loop_ops base (with_lamina c 4) up (map plus (numbers_after c.edge 4)) ≡ drop 5 (block_steps block)
  sides_are =
      next (rise (led _ _ refl) (led _ _ (omega arith)) (omega arith) (raised 0 _ _ (omega arith) refl (point (omega (arith, ints)) (omega (arith, ints)) refl))) (
      next (rise (led _ _ (omega arith)) (led _ _ (omega arith)) (omega arith) (raised 1 _ _ (omega arith) (omega arith) (point (omega (arith, ints)) (omega (arith, ints)) (omega (arith, ints))))) (
      next (side (led_back _ _ (omega arith)) (led_back _ _ (omega arith)) (led _ _ (omega arith)) (omega arith) (omega arith)) (
      next (rise (led _ _ (omega arith)) (led _ _ (omega arith)) (omega arith) (raised 2 _ _ (omega arith) (omega arith) (point (omega (arith, ints)) (omega (arith, ints)) (omega (arith, ints))))) (
      next (side (led_back _ _ (omega arith)) (led_back _ _ (omega arith)) (led _ _ (omega arith)) (omega arith) (omega arith)) (
      next (rise (led _ _ (omega arith)) (led _ _ (omega arith)) (omega arith) (raised 3 _ _ (omega arith) (omega arith) (point (omega (arith, ints)) (omega (arith, ints)) (omega (arith, ints))))) (
      next (side (led_back _ _ (omega arith)) (led_back _ _ (omega arith)) (led _ _ (omega arith)) (omega arith) (omega arith)) (
      next (side (led_back _ _ (omega arith)) (led _ _ (omega arith)) (led _ _ (omega arith)) (omega arith) (omega arith)) refl)))))))

  base_is : first_point c s (base_of p dx dy) ∷ further_points c (base_of p dx dy) 3 ++ last_edge c 3 ∷ [] ≡ take 5 (block_steps block)
  base_is t =
      Mvfs s (c.face + 1) (c.loop + 1) (c.vertex + 1) p
      ∷ Mev (Lone (c.loop + 1)) (Lone (c.loop + 1)) (leading (c.edge + 1)) (c.vertex + 2) (let q : moved p (vector dx (pos 0) (pos 0)) ≡ vector (p.x +ℤ dx) p.y p.z = point refl (omega (arith, ints)) (omega (arith, ints)) in q t)
      ∷ edge_from (returning (c.edge + 1)) (c.edge + 2) (c.vertex + 3) (let q : moved p (vector dx dy (pos 0)) ≡ vector (p.x +ℤ dx) (p.y +ℤ dy) p.z = point refl refl (omega (arith, ints)) in q t)
      ∷ edge_from (returning (c.edge + 2)) (c.edge + 3) (c.vertex + 4) (let q : moved p (vector (pos 0) dy (pos 0)) ≡ vector p.x (p.y +ℤ dy) p.z = point (omega (arith, ints)) refl (omega (arith, ints)) in q t)
      ∷ last_edge c 3 ∷ []

module _ (M : Model) (s : ℕ) (p : Point) (dx dy dz : ℤ) (e : block_refusal M s p dx dy dz ≡ None) where
  pub near_fits : IsInRange p
  near_fits = (block_goes M s p dx dy dz e).near

  pub far_fits : IsInRange (moved p (vector dx dy dz))
  far_fits = (block_goes M s p dx dy dz e).far

  pub has_left : HasLeft (asked (taken_in M) s p (vector dx dy dz))
  has_left = let left = (block_goes M s p dx dy dz e).left in record { faces = left.faces; loops = left.loops; edges = left.edges; vertices = left.vertices }

  -- the steps are those of the block that was asked for
  pub steps_are : Sound M → block_steps (asked (taken_in M) s p (vector dx dy dz)) ≡ block_operators M s p dx dy dz
  unfolding lamina_operators lamina_model
  steps_are sound =
      (λ t. sym (base_is M (taken_in M) s p dx dy dz) t ++ sym (sides_are M (taken_in M) s p dx dy dz) t)
      ∙ block_ops M sound s p dx dy dz e (base_of p dx dy) refl (lamina_model M s (base_of p dx dy)) refl (vector (pos 0) (pos 0) dz) refl (map plus (numbers_after (taken_in M).edge 4)) refl (with_lamina (taken_in M) 4) refl
