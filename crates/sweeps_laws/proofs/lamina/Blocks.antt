-- Where a block can be made: the lamina of its base can be made, and then its first face can be swept up.
use Rattle.sweeps_laws.proofs.Prelude.{◌≡◌, ◌≢◌, ℕ, ◌+◌, ◌*◌, ℤ, pos, ◌+ℤ◌, true, false, cond, not, ◌&&◌, List, [], ◌∷◌, ◌++◌, Some, None, is_some, refl, sym, ap, ◌∙◌, subst, arith, Option, length, int_le, not-true, ints, Point, is_coordinate, is_in_range, origin, moved, Model, point_of, Sound, Condition, need, never, first_refusal, is_number, numbers_in_range, and_first, and_second, add_none, ◌also◌, all_hold, none_refuses, same_is, greatest-put_last, numbers_are_left, left_numbers_hold, number_fits, AreLeft, corners, least_lone, Taken, taken_in, numbers_left, no_such, first_such, first_far, first_repeated, lamina_conditions, lamina_model, prism_conditions, prism_refusal, vector, base_of, block_conditions, block_refusal, BlocksHaveBases, BasesRise, needed_for_sides}
use Rattle.euler_operators.specs.Common.{same_point}
use Rattle.euler_operators.specs.Table as table
use Rattle.euler_operators.specs.declared.Why.TheVariants.{NoFace, ZeroSweep, LoneLoop, PointRange}
use Rattle.sweeps_laws.proofs.swept.Bounds.{HasFree, taken_free}
use Rattle.sweeps_laws.proofs.LaminaRows as rows
use Rattle.sweeps_laws.proofs.lamina.Steps.{greatest-with_path, greatest-with_points}

-- ---- coordinates

pub grown_other : (x u : ℤ) → int_le (pos 1) u ≡ true → x +ℤ u ≢ x
grown_other x u l e = grind (arith, ints)

-- points of which one coordinate differs
apart : (coordinate : Point → ℤ) (p q : Point) → coordinate p ≢ coordinate q → same_point p q ≡ false
apart coordinate p q ne = elim (same_point p q) as (λ b. same_point p q ≡ b → b ≡ false) [ true ↦ λ e. absurd (ne (ap coordinate (same_is p q e))) | false ↦ λ e. refl ] refl

in_range : (q : Point) (x y z : ℤ) → q.x ≡ x → q.y ≡ y → q.z ≡ z → is_coordinate x ≡ true → is_coordinate y ≡ true → is_coordinate z ≡ true → is_in_range q ≡ true
in_range q x y z ex ey ez a b c = λ i. (ap is_coordinate ex ∙ a) i && ((ap is_coordinate ey ∙ b) i && (ap is_coordinate ez ∙ c) i)

-- what the conditions of a block say, by name
pub record BlockGoes (M : Model) (s : ℕ) (p : Point) (dx dy dz : ℤ) : Type 0 where
  pub solid_fits : is_number s ≡ true
  pub solid_free : table.has M.solids s ≡ false
  pub long : int_le (pos 1) dx ≡ true
  pub wide : int_le (pos 1) dy ≡ true
  pub high : int_le (pos 1) dz ≡ true
  pub near : is_in_range p ≡ true
  pub far : is_in_range (moved p (vector dx dy dz)) ≡ true
  pub left : AreLeft (taken_in M) (record { faces = 6; loops = 6; edges = 12; vertices = 8 })

pub block_goes : (M : Model) (s : ℕ) (p : Point) (dx dy dz : ℤ) → block_refusal M s p dx dy dz ≡ None → BlockGoes M s p dx dy dz
unfolding block_conditions
block_goes M s p dx dy dz e = grind (arith, all_hold (block_conditions M s p dx dy dz) e, not-true, numbers_are_left)

-- the coordinates of the two corners that a block names are in range
record Ranges (p : Point) (dx dy dz : ℤ) : Type 0 where
  px : is_coordinate p.x ≡ true
  py : is_coordinate p.y ≡ true
  pz : is_coordinate p.z ≡ true
  qx : is_coordinate (p.x +ℤ dx) ≡ true
  qy : is_coordinate (p.y +ℤ dy) ≡ true
  qz : is_coordinate (p.z +ℤ dz) ≡ true

ranges : (p : Point) (dx dy dz : ℤ) → is_in_range p ≡ true → is_in_range (moved p (vector dx dy dz)) ≡ true → Ranges p dx dy dz
ranges p dx dy dz near far = grind (arith, and_first, and_second, near, far)

-- ---- the lamina of the base

pub all_near : (a b g h : Point) → is_in_range a ≡ true → is_in_range b ≡ true → is_in_range g ≡ true → is_in_range h ≡ true → first_far 0 (a ∷ b ∷ g ∷ h ∷ []) ≡ None
all_near a b g h r s t u = λ i. cond (r i) (cond (s i) (cond (t i) (cond (u i) None (Some 4)) (Some 3)) (Some 2)) (Some 1)

pub none_repeated : (a b g h : Point) → same_point b a ≡ false → same_point g a ≡ false → same_point g b ≡ false → same_point h a ≡ false → same_point h b ≡ false → same_point h g ≡ false →
    first_repeated [] 0 (a ∷ b ∷ g ∷ h ∷ []) ≡ None
none_repeated a b g h ba ga gb ha hb hg = cc

pub blocks_have_bases : BlocksHaveBases
unfolding lamina_conditions
blocks_have_bases M s p dx dy dz e =
    let goes = block_goes M s p dx dy dz e in
    let r = ranges p dx dy dz goes.near goes.far in
    let b : Point = moved p (vector dx (pos 0) (pos 0)) in
    let g : Point = moved p (vector dx dy (pos 0)) in
    let h : Point = moved p (vector (pos 0) dy (pos 0)) in
    let x_grows = grown_other p.x dx goes.long in
    let y_grows = grown_other p.y dy goes.wide in
    let near = all_near p b g h goes.near
    (in_range b (p.x +ℤ dx) p.y p.z refl (add_none p.y) (add_none p.z) r.qx r.py r.pz)
    (in_range g (p.x +ℤ dx) (p.y +ℤ dy) p.z refl refl (add_none p.z) r.qx r.qy r.pz)
    (in_range h p.x (p.y +ℤ dy) p.z (add_none p.x) refl (add_none p.z) r.px r.qy r.pz) in
    let x : Point → ℤ = λ q. q.x in
    let y : Point → ℤ = λ q. q.y in
    let six = none_repeated p b g h (apart x b p x_grows) (apart x g p x_grows) (apart y g b (λ t. y_grows (t ∙ add_none p.y)))
    (apart y h p y_grows) (apart x h b (λ t. x_grows (sym t ∙ add_none p.x))) (apart x h g (λ t. x_grows (sym t ∙ add_none p.x))) in
    let left : AreLeft (taken_in M) (record { faces = 2; loops = 2; edges = 4; vertices = 4 }) = record { faces = omega (arith, goes.left.faces); loops = omega (arith, goes.left.loops); edges = omega (arith, goes.left.edges); vertices = omega (arith, goes.left.vertices) } in
    none_refuses (lamina_conditions M s (base_of p dx dy)) (
    goes.solid_fits
    also ap not goes.solid_free
    also refl
    also ap (λ (o : Option ℕ). not (is_some o)) near
    also ap (λ (o : Option ℕ). not (is_some o)) six
    also left_numbers_hold (taken_in M) _ left
    )

-- ---- the lamina of four points

module _ (M : Model) (sound : Sound M) (c : Taken) (is : c ≡ taken_in M) (s : ℕ) (a b g h : Point) where
  abbrev ps : List Point
  ps = a ∷ b ∷ g ∷ h ∷ []

  abbrev base : Model
  base = rows.drawn M c s ps

  has_free : HasFree M c
  has_free = subst (HasFree M) (sym is) (taken_free M sound)

  abbrev base_vertices : List ℕ
  base_vertices = (c.vertex + 1) ∷ (c.vertex + 2) ∷ (c.vertex + 3) ∷ (c.vertex + 4) ∷ []

  corners_are : corners base (c.face + 1) ≡ base_vertices
  corners_are = rows.corners_one M c s ps has_free ∙ grind arith

  -- ---- the sweep

  abbrev swept_conditions : Point → List ℕ → List Condition
  swept_conditions d vs =
      numbers_in_range ((c.face + 1) ∷ []) ++
      need (table.has base.faces (c.face + 1)) NoFace (c.face + 1)
      ∷ never (same_point d origin) ZeroSweep (c.face + 1)
      ∷ no_such (least_lone base ((c.face + 1) ∷ [])) LoneLoop
      ∷ no_such (first_such (λ v. not (is_in_range (moved (point_of base v) d))) vs) PointRange
      ∷ numbers_left (taken_in base) (record { faces = length vs; loops = length vs; edges = 2 * length vs; vertices = length vs })

  all_in_range : (d : Point) → is_in_range (moved a d) ≡ true → is_in_range (moved b d) ≡ true → is_in_range (moved g d) ≡ true → is_in_range (moved h d) ≡ true →
      first_such (λ v. not (is_in_range (moved (point_of base v) d))) base_vertices ≡ None
  all_in_range d ra rb rg rh = grind (arith, rows.point_at M c s ps 0, rows.point_at M c s ps 1, rows.point_at M c s ps 2, rows.point_at M c s ps 3)

  base_left : AreLeft c (record { faces = 6; loops = 6; edges = 12; vertices = 8 }) → AreLeft (taken_in base) (needed_for_sides 4)
  unfolding taken_in
  base_left left = grind (arith, greatest-with_path, greatest-with_points, greatest-put_last)

  rises : (d : Point) → same_point d origin ≡ false → is_in_range (moved a d) ≡ true → is_in_range (moved b d) ≡ true → is_in_range (moved g d) ≡ true → is_in_range (moved h d) ≡ true →
      AreLeft c (record { faces = 6; loops = 6; edges = 12; vertices = 8 }) → prism_refusal base (c.face + 1) d ≡ None
  unfolding prism_conditions
  rises d other ra rb rg rh left = ap (λ vs. first_refusal (swept_conditions d vs)) corners_are
      ∙ none_refuses (swept_conditions d base_vertices) (
      number_fits (c.face + 1) (omega arith) (omega (arith, left.faces))
      also rows.there_one M c s ps
      also ap not other
      also ap (λ (o : Option ℕ). not (is_some o)) (rows.none_lone M c s ps has_free)
      also ap (λ (o : Option ℕ). not (is_some o)) (all_in_range d ra rb rg rh)
      also left_numbers_hold (taken_in base) (needed_for_sides 4) (base_left left)
      )

pub bases_rise : BasesRise
unfolding lamina_model
bases_rise M s p dx dy dz sound e =
    let goes = block_goes M s p dx dy dz e in
    let r = ranges p dx dy dz goes.near goes.far in
    let b : Point = moved p (vector dx (pos 0) (pos 0)) in
    let g : Point = moved p (vector dx dy (pos 0)) in
    let h : Point = moved p (vector (pos 0) dy (pos 0)) in
    let d : Point = vector (pos 0) (pos 0) dz in
    rises M sound (taken_in M) refl s p b g h d (apart (λ q. q.z) d origin (λ e. grind (arith, ints, goes.high)))
    (in_range (moved p d) p.x p.y (p.z +ℤ dz) (add_none p.x) (add_none p.y) refl r.px r.py r.qz)
    (in_range (moved b d) (p.x +ℤ dx) p.y (p.z +ℤ dz) (add_none (p.x +ℤ dx)) (omega (arith, ints)) (omega (arith, ints)) r.qx r.py r.qz)
    (in_range (moved g d) (p.x +ℤ dx) (p.y +ℤ dy) (p.z +ℤ dz) (add_none (p.x +ℤ dx)) (add_none (p.y +ℤ dy)) (omega (arith, ints)) r.qx r.qy r.qz)
    (in_range (moved h d) p.x (p.y +ℤ dy) (p.z +ℤ dz) (omega (arith, ints)) (add_none (p.y +ℤ dy)) (omega (arith, ints)) r.px r.qy r.qz)
    goes.left
