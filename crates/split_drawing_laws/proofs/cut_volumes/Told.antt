-- The faces of a solid, and sums over them.
use Rattle.split_drawing_laws.proofs.Prelude.{◌≡◌, ◌≢◌, ℕ, ◌≤◌, ℤ, ◌+ℤ◌, nat_eq, List, [], ◌∷◌, sym, ap, ◌∙◌, arith, inl, inr, true, ◌&&◌, refl, subst, neg_ℤ, not, unwrap_or, ints, eqb_tells, and_parts, count, tick, IsIn, Model, solid_of, faces_of, LoopContent, items_of, content, point_of, is_ring_of, rings_of, after, no_face, Has, Sound, Plane, is_on, origin, dot, same_point, direction, tick_same, tick_other, IsIn_or_not, IsIn_rest, each_mapped, IsIn_head, same_solid, item_there, add_assoc, dot_turned, all_where-rises, IsIn-from_listed, counted_once, next_in, six_volume, normal, anchor, plane_through, plane_of, is_flat, volume_in, start, finish, vertices_on, vertices_in, corners, total, volume_of, volume_is, unchanged, same_volumes, list_parts, are_on, anchor_on, plane_told, listed_ring, ring_listed, rings_rise, rising_one}
use Rattle.std.proofs.lemmas.List.Folds.{list_all-append}
use Rattle.euler_operators.specs.Table as table
use Rattle.split_drawing_laws.proofs.crossings.Premises.{solid_facts, in_solid}

-- ---- the faces of a solid

pub counted : (M : Model) (u f : ℕ) → count f (faces_of M u) ≤ 1
counted M u f = counted_once f (faces_of M u) (all_where-rises (λ _ row. nat_eq row.solid u) M.faces)

pub counted_in : (M : Model) (f u : ℕ) → Has M.faces f → solid_of M f ≡ u → count f (faces_of M u) ≡ 1
counted_in M f u there of_u = omega (arith, in_solid M f u there of_u, counted M u f)

pub counted_out : (M : Model) (f u : ℕ) → (Has M.faces f → solid_of M f ≢ u) → count f (faces_of M u) ≡ 0
counted_out M f u never = elim (IsIn_or_not f (faces_of M u)) [ inl i ↦ let w = solid_facts M u f i in absurd (never w.0 w.1) | inr z ↦ z ]

pub same_count : (M N : Model) (u f : ℕ) → table.get N.faces f ≡ table.get M.faces f → count f (faces_of N u) ≡ count f (faces_of M u)
same_count M N u f e = grind (arith, IsIn_or_not, solid_facts, counted_in, same_solid, counted_out, in_solid)

-- ---- sums

pub six_is : (M : Model) (u : ℕ) → six_volume M u ≡ total (volume_of M) (faces_of M u)
unfolding six_volume
six_is M u = volume_is M (faces_of M u)

-- where one number changes by x, so does the sum
pub changed_one : (w z : ℕ → ℤ) (k : ℕ) (x : ℤ) → w k ≡ z k +ℤ x → (fs : List ℕ) → ((f : ℕ) → IsIn f fs → f ≢ k → w f ≡ z f) → count k fs ≡ 1 → total w fs ≡ total z fs +ℤ x
changed_one w z k x e [] each one = absurd (omega (arith, one))
changed_one w z k x e (f ∷ fs) each one = elim (eqb_tells f k) [
  | inl s ↦
      let here : w f ≡ z f +ℤ x = ap w s.1 ∙ e ∙ ap (λ q. z q +ℤ x) (sym s.1) in
      let gone : count k fs ≡ 0 = let t : tick k f ≡ 1 = ap (tick k) s.1 ∙ tick_same k in omega (arith, one, t) in
      let rest : total w fs ≡ total z fs = unchanged w z fs (λ g j. each g (IsIn_rest g f fs j) (λ q. absurd (omega (arith, gone, ap (λ y. count y fs) (sym q), j)))) in
      (λ i. here i +ℤ rest i) ∙ omega (arith, ints)
  | inr s ↦
      let more : total w fs ≡ total z fs +ℤ x = changed_one w z k x e fs (λ g j. each g (IsIn_rest g f fs j)) (omega (arith, one, tick_other k f (λ q. s.1 (sym q)))) in
      (λ i. each f (IsIn_head f fs) s.1 i +ℤ more i) ∙ sym (add_assoc (z f) (total z fs) x)
]

-- ---- corners on a plane, loop by loop and item by item; rings that are the same

-- ---- loops

module _ (M : Model) (r : Plane) where
  -- where the corners of some loops lie on the plane, so do those of each of them
  pub loop_on : (ls : List ℕ) (l : ℕ) → are_on M r (vertices_in M ls) ≡ true → IsIn l ls → are_on M r (vertices_on M (content M l)) ≡ true
  loop_on [] l on i = absurd (omega (arith, i))
  loop_on (k ∷ ls) l on i = let a = list_parts (λ v. is_on r (point_of M v)) (vertices_on M (content M k)) (vertices_in M ls) on in elim (eqb_tells l k) [
    | inl e ↦ ap (λ q. are_on M r (vertices_on M (content M q))) e.1 ∙ a.0
    | inr e ↦ loop_on ls l a.1 (omega (arith, i, tick_other l k e.1))
  ]

  pub loops_on : (ls : List ℕ) → ((l : ℕ) → IsIn l ls → are_on M r (vertices_on M (content M l)) ≡ true) → are_on M r (vertices_in M ls) ≡ true
  loops_on [] each = refl
  loops_on (l ∷ ls) each = list_all-append (λ v. is_on r (point_of M v)) (vertices_on M (content M l)) (vertices_in M ls) ∙ (λ i. each l (IsIn_head l ls) i && loops_on ls (λ k j. each k (IsIn_rest k l ls j)) i)

  -- an item starts at a corner
  pub item_on : (c : LoopContent) (h : ℕ) → are_on M r (vertices_on M c) ≡ true → IsIn h (items_of c) → is_on r (start M h) ≡ true
  item_on c h e f = grind (arith, each_mapped)

module _ (M : Model) (sound : Sound M) where
  -- what comes after an item of a loop is one of its items
  pub next_item : (l h : ℕ) → IsIn h (items_of (content M l)) → IsIn (after M h) (items_of (content M l))
  next_item l h i = next_in M sound l h i h i

  -- so it ends at a corner
  pub item_ends_on : (r : Plane) (l h : ℕ) → are_on M r (vertices_on M (content M l)) ≡ true → IsIn h (items_of (content M l)) → is_on r (finish M h) ≡ true
  item_ends_on r l h on i = ap (λ v. is_on r (point_of M v)) (sym (sound.ends_meet h (item_there M sound l h i))) ∙ item_on M r (content M l) (after M h) on (next_item l h i)

-- ---- rings

-- a face has the same rings in two models where the same loops are its rings
pub same_rings : (M N : Model) → Sound M → Sound N → (f : ℕ) → ((l : ℕ) → is_ring_of N f l ≡ is_ring_of M f l) → rings_of N f ≡ rings_of M f
same_rings M N a b f same = grind (arith, rising_one, rings_rise, ring_listed, listed_ring)

-- ---- faces on one plane: what they add to the six volumes, told from any corner

-- N is M with its faces, their normals, the planes on which their corners lie, and the anchors of the faces of other solids than s
pub record Measured (M N : Model) (s : ℕ) : Type 0 where
  pub faces : N.faces ≡ M.faces
  pub normals : (f : ℕ) → normal N f ≡ normal M f
  pub planes : (f : ℕ) (r : Plane) → are_on M r (corners M f) ≡ true → are_on N r (corners N f) ≡ true
  pub anchors : (f : ℕ) → Has M.faces f → solid_of M f ≢ s → anchor N f ≡ anchor M f

pub measured_none : (M : Model) (s : ℕ) → Measured M M s
measured_none M s = record { faces = refl; normals = λ f. refl; planes = λ f r on. on; anchors = λ f there ne. refl }

pub solid_stays : (M N : Model) → N.faces ≡ M.faces → (f : ℕ) → solid_of N f ≡ solid_of M f
unfolding solid_of
solid_stays M N e f = ap (λ t. (unwrap_or (table.get t f) no_face).solid) e

pub measured_on : (M N K : Model) (s : ℕ) → Measured M N s → Measured N K s → Measured M K s
measured_on M N K s a b = grind (arith, solid_stays)

-- ---- volumes

-- the corners of a flat face lie on its plane
pub flat_on : (M : Model) (f : ℕ) → is_flat M f ≡ true → (not (same_point (direction (plane_of M f)) origin) ≡ true) × (are_on M (plane_of M f) (corners M f) ≡ true)
unfolding is_flat
flat_on M f flat = and_parts (not (same_point (direction (plane_of M f)) origin)) (are_on M (plane_of M f) (corners M f)) flat

module _ (M N : Model) (s : ℕ) (new : Sound N) (w : Measured M N s) where
  module _ (f : ℕ) (there : Has M.faces f) (flat : is_flat M f ≡ true) where
    on_now : are_on N (plane_of M f) (corners N f) ≡ true
    on_now = w.planes f (plane_of M f) (flat_on M f flat).1

    anchor_told : dot (anchor N f) (normal M f) ≡ dot (anchor M f) (normal M f)
    anchor_told = plane_told M f (anchor N f) (anchor_on N (plane_of M f) f new (subst (λ t. Has t f) (sym w.faces) there) on_now)

    pub flat_volume : dot (anchor N f) (normal N f) ≡ dot (anchor M f) (normal M f)
    flat_volume = ap (dot (anchor N f)) (w.normals f) ∙ anchor_told

    pub same_plane : plane_of N f ≡ plane_of M f
    unfolding plane_of
    same_plane = ap (λ n. plane_through n (anchor N f)) (w.normals f)
        ∙ (λ i. record { a = (normal M f).x; b = (normal M f).y; c = (normal M f).z; d = neg_ℤ ((dot_turned (normal M f) (anchor N f) ∙ anchor_told ∙ dot_turned (anchor M f) (normal M f)) i) })

    pub flat_still : is_flat N f ≡ true
    unfolding is_flat
    flat_still = ap (λ r. not (same_point (direction r) origin) && are_on N r (corners N f)) same_plane ∙ (λ i. (flat_on M f flat).0 i && on_now i)

  -- where the faces of s are flat, each solid keeps its six volumes
  module _ (flat : (f : ℕ) → Has M.faces f → solid_of M f ≡ s → is_flat M f ≡ true) (has : (u f : ℕ) → IsIn f (faces_of M u) → Has M.faces f × (solid_of M f ≡ u)) where
    face_volume : (f : ℕ) → Has M.faces f → dot (anchor N f) (normal N f) ≡ dot (anchor M f) (normal M f)
    face_volume f there = elim (eqb_tells (solid_of M f) s) [
      | inl e ↦ flat_volume f there (flat f there e.1)
      | inr e ↦ λ i. dot (w.anchors f there e.1 i) (w.normals f i)
    ]

    pub all_volumes : (u : ℕ) → six_volume N u ≡ six_volume M u
    unfolding six_volume
    all_volumes u = ap (volume_in N) (ap (table.all_where (λ _ row. nat_eq row.solid u)) w.faces)
        ∙ same_volumes M N (faces_of M u) (λ f l. face_volume f (has u f (IsIn-from_listed f (faces_of M u) l)).0)
