-- A ring given to another face; and each solid keeps its six volumes where an edge is drawn, two loops are joined or a ring is moved.
use Rattle.split_drawing_laws.proofs.Prelude.{◌≡◌, ◌≢◌, ℕ, ◌++◌, sym, ap, ◌∙◌, arith, inl, inr, ℤ, ◌+ℤ◌, ◌-ℤ◌, true, not, cond, nat_eq, ◌&&◌, ◌∷◌, refl, subst, ne_eqb, eq-eqb, eqb_tells, Plane, moved, is_on, origin, dot, same_point, direction, count, SameItems, Model, loop_of, face_of, outer, solid_of, faces_of, Sound, Has, HasHalf, face_at, ring_in, Point, count-append, tick_same, tick_other, dot_sum, RingGoes, boundary, normal, anchor, six_volume, area-append, area_same, total, volume_of, unchanged, total_same, anchor_on, told_anywhere, ints}
use Rattle.euler_laws.proofs.faces.RingIn as moving
use Rattle.split_drawing_laws.proofs.drawn_volumes.Bounds.{OnFace, anchor_still, bound_one, bound_none, half_there, area_after, one_count, no_count, normal_kept, normal_is, face_on}
use Rattle.split_drawing_laws.proofs.drawings.Stays.{point_stays, start_stays, draw_has}
use Rattle.split_drawing_laws.proofs.drawings.Rings.{ring_sound, same_walks, ring_stays, ring_back, place_is, face_else, face_kept, ring_faces}
use Rattle.euler_operators.specs.Table as table
use Rattle.split_drawing_laws.proofs.drawings.Drawn.{CanDraw, CanJoin, face_drawn, loops_joined, face_drawn_else, loops_joined_faces}
use Rattle.split_drawing_laws.proofs.drawn_volumes.Bounds as draws
use Rattle.split_drawing_laws.proofs.cut_volumes.Told.{counted_in, counted_out, same_count, six_is, changed_one}
use Rattle.split_drawing_laws.proofs.crossings.Premises.{solid_facts}

-- loop l is a ring of face f and goes to another face k
pub record CanMove (N : Model) (f l k : ℕ) : Type 0 where
  pub sound : Sound N
  pub goes : RingGoes N l k
  pub face : face_of N l ≡ f
  pub f_there : Has N.faces f
  pub apart : f ≢ k

module _ (N : Model) (f l k : ℕ) (can : CanMove N f l k) where
  abbrev X : Model
  X = ring_in N l k

  -- the half-edges of the ring go to k, and the others keep their face
  gone : (h : ℕ) → HasHalf N h → loop_of N h ≡ l → (face_at N h ≡ f) × (face_at X h ≡ k)
  gone h there at =
      (ap (face_of N) at ∙ can.face, ap (face_of X) (place_is N l k can.sound can.goes h there ∙ at) ∙ moving.face_l N can.sound l k can.goes)

  -- ---- planes

  -- a face lies on its planes, and k on those of both
  now_on : (t : Plane) (g : ℕ) → OnFace N t g → (g ≡ k → OnFace N t f) → OnFace X t g
  now_on t g w too = record {
    halves = λ h now at. let was = ring_back N l k can.sound can.goes h now in ap (is_on t) (start_stays N X (ring_stays N l k can.sound can.goes) h was) ∙ elim (eqb_tells (loop_of N h) l) [
      | inl s ↦ (too (sym at ∙ (gone h was s.1).1)).halves h was (gone h was s.1).0
      | inr s ↦ w.halves h was (sym (face_kept N l k can.sound can.goes h was s.1) ∙ at)
    ];
    lones = λ q v at is. ap (is_on t) (point_stays N X (ring_stays N l k can.sound can.goes) v) ∙ elim (eqb_tells q l) [
      | inl s ↦ (too (sym at ∙ ap (face_of X) s.1 ∙ moving.face_l N can.sound l k can.goes)).lones q v (ap (face_of N) s.1 ∙ can.face) (sym ((same_walks N l k can.sound can.goes).contents q) ∙ is)
      | inr s ↦ w.lones q v (sym (face_else N l k can.sound can.goes q s.1) ∙ at) (sym ((same_walks N l k can.sound can.goes).contents q) ∙ is)
    ];
  }

  pub else_on : (t : Plane) (g : ℕ) → g ≢ k → OnFace N t g → OnFace (ring_in N l k) t g
  else_on t g ne w = now_on t g w (λ e. absurd (ne e))

  pub moved_on : (t : Plane) → OnFace N t f → OnFace N t k → OnFace (ring_in N l k) t k
  moved_on t a b = now_on t k b (λ e. a)

  -- ---- normals

  f_now : Has X.faces f
  f_now = (ring_stays N l k can.sound can.goes).faces f can.f_there

  one : (g h : ℕ) → Has N.faces g → HasHalf N h → face_at X h ≡ face_at N h → count h (boundary X g) ≡ count h (boundary N g)
  one g h there = one_count N X can.sound (ring_sound N l k can.sound can.goes) (ring_stays N l k can.sound can.goes) g there h

  none : (g h : ℕ) → Has N.faces g → (HasHalf N h → ⊥) → count h (boundary X g) ≡ count h (boundary N g)
  none g h there not_was = no_count N X can.sound (ring_sound N l k can.sound can.goes) (ring_stays N l k can.sound can.goes) g there h not_was (λ t s. not_was (ring_back N l k can.sound can.goes h t))

  both : SameItems (boundary X f ++ boundary X k) (boundary N f ++ boundary N k)
  both h = elim (half_there N h) [
    | inl was ↦ elim (eqb_tells (loop_of N h) l) [
      | inl s ↦
          let w = gone h was s.1 in
          let a : count h (boundary X f) ≡ 0 = bound_none X (ring_sound N l k can.sound can.goes) f h f_now (λ t z. can.apart (sym z ∙ w.1)) in
          let b : count h (boundary X k) ≡ 1 = bound_one X (ring_sound N l k can.sound can.goes) k h ((ring_stays N l k can.sound can.goes).halves h was) w.1 in
          let c : count h (boundary N f) ≡ 1 = bound_one N can.sound f h was w.0 in
          let d : count h (boundary N k) ≡ 0 = bound_none N can.sound k h can.goes.f_there (λ t z. can.apart (sym w.0 ∙ z)) in
          omega (arith, a, b, c, d, count-append h (boundary X f) (boundary X k), count-append h (boundary N f) (boundary N k))
      | inr s ↦ omega (arith, one f h can.f_there was (face_kept N l k can.sound can.goes h was s.1), one k h can.goes.f_there was (face_kept N l k can.sound can.goes h was s.1), count-append h (boundary X f) (boundary X k), count-append h (boundary N f) (boundary N k))
    ]
    | inr not_was ↦ omega (arith, none f h can.f_there not_was, none k h can.goes.f_there not_was, count-append h (boundary X f) (boundary X k), count-append h (boundary N f) (boundary N k))
  ]

  pub normals_sum : moved (normal (ring_in N l k) f) (normal (ring_in N l k) k) ≡ moved (normal N f) (normal N k)
  normals_sum = (λ i. moved (normal_is X f i) (normal_is X k i)) ∙ sym (area-append X (boundary X f) (boundary X k))
      ∙ area_same X (boundary X f ++ boundary X k) (boundary N f ++ boundary N k) both ∙ area-append X (boundary N f) (boundary N k) ∙ (λ i. moved (area_after N X can.sound (ring_stays N l k can.sound can.goes) f i) (area_after N X can.sound (ring_stays N l k can.sound can.goes) k i))

  pub normal_else : (g : ℕ) → Has N.faces g → g ≢ f → g ≢ k → normal (ring_in N l k) g ≡ normal N g
  normal_else g there not_f not_k = grind (arith, normal_kept, ring_sound, ring_stays, ring_back, gone, face_kept)

  -- each face keeps its anchor
  pub anchor_moved : (g : ℕ) → Has N.faces g → anchor (ring_in N l k) g ≡ anchor N g
  anchor_moved g there = anchor_still N X can.sound (ring_stays N l k can.sound can.goes) g there (moving.outer_same N can.sound l k can.goes g) ((same_walks N l k can.sound can.goes).contents (outer N g))

-- ---- an edge drawn, two loops joined, a ring moved: each solid keeps its six volumes, where the face lies on a plane

-- the plane has a direction
abbrev pub IsPlane : Plane → Type 0
IsPlane r = not (same_point (direction r) origin) ≡ true

-- what a face adds, told from a point of a plane on which it lies
module _ (N : Model) (sound : Sound N) (r : Plane) (some : IsPlane r) where
  pub told_from : (f : ℕ) (p : Point) → Has N.faces f → OnFace N r f → is_on r p ≡ true → volume_of N f ≡ dot p (normal N f)
  told_from f p there w on = sym (told_anywhere N r f p sound there (λ i. some i && face_on N sound r f there w i) on)

  pub anchor_lies : (f : ℕ) → Has N.faces f → OnFace N r f → is_on r (anchor N f) ≡ true
  anchor_lies f there w = anchor_on N r f sound there (face_on N sound r f there w)

-- ---- an edge drawn

module _ (N : Model) (u k e g l : ℕ) (can : CanDraw N u k e g l) (r : Plane) (some : IsPlane r) (w : OnFace N r (face_at N u)) where
  abbrev K : Model
  K = face_drawn N u k e g l

  abbrev F : ℕ
  F = face_at N u

  split : volume_of N F ≡ volume_of K F +ℤ volume_of K g
  split =
      let p : Point = anchor N F in
      let on : is_on r p ≡ true = anchor_lies N can.sound r some F (draws.F_there N u k e g l can) w in
      ap (dot p) (sym (draws.normals_sum N u k e g l can)) ∙ dot_sum p (normal K F) (normal K g)
      ∙ sym (λ i. told_from K (draws.K_sound N u k e g l can) r some F p (draws.F_now N u k e g l can) (draws.old_on N u k e g l can r F (draws.F_there N u k e g l can) w) on i +ℤ told_from K (draws.K_sound N u k e g l can) r some g p (draw_has N u k e g l can) (draws.new_on N u k e g l can r w) on i)

  else_told : (f : ℕ) → Has N.faces f → f ≢ F → volume_of N f ≡ volume_of K f
  else_told f there ne = sym (λ i. dot (draws.anchor_else N u k e g l can f there ne i) (draws.normal_else N u k e g l can f there ne i))

  g_was : (v : ℕ) → count g (faces_of N v) ≡ 0
  g_was v = counted_out N g v (λ there _. draws.not_new N u k e g l can g there refl)

  else_count : (v f : ℕ) → f ≢ g → count f (faces_of K v) ≡ count f (faces_of N v)
  else_count v f ne = same_count N K v f (face_drawn_else N u k e g l f ne)

  with_new : (v : ℕ) → solid_of N F ≡ v → SameItems (faces_of K v) (g ∷ faces_of N v)
  with_new v at f = elim (eqb_tells f g) [
    | inl s ↦ grind (arith, tick_same, counted_in, draw_has N u k e g l can, draws.solid_new N u k e g l can, g_was)
    | inr s ↦ omega (arith, tick_other f g s.1, else_count v f s.1)
  ]

  without : (v : ℕ) → solid_of N F ≢ v → SameItems (faces_of K v) (faces_of N v)
  without v not_at f = elim (eqb_tells f g) [
    | inl s ↦ ap (λ x. count x (faces_of K v)) s.1 ∙ counted_out K g v (λ there at. not_at (sym (draws.solid_new N u k e g l can) ∙ at)) ∙ sym (ap (λ x. count x (faces_of N v)) s.1 ∙ g_was v)
    | inr s ↦ else_count v f s.1
  ]

  pub draw_volumes : (v : ℕ) → six_volume (face_drawn N u k e g l) v ≡ six_volume N v
  draw_volumes v = six_is K v ∙ elim (eqb_tells (solid_of N F) v) [
    | inl at ↦ total_same (volume_of K) (faces_of K v) (g ∷ faces_of N v) (with_new v at.1) ∙ omega (arith, ints)
        ∙ sym (changed_one (volume_of N) (volume_of K) F (volume_of K g) split (faces_of N v) (λ f i ne. else_told f (solid_facts N v f i).0 ne) (counted_in N F v (draws.F_there N u k e g l can) at.1))
    | inr ne ↦ total_same (volume_of K) (faces_of K v) (faces_of N v) (without v ne.1)
        ∙ sym (unchanged (volume_of N) (volume_of K) (faces_of N v) (λ f i. else_told f (solid_facts N v f i).0 (λ s. ne.1 (ap (solid_of N) (sym s) ∙ (solid_facts N v f i).1))))
  ] ∙ sym (six_is N v)

-- ---- two loops joined

module _ (N : Model) (c d e : ℕ) (can : CanJoin N c d e) (r : Plane) (some : IsPlane r) (w : OnFace N r (face_at N c)) where
  abbrev J : Model
  J = loops_joined N c d e

  joined_told : (f : ℕ) → Has N.faces f → volume_of J f ≡ volume_of N f
  joined_told f there = elim (eqb_tells f (face_at N c)) [
    | inl at ↦
        let here : OnFace N r f = subst (OnFace N r) (sym at.1) w in
        told_from J (draws.J_sound N c d e can) r some f (anchor N f) (subst (λ t. Has t f) (sym (loops_joined_faces N c d e)) there) (draws.joined_on N c d e can r f here) (anchor_lies N can.sound r some f there here)
        ∙ ap (dot (anchor N f)) (draws.normal_joined N c d e can f there)
    | inr ne ↦ λ i. dot (draws.anchor_joined N c d e can f there ne.1 i) (draws.normal_joined N c d e can f there i)
  ]

  pub join_volumes : (v : ℕ) → six_volume (loops_joined N c d e) v ≡ six_volume N v
  join_volumes v = grind (arith, six_is, total, volume_of, loops_joined_faces, unchanged, joined_told, solid_facts)

-- ---- a ring moved

module _ (N : Model) (f l k : ℕ) (can : CanMove N f l k) (r : Plane) (some : IsPlane r) (w : OnFace N r f) (z : OnFace N r k) where
  abbrev R : Model
  R = ring_in N l k

  now : (h : ℕ) → Has N.faces h → Has R.faces h
  now h there = subst (λ t. Has t h) (sym (ring_faces N l k can.sound can.goes)) there

  both_told : volume_of N f +ℤ volume_of N k ≡ volume_of R f +ℤ volume_of R k
  both_told =
      let p : Point = anchor N f in
      let on : is_on r p ≡ true = anchor_lies N can.sound r some f can.f_there w in
      ap (λ x. volume_of N f +ℤ x) (told_from N can.sound r some k p can.goes.f_there z on) ∙ sym (dot_sum p (normal N f) (normal N k))
      ∙ ap (dot p) (sym (normals_sum N f l k can)) ∙ dot_sum p (normal R f) (normal R k)
      ∙ sym (λ i. told_from R (ring_sound N l k can.sound can.goes) r some f p (now f can.f_there) (else_on N f l k can r f can.apart w) on i
      +ℤ told_from R (ring_sound N l k can.sound can.goes) r some k p (now k can.goes.f_there) (moved_on N f l k can r w z) on i)

  same_told : (h : ℕ) → Has N.faces h → h ≢ f → h ≢ k → volume_of N h ≡ volume_of R h
  same_told h there a b = sym (λ i. dot (anchor_moved N f l k can h there i) (normal_else N f l k can h there a b i))

  one_solid : solid_of N f ≡ solid_of N k
  one_solid = ap (solid_of N) (sym can.face) ∙ can.goes.one_solid

  -- k as it was, and the others as they are then
  mid : ℕ → ℤ
  mid h = cond (nat_eq h k) (volume_of N h) (volume_of R h)

  mid_k : mid k ≡ volume_of N k
  unfolding mid
  mid_k = ap (λ b. cond b (volume_of N k) (volume_of R k)) (eq-eqb k k refl)

  mid_else : (h : ℕ) → h ≢ k → mid h ≡ volume_of R h
  unfolding mid
  mid_else h ne = ap (λ b. cond b (volume_of N h) (volume_of R h)) (ne_eqb h k ne)

  gap : (a b : ℤ) → a ≡ b +ℤ (a -ℤ b)
  gap a b = omega (arith, ints)

  no_gap : (a b c d t : ℤ) → a +ℤ b ≡ c +ℤ d → (t +ℤ (b -ℤ d)) +ℤ (a -ℤ c) ≡ t
  no_gap a b c d t e = omega (arith, ints)

  pub move_volumes : (v : ℕ) → six_volume (ring_in N l k) v ≡ six_volume N v
  move_volumes v = six_is R v ∙ ap (λ t. total (volume_of R) (table.all_where (λ _ row. nat_eq row.solid v) t)) (ring_faces N l k can.sound can.goes) ∙ sym (elim (eqb_tells (solid_of N f) v) [
    | inl at ↦
        changed_one (volume_of N) mid f (volume_of N f -ℤ volume_of R f) (gap (volume_of N f) (volume_of R f) ∙ ap (λ x. x +ℤ (volume_of N f -ℤ volume_of R f)) (sym (mid_else f can.apart))) (faces_of N v)
        (λ h i ne. elim (eqb_tells h k) [
          | inl s ↦ ap (volume_of N) s.1 ∙ sym (ap mid s.1 ∙ mid_k)
          | inr s ↦ same_told h (solid_facts N v h i).0 ne s.1 ∙ sym (mid_else h s.1)
        ]) (counted_in N f v can.f_there at.1)
        ∙ ap (λ x. x +ℤ (volume_of N f -ℤ volume_of R f)) (changed_one mid (volume_of R) k (volume_of N k -ℤ volume_of R k) (mid_k ∙ gap (volume_of N k) (volume_of R k)) (faces_of N v) (λ h i ne. mid_else h ne) (counted_in N k v can.goes.f_there (sym one_solid ∙ at.1)))
        ∙ no_gap (volume_of N f) (volume_of N k) (volume_of R f) (volume_of R k) (total (volume_of R) (faces_of N v)) both_told
    | inr ne ↦ unchanged (volume_of N) (volume_of R) (faces_of N v) (λ h i. let w = solid_facts N v h i in
        same_told h w.0 (λ s. ne.1 (ap (solid_of N) (sym s) ∙ w.1)) (λ s. ne.1 (one_solid ∙ ap (solid_of N) (sym s) ∙ w.1)))
  ]) ∙ sym (six_is N v)
