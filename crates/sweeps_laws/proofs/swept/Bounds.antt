-- In a sound model the numbers that rows name lie within those taken, where all above these are free.
use Rattle.sweeps_laws.proofs.Prelude.{◌≡◌, ℕ, ◌≤◌, ◌<◌, Bool, true, false, None, unwrap_or, refl, ap, ◌∙◌, arith, inl, inr, eqb_tells, IsIn, Table, edge_of, is_first, Model, lone, no_face, no_loop, no_edge, items_of, tail, content, face_of, outer, Sound, in-holds, in_use_within, no_row, AreFree, Taken, taken_in, greatest_used, none_above}
use Rattle.euler_operators.specs.Common.{tail_in}
use Rattle.euler_operators.specs.Table as table

-- M is sound, and all numbers above those taken are free
pub record HasFree (M : Model) (c : Taken) : Type 0 where
  pub sound : Sound M
  pub free : AreFree M c

-- as a command begins it is so
pub taken_free : (M : Model) → Sound M → HasFree M (taken_in M)
unfolding taken_in
taken_free M sound = record { sound = sound; free = record { faces = none_above M.faces; loops = none_above M.loops; edges = none_above M.edges; vertices = none_above M.vertices } }

-- ---- rows that aren't there

no_tail : (b : Bool) → tail_in no_edge b ≡ 0
no_tail true = refl
no_tail false = refl

no_outer : (M : Model) (k : ℕ) → table.has M.faces k ≡ false → outer M k ≡ 0
unfolding outer
no_outer M k e = ap (λ o. (unwrap_or o no_face).outer) (no_row (table.get M.faces k) e)

no_loop_face : (M : Model) (q : ℕ) → table.has M.loops q ≡ false → face_of M q ≡ 0
unfolding face_of
no_loop_face M q e = ap (λ o. (unwrap_or o no_loop).face) (no_row (table.get M.loops q) e)

no_edge_tail : (M : Model) (h : ℕ) → table.has M.edges (edge_of h) ≡ false → tail M h ≡ 0
unfolding tail
no_edge_tail M h e = ap (λ o. tail_in (unwrap_or o no_edge) (is_first h)) (no_row (table.get M.edges (edge_of h)) e) ∙ no_tail (is_first h)

-- a number that is used where there is a row, and is 0 where there is none
used_or_none : (a g : ℕ) (b : Bool) → (b ≡ true → a ≤ g) → (b ≡ false → a ≡ 0) → a ≤ g
used_or_none a g true u n = u refl
used_or_none a g false u n = omega (arith, n refl)

greatest_within : {X : Type 0} (t : Table X) (n : ℕ) → ((q : ℕ) → n < q → table.get t q ≡ None) → table.greatest t ≤ n
greatest_within t n free = elim (eqb_tells (table.greatest t) 0) [ inl e ↦ omega (arith, e.1) | inr e ↦ in_use_within t n free (table.greatest t) (greatest_used t e.1) ]

module _ {M : Model} {c : Taken} (b : HasFree M c) where
  pub faces_within : table.greatest M.faces ≤ c.face
  faces_within = greatest_within M.faces c.face b.free.faces

  pub loops_within : table.greatest M.loops ≤ c.loop
  loops_within = greatest_within M.loops c.loop b.free.loops

  pub outer_within : (k : ℕ) → outer M k ≤ c.loop
  outer_within k = used_or_none (outer M k) c.loop (table.has M.faces k) (λ t. in_use_within M.loops c.loop b.free.loops (outer M k) (b.sound.outers_there k t).0) (no_outer M k)

  pub loop_face_within : (q : ℕ) → face_of M q ≤ c.face
  loop_face_within q = used_or_none (face_of M q) c.face (table.has M.loops q) (λ t. in_use_within M.faces c.face b.free.faces (face_of M q) (b.sound.loops_of_faces q t)) (no_loop_face M q)

  pub item_within : (h q : ℕ) → IsIn h (items_of (content M q)) → edge_of h ≤ c.edge
  item_within h q i = in_use_within M.edges c.edge b.free.edges (edge_of h) (b.sound.only_edges h q (in-holds h (content M q) i))

  pub tail_within : (h : ℕ) → tail M h ≤ c.vertex
  tail_within h = used_or_none (tail M h) c.vertex (table.has M.edges (edge_of h)) (λ t. in_use_within M.vertices c.vertex b.free.vertices (tail M h) (b.sound.tails_there h t)) (no_edge_tail M h)

  pub lone_within : (q v : ℕ) → content M q ≡ lone v → v ≤ c.vertex
  lone_within q v e = in_use_within M.vertices c.vertex b.free.vertices v (b.sound.lone_at_vertex q v e)
