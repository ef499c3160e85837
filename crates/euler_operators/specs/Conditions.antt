-- The conditions of each operator, in the order in which they are tested.
-- A condition is a test on a model, with the refusal that is given if it is false.
use Rattle.std.specs.Prelude.{◌≡◌, ℕ, Bool, true, false, cond, not, ◌&&◌, ◌||◌, nat_eq, nat_lt, List, [], ◌∷◌, ◌++◌, Option, Some, None, Result, Ok, Err}
use Rattle.boundary_model.specs.Points.{is_in_range}
use Rattle.boundary_model.specs.declared.Corner.{Corner}
use Rattle.boundary_model.specs.declared.Corner.TheVariants.{At, Lone}
use Rattle.boundary_model.specs.Rings.{rotate_to}
use Rattle.boundary_model.specs.HalfEdge.{code, mate, edge_of, plus, minus}
use Rattle.boundary_model.specs.Table as table
use Rattle.boundary_model.specs.Table.{Table}
use Rattle.boundary_model.specs.Model.{Model, LoopContent, lone, cycle, tail, loop_of, content, face_of, solid_of, outer, is_ring_of, faces_of, rings_of, cycle_of, after, is_number}
use Rattle.euler_operators.specs.declared.Op.{Op}
use Rattle.euler_operators.specs.declared.Op.TheVariants.{Mvfs, Kvfs, Mev, Kev, Mef, Kef, Kemr, Mekr, Kfmrh, Mfkrh, RingIn, RingOut, Outer, Merge, Part}
use Rattle.euler_operators.specs.declared.Why.{Why}
use Rattle.euler_operators.specs.declared.Why.TheVariants.{NumberRange, NoSolid, NoFace, NoLoop, NoEdge, SolidTaken, FaceTaken, LoopTaken, EdgeTaken, VertexTaken, PointRange, NotBare, NotLone, DifferentTails, ParallelEdge, KeptEndBare, DifferentLoops, SameTail, SameFace, HasRings, SameLoop, DifferentFaces, NotRing, DifferentSolids, SameSolid, BadPart}
use Rattle.euler_operators.specs.declared.Refusal.{Refusal}

-- a condition: whether it holds, and the refusal if it doesn't
pub record Condition : Type 0 where
  pub holds : Bool
  pub refusal : Refusal

-- a test that has to be true, and one that has to be false
abbrev pub need : Bool → Why → ℕ → Condition
need b why n = record { holds = b; refusal = record { why = why; number = n } }

abbrev pub never : Bool → Why → ℕ → Condition
never b why n = need (not b) why n

-- the refusal of the first condition that doesn't hold
abbrev pub first_refusal : List Condition → Option Refusal
first_refusal [] = None
first_refusal (c ∷ cs) = cond c.holds (first_refusal cs) (Some c.refusal)

-- each condition holds
abbrev pub AllHold : List Condition → Type 0
AllHold [] = Unit {0}
AllHold (c ∷ cs) = (c.holds ≡ true) × AllHold cs

-- each number lies from 1 to the limit
abbrev pub numbers_in_range : List ℕ → List Condition
numbers_in_range [] = []
numbers_in_range (n ∷ ns) = need (is_number n) NumberRange n ∷ numbers_in_range ns

-- the number that a corner names
abbrev pub corner_number : Corner → ℕ
corner_number (At h) = h.edge
corner_number (Lone l) = l

-- the vertex of a lone loop, or 0
abbrev pub lone_vertex : LoopContent → ℕ
lone_vertex (lone v) = v
lone_vertex (cycle hs) = 0

abbrev pub is_lone : LoopContent → Bool
is_lone (lone v) = true
is_lone (cycle hs) = false

-- the vertex of a corner, and the loop in which it stands
abbrev pub corner_tail : Model → Corner → ℕ
corner_tail M (At h) = tail M (code h)
corner_tail M (Lone l) = lone_vertex (content M l)

abbrev pub corner_loop : Model → Corner → ℕ
corner_loop M (At h) = loop_of M (code h)
corner_loop M (Lone l) = l

-- the corner's loop from that corner on; nothing if the loop is lone
abbrev pub corner_list : Model → Corner → List ℕ
corner_list M (At h) = rotate_to (code h) (cycle_of M (code h))
corner_list M (Lone l) = []

-- the edge or the loop that a corner names is there
abbrev pub corner_known : Model → Corner → Condition
corner_known M (At h) = need (table.has M.edges h.edge) NoEdge h.edge
corner_known M (Lone l) = need (table.has M.loops l) NoLoop l

-- whether the corner is at a half-edge
abbrev pub is_at_half : Corner → Bool
is_at_half (At h) = true
is_at_half (Lone l) = false

-- a corner is at a half-edge, or its loop is lone
abbrev pub corner_lone : Model → Corner → Condition
corner_lone M c = need (is_at_half c || is_lone (content M (corner_loop M c))) NotLone (corner_loop M c)

abbrev pub is_empty : {A : Type 0} → List A → Bool
is_empty [] = true
is_empty (x ∷ xs) = false

-- whether the face has a ring
unfoldable pub has_rings : Model → ℕ → Bool
has_rings M f = not (is_empty (rings_of M f))

-- the solid has one face, no ring and a lone outer loop
abbrev pub bare_face : Model → List ℕ → Bool
bare_face M [] = false
bare_face M (f ∷ []) = is_empty (rings_of M f) && is_lone (content M (outer M f))
bare_face M (f ∷ g ∷ fs) = false

-- the least other edge with the same two ends as h, or 0
abbrev pub parallel : Model → ℕ → ℕ
parallel M h = let a = tail M h in let b = tail M (mate h) in
    table.first_where (λ e row. not (nat_eq e (edge_of h))
    && ((nat_eq row.plus_tail a && nat_eq row.minus_tail b) || (nat_eq row.plus_tail b && nat_eq row.minus_tail a))) M.edges

-- only this edge leaves the kept vertex, and others leave the killed one
abbrev pub kept_end_bare : Model → ℕ → Bool
kept_end_bare M h = nat_eq (after M (mate h)) h && not (nat_eq (after M h) (mate h))

-- whether n stands in the list
abbrev pub lists : List ℕ → ℕ → Bool
lists [] n = false
lists (m ∷ ns) n = nat_eq m n || lists ns n

abbrev pub strictly_rises : List ℕ → Bool
strictly_rises [] = true
strictly_rises (n ∷ []) = true
strictly_rises (n ∷ m ∷ ns) = nat_lt n m && strictly_rises (m ∷ ns)

abbrev pub lists_all : List ℕ → List ℕ → Bool
lists_all fs [] = true
lists_all fs (n ∷ ns) = lists fs n && lists_all fs ns

-- the face of the loop in which h stands
abbrev pub face_at : Model → ℕ → ℕ
face_at M h = face_of M (loop_of M h)

abbrev pub differ : Bool → Bool → Bool
differ a b = cond a (not b) b

-- the least edge between a listed and an unlisted face, or 0
abbrev pub torn_edge : Model → List ℕ → ℕ
torn_edge M fs = table.first_where (λ e _. differ (lists fs (face_at M (plus e))) (lists fs (face_at M (minus e)))) M.edges

-- the listed faces can't be parted from the solid
abbrev pub is_bad_part : Model → ℕ → List ℕ → Bool
is_bad_part M s fs = is_empty fs || not (strictly_rises fs) || lists_all fs (faces_of M s) || not (nat_eq (torn_edge M fs) 0)

-- each listed face is there
abbrev pub faces_known : Model → List ℕ → List Condition
faces_known M [] = []
faces_known M (f ∷ fs) = need (table.has M.faces f) NoFace f ∷ faces_known M fs

-- each listed face is of the solid
abbrev pub faces_in : Model → ℕ → List ℕ → List Condition
faces_in M s [] = []
faces_in M s (f ∷ fs) = need (nat_eq (solid_of M f) s) DifferentSolids f ∷ faces_in M s fs

-- what is asked of a ring L and a face F of its solid
abbrev pub ring_and_face : Model → ℕ → ℕ → List Condition
ring_and_face M l f =
    numbers_in_range (l ∷ f ∷ []) ++
    need (table.has M.loops l) NoLoop l
    ∷ need (table.has M.faces f) NoFace f
    ∷ need (nat_eq (solid_of M (face_of M l)) (solid_of M f)) DifferentSolids (solid_of M f)
    ∷ need (is_ring_of M (face_of M l) l) NotRing l ∷ []

-- the conditions of an operator, in order, each with the refusal that is given if it is false
unfoldable pub conditions : Model → Op → List Condition
conditions M (Mvfs s f l v p) =
    numbers_in_range (s ∷ f ∷ l ∷ v ∷ []) ++
    never (table.has M.solids s) SolidTaken s
    ∷ never (table.has M.faces f) FaceTaken f
    ∷ never (table.has M.loops l) LoopTaken l
    ∷ never (table.has M.vertices v) VertexTaken v
    ∷ need (is_in_range p) PointRange v ∷ []
conditions M (Kvfs s) =
    numbers_in_range (s ∷ []) ++
    need (table.has M.solids s) NoSolid s
    ∷ need (bare_face M (faces_of M s)) NotBare s ∷ []
conditions M (Mev c d h v p) =
    numbers_in_range (corner_number c ∷ corner_number d ∷ h.edge ∷ v ∷ []) ++
    corner_known M c
    ∷ corner_known M d
    ∷ corner_lone M c
    ∷ corner_lone M d
    ∷ never (table.has M.edges h.edge) EdgeTaken h.edge
    ∷ never (table.has M.vertices v) VertexTaken v
    ∷ need (is_in_range p) PointRange v
    ∷ need (nat_eq (corner_tail M c) (corner_tail M d)) DifferentTails (corner_tail M d) ∷ []
conditions M (Kev h) =
    numbers_in_range (h.edge ∷ []) ++
    need (table.has M.edges h.edge) NoEdge h.edge
    ∷ need (nat_eq (parallel M (code h)) 0) ParallelEdge (parallel M (code h))
    ∷ never (kept_end_bare M (code h)) KeptEndBare (tail M (code h)) ∷ []
conditions M (Mef g k h f l) =
    numbers_in_range (g.edge ∷ k.edge ∷ h.edge ∷ f ∷ l ∷ []) ++
    need (table.has M.edges g.edge) NoEdge g.edge
    ∷ need (table.has M.edges k.edge) NoEdge k.edge
    ∷ never (table.has M.edges h.edge) EdgeTaken h.edge
    ∷ never (table.has M.faces f) FaceTaken f
    ∷ never (table.has M.loops l) LoopTaken l
    ∷ need (nat_eq (loop_of M (code g)) (loop_of M (code k))) DifferentLoops (loop_of M (code k))
    ∷ never (nat_eq (tail M (code g)) (tail M (code k))) SameTail (tail M (code g)) ∷ []
conditions M (Kef h) =
    numbers_in_range (h.edge ∷ []) ++
    need (table.has M.edges h.edge) NoEdge h.edge
    ∷ never (nat_eq (face_at M (code h)) (face_at M (mate (code h)))) SameFace (face_at M (code h))
    ∷ never (has_rings M (face_at M (mate (code h)))) HasRings (face_at M (mate (code h))) ∷ []
conditions M (Kemr h l) =
    numbers_in_range (h.edge ∷ l ∷ []) ++
    need (table.has M.edges h.edge) NoEdge h.edge
    ∷ never (table.has M.loops l) LoopTaken l
    ∷ need (nat_eq (loop_of M (code h)) (loop_of M (mate (code h)))) DifferentLoops (loop_of M (mate (code h))) ∷ []
conditions M (Mekr c d h) =
    numbers_in_range (corner_number c ∷ corner_number d ∷ h.edge ∷ []) ++
    corner_known M c
    ∷ corner_known M d
    ∷ corner_lone M c
    ∷ corner_lone M d
    ∷ never (table.has M.edges h.edge) EdgeTaken h.edge
    ∷ never (nat_eq (corner_loop M c) (corner_loop M d)) SameLoop (corner_loop M d)
    ∷ need (nat_eq (face_of M (corner_loop M c)) (face_of M (corner_loop M d))) DifferentFaces (face_of M (corner_loop M d))
    ∷ need (is_ring_of M (face_of M (corner_loop M d)) (corner_loop M d)) NotRing (corner_loop M d)
    ∷ never (nat_eq (corner_tail M c) (corner_tail M d)) SameTail (corner_tail M c) ∷ []
conditions M (Kfmrh f g) =
    numbers_in_range (f ∷ g ∷ []) ++
    need (table.has M.faces f) NoFace f
    ∷ need (table.has M.faces g) NoFace g
    ∷ never (nat_eq f g) SameFace f
    ∷ need (nat_eq (solid_of M f) (solid_of M g)) DifferentSolids (solid_of M g)
    ∷ never (has_rings M g) HasRings g ∷ []
conditions M (Mfkrh l f) =
    numbers_in_range (l ∷ f ∷ []) ++
    need (table.has M.loops l) NoLoop l
    ∷ never (table.has M.faces f) FaceTaken f
    ∷ need (is_ring_of M (face_of M l) l) NotRing l ∷ []
conditions M (RingIn l f) = ring_and_face M l f ++ never (nat_eq (face_of M l) f) SameFace f ∷ []
conditions M (RingOut l f) = ring_and_face M l f
conditions M (Outer l f) = ring_and_face M l f
conditions M (Merge s t) =
    numbers_in_range (s ∷ t ∷ []) ++
    need (table.has M.solids s) NoSolid s
    ∷ need (table.has M.solids t) NoSolid t
    ∷ never (nat_eq s t) SameSolid s ∷ []
conditions M (Part s t fs) =
    numbers_in_range (s ∷ t ∷ fs) ++
    (need (table.has M.solids s) NoSolid s
    ∷ never (table.has M.solids t) SolidTaken t
    ∷ faces_known M fs ++ faces_in M s fs ++ never (is_bad_part M s fs) BadPart s ∷ [])

-- the refusal of the first false condition, if one is false
unfoldable pub first_false : Model → Op → Option Refusal
first_false M op = first_refusal (conditions M op)

-- the answer to a check
abbrev pub verdict : Option Refusal → Result (Unit {0}) Refusal
verdict None = Ok tt
verdict (Some r) = Err r
