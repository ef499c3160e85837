-- Two solids glued together at a face of each.
use Rattle.std.specs.Prelude.{ℕ, zero, suc, Bool, true, false, ◌&&◌, ◌||◌, nat_eq, List, [], ◌∷◌, ◌++◌, map, reverse, length, take, drop, Option, unwrap_or}
use Rattle.std.specs.List.{list_any}
use Rattle.euler_operators.specs.Common.{Point, same_point, mate, edge_of, Model, EdgeRow, items_of, content, tail, outer, solid_of, Condition, need, never, first_refusal, numbers_in_range, has_rings, faces_to_solid}
use Rattle.euler_operators.specs.Table as table
use Rattle.euler_operators.specs.declared.Refusal.{Refusal}
use Rattle.euler_operators.specs.declared.Why.TheVariants.{NoFace, SameSolid, HasRings, RepeatedPoint, NoMatch}
use Rattle.shapes.specs.Faces.{faces_of_both, start, finish}
use Rattle.shapes.specs.Fresh.{taken_in, numbers_left, first_such}
use Rattle.shapes.specs.Rewriting.{rewritten_row, renamed, without_rows}
use Rattle.shapes.specs.Measure.{faces_are_flat}

-- the half-edges of a face's outer loop, and the points at which they start
abbrev pub rim : Model → ℕ → List ℕ
rim M f = items_of (content M (outer M f))

abbrev pub outline : Model → ℕ → List Point
outline M f = map (start M) (rim M f)

abbrev pub has_repeats : List Point → Bool
has_repeats [] = false
has_repeats (p ∷ ps) = list_any (same_point p) ps || has_repeats ps

abbrev pub same_points : List Point → List Point → Bool
same_points [] [] = true
same_points [] (q ∷ qs) = false
same_points (p ∷ ps) [] = false
same_points (p ∷ ps) (q ∷ qs) = same_point p q && same_points ps qs

-- whether ps is qs with its first k points moved to the end, for some k up to n
abbrev pub is_turned : ℕ → List Point → List Point → Bool
is_turned zero ps qs = same_points ps qs
is_turned (suc n) ps qs = same_points ps (drop (suc n) qs ++ take (suc n) qs) || is_turned n ps qs

abbrev pub is_rotation : List Point → List Point → Bool
is_rotation ps qs = is_turned (length qs) ps qs

-- the faces are there, of different solids, and without rings
abbrev pub face_conditions : Model → ℕ → ℕ → List Condition
face_conditions M f g =
    numbers_in_range (f ∷ g ∷ []) ++
    need (table.has M.faces f) NoFace f
    ∷ need (table.has M.faces g) NoFace g
    ∷ never (nat_eq (solid_of M f) (solid_of M g)) SameSolid (solid_of M f)
    ∷ never (has_rings M f) HasRings f
    ∷ never (has_rings M g) HasRings g ∷ []

-- the conditions of a glue of face g to face f that are tested before memory is asked for
unfoldable pub early_glue_conditions : Model → ℕ → ℕ → List Condition
early_glue_conditions M f g = face_conditions M f g ++ faces_are_flat M (faces_of_both M (solid_of M f) (solid_of M g))

-- each outline has no point twice, and the two lie on one another
abbrev pub outline_conditions : Model → ℕ → ℕ → List Condition
outline_conditions M f g =
    never (has_repeats (outline M f)) RepeatedPoint f
    ∷ never (has_repeats (outline M g)) RepeatedPoint g
    ∷ need (is_rotation (outline M f) (reverse (outline M g))) NoMatch g ∷ []

-- all conditions, in the order of the refusals
unfoldable pub glue_conditions : Model → ℕ → ℕ → List Condition
glue_conditions M f g =
    early_glue_conditions M f g ++ outline_conditions M f g ++ numbers_left (taken_in M) (record { faces = 0; loops = 0; edges = 1; vertices = 0 })

-- the refusal of the first false condition, if one is false
abbrev pub glue_refusal : Model → ℕ → ℕ → Option Refusal
glue_refusal M f g = first_refusal (glue_conditions M f g)

-- the half-edge among gs that starts where h ends
abbrev pub partner : Model → List ℕ → ℕ → ℕ
partner M gs h = unwrap_or (first_such (λ g. same_point (start M g) (finish M h)) gs) 0

-- each item h of the first face with its partner g, which goes back along h: the pair (h, g)
abbrev pub partners : Model → List ℕ → List ℕ → List (ℕ × ℕ)
partners M gs [] = []
partners M gs (h ∷ hs) = (h, partner M gs h) ∷ partners M gs hs

-- h takes the place of the mate of g
abbrev pub swaps : List (ℕ × ℕ) → List (ℕ × ℕ)
swaps ps = map (λ p. (mate p.1, p.0)) ps

-- the vertex at which h ends takes the place of the one at which g starts
abbrev pub moves : Model → List (ℕ × ℕ) → List (ℕ × ℕ)
moves M ps = map (λ p. (tail M p.1, tail M (mate p.0))) ps

-- a half-edge that started at a vertex of the first column starts at the vertex beside it
abbrev pub renamed_tails : List (ℕ × ℕ) → ℕ → EdgeRow → EdgeRow
renamed_tails ms e row = record { plus_tail = renamed ms row.plus_tail; minus_tail = renamed ms row.minus_tail }

-- in every other loop h takes the place of the mate of g; the edges and vertices of g are removed, and both faces with their loops
abbrev pub glued_along : Model → ℕ → ℕ → List (ℕ × ℕ) → Model
glued_along M f g ps = let s = solid_of M f in let t = solid_of M g in record {
  solids = table.remove M.solids t;
  faces = table.map_rows (faces_to_solid (λ _ row. nat_eq row.solid t) s) (table.remove (table.remove M.faces f) g);
  loops = table.map_rows (rewritten_row (map (renamed (swaps ps)))) (table.remove (table.remove M.loops (outer M f)) (outer M g));
  edges = table.map_rows (renamed_tails (moves M ps)) (without_rows M.edges (map (λ p. edge_of p.1) ps));
  vertices = without_rows M.vertices (map (λ m. m.0) (moves M ps));
}

-- the model that an accepted glue makes
unfoldable pub glue_model : Model → ℕ → ℕ → Model
glue_model M f g = glued_along M f g (partners M (rim M g) (rim M f))
