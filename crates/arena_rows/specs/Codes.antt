-- Models and stores as codes of lists and numbers, through which contracts see an arena and a session.
use Rattle.std.specs.Prelude.{◌≡◌, ℕ, List, refl, ◌⊎◌}
use Rattle.std.specs.Coded.{Coded, code_by, coded×, coded⊎, coded_ℕ, coded_list}
use base.Stored.{coded_unit}
use mathlib.Core.Logic.{inl, inr}
use Rattle.boundary_model.specs.declared.Point.{Point}
use Rattle.boundary_model.specs.Points.{coded_point}
use Rattle.boundary_model.specs.Table as table
use Rattle.boundary_model.specs.Table.{Table}
use Rattle.boundary_model.specs.Model.{Model, LoopContent, lone, cycle, FaceRow, LoopRow, EdgeRow}
use Rattle.arena_rows.specs.Store.{Extents, Store}

abbrev pub content_cases : LoopContent → ℕ ⊎ List ℕ
content_cases (lone v) = inl v
content_cases (cycle hs) = inr hs

abbrev pub content_made : ℕ ⊎ List ℕ → LoopContent
content_made (inl v) = lone v
content_made (inr hs) = cycle hs

pub content_back : (c : LoopContent) → content_made (content_cases c) ≡ c
content_back (lone v) = refl
content_back (cycle hs) = refl

abbrev pub coded_content : Coded LoopContent
coded_content = code_by (ℕ ⊎ List ℕ) (coded⊎ coded_ℕ (coded_list coded_ℕ)) content_cases content_made content_back

abbrev pub coded_face : Coded FaceRow
coded_face = code_by (ℕ × ℕ) (coded× coded_ℕ coded_ℕ) (λ r. (r.solid, r.outer)) (λ p. record { solid = p.0; outer = p.1 }) (λ _. refl)

abbrev pub coded_loop : Coded LoopRow
coded_loop = code_by (ℕ × LoopContent) (coded× coded_ℕ coded_content) (λ r. (r.face, r.content)) (λ p. record { face = p.0; content = p.1 }) (λ _. refl)

abbrev pub coded_edge : Coded EdgeRow
coded_edge = code_by (ℕ × ℕ) (coded× coded_ℕ coded_ℕ) (λ r. (r.plus_tail, r.minus_tail)) (λ p. record { plus_tail = p.0; minus_tail = p.1 }) (λ _. refl)

abbrev pub Tables : Type 0
Tables = Table (Unit {0}) × (Table FaceRow × (Table LoopRow × (Table EdgeRow × Table Point)))

abbrev pub coded_model : Coded Model
coded_model = code_by Tables
    (coded× (table.code coded_unit) (coded× (table.code coded_face) (coded× (table.code coded_loop) (coded× (table.code coded_edge) (table.code coded_point)))))
    (λ M. (M.solids, (M.faces, (M.loops, (M.edges, M.vertices)))))
    (λ t. record { solids = t.0; faces = t.1.0; loops = t.1.1.0; edges = t.1.1.1.0; vertices = t.1.1.1.1 }) (λ _. refl)

abbrev pub coded_room : Coded Extents
coded_room = code_by (ℕ × (ℕ × (ℕ × (Table (Unit {0}) × ℕ)))) (coded× coded_ℕ (coded× coded_ℕ (coded× coded_ℕ (coded× (table.code coded_unit) coded_ℕ))))
    (λ r. (r.solids, (r.faces, (r.loops, (r.edges, r.vertices)))))
    (λ t. record { solids = t.0; faces = t.1.0; loops = t.1.1.0; edges = t.1.1.1.0; vertices = t.1.1.1.1 }) (λ _. refl)

abbrev pub coded_store : Coded Store
coded_store = code_by (Model × (Table (List ℕ) × Extents)) (coded× coded_model (coded× (table.code (coded_list coded_ℕ)) coded_room))
    (λ s. (s.model, (s.loose, s.room))) (λ t. record { model = t.0; loose = t.1.0; room = t.1.1 }) (λ _. refl)
