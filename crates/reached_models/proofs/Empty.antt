-- A sound model without edges and lone loops is the empty one.
use Rattle.reached_models.proofs.Prelude.{◌≡◌, ℕ, Option, Some, None, is_some, refl, sym, ap, ◌∙◌, inl, inr, Table, get-empty, same_table, Model, LoopContent, lone, cycle, head_or, content, outer, empty_model, Sound, Has, HasHalf, holds, plus, IsIn_some_head, in-holds, plus_there}
use Rattle.euler_operators.specs.Table as table
use Rattle.euler_laws.proofs.shared.Undo.{same_model}
use Rattle.reached_models.proofs.Edges.{NoLone}

-- a table without a row is the empty one
nothing_there : {X : Type 0} (t : Table X) → ((n : ℕ) → Has t n → ⊥) → t ≡ table.empty
nothing_there {X} t none = same_table t table.empty (λ n. is_none n (table.get t n) refl ∙ sym (get-empty n)) where
  is_none : (n : ℕ) (o : Option X) → table.get t n ≡ o → table.get t n ≡ None
  is_none n None e = e
  is_none n (Some x) e = absurd (none n (ap is_some e))

module _ (M : Model) (sound : Sound M) (filled : NoLone M) (no_half : (h : ℕ) → HasHalf M h → ⊥) where
  no_loop : (l : ℕ) → Has M.loops l → ⊥
  no_loop l there = by_content (content M l) refl where
    by_content : (c : LoopContent) → content M l ≡ c → ⊥
    by_content (lone v) e = filled l v e
    by_content (cycle hs) e = no_half (head_or 0 hs) (sound.only_edges (head_or 0 hs) l (ap (holds (head_or 0 hs)) e ∙ in-holds (head_or 0 hs) (cycle hs) (IsIn_some_head hs (sound.cycles l hs there e).some_item)))

  no_face : (f : ℕ) → Has M.faces f → ⊥
  no_face f there = no_loop (outer M f) (sound.outers_there f there).0

  no_solid : (s : ℕ) → Has M.solids s → ⊥
  no_solid s there = let w = sound.solid_has_face s there in no_face w.0 w.1

  no_vertex : (v : ℕ) → Has M.vertices v → ⊥
  no_vertex v there = elim (sound.lone_or_tail v there) [ inl w ↦ filled w.0 v w.1 | inr w ↦ no_half w.half w.there ]

  no_edge : (e : ℕ) → Has M.edges e → ⊥
  no_edge e there = no_half (plus e) (plus_there M e there)

  pub nothing_left : M ≡ empty_model
  unfolding empty_model
  nothing_left = same_model M empty_model (nothing_there M.solids no_solid) (nothing_there M.faces no_face) (nothing_there M.loops no_loop) (nothing_there M.edges no_edge) (nothing_there M.vertices no_vertex)
