-- A sound model without solids has nothing.
use Rattle.solid_listing.proofs.Prelude.{◌≡◌, ◌≢◌, ℕ, true, List, [], ◌∷◌, ◌++◌, map, codes, is_some, refl, sym, ap, ◌∙◌, true≢false, inl, inr, Kind, Solid, Face, Loop, Edge, Vertex, plus, Table, has, numbers, Model, empty_model, solid_of, face_of, loop_of, Sound, Has, HasHalf, plus_row, held_row, lone_there, one_or_more, Store, IsGreatest, text_of, line, lines, or_empty, listing, member_numbers, member}
use Rattle.euler_operators.specs.Table as table
use Rattle.solid_listing.specs.Common.{numbers_of}
use Rattle.solid_listing.proofs.Lines.{here}

no_members : (ks : List ℕ) → ((k : ℕ) → member k ks ≡ true → ⊥) → ks ≡ []
no_members [] h = refl
no_members (k ∷ ks) h = absurd (h k (here k ks))

no_numbers : {X : Type 0} (t : Table X) → ((k : ℕ) → Has t k → ⊥) → numbers t ≡ []
no_numbers t none = no_members (numbers t) (λ k m. none k (sym (member_numbers t k) ∙ m))

module _ (M : Model) (sound : Sound M) (none : (k : ℕ) → Has M.solids k → ⊥) where
  no_face : (f : ℕ) → Has M.faces f → ⊥
  no_face f there = none (solid_of M f) (sound.faces_of_solids f there)

  without_loops : (l : ℕ) → Has M.loops l → ⊥
  without_loops l there = no_face (face_of M l) (sound.loops_of_faces l there)

  no_half : (h : ℕ) → HasHalf M h → ⊥
  no_half h there = without_loops (loop_of M h) (ap is_some (held_row M h (loop_of M h) (sound.stands h there)))

  without_edges : (e : ℕ) → Has M.edges e → ⊥
  without_edges e there = no_half (plus e) (ap (has M.edges) (plus_row e).0 ∙ there)

  no_vertex : (v : ℕ) → Has M.vertices v → ⊥
  no_vertex v there = elim (sound.lone_or_tail v there) [
    | inl p ↦ without_loops p.0 (lone_there M p.0 v p.1)
    | inr t ↦ no_half t.half t.there
  ]

  none_of : (kind : Kind) → numbers_of M kind ≡ []
  none_of Solid = no_numbers M.solids none
  none_of Face = no_numbers M.faces no_face
  none_of Loop = no_numbers M.loops without_loops
  none_of Edge = no_numbers M.edges without_edges
  none_of Vertex = no_numbers M.vertices no_vertex

  no_lines : lines M ≡ []
  unfolding lines
  no_lines = λ i. map (line M Solid) (none_of Solid i) ++ (map (line M Face) (none_of Face i) ++ (map (line M Loop) (none_of Loop i) ++ (map (line M Edge) (none_of Edge i) ++ (map (line M Vertex) (none_of Vertex i) ++ []))))

-- where no solid is in use the listing is one line
pub empty_text : (s : Store) → Sound s.model → IsGreatest s Solid 0 → listing s.model ≡ codes "empty\n"
unfolding listing
empty_text s sound greatest = ap (λ ls. text_of (or_empty ls)) (no_lines s.model sound (λ k there. true≢false (sym there ∙ greatest.above k (one_or_more k (sound.solids_fit k there)))))

pub empty-listing : listing empty_model ≡ codes "empty\n"
unfolding listing lines empty_model table.empty
empty-listing = refl

first_line : (n : ℕ) (f : ℕ → List (List ℕ)) (ns : List ℕ) (ls : List (List (List ℕ))) → member n ns ≡ true → or_empty (map f ns ++ ls) ≡ map f ns ++ ls
first_line n f [] ls m = absurd (true≢false (sym m))
first_line n f (k ∷ ks) ls m = refl

-- and else it is the lines of the model
pub lines_text : (s : Store) (n : ℕ) → IsGreatest s Solid n → n ≢ 0 → listing s.model ≡ text_of (lines s.model)
unfolding listing lines
lines_text s n greatest some = ap text_of (first_line n (line s.model Solid) (numbers s.model.solids) _ (member_numbers s.model.solids n ∙ greatest.used some))
