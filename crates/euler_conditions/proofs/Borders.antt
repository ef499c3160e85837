-- Edges between listed faces and others.
use Rattle.euler_conditions.proofs.Prelude.{◌≡◌, ◌≢◌, ℕ, ◌≤◌, Bool, true, false, cond, not, nat_eq, ◌||◌, List, [], ◌∷◌, ◌++◌, length, append_assoc, Some, None, Ok, Err, is_some, refl, sym, ap, subst, ◌∙◌, arith, true≢false, ◌⊎◌, inl, inr, ne_eqb, eq-eqb, nat_tests, not-true, false_from_ne_true, IsIn, code, mate, edge_of, plus, minus, HalfEdge, Model, EdgeRow, LoopContent, lone, cycle, items_of, content, face_of, outer, loop_of, faces_of, is_ring_of, Sound, Has, HasHalf, Condition, AllHold, conditions, first_false, need, never, first_refusal, verdict, numbers_in_range, faces_known, faces_in, lists, strictly_rises, is_empty, is_bad_part, face_at, torn_edge, differ, has_rings, plus_row, minus_row, mate_plus, mate_minus, in-holds, holds_in, loop_there, first_where_zero, zero_first_where, row_some, Tells, IsNextRing, Refusal, NoSolid, SolidTaken, BadPart, Part, halves_of_edge, outer_or_ring, all_hold, all_hold-back, verdict_passed, no_rings_means, face_there, all_where-rises, passes_listed, all_listed, faces_known-there, listed_in_solid, StaysIn, FaceLeadsOut, FaceStaysIn, AreFacesOf, parts_known}
use Rattle.euler_operators.specs.declared.Content.TheVariants as Content
use Rattle.euler_operators.specs.Table as table
use Rattle.euler_conditions.proofs.Orders.{part_refuses, part_holds}

pub ring_has : (c : LoopContent) (h : HalfEdge) → Tells c (Content.Ring h) → IsIn (code h) (items_of c)
ring_has (lone w) h t = absurd t
ring_has (cycle hs) h t = t

-- a face whose outer loop and rings stay in
pub face_stays : (M : Model) (fs : List ℕ) (f : ℕ) → StaysIn M fs (outer M f) → ((l : ℕ) → is_ring_of M f l ≡ true → StaysIn M fs l) → FaceStaysIn M fs f
face_stays M fs f o r l t e = elim (outer_or_ring M f l t e) [ inl p ↦ subst (StaysIn M fs) p o | inr p ↦ r l p ]

pub outer_stays : (M : Model) (fs : List ℕ) (f : ℕ) → StaysIn M fs (outer M f) → has_rings M f ≡ false → FaceStaysIn M fs f
outer_stays M fs f o none l t e = subst (StaysIn M fs) (no_rings_means M f none l t e) o

module _ (M : Model) (sound : Sound M) (fs : List ℕ) where
  abbrev Test : ℕ → EdgeRow → Bool
  Test e row = differ (lists fs (face_at M (plus e))) (lists fs (face_at M (minus e)))

  differ_in : (a b : Bool) → a ≡ true → b ≡ false → differ a b ≡ true
  differ_in a b p q = ap (λ c. cond c (not b) b) p ∙ ap not q

  differ_out : (a b : Bool) → a ≡ false → b ≡ true → differ a b ≡ true
  differ_out a b p q = ap (λ c. cond c (not b) b) p ∙ q

  differ_cases : (a b : Bool) → differ a b ≡ true → ((a ≡ true) × (b ≡ false)) ⊎ ((a ≡ false) × (b ≡ true))
  differ_cases true b e = inl (refl, not-true b e)
  differ_cases false b e = inr (refl, e)

  tested : (x : ℕ) (row : EdgeRow) → lists fs (face_at M x) ≡ true → lists fs (face_at M (mate x)) ≡ false → Test (edge_of x) row ≡ true
  tested x row p q = grind (arith, halves_of_edge x, differ_in, mate_plus (edge_of x), differ_out, mate_minus (edge_of x))

  edge_used : (e : ℕ) (row : EdgeRow) → table.get M.edges e ≡ Some row → e ≢ 0
  edge_used e row at z = grind (arith, sound.edges_fit e, nat_tests)

  pub out_torn : (f : ℕ) → lists fs f ≡ true → FaceLeadsOut M fs f → true ≡ not (nat_eq (torn_edge M fs) 0)
  out_torn f l o =
      let x : ℕ = o.3.0 in let stands = in-holds x (content M o.0) o.3.1 in
      let there : HasHalf M x = sound.only_edges x o.0 stands in
      let face_is : face_at M x ≡ f = ap (face_of M) (sound.one_loop x o.0 stands) ∙ o.2 in
      let r = row_some (table.get M.edges (edge_of x)) there in
      sym (ap not (ne_eqb (torn_edge M fs) 0 (λ z. true≢false (sym (tested x r.0 (ap (lists fs) face_is ∙ l) o.3.2) ∙ zero_first_where Test M.edges edge_used z (edge_of x) r.0 r.1))))

  listed_half : ((f : ℕ) → lists fs f ≡ true → FaceStaysIn M fs f) → (x : ℕ) → HasHalf M x → lists fs (face_at M x) ≡ true → lists fs (face_at M (mate x)) ≡ true
  listed_half stay x t l = stay (face_at M x) l (loop_of M x) (loop_there M sound x t) refl x (holds_in x (content M (loop_of M x)) (sound.stands x t))

  pub none_torn : ((f : ℕ) → lists fs f ≡ true → FaceStaysIn M fs f) → false ≡ not (nat_eq (torn_edge M fs) 0)
  none_torn stay = sym (ap not (eq-eqb (torn_edge M fs) 0 (first_where_zero Test M.edges (λ e row at. false_from_ne_true (Test e row) (not_torn e row at))))) where
    not_torn : (e : ℕ) (row : EdgeRow) → table.get M.edges e ≡ Some row → Test e row ≢ true
    not_torn e row at torn = elim (differ_cases (lists fs (face_at M (plus e))) (lists fs (face_at M (minus e))) torn) [
      | inl q ↦ true≢false (sym (ap (λ y. lists fs (face_at M y)) (sym (mate_plus e)) ∙ listed_half stay (plus e) (ap (table.has M.edges) (plus_row e).0 ∙ ap is_some at) q.0) ∙ q.1)
      | inr q ↦ true≢false (sym (ap (λ y. lists fs (face_at M y)) (sym (mate_minus e)) ∙ listed_half stay (minus e) (ap (table.has M.edges) (minus_row e).0 ∙ ap is_some at) q.1) ∙ q.0)
    ]

-- the rings up to the next one
pub rings_met : (M : Model) (fs : List ℕ) (f last ring : ℕ) → IsNextRing M f last (Some ring) → ((k : ℕ) → k ≤ last → is_ring_of M f k ≡ true → StaysIn M fs k) → StaysIn M fs ring → (k : ℕ) → k ≤ ring → is_ring_of M f k ≡ true → StaysIn M fs k
rings_met M fs f last ring next old new k l r = grind (arith, ring)

-- the rings after the last one
pub rings_done : (M : Model) (fs : List ℕ) (f last : ℕ) → IsNextRing M f last None → ((k : ℕ) → k ≤ last → is_ring_of M f k ≡ true → StaysIn M fs k) → (k : ℕ) → is_ring_of M f k ≡ true → StaysIn M fs k
rings_done M fs f last none old k r = grind (arith)

-- what makes a part bad, for rising faces of the solid
pub bad_is : (M : Model) (s : ℕ) (fs : List ℕ) → AreFacesOf M s fs → strictly_rises fs ≡ true → is_empty fs ≡ false → is_bad_part M s fs ≡ (nat_eq (length fs) (length (faces_of M s)) || not (nat_eq (torn_edge M fs) 0))
bad_is M s fs are rises some = grind (arith, all_listed, all_where-rises, face_there, passes_listed, eq-eqb)

-- ---- the conditions of part, part by part

-- what is asked of the two solids and of the listed faces
abbrev pub solids_and_faces : Model → ℕ → ℕ → List ℕ → List Condition
solids_and_faces M s t fs = need (table.has M.solids s) NoSolid s ∷ never (table.has M.solids t) SolidTaken t ∷ faces_known M fs ++ faces_in M s fs

module _ (M : Model) (s t : ℕ) (fs : List ℕ) (front : verdict (first_refusal (numbers_in_range (s ∷ t ∷ []))) ≡ Ok tt) where
  pub list_refused : (e : Refusal) → verdict (first_refusal (numbers_in_range fs)) ≡ Err e → verdict (first_refusal (parts_known M s t fs)) ≡ Err e
  list_refused e is = part_refuses (numbers_in_range (s ∷ t ∷ fs)) (solids_and_faces M s t fs) e (part_holds (numbers_in_range (s ∷ t ∷ [])) (numbers_in_range fs) front ∙ is)

  pub numbers_held : verdict (first_refusal (numbers_in_range fs)) ≡ Ok tt → verdict (first_refusal (parts_known M s t fs)) ≡ verdict (first_refusal (solids_and_faces M s t fs))
  numbers_held listed = part_holds (numbers_in_range (s ∷ t ∷ fs)) (solids_and_faces M s t fs) (part_holds (numbers_in_range (s ∷ t ∷ [])) (numbers_in_range fs) front ∙ listed)

-- faces that are known are there, and faces that are in the solid are of it
verdict_holds : (cs : List Condition) → verdict (first_refusal cs) ≡ Ok tt → AllHold cs
verdict_holds cs e = all_hold cs (verdict_passed (first_refusal cs) tt (sym e))

pub known_there : (M : Model) (fs : List ℕ) → verdict (first_refusal (faces_known M fs)) ≡ Ok tt → (q : ℕ) → lists fs q ≡ true → Has M.faces q
known_there M fs e = faces_known-there M fs (verdict_holds (faces_known M fs) e)

-- ---- the last condition of part

module _ (M : Model) (s t : ℕ) (fs : List ℕ) where
  abbrev bad : List Condition
  bad = never (is_bad_part M s fs) BadPart s ∷ []

  part_is : conditions M (Part s t fs) ≡ parts_known M s t fs ++ bad
  unfolding conditions
  part_is = sym (append_assoc (numbers_in_range (s ∷ t ∷ fs)) (solids_and_faces M s t fs) bad)

  pub part_refused : (e : Refusal) → verdict (first_refusal (parts_known M s t fs)) ≡ Err e → verdict (first_false M (Part s t fs)) ≡ Err e
  unfolding first_false
  part_refused e is = ap (λ cs. verdict (first_refusal cs)) part_is ∙ part_refuses (parts_known M s t fs) bad e is

  pub part_left : (b : Bool) → verdict (first_refusal (parts_known M s t fs)) ≡ Ok tt → is_bad_part M s fs ≡ b → verdict (first_false M (Part s t fs)) ≡ verdict (cond (not b) None (Some (record { why = BadPart; number = s })))
  unfolding first_false
  part_left b is e = ap (λ cs. verdict (first_refusal cs)) part_is ∙ part_holds (parts_known M s t fs) bad is ∙ ap (λ c. verdict (cond (not c) None (Some (record { why = BadPart; number = s })))) e

  pub are_faces : verdict (first_refusal (parts_known M s t fs)) ≡ Ok tt → AreFacesOf M s fs
  are_faces e =
      let (_, (_, of_faces)) = all_hold-back (numbers_in_range (s ∷ t ∷ fs)) _ (verdict_holds (parts_known M s t fs) e) in
      listed_in_solid M s fs of_faces

pub not_empty : (fs : List ℕ) → length fs ≢ 0 → is_empty fs ≡ false
not_empty [] ne = absurd (ne refl)
not_empty (f ∷ fs) ne = refl

-- by whether they are all faces of the solid
pub bad_by_count : (M : Model) (s : ℕ) (fs : List ℕ) → AreFacesOf M s fs → strictly_rises fs ≡ true → is_empty fs ≡ false → (all : Bool) → nat_eq (length fs) (length (faces_of M s)) ≡ all → (all || not (nat_eq (torn_edge M fs) 0)) ≡ is_bad_part M s fs
bad_by_count M s fs are rises some all e = sym (bad_is M s fs are rises some ∙ ap (λ b. b || not (nat_eq (torn_edge M fs) 0)) e)
