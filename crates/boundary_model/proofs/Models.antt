-- What a sound model says of its half-edges and loops.
use Rattle.std.proofs.Common.{◌≡◌, ◌≢◌, ℕ, ◌≤◌, Bool, true, false, ◌<◌, List, [], Option, Some, None, is_some, unwrap_or, refl, sym, ap, ◌∙◌, arith, true≢false}
use Rattle.std.proofs.lemmas.Bool.Decides.{nat_tests}
use Rattle.cyclic_list.specs.Items.{count, IsIn}
use Rattle.boundary_model.specs.HalfEdge.{mate, edge_of, is_first, plus, minus}
use Rattle.boundary_model.specs.Table.{get, has}
use Rattle.boundary_model.specs.Model.{Model, LoopContent, lone, cycle, FaceRow, LoopRow, EdgeRow, items_of, holds, no_face, no_loop, no_edge, no_point, tail, tail_in, loop_of, content, face_of, solid_of, outer, point_of, cycle_of, is_number}
use Rattle.boundary_model.specs.Sound.{Sound, Has, HasHalf, StandsIn, IsCycle}
use Rattle.lattice.specs.declared.Point.{Point}
use Rattle.boundary_model.proofs.Halves.{edge_of-mate, plus_row, minus_row}
use Rattle.boundary_model.proofs.Tables.{first_where_zero}

-- to stand in a loop is to be counted there
pub holds_in : (h : ℕ) (c : LoopContent) → holds h c ≡ true → IsIn h (items_of c)
unfolding holds
holds_in h c e = grind (arith, nat_tests)

pub in-holds : (h : ℕ) (c : LoopContent) → IsIn h (items_of c) → holds h c ≡ true
unfolding holds
in-holds h c e = grind (arith, nat_tests)

pub holds-none : (h : ℕ) (c : LoopContent) → count h (items_of c) ≡ 0 → holds h c ≡ false
unfolding holds
holds-none h c e = grind (arith, nat_tests)

pub none-holds : (h : ℕ) (c : LoopContent) → holds h c ≡ false → count h (items_of c) ≡ 0
unfolding holds
none-holds h c e = grind (arith, nat_tests)

module _ (M : Model) where
  -- a row says what the readers answer
  pub content_row : (l : ℕ) (row : LoopRow) → get M.loops l ≡ Some row → content M l ≡ row.content
  unfolding content
  content_row l row at = ap (λ o. (unwrap_or o no_loop).content) at

  pub face_row : (l : ℕ) (row : LoopRow) → get M.loops l ≡ Some row → face_of M l ≡ row.face
  unfolding face_of
  face_row l row at = ap (λ o. (unwrap_or o no_loop).face) at

  pub tail_row : (h : ℕ) (row : EdgeRow) → get M.edges (edge_of h) ≡ Some row → tail M h ≡ tail_in row (is_first h)
  unfolding tail
  tail_row h row at = ap (λ o. tail_in (unwrap_or o no_edge) (is_first h)) at

  -- the row of a loop that holds something
  pub held_row : (h l : ℕ) → StandsIn M h l → get M.loops l ≡ Some (record { face = face_of M l; content = content M l })
  unfolding content face_of holds
  held_row h l stands = row_that_holds (get M.loops l) refl stands where
    row_that_holds : (o : Option LoopRow) → get M.loops l ≡ o → holds h (unwrap_or o no_loop).content ≡ true → o ≡ Some (record { face = (unwrap_or o no_loop).face; content = (unwrap_or o no_loop).content })
    row_that_holds None e s = absurd (omega (arith, holds_in h (cycle []) s))
    row_that_holds (Some row) e s = refl

  module _ (sound : Sound M) where
    -- no loop holds a half-edge whose edge isn't there
    pub not_held : (h : ℕ) → get M.edges (edge_of h) ≡ None → (l : ℕ) (row : LoopRow) → get M.loops l ≡ Some row → count h (items_of row.content) ≡ 0
    not_held h free l row at = elim (holds h row.content) as (λ b. holds h row.content ≡ b → count h (items_of row.content) ≡ 0) [
      | true ↦ λ e. let t = sound.only_edges h l (ap (holds h) (content_row l row at) ∙ e) in absurd (true≢false (sym t ∙ ap is_some free))
      | false ↦ λ e. none-holds h row.content e
    ] refl

    -- a half-edge stands in one loop only
    pub other_loop : (h : ℕ) (q : ℕ) (row : LoopRow) → q ≢ loop_of M h → get M.loops q ≡ Some row → holds h row.content ≡ false
    other_loop h q row apart at = elim (holds h row.content) as (λ b. holds h row.content ≡ b → holds h row.content ≡ false) [
      | true ↦ λ e. absurd (apart (sym (sound.one_loop h q (ap (holds h) (content_row q row at) ∙ e))))
      | false ↦ λ e. e
    ] refl

    -- no half-edge starts at a number that is no vertex
    pub no_tail : (v : ℕ) → get M.vertices v ≡ None → (g : ℕ) → HasHalf M g → tail M g ≢ v
    no_tail v free g there is = let t = sound.tails_there g there in cc

    -- the cycle of a half-edge
    pub cycle_there : (h : ℕ) → HasHalf M h → IsIn h (cycle_of M h)
    cycle_there h there = holds_in h (content M (loop_of M h)) (sound.stands h there)

    pub content_cycle : (h : ℕ) → HasHalf M h → content M (loop_of M h) ≡ cycle (cycle_of M h)
    content_cycle h there = holder_is_cycle (content M (loop_of M h)) (cycle_there h there) where
      holder_is_cycle : (c : LoopContent) → IsIn h (items_of c) → c ≡ cycle (items_of c)
      holder_is_cycle (lone v) i = absurd (omega arith)
      holder_is_cycle (cycle hs) i = refl

    pub cycle_sound : (h : ℕ) → HasHalf M h → IsCycle (cycle_of M h)
    cycle_sound h there = sound.cycles (loop_of M h) (cycle_of M h) (ap is_some (held_row h (loop_of M h) (sound.stands h there))) (content_cycle h there)

    pub row_of : (h : ℕ) → HasHalf M h → get M.loops (loop_of M h) ≡ Some (record { face = face_of M (loop_of M h); content = cycle (cycle_of M h) })
    row_of h there = held_row h (loop_of M h) (sound.stands h there) ∙ ap (λ c. Some (record { face = face_of M (loop_of M h); content = c })) (content_cycle h there)

-- ---- numbers of a kind

pub number_fits : (n : ℕ) → is_number n ≡ true → n ≤ 1000000
number_fits n e = grind (arith, nat_tests)

pub one_or_more : (n : ℕ) → is_number n ≡ true → 0 < n
one_or_more n e = grind (arith, nat_tests)

pub number_real : (n : ℕ) → is_number n ≡ true → n ≢ 0
number_real n e = grind (arith, nat_tests)

-- ---- what readers answer, by the rows

pub solid_row : (M : Model) (f : ℕ) (row : FaceRow) → get M.faces f ≡ Some row → solid_of M f ≡ row.solid
unfolding solid_of
solid_row M f row at = ap (λ o. (unwrap_or o no_face).solid) at

pub outer_row : (M : Model) (f : ℕ) (row : FaceRow) → get M.faces f ≡ Some row → outer M f ≡ row.outer
unfolding outer
outer_row M f row at = ap (λ o. (unwrap_or o no_face).outer) at

pub point_row : (M : Model) (v : ℕ) (p : Point) → get M.vertices v ≡ Some p → point_of M v ≡ p
unfolding point_of
point_row M v p at = ap (λ o. unwrap_or o no_point) at

pub plus_tail_row : (M : Model) (e : ℕ) (row : EdgeRow) → get M.edges e ≡ Some row → tail M (plus e) ≡ row.plus_tail
plus_tail_row M e row at = tail_row M (plus e) row (ap (get M.edges) (plus_row e).0 ∙ at) ∙ ap (tail_in row) (plus_row e).1

pub minus_tail_row : (M : Model) (e : ℕ) (row : EdgeRow) → get M.edges e ≡ Some row → tail M (minus e) ≡ row.minus_tail
minus_tail_row M e row at = tail_row M (minus e) row (ap (get M.edges) (minus_row e).0 ∙ at) ∙ ap (tail_in row) (minus_row e).1

-- models with the same row answer the same
pub same_content : (M N : Model) (l : ℕ) → get N.loops l ≡ get M.loops l → content N l ≡ content M l
unfolding content
same_content M N l e = ap (λ o. (unwrap_or o no_loop).content) e

pub same_face : (M N : Model) (l : ℕ) → get N.loops l ≡ get M.loops l → face_of N l ≡ face_of M l
unfolding face_of
same_face M N l e = ap (λ o. (unwrap_or o no_loop).face) e

pub same_outer : (M N : Model) (f : ℕ) → get N.faces f ≡ get M.faces f → outer N f ≡ outer M f
unfolding outer
same_outer M N f e = ap (λ o. (unwrap_or o no_face).outer) e

pub same_solid : (M N : Model) (f : ℕ) → get N.faces f ≡ get M.faces f → solid_of N f ≡ solid_of M f
unfolding solid_of
same_solid M N f e = ap (λ o. (unwrap_or o no_face).solid) e

lone_tells : LoopContent → Bool
lone_tells (lone v) = true
lone_tells (cycle hs) = false

pub never_lone : (hs : List ℕ) (v : ℕ) → cycle hs ≢ lone v
unfolding lone_tells
never_lone hs v e = true≢false (sym (ap lone_tells e))

-- a lone loop is there
pub lone_there : (M : Model) (l v : ℕ) → content M l ≡ lone v → Has M.loops l
unfolding content
lone_there M l v = row_of_lone (get M.loops l) where
  row_of_lone : (o : Option LoopRow) → (unwrap_or o no_loop).content ≡ lone v → is_some o ≡ true
  row_of_lone None e = absurd (never_lone [] v e)
  row_of_lone (Some row) e = refl

-- ---- half-edges and edges

pub mate_there : (M : Model) (h : ℕ) → HasHalf M h → HasHalf M (mate h)
mate_there M h there = ap (λ q. is_some (get M.edges q)) (edge_of-mate h) ∙ there

pub plus_there : (M : Model) (e : ℕ) → Has M.edges e → HasHalf M (plus e)
plus_there M e there = ap (has M.edges) (plus_row e).0 ∙ there

pub minus_there : (M : Model) (e : ℕ) → Has M.edges e → HasHalf M (minus e)
minus_there M e there = ap (has M.edges) (minus_row e).0 ∙ there

pub plus_edge : (M : Model) (e : ℕ) → HasHalf M (plus e) → Has M.edges e
plus_edge M e there = ap (has M.edges) (sym (plus_row e).0) ∙ there

-- ---- loops of sound models

pub loop_there : (M : Model) → Sound M → (h : ℕ) → HasHalf M h → Has M.loops (loop_of M h)
loop_there M sound h there = ap is_some (row_of M sound h there)

pub item_there : (M : Model) → Sound M → (l h : ℕ) → IsIn h (items_of (content M l)) → HasHalf M h
item_there M sound l h i = sound.only_edges h l (in-holds h (content M l) i)

pub item_loop : (M : Model) → Sound M → (l h : ℕ) → IsIn h (items_of (content M l)) → loop_of M h ≡ l
item_loop M sound l h i = sound.one_loop h l (in-holds h (content M l) i)

pub loop_number : (M : Model) → Sound M → (l : ℕ) (row : LoopRow) → get M.loops l ≡ Some row → l ≢ 0
loop_number M sound l row at = number_real l (sound.loops_fit l (ap is_some at))

pub half_number : (M : Model) → Sound M → (h : ℕ) → HasHalf M h → h ≢ 0
unfolding edge_of
half_number M sound h there z = true≢false (sym (sound.edges_fit (edge_of h) there) ∙ ap (λ k. is_number (edge_of k)) z)

-- a half-edge that no loop holds is in no loop
pub in_no_loop : (M : Model) (h : ℕ) → ((l : ℕ) → count h (items_of (content M l)) ≡ 0) → loop_of M h ≡ 0
unfolding loop_of
in_no_loop M h none = first_where_zero (λ _ row. holds h row.content) M.loops (λ q row at. holds-none h row.content (ap (λ c. count h (items_of c)) (sym (content_row M q row at)) ∙ none q))
