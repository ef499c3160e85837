-- A solid opened along one cycle: each of its three stages can be taken.
use Rattle.plane_split.proofs.Prelude.{◌≡◌, ℕ, ◌+◌, ◌*◌, ◌≤◌, ◌<◌, List, ◌++◌, length, map, sym, ap, ◌∙◌, subst, arith, length-map, HalfEdge, code, Model, Op, AreAccepted, effects, effects-append, AreAccepted-back, Taken, strip_ops, copy_ops, cap_ops, opening_ops, opening_accepted, CanOpen, AreStripped}
use Rattle.plane_split.proofs.solid_opening_laws.CutOff.{so_far}
use Rattle.plane_split.proofs.solid_opening_laws.Raised.{read_before}

-- a place among the halves is one among their codes
pub inside_codes : (halves : List HalfEdge) (i : ℕ) → i < length halves → i < length (map code halves)
inside_codes halves i lt = omega (arith, lt, length-map halves code)

module _ (M : Model) (s : ℕ) (c : Taken) (halves : List HalfEdge) (can : CanOpen M s c (map code halves)) where
  abbrev bs : List ℕ
  bs = map code halves

  abbrev n : ℕ
  n = length halves

  size : length bs ≡ n
  size = length-map halves code

  pub some_half : 2 ≤ n
  some_half = omega (arith, size, can.1.cycle.two_halves)

  -- numbers are left for its faces, loops, edges and vertices
  pub faces_left : c.face + n + 1 ≤ 1000000
  faces_left = omega (arith, size, can.1.left.faces)

  pub loops_left : c.loop + n + 1 ≤ 1000000
  loops_left = omega (arith, size, can.1.left.loops)

  pub edges_left : c.edge + 2 * n ≤ 1000000
  edges_left = omega (arith, size, can.1.left.edges)

  pub vertices_left : c.vertex + n ≤ 1000000
  vertices_left = omega (arith, size, can.1.left.vertices)

  -- the strips are cut off
  module _ (A : Model) (a : A ≡ effects M (strip_ops M s c bs n)) where
    cut_all : A ≡ effects M (strip_ops M s c bs (length bs))
    cut_all = a ∙ ap (λ k. effects M (strip_ops M s c bs k)) (sym size)

    pub stripped : AreStripped A s c bs
    stripped = record { before = M; above = can.0; can = can.1; model = cut_all ∙ so_far M s c bs can (length bs) (omega arith) }

    -- and the copies raised
    module _ (N : Model) (e : N ≡ effects A (copy_ops A c bs n)) where
      raised_all : N ≡ effects M (strip_ops M s c bs (length bs) ++ copy_ops M c bs (length bs))
      unfolding stripped
      raised_all = e
          ∙ ap (λ k. effects A (copy_ops A c bs k)) (sym size)
          ∙ (λ j. effects (cut_all j) (read_before A s c bs stripped (length bs) (omega arith) j))
          ∙ sym (effects-append M (strip_ops M s c bs (length bs)) (copy_ops M c bs (length bs)))

      pub caps_go : AreAccepted N (cap_ops c n)
      unfolding opening_ops
      caps_go = subst (λ k. AreAccepted N (cap_ops c k)) size (subst (λ Y. AreAccepted Y (cap_ops c (length bs))) (sym raised_all)
          (AreAccepted-back M (strip_ops M s c bs (length bs) ++ copy_ops M c bs (length bs)) (cap_ops c (length bs)) (opening_accepted M can.0 s c bs can.1)))

    -- with those that make the caps, these are all operators
    pub all_ops : (strip_ops M s c (map code halves) (length halves) ++ copy_ops A c (map code halves) (length halves)) ++ cap_ops c (length halves) ≡ opening_ops M s c (map code halves)
    unfolding opening_ops stripped
    all_ops =
        (λ j. (strip_ops M s c bs (sym size j) ++ copy_ops A c bs (sym size j)) ++ cap_ops c (sym size j))
        ∙ ap (λ (os : List Op). (strip_ops M s c bs (length bs) ++ os) ++ cap_ops c (length bs)) (read_before A s c bs stripped (length bs) (omega arith))
