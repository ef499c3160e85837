-- What a sound model has: the things that its half-edges name.
use Rattle.euler_conditions.proofs.Prelude.{◌≡◌, ◌≢◌, ℕ, ◌/◌, Bool, true, false, cond, not, nat_eq, ◌&&◌, [], refl, sym, ap, ◌∙◌, arith, nat_tests, HalfEdge, code, edge_of, mate, Model, cycle, content, loop_of, tail, Sound, Has, HasHalf, leads_to, lesser, edge_of-code, edge_of-mate, number_real, loop_there}
use mathlib.Core.Bool.{beq}
use Rattle.euler_operators.specs.Table as table

pub in_a_loop : (M : Model) → Sound M → (x : ℕ) → HasHalf M x → loop_of M x ≢ 0
in_a_loop M sound x t = number_real _ (sound.loops_fit _ (loop_there M sound x t))

pub filled : (M : Model) → Sound M → (l : ℕ) → Has M.loops l → content M l ≢ cycle []
filled M sound l t e = (sound.cycles l [] t e).some_item refl

pub mate_edge : (h m : HalfEdge) → code m ≡ mate (code h) → m.edge ≡ h.edge
mate_edge h m e = sym (edge_of-code m) ∙ ap edge_of e ∙ edge_of-mate (code h) ∙ edge_of-code h

pub mate_edge_there : (M : Model) (h m : HalfEdge) → code m ≡ mate (code h) → Has M.edges h.edge → Has M.edges m.edge
mate_edge_there M h m e there = ap (table.has M.edges) (mate_edge h m e) ∙ there

-- two half-edges are one where their codes are
pub same_test : (h m : HalfEdge) → (nat_eq h.edge m.edge && beq h.first m.first) ≡ nat_eq (code h) (code m)
unfolding code
same_test h m = grind (arith, h.edge, m.edge, h.first, m.first, nat_tests)

and_true : (b : Bool) → b && true ≡ b
and_true true = refl
and_true false = refl

-- the least edge that was found, where g leads to the far end
pub found_then : (M : Model) (h g far old least t : ℕ) → t ≡ tail M (mate g) → t ≡ far → least ≡ cond (nat_eq (g / 2) (h / 2)) old (lesser old (g / 2)) → least ≡ cond (leads_to M h far g) (lesser old (edge_of g)) old
unfolding edge_of
found_then M h g far old least t at end e = grind (arith, nat_tests, and_true (not (nat_eq (g / 2) (h / 2))), e)
