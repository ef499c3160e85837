-- mev as an operator: what its conditions say, and that it keeps a model sound.
use Rattle.euler_laws.proofs.Prelude.{◌≡◌, ℕ, true, None, IsTrue, sym, ap, ◌∙◌, arith, eq-eqb, eqb-true, not-true, Point, IsInRange, HalfEdge, Corner, At, Lone, code, edge_of, Model, lone, content, is_number, Sound, HasHalf, first_false, conditions, corner_number, corner_known, corner_lone, corner_tail, lone_vertex, edge_of-code, no_row, Mev}
use Rattle.euler_operators.specs.Table as table
use Rattle.euler_laws.proofs.shared.Goes.{all_hold, none_refuses, not_false, taken}
use Rattle.euler_laws.proofs.mev.MevSound.{MevGoes}
use Rattle.euler_laws.proofs.mev.MevLoneSound.{LoneGoes}
use Rattle.euler_laws.proofs.shared.Rows.{half_of, of_half, lone_is, is_lone_of}

-- what the conditions of mev say, whatever its corners are
pub record MevHolds (M : Model) (c d : Corner) (h : HalfEdge) (v : ℕ) (p : Point) : Type 0 where
  pub first_known : (corner_known M c).holds ≡ true
  pub second_known : (corner_known M d).holds ≡ true
  pub first_lone : (corner_lone M c).holds ≡ true
  pub second_lone : (corner_lone M d).holds ≡ true
  pub one_tail : corner_tail M c ≡ corner_tail M d
  pub edge_free : table.get M.edges (edge_of (code h)) ≡ None
  pub vertex_free : table.get M.vertices v ≡ None
  pub edge_fits : IsTrue (is_number (edge_of (code h)))
  pub vertex_fits : IsTrue (is_number v)
  pub point_fits : IsInRange p

pub mev_holds : (M : Model) (c d : Corner) (h : HalfEdge) (v : ℕ) (p : Point) → first_false M (Mev c d h v p) ≡ None → MevHolds M c d h v p
unfolding first_false conditions
mev_holds M c d h v p e =
    grind (arith, all_hold (conditions M (Mev c d h v p)) e, eqb-true, edge_of-code, not-true, no_row)

-- where all that holds, and the corners' numbers are in range, none refuses
mev_passes : (N : Model) (c d : Corner) (h : HalfEdge) (v : ℕ) (p : Point) → is_number (corner_number c) ≡ true → is_number (corner_number d) ≡ true → MevHolds N c d h v p → first_false N (Mev c d h v p) ≡ None
unfolding first_false conditions
mev_passes N c d h v p first_fits second_fits holds = grind (arith, none_refuses, edge_of-code, holds, taken, not_false, eq-eqb)

pub mev_goes : (M : Model) (g k h : HalfEdge) (v : ℕ) (p : Point) → first_false M (Mev (At g) (At k) h v p) ≡ None → MevGoes M (code g) (code k) (code h) v p
mev_goes M g k h v p e = let holds = mev_holds M (At g) (At k) h v p e in grind (arith, holds, half_of)

pub mev_accepted : (N : Model) (g k h : HalfEdge) (v : ℕ) (p : Point) → Sound N → MevGoes N (code g) (code k) (code h) v p → first_false N (Mev (At g) (At k) h v p) ≡ None
mev_accepted N g k h v p sound goes = mev_passes N (At g) (At k) h v p (fit g goes.g_there) (fit k goes.k_there) (grind (arith, goes, of_half)) where
  fit : (x : HalfEdge) → HasHalf N (code x) → is_number x.edge ≡ true
  fit x t = ap is_number (sym (edge_of-code x)) ∙ sound.edges_fit (edge_of (code x)) t

pub lone_goes : (M : Model) (l d : ℕ) (h : HalfEdge) (v : ℕ) (p : Point) → first_false M (Mev (Lone l) (Lone d) h v p) ≡ None → LoneGoes M l (code h) v (lone_vertex (content M l)) p
lone_goes M l d h v p e = let holds = mev_holds M (Lone l) (Lone d) h v p e in grind (arith, holds, lone_is)

pub lone_accepted : (N : Model) (l : ℕ) (h : HalfEdge) (v u : ℕ) (p : Point) → Sound N → LoneGoes N l (code h) v u p → first_false N (Mev (Lone l) (Lone l) h v p) ≡ None
lone_accepted N l h v u p sound goes = grind (arith, sound.loops_fit, goes.loop_there, mev_passes, is_lone_of)

-- a corner at a half-edge and a lone one are never at one vertex
pub mixed_first : (M : Model) (g : HalfEdge) (l : ℕ) (h : HalfEdge) (v : ℕ) (p : Point) → Sound M → first_false M (Mev (At g) (Lone l) h v p) ≡ None → ⊥
mixed_first M g l h v p sound e =
    let holds = mev_holds M (At g) (Lone l) h v p e in
    sound.lone_is_no_tail l (code g) (half_of M g holds.first_known) (lone_is (content M l) holds.second_lone ∙ ap lone (sym holds.one_tail))

pub mixed_second : (M : Model) (l : ℕ) (k h : HalfEdge) (v : ℕ) (p : Point) → Sound M → first_false M (Mev (Lone l) (At k) h v p) ≡ None → ⊥
mixed_second M l k h v p sound e =
    let holds = mev_holds M (Lone l) (At k) h v p e in
    sound.lone_is_no_tail l (code k) (half_of M k holds.second_known) (lone_is (content M l) holds.first_lone ∙ ap lone holds.one_tail)
