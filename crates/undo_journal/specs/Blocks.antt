-- The operators of a block.
use Rattle.std.specs.Prelude.{ℕ, ◌+◌, ◌≤◌, true, false, List, [], ◌∷◌, get_or}
use Rattle.euler_operators.specs.Common.{Point, HalfEdge, At, Lone}
use Rattle.euler_operators.specs.declared.Op.{Op}
use Rattle.euler_operators.specs.declared.Op.TheVariants.{Mvfs, Kvfs, Mev, Mef}
use Rattle.undo_journal.specs.declared.blocks.Block.{Block}

-- the half-edge that leads along an edge, and the one that leads back
abbrev pub leading : ℕ → HalfEdge
leading e = record { edge = e; first = true }

abbrev pub returning : ℕ → HalfEdge
returning e = record { edge = e; first = false }

-- an edge from a half-edge's tail to a new vertex
abbrev pub edge_from : HalfEdge → ℕ → ℕ → Point → Op
edge_from h e v p = Mev (At h) (At h) (leading e) v p

-- the numbers that a block takes are left
pub record HasLeft (b : Block) : Type 0 where
  pub faces : b.faces + 6 ≤ 1000000
  pub loops : b.loops + 6 ≤ 1000000
  pub edges : b.edges + 12 ≤ 1000000
  pub vertices : b.vertices + 8 ≤ 1000000

-- the base is drawn and closed, and swept up
abbrev pub block_steps : Block → List Op
block_steps b = let f = b.faces in let l = b.loops in let e = b.edges in let v = b.vertices in let p = b.near in let q = b.far in
    Mvfs b.solid (f + 1) (l + 1) (v + 1) p
    ∷ Mev (Lone (l + 1)) (Lone (l + 1)) (leading (e + 1)) (v + 2) (record { x = q.x; y = p.y; z = p.z })
    ∷ edge_from (returning (e + 1)) (e + 2) (v + 3) (record { x = q.x; y = q.y; z = p.z })
    ∷ edge_from (returning (e + 2)) (e + 3) (v + 4) (record { x = p.x; y = q.y; z = p.z })
    ∷ Mef (returning (e + 3)) (leading (e + 1)) (leading (e + 4)) (f + 2) (l + 2)
    ∷ edge_from (leading (e + 1)) (e + 5) (v + 5) (record { x = p.x; y = p.y; z = q.z })
    ∷ edge_from (leading (e + 2)) (e + 6) (v + 6) (record { x = q.x; y = p.y; z = q.z })
    ∷ Mef (returning (e + 5)) (returning (e + 6)) (leading (e + 7)) (f + 3) (l + 3)
    ∷ edge_from (leading (e + 3)) (e + 8) (v + 7) q
    ∷ Mef (returning (e + 6)) (returning (e + 8)) (leading (e + 9)) (f + 4) (l + 4)
    ∷ edge_from (leading (e + 4)) (e + 10) (v + 8) (record { x = p.x; y = q.y; z = q.z })
    ∷ Mef (returning (e + 8)) (returning (e + 10)) (leading (e + 11)) (f + 5) (l + 5)
    ∷ Mef (returning (e + 10)) (leading (e + 7)) (leading (e + 12)) (f + 6) (l + 6) ∷ []

-- the operator at a place of a list that reaches so far
abbrev pub step_at : List Op → ℕ → Op
step_at ops i = get_or ops i (Kvfs 0)
