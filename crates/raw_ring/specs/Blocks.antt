-- The blocks of nodes: what the right to free one is, and the places of its nodes.
use Rattle.std.specs.Prelude.{◌≡◌, ℕ, zero, suc, ◌+◌, List, [], ◌∷◌, None}
use Rattle.std.specs.Mem.{type_size}
use base.Fml.{Fml, ftrue, fsep}
use mir.Raw.{raw}
use denote.Array.{Array}
use denote.Memory.{lone}
use denote.RattleType.{RattleType}
use denote.RawPtr.{Ptr, block_ptr, null_ptr}
use Rattle.raw_ring.specs.declared.node.Node.{Node}
use Rattle.raw_ring.specs.contracts.node.Node.{the_row}
use Rattle.raw_ring.specs.declared.node.NodePtr.{NodePtr}
use Rattle.raw_ring.specs.Cells.{Cell, node_at, token}

abbrev pub Block : RattleType
Block = Array the_row 64

-- the rights to free the blocks that begin at these places
abbrev pub deeds_own : List Ptr → Fml
deeds_own [] = ftrue
deeds_own (p ∷ ps) = fsep (token (raw (lone Block.mir)) p) (deeds_own ps)

-- where the nodes lie
unfoldable pub places : List Cell → List Ptr
places [] = []
places (c ∷ cs) = c.0 ∷ places cs

abbrev pub IsAPlace : Ptr → Type 0
IsAPlace p = (b : ℕ) × (o : ℕ) × (p ≡ block_ptr b o)

unfoldable pub place_after : Ptr → Ptr
place_after (block_ptr b o) = block_ptr b (o + type_size the_row)
place_after null_ptr = null_ptr

-- nodes that lie side by side from p on, the last first, before others
unfoldable pub stack : Ptr → List Node → List Cell → List Cell
stack p [] cs = cs
stack p (n ∷ ns) cs = stack (place_after p) ns ((p, n) ∷ cs)

-- k places from p on, the last first, before others
unfoldable pub pile : Ptr → ℕ → List Ptr → List Ptr
pile p zero ps = ps
pile p (suc k) ps = pile (place_after p) k (p ∷ ps)

-- the places of the block that begins at p, before others
unfoldable pub block_places : Ptr → List Ptr → List Ptr
block_places p ps = pile p 64 ps

-- the places of the blocks that begin at these places
unfoldable pub piled : List Ptr → List Ptr
piled [] = []
piled (p ∷ ps) = block_places p (piled ps)

-- no two nodes lie at one place
abbrev pub Apart : List Cell → Type 0
Apart [] = Unit {0}
Apart (c ∷ cs) = (node_at cs c.0 ≡ None) × Apart cs

-- where blocks begin, the newest first, before others
unfoldable pub begun : List NodePtr → List Ptr → List Ptr
begun [] ps = ps
begun (b ∷ bs) ps = begun bs (b.ptr ∷ ps)

-- nodes in blocks; the newest block has `left` places, from next on, that aren't in use yet
pub record AreNodes (cells : List Cell) (deeds : List Ptr) (blocks : List NodePtr) (next : Ptr) (left : ℕ) : Type 0 where
  pub apart : Apart cells
  pub piled : places cells ≡ piled deeds
  pub begun : deeds ≡ begun blocks []
  pub spare : (rest : List Ptr) × (places cells ≡ pile next left rest)
  pub lies : (left ≡ 0 → ⊥) → IsAPlace next
