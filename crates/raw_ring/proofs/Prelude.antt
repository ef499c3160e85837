-- What the proofs here take from elsewhere, passed on from one place. Declares nothing.
pub use Rattle.raw_cells.specs.Rows.{has_row, row_at}
pub use Rattle.raw_ring.specs.Blocks.{Apart, AreNodes, Block, IsAPlace, deeds_own}
unfoldable pub use Rattle.raw_ring.specs.Blocks.{begun, block_places, pile, piled, place_after, places, stack}
pub use Rattle.raw_ring.specs.Cells.{Adds, Cell, Exchanges, IsLinked, Relinks, SetsTail, cells_lent, cells_own, code_at, next_at, of_node, prev_at, same_ptr, tail_at}
unfoldable pub use Rattle.raw_ring.specs.Cells.{node_at, put_node, without_node}
pub use Rattle.raw_ring.specs.Joined.{AreJoined, joined, marks, or_false, with_marks}
pub use Rattle.raw_ring.specs.Rings.{Exchanged, IsAsleep, IsLive, IsPermutation, RingMap, Spot, awake, label_of, next_of, of_spot, or_zero, put_spot, set_tail, spliced, spot, tail_of, with_next, with_room, with_spot}
pub use Rattle.raw_ring.specs.Table.{HasLabel, LiesAt, asleep, set_label, woken}
pub use Rattle.raw_ring.specs.Tied.{IsPlaced, IsTied, Rows, code_of, entries_from, spot_of}
unfoldable pub use Rattle.raw_ring.specs.Tied.{ring_map}
pub use Rattle.raw_ring.specs.Walks.{IsPlace, Place}
pub use Rattle.raw_ring.specs.contracts.node.Node.{the_row}
pub use Rattle.raw_ring.specs.declared.node.Node.{Node}
pub use Rattle.raw_ring.specs.declared.node.NodePtr.{NodePtr}
pub use Rattle.raw_ring.specs.declared.row.Row.{Row}
pub use Rattle.std.proofs.Common.{Bool, Err, IsSome, List, drop, None, Ok, OnErr, OnOk, Option, Result, Some, T, [], ap, arith, cond, eq-eqb, eqb→eq, false, get_or-set_other, get_or-set_same, inl, inr, is_some, length, length-set, nat_cmp, nat_eq, ne_eqb, refl, set, slice_set, subst, suc, sym, true, true≢false, zero, ℕ, ◌&&◌, ◌++◌, ◌+◌, ◌-◌, ◌<◌, ◌==◌, ◌∙◌, ◌∷◌, ◌≡◌, ◌≢◌, ◌≤◌}
pub use Rattle.std.proofs.RcSteps.{word, word-Good}
pub use Rattle.std.proofs.VecSteps.Shapes.{after}
pub use Rattle.std.proofs.alloc.Calls.{Al, Fits, Goes-blank, handle_tells}
pub use Rattle.std.proofs.lemmas.Bool.{cases_eq, cases_lt, eqb-false, false≢true}
pub use Rattle.std.proofs.lemmas.Option.{same_Some}
pub use Rattle.std.proofs.raw_atomic.Walks.{proved, proved_at}
pub use Rattle.std.specs.Box.Ownership.{box_owns}
pub use Rattle.std.specs.FinMap.{contains_key, empty, from_entries, get, get-empty, get-insert, insert, nat_cmp-IsAntisymmetric, same_map}
pub use Rattle.std.specs.contracts.impls.GlobalAllocator.TheImpl.{dict, ghosts}
