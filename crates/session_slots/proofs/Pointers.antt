-- What the proofs about pointers cite of the logic, passed on from one place. Declares nothing.
pub use Rattle.session_slots.specs.contracts.slot.Slot.{the_row as R}
pub use Rattle.std.proofs.{BoxSteps.Steps.box_in, BoxSteps.Steps.box_out, RcSteps.word, RcSteps.word-Good, ResultValues.and_tt, VecSteps.Shapes.after, cell.Inside.Good}
pub use Rattle.std.proofs.alloc.{Calls.Al, Calls.Goes-blank, Calls.handle_tells, Global.TheLaws.the_row_laws as LZ}
pub use Rattle.std.proofs.raw_atomic.Walks.{leaves, proved, proved_at}
pub use Rattle.std.specs.Box.Ownership.{box_owns}
pub use Rattle.std.specs.contracts.alloc.Global.{the_row as Z}
pub use Rattle.std.specs.contracts.impls.GlobalAllocator.TheImpl.{dict, ghosts}
pub use Rattle.std.specs.declared.alloc.{Allocator.Ghosts, Global.Global}
pub use base.Fml.{Fml, Lft, Share, fat, fbor, fdead, flft, fsep, ftrue, fupd, fwand}
unfoldable pub use base.Fml.{fseps}
pub use base.Logic.{SProp, apply∗, emp, ent, fst∗, id⊢, never, sep, upd_i, wand}
pub use contract.{BorrowLft.meet_⊑_left, BorrowLft.◌⊑◌, Monad.fact, Monad.fact_i, Running.tables}
pub use denote.{Builtin.RefOf, Copied.plain_Copied, Exit.no, Exit.yes, Memory.cell_at, Memory.lone, Memory.shared_of, Moves.moves_from, Opens.hide, Opens.unhide, Sharing.ShrLaws, SharingLaws.contraction, Signature.plain, Signature.types_at}
pub use denote.Param.{Laws.Laws, Laws.param_laws, Shared.copy_shared, bounded, layout, param}
pub use denote.RattleType.{RattleType, Valss, owns}
pub use denote.RawPtr.{Ptr, RawPtr, block_ptr, coded_ptr, in_a_block, null_ptr, ptr_own, ptr_val, rawptr_pure}
pub use denote.Ref.{ShrRef, shr_Tells, shr_vals}
pub use denote.Steps.{heard, looks, nothing, only, shuts}
pub use denote.Struct.{Field.RawPtr-field, Laws.RawPtr-copy, Laws.RawPtr-laws, Owning.shape, Struct.within, Tuple.Tuple}
pub use denote.Struct.Lending.{Lends, lent_at, lent_at_shr_laws, of_Lends}
pub use denote.Triple.{Call.calls_at, Call.calls_at_last, Clauses.Lasts, Clauses.lasts, Entry.on_entry, Spec.triple_of, Table.framed}
pub use denote.Triple.Walked.{Goes-dropped, Stays, ends_at, says, stay_dropped, walk_of}
pub use ghost.Rules.{span, thinned}
pub use lib.Dec.{T}
pub use mathlib.Core.Bool.{◌&&◌}
pub use mir.{MapTy.inst_fn, Raw.raw as bare}
pub use mir.Syntax.{a_type, dcons, dnil, impl, named, tnil, ty_ptr}
pub use mir.Val.{Val, WT, has_ty, of_list, vcons, vnil, vnull, vptr, vstruct}
pub use prog.Wp.{WpFn}
pub use seplogic.Ra.Ura.{Ura}
