-- What the proofs here take from elsewhere, passed on from one place. Declares nothing.
pub use Rattle.circular_buffer.proofs.Memory.{Besides, Place, filled_within, mark, of_room, slot_in, slot_out, slot_seen, sz, tells, three_of, three_val, to_room, value_in, value_out, word_had, word_made}
pub use Rattle.circular_buffer.specs.Ownership.{slot, slot_lent, slots}
pub use Rattle.core.proofs.alloc.Calls.{Al, Answer-typed, Answered, Gives, Gives-Gives, Gives-goes, Goes-blank, Takes, Takes-gives, Takes-goes, answers, at_gives, at_takes, gives_key, second, takes_key, token}
pub use Rattle.core.proofs.mem.Param.{El, R, args, el_x, elτ}
pub use Rattle.core.proofs.ptr.Rows.{one_below, times_below}
pub use Rattle.core.proofs.slots.Leases.{P, block_align, block_size, block_ty, uncapped}
pub use Rattle.raw_cells.specs.Numbers.{AreSummed, IsFirstIn, IsLast, IsLastIn, IsNext, has_bits, is_set, word_at}
unfoldable pub use Rattle.raw_cells.specs.Numbers.{uses}
pub use Rattle.raw_cells.specs.Ownership.{deed_owns, places_lent, places_own}
pub use Rattle.raw_cells.specs.Rows.{AreCells, has_row, row_at, rows_of}
pub use Rattle.std.proofs.Common.{Bool, List, None, Option, Some, [], ap, arith, bit_and, bit_or, bit_xor, cond, eq-eqb, false, get_or-set_other, get_or-set_same, get_or-take, inl, inr, is_some, length, length-set, length-take-le, nat_eq, nat_lt, ne_eqb, pow-add, refl, replicate, slice_index_or, slice_set, subst, suc, sym, take, true, true-eqb, true≢false, w64, zero, ℕ, ◌%◌, ◌*◌, ◌++◌, ◌+◌, ◌-◌, ◌/◌, ◌<◌, ◌^◌, ◌∙◌, ◌∷◌, ◌≡◌, ◌≢◌, ◌≤◌}
pub use Rattle.std.proofs.Math.ListN.{get_or-eq_default}
pub use Rattle.std.proofs.lemmas.Bool.{agree_below_at, cases_eq, cases_lt}
pub use Rattle.std.proofs.lemmas.Bool.Decides.{nat_tests}
pub use Rattle.std.proofs.lemmas.Grind.{get_or_default_zero}
pub use Rattle.std.proofs.lemmas.List.{length-replicate}
pub use Rattle.std.proofs.lemmas.Nat.Bits.{bit_at-trailing_zeros, bit_at-zero, bit_at_above, bit_at_clear_other, bit_at_clear_same, bit_at_set_other, bit_at_set_same}
pub use Rattle.std.specs.ControlFlow.{continue_value}
pub use Rattle.std.specs.Int.{bit_at, bit_not, leading_zeros, trailing_zeros}
pub use Rattle.std.specs.Prelude.{Err, IfOk, Ok}
pub use Rattle.std_alloc.proofs.RawLayout.{as_raw, as_written}
pub use Rattle.std_alloc.proofs.RcSteps.{Good, first_Good, word, word-Good}
pub use Rattle.std_alloc.proofs.VecSteps.Shapes.{after, arm_body, head}
