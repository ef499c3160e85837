-- What the proofs here take from elsewhere, passed on from one place. Declares nothing.
pub use Rattle.lattice.specs.Point.{IsInRange, is_coordinate}
pub use Rattle.lattice.specs.Ranges.{IsCutPlane, IsVectorWithin, IsWithin, normal_limit}
pub use Rattle.lattice.specs.Vectors.{are_opposite, cross, cut_between, cut_multiple, cut_point, dot, height, is_offset, lex_less, moved, opposite, origin, same_point, whole_quotient}
pub use Rattle.lattice.specs.declared.Plane.{Plane}
pub use Rattle.lattice.specs.declared.Point.{Point}
pub use Rattle.std.proofs.Common.{Bool, Equal, FitsSigned, Greater, Less, None, Option, Ordering, Some, ap, arith, cond, false, int_cmp, int_div, int_eq, int_lt, int_rem, is_eq, is_gt, is_lt, neg_ℤ, negsuc, pos, refl, rules, subst, suc, sym, true, unsigned_abs, zero, ℕ, ℤ, ◌%◌, ◌&&◌, ◌*ℤ◌, ◌*◌, ◌+ℤ◌, ◌+◌, ◌-ℤ◌, ◌/◌, ◌<◌, ◌||◌, ◌∙◌, ◌≡◌, ◌≢◌, ◌≤◌}
pub use Rattle.std.proofs.Math.Nat.{div-le_of_le-mul, mul-div_cancel, mul-le-mul, mul-mod_left, zero-div}
pub use Rattle.std.proofs.lemmas.Int.{fits_signed_from_abs, ints, quot_is, to_z-of_z, unsigned_abs-mul}
pub use Rattle.std.specs.Int.{cast_signed, cast_unsigned}
