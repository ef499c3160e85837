-- What the proofs here take from elsewhere, passed on from one place. Declares nothing.
pub use Rattle.cyclic_list.specs.Edits.{insert_after, insert_before, led_over, redirect, without}
pub use Rattle.cyclic_list.specs.Halves.{minus, plus, round}
unfoldable pub use Rattle.cyclic_list.specs.Halves.{edge_of, is_first, mate}
pub use Rattle.cyclic_list.specs.Items.{IsApart, IsIn, SameItems, after, before, count, from, head_or, is_apart, last_or, least, least_with, tick}
pub use Rattle.cyclic_list.specs.Operators.{after_kef, after_kev, after_mef, after_mev, kef_ring, kemr_new, kemr_old, kev_ring, mef_new, mef_old, mekr_ring, mev_ring, put_ring, take_ring}
pub use Rattle.cyclic_list.specs.Rings.{IsPath, IsRing, IsRotation, arc, between, beyond, cut_left, cut_right, joined, onward, orbit, predecessor, splice, successor, upto, walk, walk_to}
unfoldable pub use Rattle.cyclic_list.specs.Rings.{canonical, rest, rotate_to}
pub use Rattle.std.proofs.Common.{AllPairs, Bool, Contains, IsPermutation, List, [], ap, append-nil, append_assoc, arith, cond, eq-eqb, eqb, eqb-true, false, filter, get_or, inl, inr, is_eq, length, length-append, map, nat_cmp, nat_eq, ne_eqb, not, refl, reverse, subst, suc, sym, true, true≢false, zero, ℕ, ◌%◌, ◌&&◌, ◌++◌, ◌+◌, ◌<◌, ◌||◌, ◌↔◌, ◌∙◌, ◌∷◌, ◌≡◌, ◌≢◌, ◌≤◌, ◌⊎◌}
pub use Rattle.std.proofs.lemmas.Bool.{and_from, cases_eq}
pub use Rattle.std.proofs.lemmas.Bool.Decides.{eqb_tells, nat_tests}
pub use Rattle.std.proofs.lemmas.List.Sorted.{IsPermutation-append_comm, sum_by-IsPermutation}
