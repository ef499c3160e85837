-- The steps of the proofs about pointers, passed on from one place. Declares nothing.
pub use types.ByLocal.{alloc_all, env, free_all, get, get_in, lands_as, lands_last, look_at, pass_all, sets, sets_last, through}
pub use types.Kit.{ !, Goal, Item, Seq, Step, assume, at_ret, await, by, done, drop, feq_i, feq_l, fjoin, fpack, fpick, frame, fsplit, fsplit3, join, keep, later, move, now, pick, qed, raw, rewrite, some, split, split3, step, suffices, updating, use0, use1, use2, ‵, ◌$◌, ◌∵◌, ◌⊛◌}
pub use types.Logic.{Logic, lfts, sem}
pub use types.Part.{agg, sub, whole}
pub use types.Run.{addr, and_then, blocks, enter, exec, first, fld, lit, load, look, no_more, of_opd, returns, stop}
pub use types.Tokens.{bor_fracture, bor_open, obor_alter, one_token}
