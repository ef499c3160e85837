use Rattle.std.specs.Prelude.{◌≡◌, ◌++◌, ◌+◌, ◌≤◌, vec_len, length, vec_capacity}
use Rattle.call_lists.proofs.Prelude.{into_iter_items, into_iter_len, AreTold}
use Rattle.call_lists.proofs.making.make_all.Given as goal

abbrev pub invariant-loop-call : goal.invariant-loop-call
invariant-loop-call l = record {
  all : l.yielded ++ into_iter_items l.call-iterator ≡ into_iter_items l.initial.call-iterator;
  many : into_iter_len l.call-iterator ≡ length (into_iter_items l.call-iterator);
  told : AreTold l.fn.stage l.yielded l.fn.told.items l.told.items l.stage;
  room : vec_len l.told + length (into_iter_items l.call-iterator) ≤ vec_capacity l.told;
}
