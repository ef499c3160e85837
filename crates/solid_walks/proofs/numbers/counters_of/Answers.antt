use Rattle.solid_walks.proofs.Prelude.{sym, taken_in, greatest_is}
use Rattle.solid_walks.proofs.numbers.counters_of.Goals as goal

pub returns-clause-is : goal.returns-clause-is
unfolding taken_in
returns-clause-is c = λ i. record {
  face = sym (greatest_is c.args.arena.now.model.faces c.greatest.result c.greatest.ensures.used c.greatest.ensures.above) i;
  loop = sym (greatest_is c.args.arena.now.model.loops c.greatest-2.result c.greatest-2.ensures.used c.greatest-2.ensures.above) i;
  edge = sym (greatest_is c.args.arena.now.model.edges c.greatest-3.result c.greatest-3.ensures.used c.greatest-3.ensures.above) i;
  vertex = sym (greatest_is c.args.arena.now.model.vertices c.greatest-4.result c.greatest-4.ensures.used c.greatest-4.ensures.above) i;
}
