use Rattle.std.proofs.Common.{sym, ◌∙◌}
use Rattle.solid_walks.proofs.face_walks_laws.CycleWalks.{item_there, goes_on, comes_back, items_left_is}
use Rattle.solid_walks.proofs.face_walks.items.item_after.Goals as goal

pub next_code-after-requires-clause-there : goal.next_code-after-requires-clause-there
next_code-after-requires-clause-there c = item_there c.args.arena.now.model c.requires.sound c.args.first c.requires.there c.args.item c.requires.inside

pub returns-then-after-first-clause-left : goal.returns-then-after-first-clause-left
returns-then-after-first-clause-left c =
    sym (comes_back c.args.arena.now.model c.requires.sound c.args.first c.requires.there c.args.item c.next_code-after.result c.requires.inside (λ _. c.next_code-after.ensures.next) c.if-after-first.true).0

pub returns-else-after-first-clause-left : goal.returns-else-after-first-clause-left
returns-else-after-first-clause-left c =
    let M = c.args.arena.now.model in
    items_left_is M c.requires.sound c.args.first c.next_code-after.result c.next_code-after.ensures.there
    ∙ sym (goes_on M c.requires.sound c.args.first c.requires.there c.args.item c.next_code-after.result c.requires.inside (λ _. c.next_code-after.ensures.next) c.if-after-first.false).1

pub returns-else-after-first-clause-round : goal.returns-else-after-first-clause-round
returns-else-after-first-clause-round c = record {
  sound = c.requires.sound;
  there = c.requires.there;
  inside = λ _. (goes_on c.args.arena.now.model c.requires.sound c.args.first c.requires.there c.args.item c.next_code-after.result c.requires.inside (λ _. c.next_code-after.ensures.next) c.if-after-first.false).0;
}
