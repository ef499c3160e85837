use Rattle.session_slots.proofs.Prelude.{Some, subst, sym, ℕ, IsItemOf, filled, told_there, edge_fits}
use Rattle.session_slots.specs.Common.{content}
use Rattle.session_slots.proofs.Numbers.{ring_item}
use Rattle.session_slots.proofs.readers.item_at.Goals as goal

pub content-requires-clause-filled : goal.content-requires-clause-filled
content-requires-clause-filled c = filled c.args.arena.now.model c.requires.ready.sound c.args.l c.requires.there

pub code-requires : goal.code-requires
code-requires c = let M = c.args.arena.now.model in edge_fits M c.requires.ready.sound c.in-Ring.half (told_there M c.requires.ready.sound c.args.l c.in-Ring.half c.in-Ring.ensures)

pub returns-in-Ring : goal.returns-in-Ring
returns-in-Ring c =
    let held = content c.args.arena.now.model c.args.l in
    subst (λ (n : ℕ). IsItemOf held (Some n)) (sym c.code.ensures) (ring_item held c.in-Ring.half c.in-Ring.ensures)
