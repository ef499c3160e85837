use Rattle.solid_walks.proofs.Prelude.{ap, sym, ◌∙◌, least, rotate_to, canonical, code, cycle_of, cycle_sound}
use Rattle.solid_walks.proofs.face_walks.items.items_of.Goals as goal

pub returns : goal.returns
unfolding canonical
returns c =
    let M = c.args.arena.now.model in let h = code c.least_item.result in let l = c.least_item.ensures in
    c.items_round.ensures ∙ (λ i. rotate_to ((l.least ∙ ap least (sym l.same_loop)) i) (cycle_of M h)) ∙ (cycle_sound M c.requires.sound h l.there).from_least ∙ l.same_loop
