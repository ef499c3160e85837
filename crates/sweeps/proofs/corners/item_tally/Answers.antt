use Rattle.sweeps.proofs.Prelude.{[], ◌∷◌, ap, subst, sym, ◌∙◌, code, Has, tally}
use Rattle.sweeps.proofs.corners.item_tally.Goals as goal

pub corner_tally-requires-clause-there : goal.corner_tally-requires-clause-there
corner_tally-requires-clause-there c = subst (Has c.args.arena.now.model.vertices) (sym c.tail.ensures) (c.requires.ready.sound.tails_there (code c.args.item) c.requires.there)

pub returns : goal.returns
returns c = c.corner_tally.ensures ∙ ap (λ v. tally c.args.arena.now.model c.args.shift (v ∷ [])) c.tail.ensures
