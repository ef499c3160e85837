use Rattle.plane_split.proofs.Prelude.{◌≡◌, sym, ◌∙◌, split_refusal, early_refusal, none_early}
use Rattle.undo_journal.specs.declared.session.Failure.TheVariants as failure
use Rattle.plane_split.proofs.Conditions.{same_failure}
use Rattle.plane_split.proofs.Planes.{plane_is}
use Rattle.plane_split.proofs.command.split_in.Goals as goal

pub admit-requires-clause-sides : goal.admit-requires-clause-sides
admit-requires-clause-sides c = c.none_noted-sides.ensures c.arena.result.now.model c.plane_of-plane.result

pub returns-in-Err-clause-refused : goal.returns-in-Err-clause-refused
returns-in-Err-clause-refused c = λ refusal is.
    let plane : c.plane_of-plane.result ≡ record { a = c.args.a; b = c.args.b; c = c.args.c; d = c.args.d } =
    c.plane_of-plane.ensures ∙ plane_is c.args.a c.args.b c.args.c c.args.d c.ranges.a c.ranges.b c.ranges.c c.ranges.d in
    sym (λ i. split_refusal (c.arena.ensures.model i) c.args.s (plane i) c.args.upper) ∙ c.in-Err.ensures.refused refusal (same_failure c.in-Err.failure (failure.Refused refusal) is)

pub returns-clause-memory : goal.returns-clause-memory
returns-clause-memory c = λ error is.
    let plane : c.plane_of-plane.result ≡ record { a = c.args.a; b = c.args.b; c = c.args.c; d = c.args.d } =
    c.plane_of-plane.ensures ∙ plane_is c.args.a c.args.b c.args.c c.args.d c.ranges.a c.ranges.b c.ranges.c c.ranges.d in
    sym (λ i. early_refusal (c.arena.ensures.model i) c.args.s (plane i) c.args.upper) ∙ none_early c.arena.result.now.model c.args.s c.plane_of-plane.result c.args.upper c.in-Ok.ensures.ok
