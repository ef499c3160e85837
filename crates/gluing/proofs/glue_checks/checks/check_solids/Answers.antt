use Rattle.gluing.proofs.Prelude.{◌∙◌, ap, first_refusal, verdict}
use Rattle.gluing.proofs.glue_checks_laws.Known.{flat_beside, beside_flat, known_flat}
use Rattle.gluing.proofs.glue_checks.checks.check_solids.Goals as goal

pub returns-in-Some : goal.returns-in-Some
returns-in-Some c =
    let M = c.args.arena.now.model in
    c.check_solid.ensures ∙ ap (λ xs. verdict (first_refusal xs)) (flat_beside M c.requires.ready.sound c.args.s c.args.other (known_flat M c.args.flat c.in-Some.known c.args.s c.requires.flat c.in-Some.is c.if-known-s.true))

pub returns-in-Some-2 : goal.returns-in-Some-2
returns-in-Some-2 c =
    let M = c.args.arena.now.model in
    c.check_solid-in-Some-2.ensures ∙ ap (λ xs. verdict (first_refusal xs)) (beside_flat M c.requires.ready.sound c.args.other c.args.s (known_flat M c.args.flat c.in-Some-2.known c.args.other c.requires.flat c.in-Some-2.is c.if-known-other.true))
