use Rattle.plane_split.proofs.Prelude.{◌≡◌, sym, ap, ◌∙◌, accepted, Journal, after_steps, split_ops, split_refusal, split_model, early_refusal, none_early, further_recorded, further_session, steps_recorded}
use Rattle.undo_journal.specs.declared.session.Failure.TheVariants as failure
use Rattle.plane_split.proofs.Conditions.{same_failure}
use Rattle.plane_split.proofs.Planes.{plane_is}
use Rattle.plane_split.proofs.command.split_with_flat.Goals as goal

pub admit-requires-clause-sides : goal.admit-requires-clause-sides
admit-requires-clause-sides c = c.none_noted-sides.ensures c.arena.result.now.model c.plane_of-plane.result

pub returns-in-Err-clause-refused : goal.returns-in-Err-clause-refused
returns-in-Err-clause-refused c = λ refusal is.
    let plane : c.plane_of-plane.result ≡ record { a = c.args.a; b = c.args.b; c = c.args.c; d = c.args.d } =
    c.plane_of-plane.ensures ∙ plane_is c.args.a c.args.b c.args.c c.args.d c.ranges.a c.ranges.b c.ranges.c c.ranges.d in
    sym (λ i. split_refusal (c.arena.ensures.model i) c.args.s (plane i) c.args.upper) ∙ c.in-Err.ensures.refused refusal (same_failure c.in-Err.failure (failure.Refused refusal) is)

pub returns-in-Ok-try_split-clause-ok : goal.returns-in-Ok-try_split-clause-ok
returns-in-Ok-try_split-clause-ok c =
    let plane : c.plane_of-plane.result ≡ record { a = c.args.a; b = c.args.b; c = c.args.c; d = c.args.d } =
    c.plane_of-plane.ensures ∙ plane_is c.args.a c.args.b c.args.c c.args.d c.ranges.a c.ranges.b c.ranges.c c.ranges.d in
    let opened = c.in-Ok-open.ensures.ok in (
      sym (λ i. split_refusal (opened i).model c.args.s (plane i) c.args.upper) ∙ c.in-Ok-try_split.ensures.ok.0,
      ap (λ (j : Journal). j.machine) c.commit.ensures
          ∙ (λ i. accepted (further_session _ _ c.in-Ok-try_split.ensures.further i).machine (c.in-Ok-try_split.ensures.ok.1 i))
          ∙ (λ i. accepted (opened i).session.machine (split_model (opened i).model c.args.s (plane i) c.args.upper)),
    )

pub returns-clause-refused : goal.returns-clause-refused
returns-clause-refused c = λ refusal is.
    let plane : c.plane_of-plane.result ≡ record { a = c.args.a; b = c.args.b; c = c.args.c; d = c.args.d } =
    c.plane_of-plane.ensures ∙ plane_is c.args.a c.args.b c.args.c c.args.d c.ranges.a c.ranges.b c.ranges.c c.ranges.d in
    sym (λ i. split_refusal (c.in-Ok-open.ensures.ok i).model c.args.s (plane i) c.args.upper)
    ∙ c.in-Err-try_split.ensures.refused refusal (same_failure c.in-Err-try_split.failure (failure.Refused refusal) is)

pub returns-in-Err-open-clause-memory : goal.returns-in-Err-open-clause-memory
returns-in-Err-open-clause-memory c = λ error is.
    let plane : c.plane_of-plane.result ≡ record { a = c.args.a; b = c.args.b; c = c.args.c; d = c.args.d } =
    c.plane_of-plane.ensures ∙ plane_is c.args.a c.args.b c.args.c c.args.d c.ranges.a c.ranges.b c.ranges.c c.ranges.d in
    sym (λ i. early_refusal (c.arena.ensures.model i) c.args.s (plane i) c.args.upper) ∙ none_early c.arena.result.now.model c.args.s c.plane_of-plane.result c.args.upper c.in-Ok.ensures.ok

pub returns-clause-memory : goal.returns-clause-memory
returns-clause-memory c = λ error is.
    let plane : c.plane_of-plane.result ≡ record { a = c.args.a; b = c.args.b; c = c.args.c; d = c.args.d } =
    c.plane_of-plane.ensures ∙ plane_is c.args.a c.args.b c.args.c c.args.d c.ranges.a c.ranges.b c.ranges.c c.ranges.d in
    sym (λ i. early_refusal (c.arena.ensures.model i) c.args.s (plane i) c.args.upper) ∙ none_early c.arena.result.now.model c.args.s c.plane_of-plane.result c.args.upper c.in-Ok.ensures.ok

pub returns-in-Ok-try_split-clause-recorded : goal.returns-in-Ok-try_split-clause-recorded
returns-in-Ok-try_split-clause-recorded c = further_recorded _ _ _ _ c.in-Ok-open.ensures.ok c.in-Ok-try_split.ensures.further c.commit.ensures

pub returns-in-Ok-try_split-clause-record : goal.returns-in-Ok-try_split-clause-record
returns-in-Ok-try_split-clause-record c =
    let plane : c.plane_of-plane.result ≡ record { a = c.args.a; b = c.args.b; c = c.args.c; d = c.args.d } =
    c.plane_of-plane.ensures ∙ plane_is c.args.a c.args.b c.args.c c.args.d c.ranges.a c.ranges.b c.ranges.c c.ranges.d in
    let steps = c.in-Ok-try_split.ensures.steps ∙ ap (λ p. after_steps c.in-Ok-open.draft (split_ops c.in-Ok-open.draft.model c.args.s p c.args.upper)) plane in
    steps_recorded _ _ _ _ (λ M. split_ops M c.args.s (record { a = c.args.a; b = c.args.b; c = c.args.c; d = c.args.d }) c.args.upper) c.in-Ok-open.ensures.ok steps c.commit.ensures
