use Rattle.euler_conditions.proofs.Prelude.{ℕ, ◌+◌, ◌-◌, sym, subst, ◌∙◌, arith, eqb-true, not-false, eqb-false, code, mate, content, lists, face_at, steps, steps_are}
use Rattle.euler_conditions.proofs.Around.{HalfRound, round_start, round_closed, round_more, round_ended}
use Rattle.euler_conditions.proofs.Borders.{ring_has}
use Rattle.euler_conditions.proofs.torn.loop_leads_out.Goals as goal

pub round-init : goal.round-init
round-init c =
    let M = c.args.arena.now.model in let l = c.args.l in let first : ℕ = code c.in-Ring.first in
    let item = ring_has (content M l) c.in-Ring.first c.in-Ring.ensures in
    subst (HalfRound M c.args.listed_faces.now l first first) (omega arith) (round_start M c.requires.ready.sound c.args.listed_faces.now l first item)

pub returns-then-same-clause-within : goal.returns-then-same-clause-within
returns-then-same-clause-within c =
    let M = c.args.arena.now.model in let fs = c.args.listed_faces.now in let l = c.args.l in let first : ℕ = code c.in-Ring.first in let h : ℕ = code c.round.h in
    let item = ring_has (content M l) c.in-Ring.first c.in-Ring.ensures in
    let stays = not-false (lists fs (face_at M (mate h))) (sym c.leads_out.ensures ∙ c.if-leads_out.false) in
    λ _. round_closed M c.requires.ready.sound fs l first item h (steps - c.round.counter) (steps - (c.round.counter + 1)) c.round.invariant (omega (arith, steps_are)) stays
    (sym c.next-h.ensures.next ∙ eqb-true (code c.next-h.result) first (sym c.same.ensures ∙ c.if-same.true))

pub round-preserved : goal.round-preserved
round-preserved c =
    let M = c.args.arena.now.model in let fs = c.args.listed_faces.now in let l = c.args.l in let first : ℕ = code c.in-Ring.first in let h : ℕ = code c.round.h in
    let item = ring_has (content M l) c.in-Ring.first c.in-Ring.ensures in
    let stays = not-false (lists fs (face_at M (mate h))) (sym c.leads_out.ensures ∙ c.if-leads_out.false) in
    let apart = eqb-false (code c.next-h.result) first (sym c.same.ensures ∙ c.if-same.false) in
    subst (λ x. HalfRound M fs l first x (steps - (c.round.counter + 1))) (sym c.next-h.ensures.next)
    (round_more M c.requires.ready.sound fs l first item h (steps - c.round.counter) (steps - (c.round.counter + 1)) c.round.invariant (omega (arith, steps_are)) stays
    (λ e. apart (c.next-h.ensures.next ∙ e)))

pub returns-clause-within : goal.returns-clause-within
returns-clause-within c =
    let M = c.args.arena.now.model in let l = c.args.l in
    let item = ring_has (content M l) c.in-Ring.first c.in-Ring.ensures in
    λ _. round_ended M c.requires.ready.sound c.args.listed_faces.now l (code c.in-Ring.first) item (code c.round.h) (steps - c.round.counter) c.round.invariant (omega (arith, steps_are))
