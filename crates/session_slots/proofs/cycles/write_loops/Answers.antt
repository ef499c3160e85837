use Rattle.session_slots.proofs.Prelude.{◌∙◌, sym, subst, List, ℕ, IsIn}
use Rattle.solid_walks.proofs.face_walks_laws.FaceWalks.{loop_in}
use Rattle.solid_walks.proofs.face_walks_laws.Yielded.{yielded_in}
use Rattle.session_slots.proofs.FaceRows.{FaceRound, face_start, rows_short, face_more, face_ended}
use Rattle.session_slots.proofs.cycles.write_loops.Goals as goal

pub loops-init : goal.loops-init
loops-init c =
    let M = c.args.arena.now.model in
    subst (λ (ls : List ℕ). FaceRound M c.args.f ls c.args.rows.now c.args.rows.now 0) (sym (c.into_iter-l-iterator.ensures.into_iter_gives ∙ c.loops_of-l-items.ensures))
    (face_start M c.requires.ready.sound c.args.f c.args.rows.now)

pub write_loop-end-requires-clause-there : goal.write_loop-end-requires-clause-there
write_loop-end-requires-clause-there c =
    loop_in c.args.arena.now.model c.requires.ready.sound c.args.f c.in-Some.l c.requires.there (subst (IsIn c.in-Some.l) (c.into_iter-l-iterator.ensures.into_iter_gives ∙ c.loops_of-l-items.ensures) (yielded_in (λ l. l) c.loops.yielded _ _ _ c.in-Some.l c.loops.yielded_by c.in-Some.ensures.steps))

pub write_loop-end-requires-clause-place : goal.write_loop-end-requires-clause-place
write_loop-end-requires-clause-place c = rows_short c.args.arena.now.model c.requires.ready.sound c.args.f c.args.rows.now _ c.loops.rows c.loops.end c.loops.invariant

pub loops-preserved : goal.loops-preserved
loops-preserved c =
    let M = c.args.arena.now.model in
    face_more M c.requires.ready.sound c.args.f c.args.rows.now c.in-Some.l _ c.loops.rows _ c.loops.end _
    (subst (λ (ls : List ℕ). FaceRound M c.args.f ls c.args.rows.now c.loops.rows c.loops.end) c.in-Some.ensures.steps c.loops.invariant) c.write_loop-end.ensures

pub returns : goal.returns
returns c =
    let M = c.args.arena.now.model in
    face_ended M c.requires.ready.sound c.args.f c.args.rows.now c.requires.there c.loops.rows c.loops.end
    (subst (λ (ls : List ℕ). FaceRound M c.args.f ls c.args.rows.now c.loops.rows c.loops.end) c.in-None.ensures.steps.0 c.loops.invariant)
