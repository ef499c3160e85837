use Rattle.solid_walks.proofs.Prelude.{false, ap, sym, ◌∙◌, ◌∷◌, loops_left}
use Rattle.solid_walks.proofs.face_walks_laws.RingWalks.{next_ring, no_ring}
use Rattle.solid_walks.proofs.face_walks_laws.Yielded.{goes_on}
use Rattle.solid_walks.proofs.face_walks.loops.LoopsIterator.next.Goals as goal

pub returns-then-self-clause-steps : goal.returns-then-self-clause-steps
returns-then-self-clause-steps c =
    let w = c.self.inside in
    sym c.self.view_is ∙ ap (λ b. loops_left w.arena.now.model w.face b w.last) c.if-self.true ∙ ap (λ l. l ∷ loops_left w.arena.now.model w.face false w.last) (sym c.outer.ensures)

pub returns-then-self-clause-goes : goal.returns-then-self-clause-goes
returns-then-self-clause-goes c = goes_on (λ l. l) (λ _. tt) _ _ c.outer.result (returns-then-self-clause-steps c)

pub returns-in-Some-clause-steps : goal.returns-in-Some-clause-steps
returns-in-Some-clause-steps c =
    let w = c.self.inside in
    sym c.self.view_is ∙ ap (λ b. loops_left w.arena.now.model w.face b w.last) c.if-self.false ∙ next_ring w.arena.now.model w.face w.last c.in-Some.ring c.in-Some.ensures
    ∙ ap (λ b. c.in-Some.ring ∷ loops_left w.arena.now.model w.face b c.in-Some.ring) (sym c.if-self.false)

pub returns-in-Some-clause-goes : goal.returns-in-Some-clause-goes
returns-in-Some-clause-goes c = goes_on (λ l. l) (λ _. tt) _ _ c.in-Some.ring (returns-in-Some-clause-steps c)

pub returns-in-None-clause-steps : goal.returns-in-None-clause-steps
returns-in-None-clause-steps c =
    let w = c.self.inside in
    let none = sym c.self.view_is ∙ ap (λ b. loops_left w.arena.now.model w.face b w.last) c.if-self.false ∙ no_ring w.arena.now.model w.face w.last c.in-None.ensures in (none, none)
