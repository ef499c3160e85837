use Rattle.std.proofs.Common.{sym, ◌∙◌}
use Rattle.solid_walks.proofs.face_walks_laws.FaceWalks.{next_face, no_face_left}
use Rattle.solid_walks.proofs.face_walks_laws.Yielded.{goes_on}
use Rattle.solid_walks.proofs.face_walks.faces.FacesIterator.next.Goals as goal

pub returns-in-Some-clause-steps : goal.returns-in-Some-clause-steps
returns-in-Some-clause-steps c = sym c.self.view_is ∙ next_face c.self.inside.arena.now.model c.self.inside.solid c.self.inside.last c.in-Some.face c.in-Some.ensures

pub returns-in-Some-clause-goes : goal.returns-in-Some-clause-goes
returns-in-Some-clause-goes c = goes_on (λ f. f) (λ _. tt) _ _ c.in-Some.face (returns-in-Some-clause-steps c)

pub returns-in-None-clause-steps : goal.returns-in-None-clause-steps
returns-in-None-clause-steps c =
    let none = sym c.self.view_is ∙ no_face_left c.self.inside.arena.now.model c.self.inside.solid c.self.inside.last c.in-None.ensures in
    (none, none)
