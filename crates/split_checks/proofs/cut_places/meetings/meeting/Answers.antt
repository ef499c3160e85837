use Rattle.split_checks.proofs.Prelude.{ap, sym, subst, ℕ, List, length, arith, IsPermutation, faces_of, above}
use Rattle.solid_measure.proofs.solid_checks_laws.FaceWalks.{next_face, no_face_left, faces_from_zero}
use Rattle.split_checks.proofs.cut_places_laws.Met.{FacesWalked, faces_begin, faces_on, faces_end}
use Rattle.split_checks.proofs.cut_places_laws.Sorted.{sorted_crossings}
use Rattle.split_checks.proofs.cut_places.meetings.meeting.Goals as goal

pub faces-init : goal.faces-init
faces-init c =
    let M = c.args.arena.now.model in let p = c.args.plane in let s = c.args.s in let met = c.nothing_met-met.result in let e = c.nothing_met-met.ensures in
    record {
      sides = c.requires.sides;
      walked = subst (λ (fs : List ℕ). FacesWalked M p met fs (faces_of M s)) (sym (faces_from_zero M c.requires.ready.sound s)) (faces_begin M p met (faces_of M s) e.above e.below e.edges e.faces e.places);
    }

pub faces-smaller : goal.faces-smaller
faces-smaller c = let next = next_face c.args.arena.now.model c.args.s c.faces.last c.in-Some.f c.in-Some.ensures in omega (arith, ap length next)

pub faces-preserved : goal.faces-preserved
faces-preserved c =
    let M = c.args.arena.now.model in let p = c.args.plane in let s = c.args.s in let f = c.in-Some.f in
    record {
      sides = c.look_at_face.ensures.sides;
      walked = faces_on M p c.faces.met c.look_at_face.new.met f (above f (faces_of M s)) (faces_of M s)
          (subst (λ (fs : List ℕ). FacesWalked M p c.faces.met fs (faces_of M s)) (next_face M s c.faces.last f c.in-Some.ensures) c.faces.invariant.walked) c.in_ok-look_at_face.ensures.met;
    }

pub returns-clause-met : goal.returns-clause-met
returns-clause-met c =
    let M = c.args.arena.now.model in let s = c.args.s in
    let m = faces_end M c.args.plane c.faces.met (above c.faces.last (faces_of M s)) (faces_of M s) c.faces.invariant.walked (no_face_left M s c.faces.last c.in_default.ensures) in
    record {
      above = m.above;
      below = m.below;
      edges = sorted_crossings M c.requires.ready.sound s c.args.plane c.sort.new.self.items (subst (λ es. IsPermutation es c.sort.new.self.items) m.edges c.sort.ensures.permutation) c.in_ok-sort.ensures.sorted;
      faces = m.faces;
      places = m.places;
    }
