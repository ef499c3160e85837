use Rattle.split_sections.proofs.Prelude.{◌∙◌, ap, sym, ℕ, List, [], ◌∷◌, ◌++◌, cond, map, length, arith, append_assoc, filter, append-nil, count, HalfEdge, code, faces_of, boundary, above, face_is_above, faces_above, low_mates, mates_met}
use Rattle.split_checks.proofs.FaceWalks.{next_face, no_face_left, faces_from_zero}
use Rattle.split_sections.proofs.section_edges_laws.Mates.{more_met}
use Rattle.split_sections.proofs.section_edges.above.look_at_faces.Goals as goal

pub faces-init : goal.faces-init
faces-init c =
    let M = c.args.arena.now.model in let p = c.args.plane in let test = face_is_above M p in let from_zero = faces_from_zero M c.requires.ready.sound c.args.s in
    record {
      sides = c.requires.sides;
      found = ap (λ (fs : List ℕ). fs ++ filter test (above 0 (faces_of M c.args.s))) c.in_ok-above.ensures.items ∙ ap (filter test) from_zero;
      mates = λ x. ap (λ (hs : List HalfEdge). count x (map code hs ++ mates_met M p (filter test (above 0 (faces_of M c.args.s))))) c.in_ok-mates.ensures.items ∙ ap (λ (fs : List ℕ). count x (mates_met M p (filter test fs))) from_zero;
    }

pub faces-smaller-in_ok-push_mates : goal.faces-smaller-in_ok-push_mates
faces-smaller-in_ok-push_mates c = let next = next_face c.args.arena.now.model c.args.s c.faces.last c.in-Some.f c.in-Some.ensures in omega (arith, ap length next)

pub faces-preserved-in_ok-push_mates : goal.faces-preserved-in_ok-push_mates
faces-preserved-in_ok-push_mates c =
    let M = c.args.arena.now.model in let p = c.args.plane in let s = c.args.s in let f = c.in-Some.f in let test = face_is_above M p in let rest = filter test (above f (faces_of M s)) in
    let left = ap (filter test) (next_face M s c.faces.last f c.in-Some.ensures) ∙ ap (λ b. cond b (f ∷ rest) rest) (sym c.is_above.ensures.is ∙ c.if-is_above.true) in
    record {
      sides = c.push_mates.ensures.sides;
      found = ap (λ (fs : List ℕ). fs ++ rest) c.in_ok-push.ensures.items ∙ append_assoc c.faces.above.items (f ∷ []) rest ∙ ap (λ (fs : List ℕ). c.faces.above.items ++ fs) (sym left) ∙ c.faces.invariant.found;
      mates = more_met (map code c.push_mates.new.mates.items) (map code c.faces.mates.items) (low_mates M p (boundary M f)) (mates_met M p rest) (mates_met M p (faces_above M p s)) c.in_ok-push_mates.ensures.mates
          (λ x. ap (λ (gs : List ℕ). count x (map code c.faces.mates.items ++ mates_met M p gs)) (sym left) ∙ c.faces.invariant.mates x);
    }

pub faces-smaller : goal.faces-smaller
faces-smaller c = let next = next_face c.args.arena.now.model c.args.s c.faces.last c.in-Some.f c.in-Some.ensures in omega (arith, ap length next)

pub faces-preserved : goal.faces-preserved
faces-preserved c =
    let M = c.args.arena.now.model in let p = c.args.plane in let s = c.args.s in let f = c.in-Some.f in let test = face_is_above M p in let rest = filter test (above f (faces_of M s)) in
    let left = ap (filter test) (next_face M s c.faces.last f c.in-Some.ensures) ∙ ap (λ b. cond b (f ∷ rest) rest) (sym c.is_above.ensures.is ∙ c.if-is_above.false) in
    record {
      sides = c.is_above.ensures.sides;
      found = ap (λ (fs : List ℕ). c.faces.above.items ++ fs) (sym left) ∙ c.faces.invariant.found;
      mates = λ x. ap (λ (gs : List ℕ). count x (map code c.faces.mates.items ++ mates_met M p gs)) (sym left) ∙ c.faces.invariant.mates x;
    }

pub returns-clause-above : goal.returns-clause-above
returns-clause-above c =
    let M = c.args.arena.now.model in let s = c.args.s in
    sym (append-nil c.faces.above.items) ∙ ap (λ (fs : List ℕ). c.faces.above.items ++ filter (face_is_above M c.args.plane) fs) (sym (no_face_left M s c.faces.last c.in_default.ensures)) ∙ c.faces.invariant.found

pub returns-clause-mates : goal.returns-clause-mates
returns-clause-mates c =
    let M = c.args.arena.now.model in let s = c.args.s in let old = map code c.faces.mates.items in
    let none = sym (append-nil old) ∙ ap (λ (gs : List ℕ). old ++ mates_met M c.args.plane (filter (face_is_above M c.args.plane) gs)) (sym (no_face_left M s c.faces.last c.in_default.ensures)) in
    λ x. ap (count x) none ∙ c.faces.invariant.mates x
