use Rattle.low_euler.proofs.Prelude.{◌++◌, ◌∷◌, [], List, ℕ, sym, ap, subst, ◌∙◌, append_assoc, faces_of, no_cons, both_empty, IsNextFace}
use Rattle.low_euler.proofs.Faces.{faces_above, next_faces, no_faces, all_met}
use Rattle.low_euler.proofs.moving.faces_of.Goals as goal

pub faces-preserved : goal.faces-preserved
faces-preserved c =
    let M = c.args.arena.now.model in
    let next = subst (IsNextFace M c.args.solid c.faces.last) c.in-Some.is c.face_after.ensures in
    let rest : List ℕ = faces_above M c.args.solid c.in-Some.face in
    ap (λ fs. fs ++ rest) c.in_ok-push.ensures.ok ∙ append_assoc c.faces.faces (c.in-Some.face ∷ []) rest
    ∙ ap (λ ks. c.faces.faces ++ ks) (sym (next_faces M c.args.solid c.faces.last c.in-Some.face next)) ∙ c.faces.invariant

pub returns-clause-listed : goal.returns-clause-listed
returns-clause-listed c =
    let M = c.args.arena.now.model in
    let none = subst (IsNextFace M c.args.solid c.faces.last) c.in_default.is c.face_after.ensures in
    all_met c.faces.faces (faces_above M c.args.solid c.faces.last) (faces_of M c.args.solid) c.faces.invariant (no_faces M c.args.solid c.faces.last none)

pub returns-in_err-push-clause-none : goal.returns-in_err-push-clause-none
returns-in_err-push-clause-none c = λ none.
    let M = c.args.arena.now.model in
    let next = subst (IsNextFace M c.args.solid c.faces.last) c.in-Some.is c.face_after.ensures in
    let listed = ap (λ ks. c.faces.faces ++ ks) (sym (next_faces M c.args.solid c.faces.last c.in-Some.face next)) ∙ c.faces.invariant ∙ none in
    absurd (no_cons _ _ (both_empty c.faces.faces _ listed).1)
