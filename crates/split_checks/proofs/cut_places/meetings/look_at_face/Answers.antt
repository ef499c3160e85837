use Rattle.split_checks.proofs.Prelude.{◌∙◌, ap, sym, subst, true, false, [], ◌∷◌, ◌++◌, refl, map, append-nil, code, boundary, corners, IsMet, unmarked, FaceMet}
use Rattle.split_checks.proofs.cut_places_laws.Met.{no_fewer, cut_back, face_done, face_told, places_told, places_added}
use Rattle.split_checks.proofs.cut_places.meetings.look_at_face.Goals as goal

pub overflow_sub-len : goal.overflow_sub-len
overflow_sub-len c =
    let M = c.args.arena.now.model in let p = c.args.plane.now in let f = c.args.f in let o = c.args.met.now.looked in let n = c.look_at_loops.new.looked in
    let met = subst (λ k. IsMet M p k n (boundary M f) (corners M f)) c.unmark.ensures c.in_ok-often.ensures.met in
    no_fewer M p (unmarked o) n (boundary M f) (corners M f) met c.len-before.result c.len.result c.len-before.ensures c.len.ensures

pub returns-in_ok-push-clause-met : goal.returns-in_ok-push-clause-met
returns-in_ok-push-clause-met c =
    let M = c.args.arena.now.model in let p = c.args.plane.now in let f = c.args.f in let old = c.args.met.now in let n = c.look_at_loops.new.looked in
    let met = subst (λ k. IsMet M p k n (boundary M f) (corners M f)) c.unmark.ensures c.in_ok-often.ensures.met in
    let told = face_told M p f old.looked n n.touched c.in_ok-often.often _ met refl c.in_ok-often.ensures.often (places_told M p f old.looked n c.len-before.result c.len.result met c.len-before.ensures c.len.ensures) in
    face_done M p f old _ n true met (sym c.if-straddles.true ∙ c.straddles.ensures) refl refl refl
    (c.in_ok-push.ensures.items ∙ ap (λ (q : FaceMet). old.faces.items ++ q ∷ []) told) (places_added M p f old.looked n met)

pub returns-else-straddles-clause-met : goal.returns-else-straddles-clause-met
returns-else-straddles-clause-met c =
    let M = c.args.arena.now.model in let p = c.args.plane.now in let f = c.args.f in let old = c.args.met.now in let n = c.look_at_loops.new.looked in
    let met = subst (λ k. IsMet M p k n (boundary M f) (corners M f)) c.unmark.ensures c.in_ok-often.ensures.met in
    face_done M p f old _ n false met (sym c.if-straddles.false ∙ c.straddles.ensures) refl refl refl
    (sym (append-nil old.faces.items))
    (ap (map code) c.truncate.ensures.items ∙ cut_back M p (unmarked old.looked) n (boundary M f) (corners M f) met c.len-before.result _ c.len-before.ensures refl ∙ sym (append-nil (map code old.looked.places.items)))
