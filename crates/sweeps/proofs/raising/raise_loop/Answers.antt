use Rattle.sweeps.proofs.Prelude.{◌∙◌, ap, sym, subst, map, code, items_of, content, face_of, is_lone, Ready, content_is, taken_of}
use Rattle.sweeps.proofs.RaisedItems as raised
use Rattle.sweeps.proofs.raising.raise_loop.Goals as goal

pub loop_items-requires-clause-held : goal.loop_items-requires-clause-held
loop_items-requires-clause-held c = ap (λ X. is_lone (content X c.args.l)) c.arena.ensures.model ∙ ap is_lone (content_is _ _ _ _ _ _ c.requires)

pub raise_items-requires : goal.raise_items-requires
raise_items-requires c =
    let are = ap (map code) c.as_slice.ensures.value ∙ c.in_ok-items.ensures ∙ ap (λ X. items_of (content X c.args.l)) c.arena.ensures.model in
    let M = c.args.draft.now.model in
    record { face = face_of M c.args.l; loop_number = c.args.l; ready = subst (Ready M (taken_of c.args.taken.now) (face_of M c.args.l) c.args.l c.args.shift) (sym are) c.requires }

pub counted_on-requires : goal.counted_on-requires
counted_on-requires c =
    let w = raised.has_room _ _ _ _ _ _ c.requires _ (c.in_ok-items.ensures ∙ ap (λ X. items_of (content X c.args.l)) c.arena.ensures.model) _ (c.len.ensures ∙ c.in_ok-items.items.ok.0) in
    record { faces_left = w.faces; loops_left = w.loops; edges_left = w.edges; vertices_left = w.vertices }
