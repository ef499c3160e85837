use Rattle.split_checks.proofs.Prelude.{◌∙◌, true, false, ◌&&◌, List, [], ◌∷◌, ◌++◌, sym, ap, append-nil, HalfEdge, or_false, or_true, and_false, Looked}
use Rattle.split_checks.proofs.cut_places_laws.Met.{one_met, across_is, place_across, place_on, place_off, touch_place, touch_on, touch_off}
use Rattle.split_checks.proofs.cut_places.looking.look_at.Goals.{then-h+in_ok-push, else-h}
use Rattle.split_checks.proofs.cut_places.looking.look_at.Goals as goal

pub returns-in_ok-push-2-clause-met : goal.returns-in_ok-push-2-clause-met
returns-in_ok-push-2-clause-met c =
    let M = c.args.arena.now.model in let p = c.args.plane.now in let h = c.args.h in let from = c.args.from in let to = c.args.to in let old = c.args.looked.now in
    let marked = c.mark_side.ensures in
    let crossing = sym c.opposite.ensures ∙ c.if-opposite.true in
    let place = place_across M p h from to c.requires.from c.requires.to crossing in
    elim c.if-h.branch [
      | then-h+in_ok-push w ↦ one_met M p h from c.requires.from old _ true true false
          (sym (across_is M p h from to c.requires.from c.requires.to true crossing ∙ ap (λ b. b && true) w.if-h.true)) place (touch_place M p h from to c.requires.from c.requires.to place)
          (ap (λ (o : Looked). o.above) w.looked-is ∙ ap (λ (o : Looked). o.above) marked) (ap (λ (o : Looked). o.below) w.looked-is ∙ ap (λ (o : Looked). o.below) marked)
          (ap (λ (o : Looked). o.touched) w.looked-is ∙ ap (λ (o : Looked). o.touched) marked ∙ sym (or_false old.touched))
          (ap (λ (o : Looked). o.edges.items) w.looked-is ∙ w.in_ok-push.ensures.items ∙ ap (λ (o : Looked). o.edges.items ++ h.edge ∷ []) marked)
          (c.in_ok-push-2.ensures.items ∙ ap (λ (hs : List HalfEdge). hs ++ h ∷ []) (ap (λ (o : Looked). o.places.items) w.looked-is ∙ ap (λ (o : Looked). o.places.items) marked))
      | else-h w ↦ one_met M p h from c.requires.from old _ false true false
          (sym (across_is M p h from to c.requires.from c.requires.to true crossing ∙ ap (λ b. b && true) w.if-h.false)) place (touch_place M p h from to c.requires.from c.requires.to place)
          (ap (λ (o : Looked). o.above) w.looked-is ∙ ap (λ (o : Looked). o.above) marked) (ap (λ (o : Looked). o.below) w.looked-is ∙ ap (λ (o : Looked). o.below) marked)
          (ap (λ (o : Looked). o.touched) w.looked-is ∙ ap (λ (o : Looked). o.touched) marked ∙ sym (or_false old.touched))
          (ap (λ (o : Looked). o.edges.items) w.looked-is ∙ ap (λ (o : Looked). o.edges.items) marked ∙ sym (append-nil old.edges.items))
          (c.in_ok-push-2.ensures.items ∙ ap (λ (hs : List HalfEdge). hs ++ h ∷ []) (ap (λ (o : Looked). o.places.items) w.looked-is ∙ ap (λ (o : Looked). o.places.items) marked))
    ]

pub returns-in_ok-push-3-clause-met : goal.returns-in_ok-push-3-clause-met
returns-in_ok-push-3-clause-met c =
    let M = c.args.arena.now.model in let p = c.args.plane.now in let h = c.args.h in let from = c.args.from in let to = c.args.to in let old = c.args.looked.now in
    let marked = c.mark_side.ensures in
    let crossing = sym c.opposite.ensures ∙ c.if-opposite.false in let on = sym c.same.ensures ∙ c.if-same.true in
    let place = place_on M p h from to c.requires.from c.requires.to crossing on true (sym c.if-passes.true ∙ c.passes.ensures.is) in
    one_met M p h from c.requires.from old _ false true false
    (sym (and_false h.first) ∙ sym (across_is M p h from to c.requires.from c.requires.to false crossing)) place (touch_place M p h from to c.requires.from c.requires.to place)
    (ap (λ (o : Looked). o.above) marked) (ap (λ (o : Looked). o.below) marked) (ap (λ (o : Looked). o.touched) marked ∙ sym (or_false old.touched))
    (ap (λ (o : Looked). o.edges.items) marked ∙ sym (append-nil old.edges.items))
    (c.in_ok-push-3.ensures.items ∙ ap (λ (o : Looked). o.places.items ++ h ∷ []) marked)

pub returns-else-passes-clause-met : goal.returns-else-passes-clause-met
returns-else-passes-clause-met c =
    let M = c.args.arena.now.model in let p = c.args.plane.now in let h = c.args.h in let from = c.args.from in let to = c.args.to in let old = c.args.looked.now in
    let marked = c.mark_side.ensures in
    let crossing = sym c.opposite.ensures ∙ c.if-opposite.false in let on = sym c.same.ensures ∙ c.if-same.true in
    let place = place_on M p h from to c.requires.from c.requires.to crossing on false (sym c.if-passes.false ∙ c.passes.ensures.is) in
    one_met M p h from c.requires.from old _ false false true
    (sym (and_false h.first) ∙ sym (across_is M p h from to c.requires.from c.requires.to false crossing)) place (touch_on M p h from to c.requires.from c.requires.to on place)
    (ap (λ (o : Looked). o.above) marked) (ap (λ (o : Looked). o.below) marked) (sym (or_true old.touched))
    (ap (λ (o : Looked). o.edges.items) marked ∙ sym (append-nil old.edges.items))
    (ap (λ (o : Looked). o.places.items) marked ∙ sym (append-nil old.places.items))

pub returns-else-same-clause-met : goal.returns-else-same-clause-met
returns-else-same-clause-met c =
    let M = c.args.arena.now.model in let p = c.args.plane.now in let h = c.args.h in let from = c.args.from in let to = c.args.to in let old = c.args.looked.now in
    let marked = c.mark_side.ensures in
    let crossing = sym c.opposite.ensures ∙ c.if-opposite.false in let on = sym c.same.ensures ∙ c.if-same.false in
    one_met M p h from c.requires.from old _ false false false
    (sym (and_false h.first) ∙ sym (across_is M p h from to c.requires.from c.requires.to false crossing)) (place_off M p h from to c.requires.from c.requires.to crossing on) (touch_off M p h from to c.requires.from c.requires.to on)
    (ap (λ (o : Looked). o.above) marked) (ap (λ (o : Looked). o.below) marked) (ap (λ (o : Looked). o.touched) marked ∙ sym (or_false old.touched))
    (ap (λ (o : Looked). o.edges.items) marked ∙ sym (append-nil old.edges.items))
    (ap (λ (o : Looked). o.places.items) marked ∙ sym (append-nil old.places.items))
