use Rattle.split_checks.proofs.Prelude.{◌≡◌, ◌∙◌, Some, None, map, sym, ap, code, first_such, is_crossed, Touched, CutOften}
use Rattle.split_checks.specs.cut_places.Meetings.{faces_in}
use Rattle.split_checks.proofs.begin_checks_laws.Stages.{at_ok, at_err, touched_refused, often_refused, crossed_refused, none_refused}
use Rattle.split_checks.proofs.cut_places_laws.Told.{first_flaw}
use Rattle.split_checks.proofs.begin_checks.checks.check_faces.Goals as goal

pub returns-in-Some-clause-refused : goal.returns-in-Some-clause-refused
returns-in-Some-clause-refused c =
    let M = c.args.arena.now.model in let p = c.args.plane in let qs = c.args.faces.now in let hs = map code c.args.places.now in
    touched_refused M p (faces_in qs) c.in-Some.f (c.in-Some.ensures ∙ first_flaw M p Touched qs hs c.requires.told) ∙ ap Some (sym c.refusal.ensures)

pub returns-in-Some-first_flawed-clause-refused : goal.returns-in-Some-first_flawed-clause-refused
returns-in-Some-first_flawed-clause-refused c =
    let M = c.args.arena.now.model in let p = c.args.plane in let qs = c.args.faces.now in let hs = map code c.args.places.now in
    often_refused M p (faces_in qs) c.in-Some-first_flawed.f (c.in_default.ensures ∙ first_flaw M p Touched qs hs c.requires.told) (c.in-Some-first_flawed.ensures ∙ first_flaw M p CutOften qs hs c.requires.told)
    ∙ ap Some (sym c.refusal-in-Some-first_flawed.ensures)

pub returns-in-Ok-clause-accepted : goal.returns-in-Ok-clause-accepted
returns-in-Ok-clause-accepted c =
    let M = c.args.arena.now.model in let p = c.args.plane in let qs = c.args.faces.now in let hs = map code c.args.places.now in
    none_refused M p (faces_in qs) (c.in_default.ensures ∙ first_flaw M p Touched qs hs c.requires.told) (c.in_default-first_flawed.ensures ∙ first_flaw M p CutOften qs hs c.requires.told)
    (at_ok c.in_ok-paired.field-0 c.in-Ok.paired (λ _. first_such (is_crossed M p) (faces_in qs) ≡ None) c.in-Ok.is c.in_ok-paired.ensures.uncrossed)

pub returns-in-Err-clause-refused : goal.returns-in-Err-clause-refused
returns-in-Err-clause-refused c =
    let M = c.args.arena.now.model in let p = c.args.plane in let qs = c.args.faces.now in let hs = map code c.args.places.now in
    crossed_refused M p (faces_in qs) (c.in_default.ensures ∙ first_flaw M p Touched qs hs c.requires.told) (c.in_default-first_flawed.ensures ∙ first_flaw M p CutOften qs hs c.requires.told) c.in-Err.f
    (at_err c.in_ok-paired.field-0 c.in-Err.f (λ f. first_such (is_crossed M p) (faces_in qs) ≡ Some f) c.in-Err.is c.in_ok-paired.ensures.crossed) ∙ ap Some (sym c.refusal-in-Err.ensures)
