use Rattle.euler_conditions.proofs.Prelude.{◌<◌, length, get_or, sym, ap, subst, ◌∙◌, arith, inl, inr, eqb_tells, lists, FaceStaysIn, listed_at, place_of}
use Rattle.euler_conditions.proofs.Borders.{out_torn, none_torn}
use Rattle.euler_conditions.proofs.torn.is_torn.Goals as goal

pub face_leads_out-requires-clause-there : goal.face_leads_out-requires-clause-there
face_leads_out-requires-clause-there c =
    let fs = c.args.listed_faces.now in let inside : c.faces.i < length fs = omega arith in
    c.requires.there c.get.result (ap (lists fs) c.get.ensures ∙ listed_at fs c.faces.i inside)

pub returns-then-face_leads_out : goal.returns-then-face_leads_out
returns-then-face_leads_out c =
    let fs = c.args.listed_faces.now in let inside : c.faces.i < length fs = omega arith in
    out_torn c.args.arena.now.model c.requires.ready.sound fs c.get.result (ap (lists fs) c.get.ensures ∙ listed_at fs c.faces.i inside) (c.face_leads_out.ensures.out c.if-face_leads_out.true)

pub faces-preserved : goal.faces-preserved
faces-preserved c =
    let M = c.args.arena.now.model in let fs = c.args.listed_faces.now in
    λ k l. elim (eqb_tells k c.faces.i) [
      | inl e ↦ subst (FaceStaysIn M fs) (c.get.ensures ∙ ap (λ j. get_or fs j 0) (sym e.1)) (c.face_leads_out.ensures.within c.if-face_leads_out.false)
      | inr e ↦ c.faces.invariant k (omega arith)
    ]

pub returns : goal.returns
returns c =
    let M = c.args.arena.now.model in let fs = c.args.listed_faces.now in
    none_torn M c.requires.ready.sound fs (λ f l. let p = place_of fs f l in subst (FaceStaysIn M fs) p.2 (c.faces.invariant p.0 (omega (arith, p.1))))
