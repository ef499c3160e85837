use Rattle.session_slots.proofs.Prelude.{◌≡◌, ◌∙◌, ℕ, List, get_or, Option, Some, None, Ok, Err, refl, sym, ap, subst, Op, Refusal, Model, solid_of, face_refusal, answer, Stage, Told, shown, Tells, act_of, told_of, part_of, Moves_faces}
use Rattle.session_slots.proofs.Queried.{is_refused, is_told}
use Rattle.session_slots.proofs.parts.part_on.Goals as goal

pub returns-in-Err : goal.returns-in-Err
returns-in-Err c =
    let fs = c.args.faces.now in let f = get_or fs 0 0 in let g = c.args.stage.now in let r = c.in-Err.refusal in
    let no_face : face_refusal (shown g) f ≡ Some r = subst (λ (M : Model). face_refusal M f ≡ Some r) c.arena.ensures.model (is_refused (face_refusal c.arena.result.now.model f) _ r c.in-Err.ensures) in
    subst (λ (o : Option Refusal). Moves_faces o g (part_of (shown g) fs c.args.made) (Told.Refused r) g) (sym no_face) (refl, refl)

-- the face is one, and the operator takes the faces from its solid
parted : (M : Model) (N : Model) (f from made : ℕ) (fs list : List ℕ) → M ≡ N → Ok from ≡ answer (face_refusal M f) (solid_of M f) → list ≡ fs
    → (face_refusal N f ≡ None) × (Op.Part from made list ≡ Op.Part (solid_of N f) made fs)
parted M N f from made fs list same told listed =
    let t = is_told (face_refusal M f) (solid_of M f) from told in
    let from_is : from ≡ solid_of N f = t.1 ∙ ap (λ (K : Model). solid_of K f) same in
    (subst (λ (K : Model). face_refusal K f ≡ None) same t.0, λ i. Op.Part (from_is i) made (listed i))

-- what the operator is told is told of the faces
moved : (g h : Stage) (f : ℕ) (op parts : Op) (a : Told) → (face_refusal (shown g) f ≡ None) × (op ≡ parts) → Tells g (act_of op) a h → Moves_faces (face_refusal (shown g) f) g parts a h
moved g h f op parts a is told =
    subst (λ (o : Option Refusal). Moves_faces o g parts a h) (sym is.0) (subst (λ (p : Op). Tells g (act_of p) a h) is.1 told)

pub returns-in-Ok-listed : goal.returns-in-Ok-listed
returns-in-Ok-listed c =
    let fs = c.args.faces.now in let f = get_or fs 0 0 in let g = c.args.stage.now in
    moved g c.act.new.stage f _ (part_of (shown g) fs c.args.made) (told_of c.act.result)
    (parted c.arena.result.now.model (shown g) f c.in-Ok.from c.args.made fs c.in-Ok-listed.list c.arena.ensures.model c.in-Ok.ensures c.in-Ok-listed.ensures) c.act.ensures

pub returns-in-Err-listed : goal.returns-in-Err-listed
returns-in-Err-listed c =
    let fs = c.args.faces.now in let f = get_or fs 0 0 in let g = c.args.stage.now in
    moved g g f _ (part_of (shown g) fs c.args.made) (told_of (Err c.unlisted.result))
    (parted c.arena.result.now.model (shown g) f c.in-Ok.from c.args.made fs fs c.arena.ensures.model c.in-Ok.ensures refl) c.unlisted.ensures
