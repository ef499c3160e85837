use Rattle.session_slots.proofs.Prelude.{◌≡◌, ◌∙◌, ℕ, Option, Some, None, get_or, refl, sym, ap, subst, Console, ConsoleHeeds, Moves_faces, Op, Refusal, Stage, Told, act_of, answer_after, asked_unless, face_refusal, part_asked, part_of, shown, told_of}
use Rattle.script_running.proofs.Acting.{heeds_so, none_heeds, the_same}
use Rattle.session_slots.specs.Common.{status_of}
use Rattle.session_slots.proofs.parts.part_in.Goals as goal

-- what is told of the faces is what they ask for
parted : (o : Option Refusal) (x y : Console) (kind : ℕ) (op : Op) (g h : Stage) (a : Told) → x.stage ≡ Some g → y.stage ≡ Some h → Moves_faces o g op a h → y.answer ≡ answer_after x.answer a
    → kind ≡ status_of a → ConsoleHeeds x (asked_unless o op) y kind
unfolding ConsoleHeeds
parted None x y kind op g h a is to moved kept told = heeds_so x y kind (act_of op) g h a is to moved kept told
parted (Some r) x y kind op g h a is to moved kept told = λ k same.
    (h, to, (moved.1 ∙ the_same g k x.stage is same, kept ∙ ap (answer_after x.answer) moved.0, told ∙ ap status_of moved.0))

pub returns-in-Some : goal.returns-in-Some
returns-in-Some c =
    let x = c.args.console.now in let fs = c.args.faces.now in let t = c.args.made in let M = shown c.in-Some.stage in
    subst (λ (o : Option Stage). ConsoleHeeds x (part_asked o fs t) (record { stage = Some c.part_on-ended.new.stage; answer = c.keep_outcome.new.answer }) c.keep_outcome.result) (sym c.in-Some.is)
    (parted (face_refusal M (get_or fs 0 0)) x _ c.keep_outcome.result (part_of M fs t) c.in-Some.stage c.part_on-ended.new.stage (told_of c.part_on-ended.result) c.in-Some.is refl c.part_on-ended.ensures c.keep_outcome.ensures.kept c.keep_outcome.ensures.kind)

pub returns : goal.returns
returns c = none_heeds _ _ _ _ c.in_default.is
