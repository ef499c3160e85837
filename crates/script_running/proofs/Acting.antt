-- The one session or draft of a console, and what a call does to it.
use Rattle.script_running.proofs.Prelude.{◌≡◌, ◌∙◌, ℕ, Option, Some, None, refl, sym, ap, subst, Tells, asked, shown, Command, Question, Told, Stage, Asked, Console, ConsoleHeeds, answer, answer_after, calls, counts, face_refusal, gives, is_flat, keeps, plane_of, six_volume, solid_refusal, status_of, value_or_refusal}
use Rattle.call_types.specs.declared.command.Call.{Call}
use Rattle.commands.specs.declared.stage.OpenDraft.{OpenDraft}
use Rattle.euler_operators.specs.Common.{Model}
use Rattle.euler_operators.specs.declared.Refusal.{Refusal}

pub the_same : {X : Type 0} (x y : X) (o : Option X) → o ≡ Some x → o ≡ Some y → x ≡ y
the_same x y o e f = cc

-- a call is told so, its answer is kept, and C is told its kind
pub heeds_so : (x y : Console) (kind : ℕ) (c : Call) (g h : Stage) (a : Told) → x.stage ≡ Some g → y.stage ≡ Some h → Tells g c a h → y.answer ≡ answer_after x.answer a → kind ≡ status_of a
    → ConsoleHeeds x (calls c) y kind
unfolding ConsoleHeeds
heeds_so x y kind c g h a is to tells kept told = λ k same. (h, to, (a, subst (λ (z : Stage). Tells z c a h) (the_same g k x.stage is same) tells, kept, told))

-- only an answer is kept
pub keeps_so : (x y : Console) (a : Told) (kind : ℕ) → y.stage ≡ x.stage → y.answer ≡ a → kind ≡ status_of a → ConsoleHeeds x (keeps a) y kind
unfolding ConsoleHeeds
keeps_so x y a kind stays kept told = λ g is. (g, stays ∙ is, (refl, kept, told))

-- a console without a session or draft is asked nothing
pub none_heeds : (x y : Console) (q : Asked) (kind : ℕ) → x.stage ≡ None → ConsoleHeeds x q y kind
unfolding ConsoleHeeds
none_heeds x y q kind none = λ g is. absurd (cc (sym none ∙ is))

-- a question is answered, and nothing changes
pub answered : (g : Stage) (q : Question) (M : Model) → M ≡ shown g → Tells g (Call.Give (Command.Ask q)) (asked M q) g
answered (Stage.Session s) q M is = (s, refl, (ap (λ (N : Model). asked N q) is, refl))
answered (Stage.Drafting d) q M is = (d, refl, (ap (λ (N : Model). asked N q) is, refl))

-- what a question is told is kept
value_kept : (b v : Told) (o : Option Refusal) → answer_after b v ≡ v → answer_after b (value_or_refusal (answer o v)) ≡ value_or_refusal (answer o v)
value_kept b v None e = e
value_kept b v (Some r) e = refl

pub asked_kept : (b : Told) (M : Model) (q : Question) → answer_after b (asked M q) ≡ asked M q
asked_kept b M (Question.Plane f) = value_kept b (Told.Plane (plane_of M f) (is_flat M f)) (face_refusal M f) refl
asked_kept b M (Question.Volume n) = value_kept b (Told.Volume (six_volume M n)) (solid_refusal M n) refl
asked_kept b M (Question.Count n) = value_kept b (Told.Counts (counts M n)) (solid_refusal M n) refl

-- a command that a draft hasn't changes nothing, and is told so
pub draft_lacks : (x y : Console) (c : Command) (g : Stage) (d : OpenDraft) → x.stage ≡ Some g → y.stage ≡ Some g → g ≡ Stage.Drafting d → Tells (Stage.Drafting d) (Call.Give c) Told.InDraft (Stage.Drafting d) → y.answer ≡ x.answer
    → ConsoleHeeds x (gives c) y 11
draft_lacks x y c g d is to drafts tells same = heeds_so x y 11 (Call.Give c) g g Told.InDraft is to (subst (λ (k : Stage). Tells k (Call.Give c) Told.InDraft k) (sym drafts) tells) same refl
