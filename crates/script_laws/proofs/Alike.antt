-- Machines from which lines are answered alike.
use Rattle.script_laws.proofs.Prelude.{◌≡◌, ◌≢◌, inr, ℕ, Bool, true, false, cond, List, [], ◌∷◌, ◌++◌, codes, Option, Some, None, Result, Ok, Err, refl, sym, ap, subst, ◌∙◌, arith, true≢false, Refusal, Model, Machine, held, undo_refusal, undo, request_of, lines_of, words, Request, Fault, listing, answer_text, moved, obeyed, answered, answer_of, machine_after, output_from, Told, Listing, EndsLine, ended, oks, Adds, UndoAndRedoCanBeLeftOut, UndoneLinesCanBeLeftOut, Done}
use Rattle.script_reader.specs.Newline as newline
use Rattle.call_types.specs.declared.command.Command.TheVariants as command
use Rattle.script_reader.specs.declared.command.Request.TheVariants as request
use Rattle.solid_listing.specs.declared.told.Told.TheVariants as told
use Rattle.script_laws.proofs.Behind.{after, reached, reached_append, adds_from, from_adds, alike, lines_append, ends_append, ends_line}
use Rattle.script_laws.proofs.Kept.{done_text, one_line, one_answer}
use Rattle.script_laws.proofs.Spelled.{undoing, redoing, no_undo, no_redo}
use Rattle.script_laws.proofs.Texts.{is_ok, answer_oks}
use Rattle.script_laws.proofs.Undone.{machine, undo_done, redo_done, answer_is, undo_spelled, asked_other, Without}

-- they hold one model, and where undo may come, the same models stand behind it
pub record Alike (back : Bool) (s t : Machine) : Type 0 where
  pub present : s.present ≡ t.present
  pub behind : back ≡ true → s.past ≡ t.past

record SameTurn (back : Bool) (x y : Told × Machine) : Type 0 where
  answer : x.0 ≡ y.0
  machines : Alike back x.1 y.1

moved_alike : (back : Bool) (o : Option Refusal) (s t n m : Machine) → Alike back s t → Alike back n m → SameTurn back (moved o s n) (moved o t m)
moved_alike back None s t n m h k = record { answer = refl; machines = k }
moved_alike back (Some r) s t n m h k = record { answer = refl; machines = h }

undo_goes_alike : (p : List Model) (M : Model) (f g : List Model) → Alike true (undo (machine p M f)) (undo (machine p M g))
undo_goes_alike [] M f g = record { present = refl; behind = λ _. refl }
undo_goes_alike (N ∷ p) M f g = record { present = refl; behind = λ _. refl }

undo_alike : (p : List Model) (M : Model) (f g : List Model) → SameTurn true (obeyed (machine p M f) undoing) (obeyed (machine p M g) undoing)
undo_alike p M f g = moved_alike true (undo_refusal (machine p M f)) (machine p M f) (machine p M g) (undo (machine p M f)) (undo (machine p M g)) (record { present = refl; behind = λ _. refl }) (undo_goes_alike p M f g)

undo_either : (back : Bool) (M : Model) (p f q g : List Model) → (back ≡ true → p ≡ q) → (back ≡ false → ⊥) → SameTurn back (obeyed (machine p M f) undoing) (obeyed (machine q M g) undoing)
undo_either true M p f q g h no_undo = subst (λ (r : List Model). SameTurn true (obeyed (machine p M f) undoing) (obeyed (machine r M g) undoing)) (h refl) (undo_alike p M f g)
undo_either false M p f q g h no_undo = absurd (no_undo refl)

module _ (back : Bool) (M : Model) (p f q g : List Model) (h : back ≡ true → p ≡ q) where
  same : Alike back (machine p M f) (machine q M g)
  same = record { present = refl; behind = h }

  stay : (a : Told) → SameTurn back (a, machine p M f) (a, machine q M g)
  stay a = record { answer = refl; machines = same }

  acted : (o : Option Refusal) (N : Model) → SameTurn back (moved o (machine p M f) (machine (M ∷ p) N [])) (moved o (machine q M g) (machine (M ∷ q) N []))
  acted o N = moved_alike back o _ _ _ _ same (record { present = refl; behind = λ b. ap (λ (ms : List Model). M ∷ ms) (h b) })

  obeyed_alike : (r : Request) → r ≢ redoing → (back ≡ false → r ≢ undoing) → SameTurn back (obeyed (machine p M f) r) (obeyed (machine q M g) r)
  obeyed_alike (request.Over o ps) r u = acted _ _
  obeyed_alike (request.Give (command.Change c)) r u = acted _ _
  obeyed_alike (request.Give command.Undo) r u = undo_either back M p f q g h (λ b. u b refl)
  obeyed_alike (request.Give command.Redo) r u = absurd (r refl)
  obeyed_alike c r u = stay _

  answered_alike : (r : Result Request Fault) → r ≢ Ok redoing → (back ≡ false → r ≢ Ok undoing) → SameTurn back (answered (machine p M f) r) (answered (machine q M g) r)
  answered_alike (Ok c) r u = obeyed_alike c (λ e. r (ap (λ (d : Request). Ok d) e)) (λ b e. u b (ap (λ (d : Request). Ok d) e))
  answered_alike (Err k) r u = stay _

all_alike : (back : Bool) (s t : Machine) (r : Result Request Fault) → Alike back s t → r ≢ Ok redoing → (back ≡ false → r ≢ Ok undoing) → SameTurn back (answered s r) (answered t r)
all_alike back s t r h k u = subst (λ (M : Model). SameTurn back (answered s r) (answered (machine t.past M t.future) r)) h.present
    (answered_alike back s.present s.past s.future t.past t.future h.behind r k u)

line_alike : (back : Bool) (s t : Machine) (line : List ℕ) → Alike back s t → words line ≢ codes "redo" ∷ [] → (back ≡ false → words line ≢ codes "undo" ∷ [])
    → (answer_of s line ≡ answer_of t line) × Alike back (machine_after s line) (machine_after t line)
unfolding answer_of machine_after
line_alike back s t line h k u = let turn = all_alike back s t (request_of line) h (no_redo line k) (λ b. no_undo line (u b)) in (turn.answer, turn.machines)

text_alike : (s t : Machine) (a : Told) → s.present ≡ t.present → answer_text s a ≡ answer_text t a
text_alike s t Listing e = ap listing e
text_alike s t a e = refl

pub lines_alike : (back : Bool) (s t : Machine) (lines : List (List ℕ)) → Alike back s t → Without (codes "redo") lines → (back ≡ false → Without (codes "undo") lines)
    → output_from false s lines ≡ output_from false t lines
lines_alike back s t [] h k u = refl
lines_alike back s t (line ∷ lines) h k u =
    let x = line_alike back s t line h k.0 (λ b. (u b).0) in
    let here : answer_text (machine_after s line) (answer_of s line) ≡ answer_text (machine_after t line) (answer_of t line) =
    text_alike (machine_after s line) (machine_after t line) (answer_of s line) x.1.present ∙ ap (answer_text (machine_after t line)) x.0 in
    ap (λ (r : List ℕ). answer_text (machine_after s line) (answer_of s line) ++ r) (lines_alike back (machine_after s line) (machine_after t line) lines x.1 k.1 (λ b. (u b).1))
    ∙ ap (λ (r : List ℕ). r ++ output_from false (machine_after t line) lines) here

-- ---- what was answered `ok`

told_ok : (b : Bool) → 1 ≡ cond {A = ℕ} b 1 0 → b ≡ true
told_ok true e = refl
told_ok false e = absurd (omega (arith, e))

is_done : (a : Told) → is_ok a ≡ true → a ≡ Done
is_done told.Done e = refl
is_done a e = absurd (true≢false (sym e))

pub answered_ok : (script line : List ℕ) → EndsLine script → newline.Lacks line → Adds script (ended line) (codes "ok\n") → answer_of (reached script) line ≡ Done
answered_ok script line h k added =
    let s = reached script in
    let text : codes "ok\n" ≡ answer_text (machine_after s line) (answer_of s line) = sym (from_adds script (ended line) (codes "ok\n") h added) ∙ one_answer s line k in
    is_done (answer_of s line) (told_ok (is_ok (answer_of s line)) (ap oks text ∙ answer_oks (machine_after s line) (answer_of s line)))

-- ---- a model more behind

record Forward (s : Machine) (turn : Told × Machine) : Type 0 where
  step : turn.0 ≡ Done → turn.1.past ≡ s.present ∷ s.past

moved_forward : (o : Option Refusal) (s next : Machine) → next.past ≡ s.present ∷ s.past → Forward s (moved o s next)
moved_forward None s next e = record { step = λ _. e }
moved_forward (Some r) s next e = record { step = λ x. absurd (cc x) }

other_forward : (s : Machine) (a : Told) → is_ok a ≡ false → Forward s (a, s)
other_forward s a e = record { step = λ x. absurd (true≢false (sym (ap is_ok x) ∙ e)) }

redo_forward : (p : List Model) (M : Model) (f : List Model) → Forward (machine p M f) (obeyed (machine p M f) redoing)
redo_forward p M [] = record { step = λ x. absurd (cc x) }
redo_forward p M (N ∷ f) = moved_forward _ _ _ refl

obeyed_forward : (s : Machine) (r : Request) → r ≢ undoing → Forward s (obeyed s r)
obeyed_forward s (request.Over o ps) u = moved_forward _ s _ refl
obeyed_forward s (request.Give (command.Change c)) u = moved_forward _ s _ refl
obeyed_forward s (request.Give (command.Ask q)) u = other_forward s _ (asked_other (held s) q)
obeyed_forward s (request.Give command.Undo) u = absurd (u refl)
obeyed_forward s (request.Give command.Redo) u = redo_forward s.past s.present s.future
obeyed_forward s r u = other_forward s _ refl

answered_forward : (s : Machine) (r : Result Request Fault) → r ≢ Ok undoing → Forward s (answered s r)
answered_forward s (Ok c) u = obeyed_forward s c (λ e. u (ap (λ (d : Request). Ok d) e))
answered_forward s (Err k) u = other_forward s _ refl

line_forward : (s : Machine) (line : List ℕ) → words line ≢ codes "undo" ∷ [] → answer_of s line ≡ Done → (machine_after s line).past ≡ s.present ∷ s.past
unfolding answer_of machine_after
line_forward s line u e = (answered_forward s (request_of line) (no_undo line u)).step e

-- ---- taken back

taken_back : (s t : Machine) → t.past ≡ s.present ∷ s.past → (answer_of t (codes "undo") ≡ Done) × Alike true (machine_after t (codes "undo")) s
taken_back s t e = subst (λ (ps : List Model). (answer_of (machine ps t.present t.future) (codes "undo") ≡ Done) × Alike true (machine_after (machine ps t.present t.future) (codes "undo")) s) (sym e)
    (let u = undo_done s.present s.past t.present t.future in (u.0, subst (λ (v : Machine). Alike true v s) (sym u.1) (record { present = refl; behind = λ _. refl })))

two_done : (a b : Told) (s t : Machine) → a ≡ Done → b ≡ Done → answer_text s a ++ (answer_text t b ++ []) ≡ codes "ok\nok\n"
two_done a b s t e f = ap (λ (x : Told). answer_text s x ++ (answer_text t b ++ [])) e ∙ ap (λ (x : Told). answer_text s Done ++ (answer_text t x ++ [])) f ∙ ap (λ (x : List ℕ). x ++ (x ++ [])) done_text

pub undone_lines_can_be_left_out : UndoneLinesCanBeLeftOut
undone_lines_can_be_left_out script line h k other added =
    let s = reached script in
    let t = machine_after s line in
    let both : lines_of (ended line ++ codes "undo\n") ≡ line ∷ codes "undo" ∷ [] = lines_append (ended line) (codes "undo\n") (ends_line line) ∙ ap (λ (ls : List (List ℕ)). ls ++ codes "undo" ∷ []) (one_line line k) in
    let ok = answered_ok script line h k added in
    let back = taken_back s t (line_forward s line other ok) in
    let ends : EndsLine (script ++ (ended line ++ codes "undo\n")) = ends_append script (ended line ++ codes "undo\n") h (ends_append (ended line) (codes "undo\n") (ends_line line) (ends_line (codes "undo"))) in
    let at : reached (script ++ (ended line ++ codes "undo\n")) ≡ machine_after t (codes "undo") = reached_append script (ended line ++ codes "undo\n") h ∙ ap (after s) both in (
      adds_from script (ended line ++ codes "undo\n") (codes "ok\nok\n") h (ap (output_from false s) both ∙ two_done (answer_of s line) (answer_of t (codes "undo")) t (machine_after t (codes "undo")) ok back.0),
      λ more reply lacks. alike (script ++ (ended line ++ codes "undo\n")) script more reply ends h
          (ap (λ (u : Machine). output_from false u (lines_of more)) at ∙ lines_alike true (machine_after t (codes "undo")) s (lines_of more) back.1 lacks (λ b. absurd (true≢false b))),
    )

-- ---- undone and done again

undo_redo : (p : List Model) (M : Model) (f : List Model) → answer_of (machine p M f) (codes "undo") ≡ Done
    → (output_from false (machine p M f) (lines_of (codes "undo\nredo\n")) ≡ codes "ok\nok\n") × (after (machine p M f) (lines_of (codes "undo\nredo\n")) ≡ machine p M f)
undo_redo [] M f e = absurd (cc (sym (answer_is (machine [] M f) (codes "undo") undoing undo_spelled) ∙ e))
undo_redo (N ∷ p) M f e =
    let s = machine (N ∷ p) M f in
    let u = undo_done N p M f in
    let r = redo_done p N M f in
    let t = machine_after s (codes "undo") in
    let again : answer_of t (codes "redo") ≡ Done = ap (λ (v : Machine). answer_of v (codes "redo")) u.1 ∙ r.0 in (
      two_done (answer_of s (codes "undo")) (answer_of t (codes "redo")) t (machine_after t (codes "redo")) u.0 again,
      ap (λ (v : Machine). machine_after v (codes "redo")) u.1 ∙ r.1,
    )

pub undo_and_redo_can_be_left_out : UndoAndRedoCanBeLeftOut
undo_and_redo_can_be_left_out script h added =
    let s = reached script in
    let lacks : newline.Lacks (codes "undo") = ((λ e. omega (arith, e)), ((λ e. omega (arith, e)), ((λ e. omega (arith, e)), ((λ e. omega (arith, e)), tt)))) in
    let x = undo_redo s.past s.present s.future (answered_ok script (codes "undo") h lacks added) in (
      adds_from script (codes "undo\nredo\n") (codes "ok\nok\n") h x.0,
      λ more reply _. alike (script ++ codes "undo\nredo\n") script more reply (ends_append script (codes "undo\nredo\n") h (inr (codes "undo\nredo", refl))) h
          (ap (λ (u : Machine). output_from false u (lines_of more)) (reached_append script (codes "undo\nredo\n") h ∙ x.1)),
    )
