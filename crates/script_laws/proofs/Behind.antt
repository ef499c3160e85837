-- What comes behind a script.
use Rattle.script_laws.proofs.Prelude.{◌≡◌, inl, inr, ℕ, ◌<◌, Bool, true, false, cond, ◌↔◌, List, [], ◌∷◌, ◌++◌, length, refl, sym, ap, subst, ◌∙◌, arith, append-nil, append_assoc, ◌==◌, append_cancel_left, onto_first, Machine, start, lines_of, answer_text, answer_of, machine_after, output_from, answers, EndsLine, ended, Adds}

-- ---- lines

onto_append : (b : ℕ) (ls ms : List (List ℕ)) → 0 < length ls → onto_first b (ls ++ ms) ≡ onto_first b ls ++ ms
onto_append b [] ms some = absurd (omega arith)
onto_append b (l ∷ ls) ms some = refl

first_some : (t : Bool) (b : ℕ) (ls : List (List ℕ)) → 0 < length (cond t ([] ∷ ls) (onto_first b ls))
first_some true b ls = omega arith
first_some false b [] = omega arith
first_some false b (l ∷ ls) = omega arith

some_line : (front : List ℕ) → 0 < length (lines_of (front ++ 10 ∷ []))
some_line [] = omega arith
some_line (b ∷ front) = first_some (b == 10) b (lines_of (front ++ 10 ∷ []))

onto_either : (t : Bool) (b : ℕ) (ks ls ms : List (List ℕ)) → ks ≡ ls ++ ms → 0 < length ls → cond t ([] ∷ ks) (onto_first b ks) ≡ cond t ([] ∷ ls) (onto_first b ls) ++ ms
onto_either true b ks ls ms e some = ap (λ (xs : List (List ℕ)). [] ∷ xs) e
onto_either false b ks ls ms e some = ap (onto_first b) e ∙ onto_append b ls ms some

ended_append : (front b : List ℕ) → lines_of ((front ++ 10 ∷ []) ++ b) ≡ lines_of (front ++ 10 ∷ []) ++ lines_of b
ended_append [] b = refl
ended_append (c ∷ front) b = onto_either (c == 10) c (lines_of ((front ++ 10 ∷ []) ++ b)) (lines_of (front ++ 10 ∷ [])) (lines_of b) (ended_append front b) (some_line front)

pub lines_append : (a b : List ℕ) → EndsLine a → lines_of (a ++ b) ≡ lines_of a ++ lines_of b
lines_append a b (inl none) = rw none refl
lines_append a b (inr (front, e)) = rw e (ended_append front b)

pub ends_append : (a b : List ℕ) → EndsLine a → EndsLine b → EndsLine (a ++ b)
ends_append a b h (inl none) = subst EndsLine (sym (ap (λ (t : List ℕ). a ++ t) none ∙ append-nil a)) h
ends_append a b h (inr (front, e)) = inr (a ++ front, ap (λ (t : List ℕ). a ++ t) e ∙ sym (append_assoc a front (10 ∷ [])))

pub ends_line : (line : List ℕ) → EndsLine (ended line)
ends_line line = inr (line, refl)

-- ---- machines

-- the machine after some lines
abbrev pub after : Machine → List (List ℕ) → Machine
after s [] = s
after s (line ∷ lines) = after (machine_after s line) lines

pub after_append : (s : Machine) (xs ys : List (List ℕ)) → after s (xs ++ ys) ≡ after (after s xs) ys
after_append s [] ys = refl
after_append s (x ∷ xs) ys = after_append (machine_after s x) xs ys

pub output_append : (s : Machine) (xs ys : List (List ℕ)) → output_from false s (xs ++ ys) ≡ output_from false s xs ++ output_from false (after s xs) ys
output_append s [] ys = refl
output_append s (x ∷ xs) ys =
    let here = answer_text (machine_after s x) (answer_of s x) in
    ap (λ (t : List ℕ). here ++ t) (output_append (machine_after s x) xs ys)
    ∙ sym (append_assoc here (output_from false (machine_after s x) xs) (output_from false (after (machine_after s x) xs) ys))

-- the machine after a script
abbrev pub reached : List ℕ → Machine
reached script = after start (lines_of script)

pub reached_append : (script more : List ℕ) → EndsLine script → reached (script ++ more) ≡ after (reached script) (lines_of more)
reached_append script more h = ap (after start) (lines_append script more h) ∙ after_append start (lines_of script) (lines_of more)

-- what comes is answered from that machine on
pub answers_append : (script more : List ℕ) → EndsLine script → answers (script ++ more) ≡ answers script ++ output_from false (reached script) (lines_of more)
unfolding answers
answers_append script more h = ap (output_from false start) (lines_append script more h) ∙ output_append start (lines_of script) (lines_of more)

pub adds_from : (script more reply : List ℕ) → EndsLine script → output_from false (reached script) (lines_of more) ≡ reply → Adds script more reply
adds_from script more reply h e = answers_append script more h ∙ ap (λ (t : List ℕ). answers script ++ t) e

pub from_adds : (script more reply : List ℕ) → EndsLine script → Adds script more reply → output_from false (reached script) (lines_of more) ≡ reply
from_adds script more reply h e = append_cancel_left (answers script) (output_from false (reached script) (lines_of more)) reply (sym (answers_append script more h) ∙ e)

-- where both go on alike
pub alike : (one other more reply : List ℕ) → EndsLine one → EndsLine other → output_from false (reached one) (lines_of more) ≡ output_from false (reached other) (lines_of more) → Adds one more reply ↔ Adds other more reply
alike one other more reply h k e = (λ a. adds_from other more reply k (sym e ∙ from_adds one more reply h a), λ a. adds_from one more reply h (e ∙ from_adds other more reply k a))
