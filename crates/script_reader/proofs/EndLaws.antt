-- Behind the last line the answer stays.
use Rattle.script_reader.proofs.Prelude.{◌≡◌, ◌≢◌, inl, inr, ℕ, true, false, List, [], ◌++◌, length, Option, refl, sym, ap, subst, ◌∙◌, arith, append-nil, nil_from_length, Lacks, has_newline, within_limit, FirstLine, Answers, unread_of, ending_of, is_ready, IsStill, Went, Ending, Open, Ended, Failed, Over, Found, Lines}
use Rattle.script_reader.specs.declared.lines.Found.TheVariants as found
use Rattle.script_reader.proofs.NewlineLaws.{Lacks-front, has-lacks, has-newline}
use Rattle.script_reader.proofs.LinesLaws.{limit_none}
use Rattle.script_reader.specs.Ends.{IsLast}

-- a text without a newline has no first line, unless the reader gave its end and the text isn't empty
no_line : (e : Ending) (text line rest : List ℕ) → Lacks text → (e ≡ Ended → text ≡ []) → ¬ FirstLine e text line rest
no_line e text line rest lacks quiet = λ f. elim f.1 [
  | inl a ↦ cc (has-lacks text lacks, ap has_newline a, has-newline line rest)
  | inr a ↦ let none : length text ≡ 0 = ap length (quiet a.3) in let same : length text ≡ length line = ap length a.0 in absurd (omega (arith, none, same, a.2))
]

-- what stands for an ending
abbrev found_at : Ending → Found
found_at Open = found.Line
found_at Ended = found.End
found_at Failed = found.Read
found_at Over = found.TooLong

only : (e : Ending) (answer : Found) (text line rest : List ℕ) → e ≢ Open → Lacks text → (e ≡ Ended → text ≡ []) → Answers answer e text line rest → answer ≡ found_at e
only e found.Line text line rest shut lacks quiet a = absurd (no_line e text line rest lacks quiet a.0)
only e found.Long text line rest shut lacks quiet a = absurd (no_line e text a.0 rest lacks quiet a.1)
only e answer text line rest shut lacks quiet a = rw a.2 refl

-- what an answer without a line leaves
pub record Leaves (answer : Found) (ending : Ending) (unread : List ℕ) : Type 0 where
  pub shut : ending ≢ Open
  pub lacks : Lacks unread
  pub quiet : ending ≡ Ended → unread ≡ []
  pub stands : answer ≡ found_at ending

leaves : (answer : Found) (e : Ending) (text line rest : List ℕ) → IsLast answer → Answers answer e text line rest → Leaves answer e rest
leaves found.Line e text line rest last a = absurd last
leaves found.Long e text line rest last a = absurd last
leaves found.End e text line rest last a = record { shut = λ o. cc (o, a.2); lacks = subst Lacks (sym a.1) tt; quiet = λ _. a.1; stands = rw a.2 refl }
leaves answer e text line rest last a = record { shut = λ o. cc (o, a.2); lacks = a.1; quiet = λ o. absurd (cc (o, a.2)); stands = rw a.2 refl }

pub ready : (e : Ending) (unread : List ℕ) → e ≢ Open → is_ready e unread ≡ true
ready Open unread ne = absurd (ne refl)
ready e unread ne = refl

pub stays : {R : Type 0} (remaining : R → Option (List ℕ)) (old mid new : Lines R) (answer again : Found) → Went remaining old mid answer → IsLast answer → Went remaining mid new again → (again ≡ answer) × IsStill mid new
stays remaining old mid new answer again w last v =
    let l = leaves answer (ending_of mid) _ _ (unread_of mid) last w.advances.answered in
    let still = v.still (ready (ending_of mid) (unread_of mid) l.shut) in
    let nothing : v.advances.given ≡ [] = nil_from_length v.advances.given (omega (arith, v.advances.counted, still.taken)) in
    let text : unread_of mid ++ within_limit mid.taken v.advances.given ≡ unread_of mid = ap (λ (xs : List ℕ). unread_of mid ++ within_limit mid.taken xs) nothing ∙ ap (λ (xs : List ℕ). unread_of mid ++ xs) (limit_none mid.taken) ∙ append-nil (unread_of mid) in
    let answered = subst (λ (e : Ending). Answers again e (unread_of mid ++ within_limit mid.taken v.advances.given) new.buffer.line new.buffer.unread) still.ending v.advances.answered in
    let second = only (ending_of mid) again (unread_of mid) new.buffer.line new.buffer.unread l.shut l.lacks l.quiet (subst (λ (xs : List ℕ). Answers again (ending_of mid) xs new.buffer.line new.buffer.unread) text answered) in
    (second ∙ sym l.stands, still)

no_whole : (answer : Found) (e : Ending) (unread more line rest : List ℕ) → IsLast answer → Answers answer e (unread ++ more) line rest → has_newline unread ≡ false
no_whole found.Line e unread more line rest last a = absurd last
no_whole found.Long e unread more line rest last a = absurd last
no_whole found.End e unread more line rest last a = has-lacks unread (Lacks-front unread more (subst Lacks (sym a.0) tt))
no_whole answer e unread more line rest last a = has-lacks unread (Lacks-front unread more a.0)

-- where no line comes, none was there to its newline
pub no_whole_line : {R : Type 0} (remaining : R → Option (List ℕ)) (old new : Lines R) (answer : Found) → IsLast answer → Went remaining old new answer → has_newline (unread_of old) ≡ false
no_whole_line remaining old new answer last w = no_whole answer (ending_of new) (unread_of old) (within_limit old.taken w.advances.given) new.buffer.line new.buffer.unread last w.advances.answered
