-- Each answer is the next line of the bytes.
use Rattle.script_reader.proofs.Prelude.{◌≡◌, ◌≢◌, inl, inr, ℕ, suc, ◌+◌, ◌-◌, ◌<◌, ◌≤◌, true, List, [], ◌∷◌, ◌++◌, length, refl, sym, ap, subst, ◌∙◌, arith, append_assoc, length-append, length-take, take_all, Option, append-nil, append_cancel_right, nil_from_length, Consumes-nil, Consumes-trans, Consumes, IsAtEnd, lines_of, with_newlines, within_limit, FirstLine, Lacks, reader_of, taken_of, unread_of, line_of, has_line, IsFresh, IsStill, Went, Ending, Open, Ended, Over, Found, Lines}
use Rattle.script_reader.specs.Script.{Reading, HasRead, IsReadOut, BreaksOff, to_come}
use Rattle.script_reader.specs.declared.lines.Found.TheVariants as found
use Rattle.script_reader.proofs.LinesLaws.{limit_append, limit_none}
use Rattle.script_reader.proofs.LinesOf.{first_line, last_line, ended_text, with_newlines-append}
use Rattle.script_reader.proofs.EndLaws.{ready}

-- ---- over the bytes alone

-- bytes that were read stand behind the unread ones
reads : (first before now : Option (List ℕ)) (taken count : ℕ) (unread given : List ℕ) (was ending : Ending) (heard : List (List ℕ)) → Reading first before taken unread was heard
    → Consumes before now given → count ≡ taken + length given → (was ≡ Ended → (ending ≡ Ended) × (given ≡ [])) → (ending ≡ Ended → IsAtEnd now) → Reading first now count (unread ++ within_limit taken given) ending heard
reads first before now taken count unread given was ending heard r c k still end = record {
  given = r.given ++ given;
  consumed = Consumes-trans first before now r.given given r.consumed c;
  counted = simp length-append (omega (arith, r.counted, k));
  text = λ future guard.
      let more = within_limit taken given in
      let all : within_limit 0 (r.given ++ given) ++ future ≡ within_limit 0 r.given ++ (more ++ future) =
      ap (λ (xs : List ℕ). xs ++ future) (limit_append 0 r.given given ∙ ap (λ (m : ℕ). within_limit 0 r.given ++ within_limit m given) (omega (arith, r.counted))) ∙ append_assoc (within_limit 0 r.given) more future in
      let quiet : was ≡ Ended → more ++ future ≡ [] = λ e. ap (λ (xs : List ℕ). within_limit taken xs ++ future) (still e).1 ∙ ap (λ (xs : List ℕ). xs ++ future) (limit_none taken) ∙ guard (still e).0 in
      ap lines_of all ∙ r.text (more ++ future) quiet ∙ ap (λ (xs : List ℕ). heard ++ lines_of xs) (sym (append_assoc unread more future));
  at_end = end;
}

first_of_text : (ending : Ending) (text line rest future : List ℕ) → FirstLine ending text line rest → (ending ≡ Ended → future ≡ []) → lines_of (text ++ future) ≡ line ∷ lines_of (rest ++ future)
first_of_text ending text line rest future f guard = elim f.1 [
  | inl e ↦ ap (λ (xs : List ℕ). lines_of (xs ++ future)) e ∙ ap lines_of (append_assoc line (10 ∷ rest) future) ∙ first_line line (rest ++ future) f.0
  | inr e ↦
      let nothing : future ≡ [] = guard e.3 in
      let left : text ++ future ≡ line = ap (λ (xs : List ℕ). text ++ xs) nothing ∙ append-nil text ∙ e.0 in
      let after : rest ++ future ≡ [] = ap (λ (xs : List ℕ). xs ++ future) e.1 ∙ nothing in
      ap lines_of left ∙ last_line line f.0 e.2 ∙ ap (λ (xs : List ℕ). line ∷ lines_of xs) (sym after)
]

-- the first line of the unread bytes was heard
hears : (first now : Option (List ℕ)) (taken : ℕ) (text line rest : List ℕ) (ending : Ending) (heard : List (List ℕ)) → Reading first now taken text ending heard → FirstLine ending text line rest → Reading first now taken rest ending (heard ++ line ∷ [])
hears first now taken text line rest ending heard r f = record {
  given = r.given;
  consumed = r.consumed;
  counted = r.counted;
  text = λ future guard.
      r.text future guard ∙ ap (λ (ls : List (List ℕ)). heard ++ ls) (first_of_text ending text line rest future f guard) ∙ sym (append_assoc heard (line ∷ []) (lines_of (rest ++ future)));
  at_end = r.at_end;
}

-- the lines of the bytes so far
pub so_far : (first now : Option (List ℕ)) (taken : ℕ) (unread : List ℕ) (ending : Ending) (heard : List (List ℕ)) (r : Reading first now taken unread ending heard) → lines_of (within_limit 0 r.given) ≡ heard ++ lines_of unread
so_far first now taken unread ending heard r =
    ap lines_of (sym (append-nil (within_limit 0 r.given))) ∙ r.text [] (λ _. refl) ∙ ap (λ (xs : List ℕ). heard ++ lines_of xs) (append-nil unread)

-- where more may come, each line that was heard has its newline
heard_text : (G unread : List ℕ) (heard : List (List ℕ)) → lines_of (G ++ 10 ∷ []) ≡ heard ++ lines_of (unread ++ 10 ∷ []) → G ≡ with_newlines heard ++ unread
heard_text G unread heard e =
    append_cancel_right G (with_newlines heard ++ unread) (10 ∷ [])
    (sym (ended_text G) ∙ ap with_newlines e ∙ with_newlines-append heard (lines_of (unread ++ 10 ∷ []))
    ∙ ap (λ (xs : List ℕ). with_newlines heard ++ xs) (ended_text unread) ∙ sym (append_assoc (with_newlines heard) unread (10 ∷ [])))

-- ---- over the calls of `advance`

-- where more may be read, the bytes so far are the lines that were heard, each with its newline, and what is unread
pub open_text : {R : Type 0} (remaining : R → Option (List ℕ)) (first : Option (List ℕ)) (lines : Lines R) (heard : List (List ℕ)) (h : HasRead remaining first lines heard) → lines.ending ≡ Open → h.given ≡ with_newlines heard ++ lines.buffer.unread
unfolding within_limit
open_text remaining first lines heard h opened =
    let within : length h.given ≤ 67108864 = omega (arith, h.counted, lines.within (λ o. cc (o, opened))) in
    sym (take_all (67108864 - 0) h.given (omega (arith, within))) ∙ heard_text (within_limit 0 h.given) lines.buffer.unread heard (h.text (10 ∷ []) (λ e. absurd (cc (e, opened))))

-- where the end was reached before, nothing is read
still_ended : {R : Type 0} (old new : Lines R) (given : List ℕ) → new.taken ≡ old.taken + length given → (has_line old ≡ true → IsStill old new) → old.ending ≡ Ended → (new.ending ≡ Ended) × (given ≡ [])
still_ended old new given count still e =
    let h = still (ready old.ending old.buffer.unread (λ o. cc (o, e))) in
    (h.ending ∙ e, nil_from_length given (omega (arith, count, h.taken)))

end_kept : {R : Type 0} (remaining : R → Option (List ℕ)) (old new : Lines R) → (old.ending ≡ Ended → IsAtEnd (remaining old.reader)) → (old.ending ≡ Open → new.ending ≡ Ended → IsAtEnd (remaining new.reader)) → (has_line old ≡ true → IsStill old new)
    → (e : Ending) → old.ending ≡ e → new.ending ≡ Ended → IsAtEnd (remaining new.reader)
end_kept remaining old new was came still Open e f = came e f
end_kept remaining old new was came still Ended e f = subst (λ r. IsAtEnd (remaining r)) (sym (still (ready old.ending old.buffer.unread (λ o. cc (o, e)))).reader) (was e)
end_kept remaining old new was came still ending e f = absurd (cc (e, f, (still (ready old.ending old.buffer.unread (λ o. cc (o, e)))).ending))

-- what a call has before it: the bytes that were unread, and those that it read
goes : {R : Type 0} (remaining : R → Option (List ℕ)) (first : Option (List ℕ)) (old new : Lines R) (answer : Found) (heard : List (List ℕ)) → HasRead remaining first old heard → (w : Went remaining old new answer)
    → Reading first (remaining new.reader) new.taken (old.buffer.unread ++ within_limit old.taken w.advances.given) new.ending heard
goes remaining first old new answer heard h w =
    let a = w.advances in
    reads first (remaining old.reader) (remaining new.reader) old.taken new.taken old.buffer.unread a.given old.ending new.ending heard h a.consumed a.counted
    (still_ended old new a.given a.counted w.still) (end_kept remaining old new h.at_end w.end w.still old.ending refl)

pub has_begun : {R : Type 0} (remaining : R → Option (List ℕ)) (given : R) (lines : Lines R) → IsFresh given lines → HasRead remaining (remaining given) lines []
has_begun remaining given lines f = record {
  given = [];
  consumed = subst (λ r. Consumes (remaining given) (remaining r) []) (sym f.reader) (Consumes-nil (remaining given));
  counted = f.taken;
  text = λ future _. ap (λ (xs : List ℕ). lines_of (xs ++ future)) (limit_none 0) ∙ ap (λ (xs : List ℕ). lines_of (xs ++ future)) (sym f.unread);
  at_end = λ e. absurd (cc (e, f.ending));
}

-- the next line is the line of the answer
pub has_line_more : {R : Type 0} (remaining : R → Option (List ℕ)) (first : Option (List ℕ)) (old new : Lines R) (heard : List (List ℕ)) → HasRead remaining first old heard → Went remaining old new found.Line
    → HasRead remaining first new (heard ++ line_of new ∷ []) × (length (line_of new) ≤ 65536)
has_line_more remaining first old new heard h w =
    let a = w.advances in
    (hears first (remaining new.reader) new.taken (old.buffer.unread ++ within_limit old.taken a.given) new.buffer.line new.buffer.unread new.ending heard (goes remaining first old new found.Line heard h w) a.answered.0, a.answered.1)

-- the next line is past the limit
pub has_long_more : {R : Type 0} (remaining : R → Option (List ℕ)) (first : Option (List ℕ)) (old new : Lines R) (heard : List (List ℕ)) → HasRead remaining first old heard → Went remaining old new found.Long
    → (long : List ℕ) × HasRead remaining first new (heard ++ long ∷ []) × (65536 < length long)
has_long_more remaining first old new heard h w =
    let a = w.advances in
    (a.answered.0, hears first (remaining new.reader) new.taken (old.buffer.unread ++ within_limit old.taken a.given) a.answered.0 new.buffer.unread new.ending heard (goes remaining first old new found.Long heard h w) a.answered.1, a.answered.2)

-- there is no further line
pub is_read_out : {R : Type 0} (remaining : R → Option (List ℕ)) (first : Option (List ℕ)) (old new : Lines R) (heard : List (List ℕ)) → HasRead remaining first old heard → Went remaining old new found.End
    → IsReadOut first (remaining (reader_of new)) heard
is_read_out remaining first old new heard h w =
    let a = w.advances in
    let text = old.buffer.unread ++ within_limit old.taken a.given in
    let r = goes remaining first old new found.End heard h w in
    let ended : new.ending ≡ Ended = a.answered.2 in
    record {
      given = r.given;
      consumed = r.consumed;
      lines = so_far first (remaining new.reader) new.taken text new.ending heard r ∙ ap (λ (xs : List ℕ). heard ++ lines_of xs) a.answered.0 ∙ append-nil heard;
      within = omega (arith, r.counted, new.within (λ o. cc (o, ended)));
      end = r.at_end ended;
    }

-- no further line comes to its end
breaks_off : {R : Type 0} (remaining : R → Option (List ℕ)) (first : Option (List ℕ)) (old new : Lines R) (heard : List (List ℕ)) (answer : Found) → HasRead remaining first old heard → (w : Went remaining old new answer)
    → Lacks (old.buffer.unread ++ within_limit old.taken w.advances.given) → new.ending ≢ Ended → (answer ≡ found.TooLong → new.taken ≡ 67108865) → BreaksOff first (remaining (reader_of new)) heard answer
breaks_off remaining first old new heard answer h w lacks shut over =
    let text = old.buffer.unread ++ within_limit old.taken w.advances.given in
    let r = goes remaining first old new answer heard h w in
    record {
      given = r.given;
      consumed = r.consumed;
      rest = text;
      lacks = lacks;
      text = heard_text (within_limit 0 r.given) text heard (r.text (10 ∷ []) (λ e. absurd (shut e)));
      lines = so_far first (remaining new.reader) new.taken text new.ending heard r;
      too_long = λ e. sym r.counted ∙ over e;
    }

-- a read failed
pub breaks_at_fault : {R : Type 0} (remaining : R → Option (List ℕ)) (first : Option (List ℕ)) (old new : Lines R) (heard : List (List ℕ)) → HasRead remaining first old heard → Went remaining old new found.Read
    → BreaksOff first (remaining (reader_of new)) heard found.Read
breaks_at_fault remaining first old new heard h w =
    let a = w.advances.answered in breaks_off remaining first old new heard found.Read h w a.0 (λ e. cc (e, a.2)) (λ e. absurd (cc e))

-- the script is too long
pub breaks_at_limit : {R : Type 0} (remaining : R → Option (List ℕ)) (first : Option (List ℕ)) (old new : Lines R) (heard : List (List ℕ)) → HasRead remaining first old heard → Went remaining old new found.TooLong
    → BreaksOff first (remaining (reader_of new)) heard found.TooLong
breaks_at_limit remaining first old new heard h w =
    let a = w.advances.answered in breaks_off remaining first old new heard found.TooLong h w a.0 (λ e. cc (e, a.2)) (λ e. new.over a.2)

-- ---- how many lines there can be

limit_len : (taken : ℕ) (given : List ℕ) → length (within_limit taken given) ≤ length given
unfolding within_limit
limit_len taken given = omega (arith, length-take (67108864 - taken) given)

bounded : (e : Ending) (taken : ℕ) → (e ≡ Over → taken ≡ 67108865) → (e ≢ Over → taken ≤ 67108864) → taken ≤ 67108865
bounded Over taken over within = omega (arith, over refl)
bounded ending taken over within = omega (arith, within (λ e. cc))

pub taken_bound : {R : Type 0} (lines : Lines R) → taken_of lines ≤ 67108865
taken_bound lines = bounded lines.ending lines.taken lines.over lines.within

shorter : (taken count : ℕ) (unread rest line given : List ℕ) (ending : Ending) → count ≤ 67108865 → count ≡ taken + length given → FirstLine ending (unread ++ within_limit taken given) line rest → to_come count rest < to_come taken unread
shorter taken count unread rest line given ending le e f =
    let all = length-append unread (within_limit taken given) in
    elim f.1 [
      | inl w ↦ let b : length (unread ++ within_limit taken given) ≡ length line + suc (length rest) = ap length w ∙ length-append line (10 ∷ rest) in omega (arith, all, b, limit_len taken given)
      | inr w ↦ let b : length (unread ++ within_limit taken given) ≡ length line = ap length w.0 in let z : length rest ≡ 0 = ap length w.1 in omega (arith, all, b, z, w.2, limit_len taken given)
    ]

-- a line takes its bytes from what is to come
pub falls_by_line : {R : Type 0} (remaining : R → Option (List ℕ)) (old new : Lines R) → Went remaining old new found.Line → to_come (taken_of new) (unread_of new) < to_come (taken_of old) (unread_of old)
falls_by_line remaining old new w = shorter old.taken new.taken old.buffer.unread new.buffer.unread new.buffer.line w.advances.given new.ending (taken_bound new) w.advances.counted w.advances.answered.0

pub falls_by_long : {R : Type 0} (remaining : R → Option (List ℕ)) (old new : Lines R) → Went remaining old new found.Long → to_come (taken_of new) (unread_of new) < to_come (taken_of old) (unread_of old)
falls_by_long remaining old new w = shorter old.taken new.taken old.buffer.unread new.buffer.unread w.advances.answered.0 w.advances.given new.ending (taken_bound new) w.advances.counted w.advances.answered.1
