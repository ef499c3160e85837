-- One line after another.
use Rattle.script_running.proofs.Prelude.{◌≡◌, inl, inr, ℕ, ◌<◌, Bool, true, false, List, [], ◌∷◌, ◌++◌, length, refl, sym, ap, subst, ◌∙◌, arith, append_assoc, Option, Some, Ok, Err, append-nil, ◌⊎◌, nat_lt, IfOk, IfErr, Result, if◌then◌else◌, false≢true, nat_tests, Appends-nil, Appends-kept, Told, EndsEarly, Fault, Found, Gathers, HasRead, IsFresh, Journal, Lines, LongLine, NotAscii, Outgoing, Puts, Session, Request, RunFault, Stops, Summary, request_of, request_of_words, is_ascii, line_of, lines_of, new_journal, outgoing, reader_of, taken_of, to_come, unread_of, with_newlines, has_newline, within_limit, words, Breaks, Gathers-nil, Gathers-trans, Breaks-after, all_out, went_out, ConsoleHeeds, spoken, Judges, Answers, answer_text, no_lines, one_line, counted, stops, was_stopped, Outs, output_of, output_from, summary_of, summary_from, Moves, Served, BreaksOff, WriteFails, IsTooLong, Runs, Console, Stage}
use Rattle.std.specs.Io.KnownBytes.{Appends, Keeps, Consumes, IsAtEnd}
use Rattle.script_running.specs.Leaving.{LeadOn, Leaves, RunsTo}
use Rattle.script_running.specs.Reaching.{AsksAnswers}
use Rattle.script_reader.specs.Reaching.{MayRead}
use Rattle.script_reader.specs.State.{ending_of}
use Rattle.script_reader.specs.declared.lines.Ending.TheVariants.{Open}
use Rattle.std.proofs.KnownBytes.{Consumes-trans}
use Rattle.script_running.proofs.Leaving.{lead_more, left_so, left_whole, one_heard, read_so, whole_so}
use Rattle.script_reader.specs.Next.{Went}
use Rattle.script_reader.specs.declared.lines.Found.TheVariants as found
use Rattle.script_reader.proofs.NewlineLaws.{Lacks-append, lacks-behind}
use Rattle.script_reader.proofs.ScriptLaws.{has_begun, has_line_more, has_long_more, is_read_out, open_text, breaks_at_fault, breaks_at_limit, falls_by_line, falls_by_long}
use Rattle.solid_listing.specs.declared.told.Told.TheVariants as told
use Rattle.script_running.specs.declared.running.RunFault.TheVariants as faults
use Rattle.script_running.proofs.Counting.{counted_assoc, counted_none, none_counted, stop_counted, calm_counted, none_calm}
use Rattle.script_running.proofs.Judged.{lines_are_judged}
use Rattle.script_running.proofs.Outputs.{text_at, counts_at, after_to, outs_so, outs_to}

-- what some lines are answered goes before what the lines after them are answered
abbrev pub Continues : Bool → List (List ℕ) → List ℕ → Journal → Summary → Type 0
Continues stop heard out s n = (lines : List (List ℕ)) (rest : List ℕ) (k : Summary) → Outs stop s lines rest k → Outs stop new_journal (heard ++ lines) (out ++ rest) (counted n k)

-- a run so far: what was heard and told, that the answers go on as the machine's, and that none stopped it
pub record Progress {R : Type 0} (remaining : R → Option (List ℕ)) (first : Option (List ℕ)) (lines : Lines R) (old : Option (List ℕ)) (new : Outgoing) (stop : Bool) (s : Journal) (n : Summary) : Type 0 where
  pub heard : List (List ℕ)
  pub read : HasRead remaining first lines heard
  pub out : List ℕ
  pub gathered : Gathers (outgoing old []) new out
  pub runs : Continues stop heard out s n
  pub unstopped : was_stopped stop n ≡ false
  pub leads : LeadOn new_journal heard out s
  pub each : length heard ≡ n.lines

-- the next line was read, and judged
pub record Turn {R : Type 0} (remaining : R → Option (List ℕ)) (first : Option (List ℕ)) (lines : Lines R) (old : Option (List ℕ)) (new : Outgoing) (stop : Bool) (s : Journal) (n : Summary) (a : Told) (t : Journal) : Type 0 where
  pub earlier : Lines R
  pub so_far : Progress remaining first earlier old new stop s n
  pub line : List ℕ
  pub read : HasRead remaining first lines (so_far.heard ++ line ∷ [])
  pub judges : Judges s line a t

pub begins : {R : Type 0} (remaining : R → Option (List ℕ)) (given : R) (lines : Lines R) (old : Option (List ℕ)) (pending : List ℕ) (stop : Bool) (s : Journal) → IsFresh given lines → s ≡ new_journal → pending ≡ []
    → Progress remaining (remaining given) lines old (outgoing old pending) stop s no_lines
begins remaining given lines old pending stop s fresh at_start none = record {
  heard = [];
  read = has_begun remaining given lines fresh;
  out = [];
  gathered = subst (λ (t : List ℕ). Gathers (outgoing old []) (outgoing old t) []) (sym none) (Gathers-nil (outgoing old []));
  runs = λ ls rest k h. subst (λ (j : Summary). Outs stop new_journal ls rest j) (sym (none_counted k)) (subst (λ (q : Journal). Outs stop q ls rest k) at_start h);
  unstopped = none_calm stop;
  leads = (refl, at_start);
  each = refl;
}

-- what is pending may go out
pub flushed : {R : Type 0} (remaining : R → Option (List ℕ)) (first : Option (List ℕ)) (lines : Lines R) (old : Option (List ℕ)) (mid new : Outgoing) (stop : Bool) (s : Journal) (n : Summary)
    → Progress remaining first lines old mid stop s n → Gathers mid new [] → Progress remaining first lines old new stop s n
flushed remaining first lines old mid new stop s n p k = record {
  heard = p.heard;
  read = p.read;
  out = p.out;
  gathered = subst (Gathers (outgoing old []) new) (append-nil p.out) (Gathers-trans (outgoing old []) mid new p.out [] p.gathered k);
  runs = p.runs;
  unstopped = p.unstopped;
  leads = p.leads;
  each = p.each;
}

long_told : (line : List ℕ) → 65536 < length line → request_of line ≡ Err LongLine
long_told line h = let e : nat_lt 65536 (length line) ≡ true = grind (arith, nat_tests) in
    ap (λ (b : Bool). if b then Err LongLine else (if is_ascii line then request_of_words (words line) else Err NotAscii)) e

-- the next line was read and judged, or skipped as too long and told so
abbrev pub Hears : {R : Type 0} → (R → Option (List ℕ)) → Lines R → Lines R → Journal → Told → Journal → Type 0
Hears remaining old new s a t = (Went remaining old new found.Line × Judges s (line_of new) a t) ⊎ (Went remaining old new found.Long × (a ≡ told.Fault 6) × (t ≡ s))

-- a run so far, in the session of a console
pub record IsAt {R : Type 0} (remaining : R → Option (List ℕ)) (first : Option (List ℕ)) (lines : Lines R) (old : Option (List ℕ)) (new : Outgoing) (stop : Bool) (console : Console) (n : Summary) : Type 0 where
  pub session : Journal
  pub there : console.stage ≡ Some (Session session)
  pub progress : Progress remaining first lines old new stop session n

-- the next line was heard in this session, and the console has the one to which it leads
pub record Heard {R : Type 0} (remaining : R → Option (List ℕ)) (lines next : Lines R) (s : Journal) (console : Console) : Type 0 where
  pub session : Journal
  pub there : console.stage ≡ Some (Session session)
  pub hears : Hears remaining lines next s console.answer session

module _ {R : Type 0} (remaining : R → Option (List ℕ)) (lines next : Lines R) (s : Journal) where
  pub heard_line : (line : List ℕ) (x y z : Console) (kind : ℕ) → Went remaining lines next found.Line → line ≡ line_of next → x.stage ≡ Some (Session s)
      → ConsoleHeeds x (spoken line) y kind → z ≡ y → Heard remaining lines next s z
  heard_line line x y z kind went is there h same =
      let (t, after, judged) = lines_are_judged x y line kind s there h in
      subst (Heard remaining lines next s) (sym same) (record { session = t; there = after; hears = inl (went, subst (λ (l : List ℕ). Judges s l y.answer t) is judged) })

  -- a line that is too long
  pub heard_long : (n : ℕ) (x z : Console) → Went remaining lines next found.Long → n ≡ 6 → x.stage ≡ Some (Session s) → z ≡ record x { answer = told.Fault n } → Heard remaining lines next s z
  heard_long n x z went six there same =
      subst (Heard remaining lines next s) (sym same) (record { session = s; there = there; hears = inr (went, ap (λ (k : ℕ). told.Fault k) six, refl) })

pub turn_of : {R : Type 0} (remaining : R → Option (List ℕ)) (first : Option (List ℕ)) (lines next : Lines R) (old : Option (List ℕ)) (new : Outgoing) (stop : Bool) (s : Journal) (n : Summary) (a : Told) (t : Journal)
    → Progress remaining first lines old new stop s n → Hears remaining lines next s a t → Turn remaining first next old new stop s n a t
turn_of remaining first lines next old new stop s n a t p h = elim h [
  | inl short ↦ record { earlier = lines; so_far = p; line = line_of next; read = (has_line_more remaining first lines next p.heard p.read short.0).0; judges = short.1 }
  | inr long ↦
      let m = has_long_more remaining first lines next p.heard p.read long.0 in
      record { earlier = lines; so_far = p; line = m.0; read = m.1; judges = subst (λ (r : Result Request Fault). Answers s r a t) (sym (long_told m.0 m.2)) (long.1, long.2) }
]

-- the run goes on
pub goes_on : {R : Type 0} (remaining : R → Option (List ℕ)) (first : Option (List ℕ)) (lines : Lines R) (old : Option (List ℕ)) (mid new : Outgoing) (stop : Bool) (s : Journal) (n : Summary) (a : Told) (t : Journal)
    → Turn remaining first lines old mid stop s n a t → stops stop a ≡ false → Gathers mid new (answer_text t.machine a) → Progress remaining first lines old new stop t (counted n (one_line a))
goes_on remaining first lines old mid new stop s n a t w calm h = record {
  heard = w.so_far.heard ++ w.line ∷ [];
  read = w.read;
  out = w.so_far.out ++ answer_text t.machine a;
  gathered = Gathers-trans (outgoing old []) mid new w.so_far.out (answer_text t.machine a) w.so_far.gathered h;
  runs = λ ls rest k o.
      let one = w.so_far.runs (w.line ∷ ls) (answer_text t.machine a ++ rest) (counted (one_line a) k) (a, t, w.judges, inr (calm, (rest, k, refl, refl, o))) in
      let e1 : w.so_far.heard ++ w.line ∷ ls ≡ (w.so_far.heard ++ w.line ∷ []) ++ ls = sym (append_assoc w.so_far.heard (w.line ∷ []) ls) in
      let e2 : w.so_far.out ++ (answer_text t.machine a ++ rest) ≡ (w.so_far.out ++ answer_text t.machine a) ++ rest = sym (append_assoc w.so_far.out (answer_text t.machine a) rest) in
      let e3 : counted n (counted (one_line a) k) ≡ counted (counted n (one_line a)) k = counted_assoc n (one_line a) k in
      rw (← e1, ← e2, ← e3) one;
  unstopped = calm_counted stop n a w.so_far.unstopped calm;
  leads = lead_more new_journal s t w.so_far.heard w.line w.so_far.out a w.so_far.leads w.judges;
  each = one_heard n (counted n (one_line a)) a w.so_far.heard w.line w.so_far.each refl;
}

outs_same : (stop : Bool) (s : Journal) (ls ms : List (List ℕ)) (x y : List ℕ) (n m : Summary) → ls ≡ ms → x ≡ y → n ≡ m → Outs stop s ls x n → Outs stop s ms y m
outs_same stop s ls ms x y n m e f g o = rw (← e, ← f, ← g) o

-- what the lines are answered, and no other text where no answer is `memory`
is_output : (stop : Bool) (given out : List ℕ) (n : Summary) → Outs stop new_journal (lines_of (within_limit 0 given ++ [])) out n → n.memory ≡ 0
    → (out ≡ output_of stop (lines_of (within_limit 0 given))) × (n ≡ summary_of stop (lines_of (within_limit 0 given)))
is_output stop given out n o none = outs_so stop new_journal (lines_of (within_limit 0 given)) out n
    (outs_same stop new_journal (lines_of (within_limit 0 given ++ [])) (lines_of (within_limit 0 given)) out out n n (ap lines_of (append-nil (within_limit 0 given))) refl refl o) none

-- the answer stops the run
stopped : {R : Type 0} (remaining : R → Option (List ℕ)) (first : Option (List ℕ)) (lines : Lines R) (old : Option (List ℕ)) (mid : Outgoing) (new : Option (List ℕ)) (stop : Bool) (s : Journal) (n m : Summary) (a : Told) (t : Journal) (left : Option Stage)
    → left ≡ Some (Session t) → (w : Turn remaining first lines old mid stop s n a t) → stops stop a ≡ true → Appends old new (w.so_far.out ++ answer_text t.machine a) → m ≡ counted n (one_line a) → RunsTo first old new stop (Ok m) left
stopped remaining first lines old mid new stop s n m a t left there w bad h count =
    let outs : (more : List ℕ) → (IsAtEnd (remaining (reader_of lines)) → more ≡ []) → Outs stop new_journal (lines_of (within_limit 0 w.read.given ++ more)) (w.so_far.out ++ answer_text t.machine a) m = λ more guard.
    let behind = lines_of (unread_of lines ++ more) in
    let one = w.so_far.runs (w.line ∷ behind) (answer_text t.machine a) (one_line a) (a, t, w.judges, inl (bad, refl, refl)) in
    let all : lines_of (within_limit 0 w.read.given ++ more) ≡ w.so_far.heard ++ w.line ∷ behind = w.read.text more (λ e. guard (w.read.at_end e)) ∙ append_assoc w.so_far.heard (w.line ∷ []) behind in
    outs_same stop new_journal (w.so_far.heard ++ w.line ∷ behind) (lines_of (within_limit 0 w.read.given ++ more)) (w.so_far.out ++ answer_text t.machine a) (w.so_far.out ++ answer_text t.machine a) (counted n (one_line a)) m (sym all) refl (sym count) one in (
      record {
        moves = record { given = w.read.given; left = remaining (reader_of lines); out = w.so_far.out ++ answer_text t.machine a; consumed = w.read.consumed; appended = h };
        outs = outs;
        finished = λ e. absurd (false≢true (sym e ∙ ap (was_stopped stop) count ∙ stop_counted stop n a bad));
        output = is_output stop w.read.given (w.so_far.out ++ answer_text t.machine a) m (outs [] (λ _. refl));
      },
      left_whole w.read.given (w.so_far.out ++ answer_text t.machine a) (Ok m) left t (w.so_far.heard ++ w.line ∷ []) (lines_of (unread_of lines ++ [])) there (read_so w.read.given _ (w.read.text [] (λ _. refl)))
          (lead_more new_journal s t w.so_far.heard w.line w.so_far.out a w.so_far.leads w.judges) (one_heard n m a w.so_far.heard w.line w.so_far.each count),
    )

-- what was heard was answered
answered : (stop : Bool) (heard : List (List ℕ)) (out : List ℕ) (s : Journal) (n : Summary) → Continues stop heard out s n → Outs stop new_journal heard out n
answered stop heard out s n runs = outs_same stop new_journal (heard ++ []) heard (out ++ []) out (counted n no_lines) n (append-nil heard) (append-nil out) (counted_none n) (runs [] [] no_lines (refl, refl))

-- where a read comes, all whole lines given so far are answered
pub may_read : {R : Type 0} (remaining : R → Option (List ℕ)) (asks : R → Option (List ℕ) → Type 0) (begun : R) (lines : Lines R) (old : Option (List ℕ)) (new : Outgoing) (stop : Bool) (s : Journal) (n : Summary) → AsksAnswers remaining asks begun old stop
    → Progress remaining (remaining begun) lines old new stop s n → new.pending ≡ [] → has_newline (unread_of lines) ≡ false → ending_of lines ≡ Open → MayRead remaining asks (reader_of lines) new.contents
may_read remaining asks begun lines old new stop s n asked p none lacks opened = λ now more c further.
    asked now (p.read.given ++ more) p.out new.contents (Consumes-trans (remaining begun) (remaining (reader_of lines)) (remaining now) p.read.given more p.read.consumed c) (went_out old new p.out p.gathered none)
    (record {
      judged = p.heard;
      unfinished = unread_of lines ++ more;
      text = ap (λ (xs : List ℕ). xs ++ more) (open_text remaining (remaining begun) lines p.heard p.read opened) ∙ append_assoc (with_newlines p.heard) (unread_of lines) more;
      lacks = Lacks-append (unread_of lines) more (lacks-behind [] (unread_of lines) lacks) further;
      counts = n;
      outs = answered stop p.heard p.out s n p.runs;
      unstopped = p.unstopped;
    })

-- the end of the script
pub ends : {R : Type 0} (remaining : R → Option (List ℕ)) (first : Option (List ℕ)) (lines next : Lines R) (old : Option (List ℕ)) (new : Outgoing) (stop : Bool) (s : Journal) (n : Summary)
    → (left : Option Stage) → left ≡ Some (Session s) → Progress remaining first lines old new stop s n → Went remaining lines next found.End → new.pending ≡ [] → RunsTo first old new.contents stop (Ok n) left
ends remaining first lines next old new stop s n left there p went none =
    let r = is_read_out remaining first lines next p.heard p.read went in
    let outs : (more : List ℕ) → (IsAtEnd (remaining (reader_of next)) → more ≡ []) → Outs stop new_journal (lines_of (within_limit 0 r.given ++ more)) p.out n = λ more guard.
    let all : lines_of (within_limit 0 r.given ++ more) ≡ p.heard = ap (λ (xs : List ℕ). lines_of (within_limit 0 r.given ++ xs)) (guard r.end) ∙ ap lines_of (append-nil (within_limit 0 r.given)) ∙ r.lines in
    outs_same stop new_journal p.heard (lines_of (within_limit 0 r.given ++ more)) p.out p.out n n (sym all) refl refl (answered stop p.heard p.out s n p.runs) in (
      record {
        moves = record { given = r.given; left = remaining (reader_of next); out = p.out; consumed = r.consumed; appended = went_out old new p.out p.gathered none };
        outs = outs;
        finished = λ _. (r.end, r.within);
        output = is_output stop r.given p.out n (outs [] (λ _. refl));
      },
      left_whole r.given p.out (Ok n) left s p.heard [] there (r.lines ∙ sym (append-nil p.heard)) p.leads p.each,
    )

-- the fault is that of a write
is_write_fault : (first old new : Option (List ℕ)) (stop : Bool) (f : RunFault) (left : Option Stage) → f ≡ faults.Write → RunsTo first old new stop (Err faults.Write) left → RunsTo first old new stop (Err f) left
is_write_fault first old new stop f left e h = subst (λ (g : RunFault). RunsTo first old new stop (Err g) left) (sym e) h

-- the last flush keeps what was written, or is a failed write
pub finished : (first old mid new : Option (List ℕ)) (stop : Bool) (n : Summary) (left : Option Stage) (r : Result Summary RunFault) → RunsTo first old mid stop (Ok n) left → Keeps mid new → IfOk r (λ s. s ≡ n) → IfErr r (λ e. e ≡ faults.Write)
    → RunsTo first old new stop r left
finished first old mid new stop n left (Ok m) (h, v) k same no_fault = subst (λ (s : Summary). RunsTo first old new stop (Ok s) left) (sym same) (
  record {
    moves = record { given = h.moves.given; left = h.moves.left; out = h.moves.out; consumed = h.moves.consumed; appended = Appends-kept old mid new h.moves.out h.moves.appended k };
    outs = h.outs;
    finished = h.finished;
    output = h.output;
  },
  v,
)
finished first old mid new stop n left (Err f) (h, v) k same is_write = is_write_fault first old new stop f left is_write (
  record {
    moves = record { given = h.moves.given; left = h.moves.left; out = h.moves.out; consumed = h.moves.consumed; appended = Appends-kept old mid new h.moves.out h.moves.appended k };
    begun = λ more guard. ([], n, subst (λ (text : List ℕ). Outs stop new_journal (lines_of (within_limit 0 h.moves.given ++ more)) text n) (sym (append-nil h.moves.out)) (h.outs more guard));
  },
  whole_so h.moves.given h.moves.out n faults.Write left v,
)

-- a read failed, or the script is too long
breaks_off : (first last old new : Option (List ℕ)) (stop : Bool) (s : Journal) (n : Summary) (heard : List (List ℕ)) (out : List ℕ) (answer : Found) → (b : EndsEarly first last heard answer) → Appends old new out → Continues stop heard out s n
    → was_stopped stop n ≡ false → BreaksOff first old new stop
breaks_off first last old new stop s n heard out answer b appended runs unstopped = record {
  moves = record { given = b.given; left = last; out = out; consumed = b.consumed; appended = appended };
  judged = heard;
  unfinished = b.rest;
  text = b.text;
  lacks = b.lacks;
  lines = b.lines;
  counts = n;
  outs = answered stop heard out s n runs;
  unstopped = unstopped;
}

pub read_fails : {R : Type 0} (remaining : R → Option (List ℕ)) (first : Option (List ℕ)) (lines next : Lines R) (old : Option (List ℕ)) (new : Outgoing) (stop : Bool) (s : Journal) (n : Summary) (left : Option Stage)
    → left ≡ Some (Session s) → Progress remaining first lines old new stop s n → Went remaining lines next found.Read → new.pending ≡ [] → RunsTo first old new.contents stop (Err faults.Read) left
unfolding breaks_off
read_fails remaining first lines next old new stop s n left there p went none =
    let e = breaks_at_fault remaining first lines next p.heard p.read went in (
      breaks_off first (remaining (reader_of next)) old new.contents stop s n p.heard p.out found.Read e (went_out old new p.out p.gathered none) p.runs p.unstopped,
      left_whole e.given p.out (Err faults.Read) left s p.heard (lines_of e.rest) there e.lines p.leads tt,
    )

pub too_long : {R : Type 0} (remaining : R → Option (List ℕ)) (first : Option (List ℕ)) (lines next : Lines R) (old : Option (List ℕ)) (new : Outgoing) (stop : Bool) (s : Journal) (n : Summary) (left : Option Stage)
    → left ≡ Some (Session s) → Progress remaining first lines old new stop s n → Went remaining lines next found.TooLong → new.pending ≡ [] → RunsTo first old new.contents stop (Err faults.TooLong) left
unfolding breaks_off
too_long remaining first lines next old new stop s n left there p went none =
    let e = breaks_at_limit remaining first lines next p.heard p.read went in (
      (breaks_off first (remaining (reader_of next)) old new.contents stop s n p.heard p.out found.TooLong e (went_out old new p.out p.gathered none) p.runs p.unstopped, e.too_long refl),
      left_whole e.given p.out (Err faults.TooLong) left s p.heard (lines_of e.rest) there e.lines p.leads tt,
    )

-- a write failed, where the answer was told or before
pub write_fails : {R : Type 0} (remaining : R → Option (List ℕ)) (first : Option (List ℕ)) (lines : Lines R) (old : Option (List ℕ)) (mid : Outgoing) (new : Option (List ℕ)) (stop : Bool) (s : Journal) (n : Summary) (a : Told) (t : Journal) (f : RunFault) (left : Option Stage)
    → left ≡ Some (Session t) → (w : Turn remaining first lines old mid stop s n a t) → Stops old new (w.so_far.out ++ answer_text t.machine a) → f ≡ faults.Write → RunsTo first old new stop (Err f) left
write_fails remaining first lines old mid new stop s n a t f left there w h is_write = is_write_fault first old new stop f left is_write (
  record {
    moves = record { given = w.read.given; left = remaining (reader_of lines); out = h.front; consumed = w.read.consumed; appended = h.appended };
    begun = λ more guard.
        let behind = lines_of (unread_of lines ++ more) in
        let all : lines_of (within_limit 0 w.read.given ++ more) ≡ w.so_far.heard ++ w.line ∷ behind = w.read.text more (λ e. guard (w.read.at_end e)) ∙ append_assoc w.so_far.heard (w.line ∷ []) behind in
        let next = after_to stop behind a t (output_from stop t.machine behind) (summary_from stop t.machine behind) (outs_to stop t behind) (stops stop a) refl in
        let text = text_at (stops stop a) a t.machine (output_from stop t.machine behind) in
        let counts = counts_at (stops stop a) a (summary_from stop t.machine behind) in
        let rest = if stops stop a then [] else output_from stop t.machine behind in
        let parts : w.so_far.out ++ text ≡ h.front ++ (h.rest ++ rest) =
        sym (append_assoc w.so_far.out (answer_text t.machine a) rest) ∙ ap (λ (xs : List ℕ). xs ++ rest) h.parts ∙ append_assoc h.front h.rest rest in (
          h.rest ++ rest,
          counted n counts,
          outs_same stop new_journal (w.so_far.heard ++ w.line ∷ behind) (lines_of (within_limit 0 w.read.given ++ more)) (w.so_far.out ++ text) (h.front ++ (h.rest ++ rest)) (counted n counts) (counted n counts) (sym all) parts refl
              (w.so_far.runs (w.line ∷ behind) text counts (a, t, w.judges, next)),
        );
  },
  left_so w.read.given h.front h.rest (w.so_far.out ++ answer_text t.machine a) left t (w.so_far.heard ++ w.line ∷ []) (lines_of (unread_of lines ++ [])) there (read_so w.read.given _ (w.read.text [] (λ _. refl))) h.parts
      (lead_more new_journal s t w.so_far.heard w.line w.so_far.out a w.so_far.leads w.judges),
)

-- an answer could not be told
pub telling_fails : {R : Type 0} (remaining : R → Option (List ℕ)) (first : Option (List ℕ)) (lines : Lines R) (old : Option (List ℕ)) (mid new : Outgoing) (stop : Bool) (s : Journal) (n : Summary) (a : Told) (t : Journal) (f : RunFault) (left : Option Stage)
    → left ≡ Some (Session t) → Turn remaining first lines old mid stop s n a t → Breaks mid new (answer_text t.machine a) → f ≡ faults.Write → RunsTo first old new.contents stop (Err f) left
telling_fails remaining first lines old mid new stop s n a t f left there w h is_write =
    write_fails remaining first lines old mid new.contents stop s n a t f left there w (Breaks-after (outgoing old []) mid new w.so_far.out (answer_text t.machine a) w.so_far.gathered h) is_write

-- the answer stops the run, and what is pending goes out
pub stops_there : {R : Type 0} (remaining : R → Option (List ℕ)) (first : Option (List ℕ)) (lines : Lines R) (old : Option (List ℕ)) (mid new : Outgoing) (last : Option (List ℕ)) (stop : Bool) (s : Journal) (n m : Summary) (a : Told) (t : Journal) (r : Result Summary RunFault) (left : Option Stage)
    → left ≡ Some (Session t) → Turn remaining first lines old mid stop s n a t → stops stop a ≡ true → Gathers mid new (answer_text t.machine a) → m ≡ counted n (one_line a)
    → Puts new.contents last new.pending r → IfOk r (λ k. k ≡ m) → IfErr r (λ e. e ≡ faults.Write) → RunsTo first old last stop r left
stops_there remaining first lines old mid new last stop s n m a t (Ok k) left there w bad h count puts same no_fault =
    let all = Gathers-trans (outgoing old []) mid new w.so_far.out (answer_text t.machine a) w.so_far.gathered h in
    let out = all_out {A = Summary} {E = RunFault} old new last [] (w.so_far.out ++ answer_text t.machine a) (Ok k) refl all puts in
    subst (λ (j : Summary). RunsTo first old last stop (Ok j) left) (sym same) (stopped remaining first lines old mid last stop s n m a t left there w bad out count)
stops_there remaining first lines old mid new last stop s n m a t (Err f) left there w bad h count puts same is_write =
    let all = Gathers-trans (outgoing old []) mid new w.so_far.out (answer_text t.machine a) w.so_far.gathered h in
    let out = all_out {A = Summary} {E = RunFault} old new last [] (w.so_far.out ++ answer_text t.machine a) (Err f) refl all puts in
    write_fails remaining first lines old mid last stop s n a t f left there w out is_write

-- what was pending could not go out
pub flush_fails : {R : Type 0} (remaining : R → Option (List ℕ)) (first : Option (List ℕ)) (lines : Lines R) (old : Option (List ℕ)) (mid new : Outgoing) (stop : Bool) (s : Journal) (n : Summary) (f : RunFault) (left : Option Stage)
    → left ≡ Some (Session s) → Progress remaining first lines old mid stop s n → Breaks mid new [] → f ≡ faults.Write → RunsTo first old new.contents stop (Err f) left
flush_fails remaining first lines old mid new stop s n f left there p broken is_write =
    let h = subst (Stops old new.contents) (append-nil p.out) (Breaks-after (outgoing old []) mid new p.out [] p.gathered broken) in
    is_write_fault first old new.contents stop f left is_write (
      record {
        moves = record { given = p.read.given; left = remaining (reader_of lines); out = h.front; consumed = p.read.consumed; appended = h.appended };
        begun = λ more guard.
            let behind = lines_of (unread_of lines ++ more) in
            let text = output_from stop s.machine behind in
            let counts = summary_from stop s.machine behind in (
              h.rest ++ text,
              counted n counts,
              outs_same stop new_journal (p.heard ++ behind) (lines_of (within_limit 0 p.read.given ++ more)) (p.out ++ text) (h.front ++ (h.rest ++ text)) (counted n counts) (counted n counts) (sym (p.read.text more (λ e. guard (p.read.at_end e))))
                  (ap (λ (xs : List ℕ). xs ++ text) h.parts ∙ append_assoc h.front h.rest text) refl
                  (p.runs behind text counts (outs_to stop s behind)),
            );
      },
      left_so p.read.given h.front h.rest p.out left s p.heard (lines_of (unread_of lines ++ [])) there (read_so p.read.given _ (p.read.text [] (λ _. refl))) h.parts p.leads,
    )

-- fresh lines have the reader that was given
pub from_start : {R : Type 0} (remaining : R → Option (List ℕ)) (given : R) (lines : Lines R) (old new : Option (List ℕ)) (stop : Bool) (r : Result Summary RunFault) (left : Option Stage)
    → IsFresh given lines → RunsTo (remaining (reader_of lines)) old new stop r left → RunsTo (remaining given) old new stop r left
from_start {R = R} remaining given lines old new stop r left fresh h = subst (λ (reader : R). RunsTo (remaining reader) old new stop r left) fresh.reader h

-- the first memory was refused
pub nothing_begins : (first last old : Option (List ℕ)) → Consumes first last [] → (m : Moves first old old) × (m.given ≡ []) × (m.out ≡ [])
nothing_begins first last old none = (record { given = []; left = last; out = []; consumed = none; appended = Appends-nil old }, refl, refl)

-- and a new session stays
pub nothing_runs : (first last old : Option (List ℕ)) (stop : Bool) (left : Option Stage) → Consumes first last [] → left ≡ Some (Session new_journal) → RunsTo first old old stop (Err faults.Memory) left
nothing_runs first last old stop left none there =
    let b = nothing_begins first last old none in (b, left_whole b.0.given b.0.out (Err faults.Memory) left new_journal [] (lines_of (within_limit 0 b.0.given)) there refl (b.2, refl) tt)

-- a line takes its bytes from what is to come
pub falls : {R : Type 0} (remaining : R → Option (List ℕ)) (lines next : Lines R) (s : Journal) (a : Told) (t : Journal) → Hears remaining lines next s a t
    → to_come (taken_of next) (unread_of next) < to_come (taken_of lines) (unread_of lines)
falls remaining lines next s a t h = elim h [ inl short ↦ falls_by_line remaining lines next short.0 | inr long ↦ falls_by_long remaining lines next long.0 ]
