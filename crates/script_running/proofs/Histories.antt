-- A line is a call of a history, and a run tells one.
use Rattle.script_running.proofs.Prelude.{◌≡◌, inl, inr, ℕ, suc, Bool, List, [], ◌∷◌, ◌++◌, length, Option, Ok, Err, refl, sym, ap, subst, ◌∙◌, arith, Result, IfOk, append-nil, Told, Call, Change, Fault, IsCall, IsConsistent, Journal, Machine, Request, RunFault, Sound, Summary, after_call, after_calls, held, lines_of, new_journal, over, request_of, start, within_limit, same_machine, Obeys, Answers, Judges, answer_text, Outs, BreaksOff, Served, WriteFails}
use Rattle.undo_journal.specs.Laws.{HistoriesAreConsistent}
use Rattle.commands.specs.Calls.{CommandsAreCalls}
use Rattle.commands.proofs.Calls.{stopped}
use Rattle.script_reader.specs.declared.command.Request.TheVariants as request
use Rattle.script_running.specs.Runs as runs
use Rattle.script_running.specs.Histories.{HasHistory, LinesAreCalls, LinesLeadOn, HistoriesMakeConsistent, Turn, IsTurn, TakeTurns, texts, TellsHistory, RunsTellHistories}
use Rattle.script_running.specs.declared.running.RunFault.TheVariants as fault
use Rattle.script_running.proofs.Counting.{one_more}

-- what a line asks for is one call
obeys : CommandsAreCalls → (s t : Journal) (r : Request) (a : Told) → Sound (held s.machine) → Obeys s r a t → IsCall s.machine t.machine
obeys l s t (request.Over o ps) a k h = l s t (Change (over o ps)) a k h
obeys l s t (request.Give c) a k h = l s t c a k h
obeys l s t r a k h = stopped s.machine t.machine (same_machine h.1)

answers : CommandsAreCalls → (s t : Journal) (r : Result Request Fault) (a : Told) → Sound (held s.machine) → Answers s r a t → IsCall s.machine t.machine
answers l s t (Ok r) a k h = obeys l s t r a k h
answers l s t (Err f) a k h = stopped s.machine t.machine (same_machine h.1)

pub lines_are_calls : CommandsAreCalls → LinesAreCalls
lines_are_calls l s t line a k h = answers l s t (request_of line) a k h

pub histories_make_consistent : HistoriesAreConsistent → HistoriesMakeConsistent
histories_make_consistent consistent s h = subst IsConsistent h.lead (consistent h.calls)

-- one call more
more_calls : (s : Machine) (calls : List Call) (call : Call) → after_calls s (calls ++ call ∷ []) ≡ after_call (after_calls s calls) call
more_calls s [] call = refl
more_calls s (c ∷ calls) call = more_calls (after_call s c) calls call

goes_on : (s t : Machine) → HasHistory s → IsCall s t → HasHistory t
goes_on s t h c = record {
  calls = h.calls ++ c.call ∷ [];
  lead = more_calls start h.calls c.call ∙ ap (λ (m : Machine). after_call m c.call) h.lead ∙ c.leads;
}

pub lines_lead_on : LinesAreCalls → HistoriesMakeConsistent → LinesLeadOn
lines_lead_on calls consistent s t line a h judged = goes_on s.machine t.machine h (calls s t line a (consistent s.machine h).held_sound judged)

-- what the laws of one line say
pub record LinesLaws : Type 0 where
  pub calls : LinesAreCalls
  pub consistent : HistoriesMakeConsistent

-- so many turns that some lines take, whose texts are what was written
record Takes (s : Journal) (lines : List (List ℕ)) (out : List ℕ) (n : ℕ) : Type 0 where
  turns : List Turn
  taken : TakeTurns s lines turns
  text : texts turns ≡ out
  count : length turns ≡ n

-- a turn is taken in a session to which a list of calls leads
module _ (l : LinesLaws) (s t : Journal) (line : List ℕ) (a : Told) (h : HasHistory s.machine) (judged : Judges s line a t) where
  call : IsCall s.machine t.machine
  call = l.calls s t line a (l.consistent s.machine h).held_sound judged

  one_turn : Turn
  one_turn = record { call = call.call; answer = a; next = t }

  is_turn : IsTurn s line one_turn
  unfolding one_turn
  is_turn =
      let later = l.consistent t.machine (goes_on s.machine t.machine h call) in
      record { judged = judged; called = call.leads; before = l.consistent s.machine h; after = later; listed = λ e. (held t.machine, later.held_sound, ap (answer_text t.machine) e) }

  -- one turn, and those of the lines after it
  takes : (lines : List (List ℕ)) (rest : List ℕ) (n : ℕ) → Takes t lines rest n → Takes s (line ∷ lines) (answer_text t.machine a ++ rest) (suc n)
  unfolding one_turn
  takes lines rest n later = record {
    turns = one_turn ∷ later.turns;
    taken = (is_turn, later.taken);
    text = ap (λ (text : List ℕ). answer_text t.machine a ++ text) later.text;
    count = ap suc later.count;
  }

no_turns : (s : Journal) (lines : List (List ℕ)) → Takes s lines [] 0
no_turns s lines = record { turns = []; taken = tt; text = refl; count = refl }

takes_so : (s : Journal) (lines : List (List ℕ)) (out text : List ℕ) (n m : ℕ) → out ≡ text → n ≡ m → Takes s lines text m → Takes s lines out n
takes_so s lines out text n m e f h = rw (e, f) h

outs_take : LinesLaws → (stop : Bool) (s : Journal) (lines : List (List ℕ)) (out : List ℕ) (n : Summary) → HasHistory s.machine → Outs stop s lines out n → Takes s lines out n.lines
outs_take l stop s [] out n h o = takes_so s [] out [] n.lines 0 o.0 (ap (λ (m : Summary). m.lines) o.1) (no_turns s [])
outs_take l stop s (line ∷ lines) out n h (a, t, judged, inl last) =
    takes_so s (line ∷ lines) out (answer_text t.machine a ++ []) n.lines 1 (last.1 ∙ sym (append-nil (answer_text t.machine a))) (ap (λ (m : Summary). m.lines) last.2 ∙ one_more a)
    (takes l s t line a h judged lines [] 0 (no_turns t lines))
outs_take l stop s (line ∷ lines) out n h (a, t, judged, inr (calm, (rest, k, text, counts, later))) =
    let next = lines_lead_on l.calls l.consistent s t line a h judged in
    takes_so s (line ∷ lines) out (answer_text t.machine a ++ rest) n.lines (suc k.lines) text (omega (arith, ap (λ (m : Summary). m.lines) counts, one_more a))
    (takes l s t line a h judged lines rest k.lines (outs_take l stop t lines rest k next later))

-- a new session has a history: no call
outs_tell : LinesLaws → (stop : Bool) (lines : List (List ℕ)) (out : List ℕ) (n : Summary) → Outs stop new_journal lines out n → Takes new_journal lines out n.lines
outs_tell l stop lines out n o = outs_take l stop new_journal lines out n (record { calls = []; lead = refl }) o

-- turns of the first lines, whatever lines come after
take_more : (s : Journal) (lines more : List (List ℕ)) (turns : List Turn) → TakeTurns s lines turns → TakeTurns s (lines ++ more) turns
take_more s lines more [] h = tt
take_more s [] more (turn ∷ turns) h = absurd h
take_more s (line ∷ lines) more (turn ∷ turns) h = (h.0, take_more turn.next lines more turns h.1)

takes_more : (s : Journal) (lines more all : List (List ℕ)) (out : List ℕ) (n : ℕ) → all ≡ lines ++ more → Takes s lines out n → Takes s all out n
takes_more s lines more all out n e h =
    subst (λ (ls : List (List ℕ)). Takes s ls out n) (sym e) (record { turns = h.turns; taken = take_more s lines more h.turns h.taken; text = h.text; count = h.count })

-- all that was told is written
all_written : (reader old new : Option (List ℕ)) (moved : runs.Moves reader new old) (result : Result Summary RunFault) (n : ℕ) → IfOk result (λ summary. n ≡ summary.lines)
    → Takes new_journal (lines_of (within_limit 0 moved.given)) moved.out n → TellsHistory reader old new moved result
all_written reader old new moved (Ok summary) n same h =
    record { turns = h.turns; taken = h.taken; unwritten = []; text = h.text ∙ sym (append-nil moved.out); whole = λ other. refl; each = h.count ∙ same }
all_written reader old new moved (Err f) n same h = record { turns = h.turns; taken = h.taken; unwritten = []; text = h.text ∙ sym (append-nil moved.out); whole = λ other. refl; each = tt }

-- where no more is to come
no_more : (given : List ℕ) → lines_of (within_limit 0 given) ≡ lines_of (within_limit 0 given ++ [])
no_more given = ap lines_of (sym (append-nil (within_limit 0 given)))

broken_off : LinesLaws → (reader old new : Option (List ℕ)) (stop : Bool) (f : RunFault) (b : BreaksOff reader old new stop) → TellsHistory reader old new b.moves (Err f)
broken_off l reader old new stop f b = all_written reader old new b.moves (Err f) b.counts.lines tt
    (takes_more new_journal b.judged (lines_of b.unfinished) (lines_of (within_limit 0 b.moves.given)) b.moves.out b.counts.lines b.lines (outs_tell l stop b.judged b.moves.out b.counts b.outs))

served : LinesLaws → (reader old new : Option (List ℕ)) (stop : Bool) (summary : Summary) (s : Served reader old new stop summary) → TellsHistory reader old new s.moves (Ok summary)
served l reader old new stop summary s =
    let given = s.moves.given in
    all_written reader old new s.moves (Ok summary) summary.lines refl (subst (λ (ls : List (List ℕ)). Takes new_journal ls s.moves.out summary.lines) (sym (no_more given))
    (outs_tell l stop (lines_of (within_limit 0 given ++ [])) s.moves.out summary (s.outs [] (λ e. refl))))

write_failed : LinesLaws → (reader old new : Option (List ℕ)) (stop : Bool) (w : WriteFails reader old new stop) → TellsHistory reader old new w.moves (Err fault.Write)
write_failed l reader old new stop w =
    let given = w.moves.given in
    let begun = w.begun [] (λ e. refl) in
    let told = subst (λ (ls : List (List ℕ)). Takes new_journal ls (w.moves.out ++ begun.0) begun.1.lines) (sym (no_more given))
    (outs_tell l stop (lines_of (within_limit 0 given ++ [])) (w.moves.out ++ begun.0) begun.1 begun.2) in
    record { turns = told.turns; taken = told.taken; unwritten = begun.0; text = told.text; whole = λ other. absurd (other refl); each = tt }

nothing_begun : (reader old new : Option (List ℕ)) (moved : runs.Moves reader new old) → moved.out ≡ [] → TellsHistory reader old new moved (Err fault.Memory)
nothing_begun reader old new moved none = record { turns = []; taken = tt; unwritten = []; text = sym none ∙ sym (append-nil moved.out); whole = λ other. refl; each = tt }

pub runs_tell_histories : LinesLaws → RunsTellHistories
runs_tell_histories l reader old new stop (Ok summary) run = served l reader old new stop summary run
runs_tell_histories l reader old new stop (Err fault.Read) run = broken_off l reader old new stop fault.Read run
runs_tell_histories l reader old new stop (Err fault.TooLong) run = broken_off l reader old new stop fault.TooLong run.0
runs_tell_histories l reader old new stop (Err fault.Write) run = write_failed l reader old new stop run
runs_tell_histories l reader old new stop (Err fault.Memory) run = nothing_begun reader old new run.0 run.2
