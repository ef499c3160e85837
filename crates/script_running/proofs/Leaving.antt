-- The session that a run leaves, from what was heard and told.
use Rattle.script_running.proofs.Prelude.{◌≡◌, ◌∙◌, ◌+◌, ℕ, List, [], ◌∷◌, ◌++◌, length, Option, Some, Ok, Err, IfOk, Result, ap, append-nil, append_assoc, arith, length-append, refl, subst, sym, Told, Journal, Judges, RunFault, Session, Stage, Summary, answer_text, counted, lines_of, new_journal, one_line, within_limit}
use Rattle.script_running.proofs.Counting.{one_more}
use Rattle.script_running.specs.Leaving.{LeadOn, Leaves}
use Rattle.script_running.specs.declared.running.RunFault.TheVariants as faults

-- one line more
pub lead_more : (s t u : Journal) (heard : List (List ℕ)) (line out : List ℕ) (a : Told) → LeadOn s heard out t → Judges t line a u → LeadOn s (heard ++ line ∷ []) (out ++ answer_text u.machine a) u
lead_more s t u [] line out a h judged =
    (a, u, [], subst (λ (q : Journal). Judges q line a u) h.1 judged, ap (λ (xs : List ℕ). xs ++ answer_text u.machine a) h.0 ∙ sym (append-nil (answer_text u.machine a)), (refl, refl))
lead_more s t u (l ∷ heard) line out a (b, next, rest, told, text, on) judged = (
  b,
  next,
  rest ++ answer_text u.machine a,
  told,
  ap (λ (xs : List ℕ). xs ++ answer_text u.machine a) text ∙ append_assoc (answer_text next.machine b) rest (answer_text u.machine a),
  lead_more next t u heard line rest a on judged,
)

pub one_heard : (n m : Summary) (a : Told) (heard : List (List ℕ)) (line : List ℕ) → length heard ≡ n.lines → m ≡ counted n (one_line a) → length (heard ++ line ∷ []) ≡ m.lines
one_heard n m a heard line each is =
    let more : m.lines ≡ n.lines + (one_line a).lines = ap (λ (k : Summary). k.lines) is in omega (arith, length-append heard (line ∷ []), each, one_more a, more)

-- what was read is what was heard, and what is in no line yet
pub read_so : (given : List ℕ) (lines : List (List ℕ)) → lines_of (within_limit 0 given ++ []) ≡ lines → lines_of (within_limit 0 given) ≡ lines
read_so given lines e = ap lines_of (sym (append-nil (within_limit 0 given))) ∙ e

-- all that was told is written
pub left_whole : (given out : List ℕ) (result : Result Summary RunFault) (left : Option Stage) (s : Journal) (heard unheard : List (List ℕ)) → left ≡ Some (Session s) → lines_of (within_limit 0 given) ≡ heard ++ unheard → LeadOn new_journal heard out s
    → IfOk result (λ summary. length heard ≡ summary.lines) → Leaves given out result left
left_whole given out result left s heard unheard there lines leads each = record {
  session = s;
  there = there;
  heard = heard;
  unheard = unheard;
  lines = lines;
  unwritten = [];
  leads = subst (λ (text : List ℕ). LeadOn new_journal heard text s) (sym (append-nil out)) leads;
  whole = λ other. refl;
  each = each;
}

-- a write failed: the front of what was told is written
pub left_so : (given front rest told : List ℕ) (left : Option Stage) (s : Journal) (heard unheard : List (List ℕ)) → left ≡ Some (Session s) → lines_of (within_limit 0 given) ≡ heard ++ unheard → told ≡ front ++ rest → LeadOn new_journal heard told s
    → Leaves given front (Err faults.Write) left
left_so given front rest told left s heard unheard there lines parts leads = record {
  session = s;
  there = there;
  heard = heard;
  unheard = unheard;
  lines = lines;
  unwritten = rest;
  leads = subst (λ (text : List ℕ). LeadOn new_journal heard text s) parts leads;
  whole = λ other. absurd (other refl);
  each = tt;
}

-- all was told, and then a write failed
pub whole_so : (given out : List ℕ) (n : Summary) (f : RunFault) (left : Option Stage) → Leaves given out (Ok n) left → Leaves given out (Err f) left
whole_so given out n f left v = record {
  session = v.session;
  there = v.there;
  heard = v.heard;
  unheard = v.unheard;
  lines = v.lines;
  unwritten = v.unwritten;
  leads = v.leads;
  whole = λ other. v.whole (λ is. cc);
  each = tt;
}
