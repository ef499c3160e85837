-- What blocks, splits, undos and redos of a script make.
use Rattle.script_laws.proofs.Prelude.{◌≡◌, ◌⊎◌, inl, inr, ℕ, Bool, true, false, List, [], ◌∷◌, Option, Some, None, Result, Ok, Err, ℤ, pos, int_lt, refl, sym, ap, subst, ◌∙◌, AllByRecursion, Model, Has, is_number, Refusal, Why, NumberRange, NoSolid, Machine, start, held, undo, undo_refusal, redo, redo_refusal, block, block_refusal, plane_with, split, split_refusal, block_made, BuiltHaveVolume, IsBuilt, redone, solid_split, started, undone, answer, face_refusal, solid_refusal, plane_of, is_flat, six_volume, counts, Change, Question, value_or_refusal, request_of, lines_of, over, Request, Fault, reply_text, AsksFor, asked_for, answer_text, moved, given, obeyed, answered, answer_of, machine_after, Told, IsBlockOrSplit, OnlyBlocksAndSplits, BlocksAndSplitsHaveVolume}
use Rattle.euler_operators.specs.Table as table
use Rattle.call_types.specs.declared.command.Change.TheVariants as change
use Rattle.call_types.specs.declared.command.Question.TheVariants as question
use Rattle.call_types.specs.declared.command.Command.TheVariants as command
use Rattle.solid_listing.specs.declared.told.Told.TheVariants as told
use Rattle.script_reader.specs.declared.command.Request.TheVariants as request
use Rattle.script_laws.proofs.Behind.{after, reached}
use Rattle.script_laws.proofs.Measured.{asks, volume_adds}

-- ---- machines

-- a turn leads to a machine that is built
record LeadsToBuilt (turn : Told × Machine) : Type 0 where
  built : IsBuilt turn.1

moved_built : (o : Option Refusal) (s next : Machine) → IsBuilt s → (o ≡ None → IsBuilt next) → LeadsToBuilt (moved o s next)
moved_built None s next b h = record { built = h refl }
moved_built (Some r) s next b h = record { built = b }

change_built : (s : Machine) (c : Change) → IsBuilt s → IsBlockOrSplit c → LeadsToBuilt (given s (command.Change c))
change_built s (change.Block n p dx dy dz) b h =
    moved_built (block_refusal s n p dx dy dz) s (block s n p dx dy dz) b (λ none. block_made s (block s n p dx dy dz) n p dx dy dz b (none, refl))
change_built s (change.Split n x y z w m) b h =
    let p = plane_with x y z w in
    moved_built (split_refusal s n p m) s (split s n p m) b (λ none. solid_split s (split s n p m) n p m b (none, refl))
change_built s c b h = absurd h

-- whatever change is asked for is a block or a split
abbrev MayAsk : Request → Type 0
MayAsk r = (c : Change) → asked_for r ≡ Some (command.Change c) → IsBlockOrSplit c

obeyed_built : (s : Machine) (r : Request) → IsBuilt s → MayAsk r → LeadsToBuilt (obeyed s r)
obeyed_built s (request.Over o ps) b h = change_built s (over o ps) b (h (over o ps) refl)
obeyed_built s (request.Give (command.Change c)) b h = change_built s c b (h c refl)
obeyed_built s (request.Give command.Undo) b h = moved_built (undo_refusal s) s (undo s) b (λ none. undone s b none)
obeyed_built s (request.Give command.Redo) b h = moved_built (redo_refusal s) s (redo s) b (λ none. redone s b none)
obeyed_built s r b h = record { built = b }

answered_built : (s : Machine) (r : Result Request Fault) → IsBuilt s → ((q : Request) → r ≡ Ok q → MayAsk q) → LeadsToBuilt (answered s r)
answered_built s (Ok q) b h = obeyed_built s q b (h q refl)
answered_built s (Err f) b h = record { built = b }

-- a line that asks for no other change
abbrev pub MayStand : List ℕ → Type 0
MayStand line = (c : Change) → AsksFor line (command.Change c) → IsBlockOrSplit c

pub line_built : (s : Machine) (line : List ℕ) → IsBuilt s → MayStand line → IsBuilt (machine_after s line)
unfolding machine_after
line_built s line b h = (answered_built s (request_of line) b (λ q is c e. h c (q, is, e))).built

lines_built : (s : Machine) (lines : List (List ℕ)) → IsBuilt s → AllByRecursion MayStand lines → IsBuilt (after s lines)
lines_built s [] b h = b
lines_built s (line ∷ lines) b h = lines_built (machine_after s line) lines (line_built s line b h.0) h.1

script_built : (script : List ℕ) → OnlyBlocksAndSplits script → IsBuilt (reached script)
script_built script h = lines_built start (lines_of script) started h

-- ---- questions

-- the solid is there, or the question for it is refused
found : (M : Model) (n : ℕ) → ((solid_refusal M n ≡ None) × Has M.solids n) ⊎ ((w : Why) × (solid_refusal M n ≡ Some (record { why = w; number = n })))
found M n = by_tests (is_number n) (table.has M.solids n) refl refl where
  by_tests : (fits there : Bool) → is_number n ≡ fits → table.has M.solids n ≡ there → ((solid_refusal M n ≡ None) × Has M.solids n) ⊎ ((w : Why) × (solid_refusal M n ≡ Some (record { why = w; number = n })))
  by_tests true true e f = inl (rw (e, f) refl, f)
  by_tests true false e f = inr (NoSolid, rw (e, f) refl)
  by_tests false there e f = inr (NumberRange, rw e refl)

pub have_volume : BuiltHaveVolume → BlocksAndSplitsHaveVolume
have_volume volume script ask n h only spells =
    let s = reached script in
    elim (found (held s) n) [
      | inl there ↦ inl (six_volume (held s) n, volume s (script_built script only) n there.1, volume_adds script ask n (six_volume (held s) n) h spells there.0 refl)
      | inr is ↦ inr (
        is.0,
        asks script ask (question.Volume n) (reply_text (told.Refused (record { why = is.0; number = n }))) h spells
            (ap (λ (o : Option Refusal). answer_text s (value_or_refusal (answer o (told.Volume (six_volume (held s) n))))) is.1),
      )
    ]

-- ---- volumes among the answers

-- a volume that is answered is greater than 0
record AnswersPositive (turn : Told × Machine) : Type 0 where
  positive : (z : ℤ) → turn.0 ≡ told.Volume z → int_lt (pos 0) z ≡ true

moved_positive : (o : Option Refusal) (s next : Machine) → AnswersPositive (moved o s next)
moved_positive None s next = record { positive = λ z e. absurd (cc e) }
moved_positive (Some r) s next = record { positive = λ z e. absurd (cc e) }

volume_positive : (o : Option Refusal) (v z : ℤ) → (o ≡ None → int_lt (pos 0) v ≡ true) → value_or_refusal (answer o (told.Volume v)) ≡ told.Volume z → int_lt (pos 0) z ≡ true
volume_positive None v z h e = let same : v ≡ z = cc e in subst (λ (u : ℤ). int_lt (pos 0) u ≡ true) same (h refl)
volume_positive (Some r) v z h e = absurd (cc e)

plane_other : (o : Option Refusal) (M : Model) (f : ℕ) (z : ℤ) → value_or_refusal (answer o (told.Plane (plane_of M f) (is_flat M f))) ≡ told.Volume z → ⊥
plane_other None M f z e = absurd (cc e)
plane_other (Some r) M f z e = absurd (cc e)

counts_other : (o : Option Refusal) (M : Model) (n : ℕ) (z : ℤ) → value_or_refusal (answer o (told.Counts (counts M n))) ≡ told.Volume z → ⊥
counts_other None M n z e = absurd (cc e)
counts_other (Some r) M n z e = absurd (cc e)

there_if : (M : Model) (n : ℕ) → solid_refusal M n ≡ None → Has M.solids n
there_if M n none = elim (found M n) [ inl there ↦ there.1 | inr is ↦ absurd (cc (sym none ∙ is.1)) ]

module _ (volume : BuiltHaveVolume) (s : Machine) (b : IsBuilt s) where
  asked_positive : (q : Question) → AnswersPositive (given s (command.Ask q))
  asked_positive (question.Volume n) = record { positive = λ z e. volume_positive (solid_refusal (held s) n) (six_volume (held s) n) z (λ none. volume s b n (there_if (held s) n none)) e }
  asked_positive (question.Plane f) = record { positive = λ z e. absurd (plane_other (face_refusal (held s) f) (held s) f z e) }
  asked_positive (question.Count n) = record { positive = λ z e. absurd (counts_other (solid_refusal (held s) n) (held s) n z e) }

  obeyed_positive : (r : Request) → AnswersPositive (obeyed s r)
  obeyed_positive (request.Over o ps) = moved_positive _ s _
  obeyed_positive (request.Give (command.Change c)) = moved_positive _ s _
  obeyed_positive (request.Give (command.Ask q)) = asked_positive q
  obeyed_positive (request.Give command.Undo) = moved_positive _ s _
  obeyed_positive (request.Give command.Redo) = moved_positive _ s _
  obeyed_positive r = record { positive = λ z e. absurd (cc e) }

  answered_positive : (r : Result Request Fault) → AnswersPositive (answered s r)
  answered_positive (Ok q) = obeyed_positive q
  answered_positive (Err f) = record { positive = λ z e. absurd (cc e) }

  pub line_positive : (line : List ℕ) (z : ℤ) → answer_of s line ≡ told.Volume z → int_lt (pos 0) z ≡ true
  unfolding answer_of
  line_positive line = (answered_positive (request_of line)).positive
