-- The laws of lists of calls.
use Rattle.std.specs.Prelude.{◌≡◌, ◌≢◌, ℕ, ◌+◌, ◌-◌, ◌≤◌, Bool, true, false, cond, List, [], ◌∷◌, ◌++◌, length, take, replicate}
use Rattle.call_lists.specs.Common.{Abandon, Ask, Back, Call, Change, Command, Commit, Done, Drafting, Give, IsWhole, Journal, Machine, Mark, Memory, Model, Open, OpenDraft, Record, Redo, Session, Stage, Tells, Told, Undo, after_calls, ahead, depth, empty_model, held, model_at, redos, shown, steps_in, undos}
use Rattle.undo_journal.specs.Histories as histories
use Rattle.solid_listing.specs.declared.told.Told.TheVariants as told
use Rattle.call_lists.specs.Making.{MakesAll}

-- the machine of a session; for a draft the machine of the session in which it was opened
abbrev pub machine_of : Stage → Machine
machine_of (Session s) = s.machine
machine_of (Drafting d) = d.draft.session.machine

-- whether there is a draft
abbrev pub is_draft : Stage → Bool
is_draft (Session s) = false
is_draft (Drafting d) = true

-- a list of `many` calls of the plain machine leads from s to t
pub record HasHistory (s : Machine) (many : ℕ) (t : Machine) : Type 0 where
  pub history : List histories.Call
  pub as_many : length history ≡ many
  pub leads : after_calls s history ≡ t

-- what `make_all` says of a list is a history with one call for each call of the list
abbrev pub ListsAreHistories : Type 0
ListsAreHistories = (g h : Stage) (calls : List Call) (answers : List Told) → IsWhole g → MakesAll g calls answers h → HasHistory (machine_of g) (length calls) (machine_of h)

-- each model of the session or draft to which a list leads is sound
abbrev pub ListsKeepWhole : Type 0
ListsKeepWhole = (g h : Stage) (calls : List Call) (answers : List Told) → IsWhole g → MakesAll g calls answers h → IsWhole h

-- two lists of calls, one after the other, lead through a stage whose models are sound
pub record GoesThrough (g : Stage) (calls more : List Call) (answers : List Told) (h : Stage) : Type 0 where
  pub between : Stage
  pub told : List Told
  pub later : List Told
  pub answers_are : answers ≡ told ++ later
  pub before : MakesAll g calls told between
  pub whole : IsWhole between
  pub after : MakesAll between more later h

-- so every model that was ever held is sound, also one that a later command dropped
abbrev pub EachIsWhole : Type 0
EachIsWhole = (g h : Stage) (calls more : List Call) (answers : List Told) → IsWhole g → MakesAll g (calls ++ more) answers h → GoesThrough g calls more answers h

-- how many commands can be undone, and how many redone, and whether there is a draft
pub record Place : Type 0 where
  pub behind : ℕ
  pub ahead : ℕ
  pub drafting : Bool

abbrev pub place_of : Stage → Place
place_of g = record { behind = depth (machine_of g); ahead = ahead (machine_of g); drafting = is_draft g }

-- in a session a change leaves one more command to undo and none to redo; undo leaves one fewer to undo and one more to redo, and redo the reverse
abbrev pub after_command : Place → Command → Place
after_command p (Change c) = record { behind = p.behind + 1; ahead = 0; drafting = false }
after_command p (Ask q) = p
after_command p Undo = record { behind = p.behind - 1; ahead = p.ahead + 1; drafting = false }
after_command p Redo = record { behind = p.behind + 1; ahead = p.ahead - 1; drafting = false }

-- a session opens a draft; the draft ends as one command, or leaves no trace
abbrev pub after_done : Place → Call → Place
after_done p (Give c) = cond p.drafting p (after_command p c)
after_done p Open = record { behind = p.behind; ahead = p.ahead; drafting = true }
after_done p Mark = p
after_done p (Back n) = p
after_done p Commit = record { behind = p.behind + 1; ahead = 0; drafting = false }
after_done p Abandon = record { behind = p.behind; ahead = p.ahead; drafting = false }

abbrev pub is_done : Told → Bool
is_done Done = true
is_done a = false

-- a call that isn't told `Done` changes nothing
abbrev pub place_after : Place → Call → Told → Place
place_after p c a = cond (is_done a) (after_done p c) p

abbrev pub place_after_all : Place → List Call → List Told → Place
place_after_all p [] answers = p
place_after_all p (c ∷ calls) [] = p
place_after_all p (c ∷ calls) (a ∷ answers) = place_after_all (place_after p c a) calls answers

-- so the place after a list is known from its calls and answers alone
abbrev pub PlacesAreCounted : Type 0
PlacesAreCounted = (g h : Stage) (calls : List Call) (answers : List Told) → MakesAll g calls answers h → place_of h ≡ place_after_all (place_of g) calls answers

-- as many undos as commands were done and not taken back lead to the empty model
abbrev pub UndosLeadToTheFirst : Type 0
UndosLeadToTheFirst = (g h : Stage) (calls : List Call) (answers : List Told) → IsWhole g → MakesAll g calls answers h
    → held (undos (place_after_all (place_of g) calls answers).behind (machine_of h)) ≡ empty_model

-- and as many redos as commands were taken back lead to the last model
abbrev pub RedosLeadToTheLast : Type 0
RedosLeadToTheLast = (g h : Stage) (calls : List Call) (answers : List Told) → MakesAll g calls answers h
    → held (redos (place_after_all (place_of g) calls answers).ahead (machine_of h)) ≡ model_at (machine_of h) (depth (machine_of h) + ahead (machine_of h))

-- each element has the property P
abbrev pub Each : {X : Type 0} → (X → Type 0) → List X → Type 0
Each P [] = Unit {0}
Each P (x ∷ xs) = P x × Each P xs

-- a call that is neither undo nor redo
abbrev pub IsOnward : Call → Type 0
IsOnward (Give Undo) = ⊥
IsOnward (Give Redo) = ⊥
IsOnward c = Unit {0}

-- these are the answers to n undos from t: all are done, and lead to g, which holds the model of s, with the models behind it and the records of its
-- commands unchanged; n redos from g are then all done too, and lead to t with its records
pub record IsTakenBack (s t : Journal) (n : ℕ) (answers : List Told) (g : Stage) : Type 0 where
  pub done : answers ≡ replicate n Done
  pub back : Journal
  pub leads : g ≡ Session back
  pub model : held back.machine ≡ held s.machine
  pub behind : back.machine.past ≡ s.machine.past
  pub later : List Record
  pub records : back.records ≡ take (depth s.machine) s.records ++ later
  pub redone : (others : List Told) (h : Stage) → MakesAll g (replicate n (Give Redo)) others h → (others ≡ replicate n Done) × (h ≡ Session t)

-- if a list without undo and redo leads from s to t, and n more commands can be undone after it, then n undos take it back
abbrev pub CommandsAreTakenBack : Type 0
CommandsAreTakenBack = (s t : Journal) (calls : List Call) (answers : List Told) (n : ℕ) → Each IsOnward calls → MakesAll (Session s) calls answers (Session t) → depth t.machine ≡ depth s.machine + n
    → (others : List Told) (g : Stage) → MakesAll (Session t) (replicate n (Give Undo)) others g → IsTakenBack s t n others g

-- a call that isn't told `Done` leaves the session or draft as it was, with its records and steps
abbrev pub OnlyDoneChanges : Type 0
OnlyDoneChanges = (g h : Stage) (c : Call) (a : Told) → a ≢ Done → Tells g c a h → h ≡ g

-- a list of calls of which none is done leaves it so too
abbrev pub IdleListsStay : Type 0
IdleListsStay = (g h : Stage) (calls : List Call) (answers : List Told) → Each (λ a. a ≢ Done) answers → MakesAll g calls answers h → h ≡ g

-- whether a call was told that memory was refused
abbrev pub is_memory : Told → Bool
is_memory Memory = true
is_memory a = false

-- the calls whose answer isn't `Memory`, and the answers to these calls
abbrev pub heard : List Call → List Told → List Call
heard [] answers = []
heard (c ∷ calls) [] = []
heard (c ∷ calls) (a ∷ answers) = cond (is_memory a) (heard calls answers) (c ∷ heard calls answers)

abbrev pub told_else : List Told → List Told
told_else [] = []
told_else (a ∷ answers) = cond (is_memory a) (told_else answers) (a ∷ told_else answers)

-- calls that are told `Memory` can be left out: the other answers are the same
abbrev pub MemoryCanBeLeftOut : Type 0
MemoryCanBeLeftOut = (g h : Stage) (calls : List Call) (answers : List Told) → MakesAll g calls answers h → MakesAll g (heard calls answers) (told_else answers) h

-- no call has to do with a mark: a mark is a number of steps, in which two drafts may differ that are seen alike
abbrev pub IsUnmarked : Call → Type 0
IsUnmarked Mark = ⊥
IsUnmarked (Back n) = ⊥
IsUnmarked c = Unit {0}

-- a stage without its records and steps
pub record View : Type 0 where
  pub machine : Machine
  pub model : Model
  pub drafting : Bool

abbrev pub view_of : Stage → View
view_of g = record { machine = machine_of g; model = shown g; drafting = is_draft g }

-- two sessions or drafts are alike but for their records and steps. If no answer is `Memory`, calls without marks have one list of answers in both, and
-- lead to two that are alike in this way
abbrev pub ListsHaveOneAnswer : Type 0
ListsHaveOneAnswer = (g k h j : Stage) (calls : List Call) (answers others : List Told) → Each IsUnmarked calls → Each (λ a. a ≢ Memory) answers → Each (λ b. b ≢ Memory) others
    → view_of k ≡ view_of g → MakesAll g calls answers h → MakesAll k calls others j → (others ≡ answers) × (view_of j ≡ view_of h)

-- if no answer is `Memory`, the calls have one list of answers, and lead to one session or draft, with its records, steps and marks
abbrev pub ListsHaveOneOutcome : Type 0
ListsHaveOneOutcome = (g h j : Stage) (calls : List Call) (answers others : List Told) → Each (λ a. a ≢ Memory) answers → Each (λ b. b ≢ Memory) others
    → MakesAll g calls answers h → MakesAll g calls others j → (others ≡ answers) × (j ≡ h)

-- a call in a draft that neither ends it nor goes back before step n
abbrev pub GoesOnFrom : ℕ → Call → Type 0
GoesOnFrom n (Back m) = n ≤ m
GoesOnFrom n Commit = ⊥
GoesOnFrom n Abandon = ⊥
GoesOnFrom n c = Unit {0}

-- the number of steps in a draft is a mark of it, also if it was read and is not the answer to a call
abbrev pub StepsAreMarks : Type 0
StepsAreMarks = (d : OpenDraft) → IsWhole (Drafting d) → Tells (Drafting d) Mark (told.Steps (steps_in (Drafting d))) (Drafting d)

-- a mark was told n; after calls that neither end the draft nor go back before it, going back to n is done and gives the draft as it was
abbrev pub MarksLeadBack : Type 0
MarksLeadBack = (g k h j : Stage) (n : ℕ) (calls : List Call) (answers : List Told) (a : Told) → Tells g Mark (told.Steps n) k → Each (GoesOnFrom n) calls → MakesAll k calls answers h
    → Tells h (Back n) a j → (a ≡ Done) × (j ≡ g)
