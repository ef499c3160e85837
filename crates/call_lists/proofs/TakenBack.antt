-- Commands that are taken back, and made again.
use Rattle.call_lists.proofs.Prelude.{◌≡◌, ℕ, zero, suc, ◌+◌, ◌-◌, ◌≤◌, inl, inr, Bool, false, None, List, [], ◌∷◌, ◌++◌, length, reverse, take, drop, replicate, nat_eq, refl, sym, ap, subst, ◌∙◌, append_assoc, take-append-drop, length-take, arith, ◌⊎◌, take-append-add, Ask, Call, Change, Command, Commit, Done, Drafting, Give, IsRecorded, Journal, Machine, Mark, Model, NothingToRedo, NothingToUndo, Open, Record, Redo, Session, Stage, Tells, TellsSession, Told, Undo, Why, accepted, after_redo, after_undo, ahead, back_to, depth, first_refusal, held, made, never, redo, redo_refusal, undo, undo_refusal, same_machine, goes, MakesAll, Each, IsOnward, IsTakenBack, CommandsAreTakenBack}
use Rattle.std.proofs.lemmas.Bool.Decides.{nat_tests}
use Rattle.call_lists.proofs.Histories.{session_stays}
use Rattle.call_lists.proofs.Lists.{done_or_idle}
use Rattle.call_lists.proofs.Places.{undone_place, redone_place}

-- ---- a list without undo and redo appends commands

abbrev journal_of : Stage → Journal
journal_of (Session s) = s
journal_of (Drafting d) = d.draft.session

-- no command, or one
abbrev AddsOne : Journal → Journal → Type 0
AddsOne s t = (t ≡ s) ⊎ ((N : Model) × (t.machine ≡ accepted s.machine N) × IsRecorded s t)

same : (s : Journal) (h g : Stage) → h ≡ g → journal_of g ≡ s → AddsOne s (journal_of h)
same s h g is x = inl (ap journal_of is ∙ x)

done_adds : (g h : Stage) (c : Call) → IsOnward c → Tells g c Done h → AddsOne (journal_of g) (journal_of h)
done_adds (Session s) h (Give (Change c)) on x = subst (λ (k : Stage). AddsOne s (journal_of k)) (sym x.1) (inr (made (held s.machine) c, x.2.1.0, record { command = _; appended = x.2.1.1 }))
done_adds (Session s) h (Give (Ask q)) on x = same s h (Session x.0) x.1 x.2.1
done_adds (Session s) h (Give Undo) on x = absurd on
done_adds (Session s) h (Give Redo) on x = absurd on
done_adds (Session s) h Open on (inl x) = same s h _ x.1 refl
done_adds (Session s) h Open on (inr x) = same s h _ x.1 refl
done_adds (Session s) h c on x = same s h _ x.1 refl
done_adds (Drafting d) h (Give c) on x = same d.draft.session h (Drafting x.0) x.1 (session_stays d.draft x.0.draft c Done x.2)
done_adds (Drafting d) h Mark on x = same d.draft.session h _ x.3 refl
done_adds (Drafting d) h Commit on x = subst (λ (k : Stage). AddsOne d.draft.session (journal_of k)) (sym x.1)
    (inr (d.draft.model, refl, record { command = record { forward = d.draft.forward; back = reverse d.draft.back }; appended = refl }))
done_adds (Drafting d) h c on x = same d.draft.session h _ x.1 refl

adds : (g h : Stage) (c : Call) (a : Told) → IsOnward c → Tells g c a h → AddsOne (journal_of g) (journal_of h)
adds g h c a on x = elim (done_or_idle g h c a x) [
  | inl d ↦ done_adds g h c on d.1
  | inr i ↦ inl (ap journal_of i.1)
]

-- n commands lead from s to t
abbrev Grows : Journal → ℕ → Journal → Type 0
Grows s zero t = t ≡ s
Grows s (suc n) t = (r : Journal) × (N : Model) × Grows s n r × (t.machine ≡ accepted r.machine N) × IsRecorded r t

one_more : (s r t : Journal) (n : ℕ) → Grows s n r → AddsOne r t → (m : ℕ) × Grows s m t
one_more s r t n x (inl is) = (n, subst (Grows s n) (sym is) x)
one_more s r t n x (inr one) = (suc n, (r, one.0, x, one.1, one.2))

all_grow : (s : Journal) (g h : Stage) (calls : List Call) (answers : List Told) (n : ℕ) → Grows s n (journal_of g) → Each IsOnward calls → MakesAll g calls answers h → (m : ℕ) × Grows s m (journal_of h)
all_grow s g h [] [] n x on is = (n, subst (λ (k : Stage). Grows s n (journal_of k)) (sym is) x)
all_grow s g h (c ∷ calls) (a ∷ answers) n x on y =
    let one = one_more s (journal_of g) (journal_of y.0) n x (adds g y.0 c a on.0 y.1) in all_grow s y.0 h calls answers one.0 one.1 on.1 y.2
all_grow s g h _ _ n x on y = absurd y

grown_depth : (s : Journal) (n : ℕ) (t : Journal) → Grows s n t → depth t.machine ≡ depth s.machine + n
grown_depth s zero t is = let same : depth t.machine ≡ depth s.machine = ap (λ (j : Journal). depth j.machine) is in omega (arith, same)
grown_depth s (suc n) t x =
    let before = grown_depth s n x.0 x.2 in
    let more : depth t.machine ≡ suc (depth x.0.machine) = ap depth x.3 in
    omega (arith, before, more)

-- ---- their records stand behind those of the commands before

abbrev Begins : Journal → Journal → Type 0
Begins s t = (later : List Record) × (t.records ≡ take (depth s.machine) s.records ++ later)

begins : (s : Journal) (n : ℕ) (t : Journal) → Grows s n t → Begins s t
begins s zero t is = (drop (depth s.machine) s.records, ap (λ (j : Journal). j.records) is ∙ sym (take-append-drop (depth s.machine) s.records))
begins s (suc n) t x =
    let front = take (depth s.machine) s.records in
    let before = begins s n x.0 x.2 in
    let deep = grown_depth s n x.0 x.2 in
    let short = length-take (depth s.machine) s.records in
    let more = depth x.0.machine - length front in
    let far : depth x.0.machine ≡ length front + more = omega (arith, deep, short) in
    let kept = ap (λ (k : ℕ). take k (front ++ before.0)) far ∙ take-append-add front before.0 more in
    (take more before.0 ++ x.4.command ∷ [], x.4.appended ∙ ap (λ (rs : List Record). take (depth x.0.machine) rs ++ x.4.command ∷ []) before.1 ∙ ap (λ (rs : List Record). rs ++ x.4.command ∷ []) kept ∙ append_assoc front (take more before.0) (x.4.command ∷ []))

-- ---- several undos, and several redos

-- a move, several times
abbrev times : ℕ → (Machine → Machine) → Machine → Machine
times zero move s = s
times (suc n) move s = times n move (move s)

last_first : (n : ℕ) (move : Machine → Machine) (s : Machine) → times n move (move s) ≡ move (times n move s)
last_first zero move s = refl
last_first (suc n) move s = last_first n move (move s)

-- so many undos lead back to the models that were behind
back_behind : (s : Journal) (n : ℕ) (t : Journal) (m : Machine) → Grows s n t → m.past ≡ t.machine.past → m.present ≡ t.machine.present
    → ((times n undo m).past ≡ s.machine.past) × ((times n undo m).present ≡ s.machine.present)
back_behind s zero t m is past present = (past ∙ ap (λ (m : Machine). m.past) (same_machine is), present ∙ ap held (same_machine is))
back_behind s (suc n) t m x past present =
    let behind : m.past ≡ x.0.machine.present ∷ x.0.machine.past = past ∙ ap (λ (k : Machine). k.past) x.3 in
    back_behind s n x.0 (undo m) x.2 (ap (λ (Ms : List Model). (back_to Ms m).past) behind) (ap (λ (Ms : List Model). (back_to Ms m).present) behind)

free : (n : ℕ) (why : Why) → first_refusal (never (nat_eq (suc n) 0) why 0 ∷ []) ≡ None
free n why = let some : nat_eq (suc n) 0 ≡ false = grind (arith, nat_tests) in ap (λ (b : Bool). first_refusal (never b why 0 ∷ [])) some

undo_free : (past : List Model) (M : Model) (future : List Model) (n : ℕ) → suc n ≤ length past → undo_refusal (record { past = past; present = M; future = future }) ≡ None
undo_free [] M future n le = absurd (omega (arith, le))
undo_free (P ∷ Ps) M future n le = free (length Ps) NothingToUndo

redo_free : (past : List Model) (M : Model) (future : List Model) (n : ℕ) → suc n ≤ length future → redo_refusal (record { past = past; present = M; future = future }) ≡ None
redo_free past M [] n le = absurd (omega (arith, le))
redo_free past M (N ∷ future) n le = free (length future) NothingToRedo

less_behind : (m : Machine) (n : ℕ) → suc n ≤ depth m → n ≤ depth (undo m)
less_behind m n le = let place = undone_place m.past m.present m.future (undo_free m.past m.present m.future n le) in omega (arith, place.0, le)

less_ahead : (m : Machine) (n : ℕ) → suc n ≤ ahead m → n ≤ ahead (redo m)
less_ahead m n le = let place = redone_place m.past m.present m.future (redo_free m.past m.present m.future n le) in omega (arith, place.1, le)

redone : (past : List Model) (M : Model) (future : List Model) (n : ℕ) → suc n ≤ length past → redo (undo (record { past = past; present = M; future = future })) ≡ record { past = past; present = M; future = future }
redone [] M future n le = absurd (omega (arith, le))
redone (P ∷ Ps) M future n le = refl

-- and so many are ahead then
all_ahead : (n : ℕ) (m : Machine) → n ≤ depth m → n ≤ ahead (times n undo m)
all_ahead n m le = let many = counted n m le in omega (arith, many)
  where
    counted : (k : ℕ) (s : Machine) → k ≤ depth s → ahead (times k undo s) ≡ ahead s + k
    counted zero s le = omega arith
    counted (suc k) s le =
        let rest = counted k (undo s) (less_behind s k le) in
        let place = undone_place s.past s.present s.future (undo_free s.past s.present s.future k le) in
        omega (arith, rest, place.1)

-- which so many redos make again
all_redone : (n : ℕ) (m : Machine) → n ≤ depth m → times n redo (times n undo m) ≡ m
all_redone zero m le = refl
all_redone (suc n) m le =
    last_first n redo (times n undo (undo m)) ∙ ap redo (all_redone n (undo m) (less_behind m n le)) ∙ redone m.past m.present m.future n le

-- ---- they are all done

abbrev moved : Journal → Machine → Journal
moved t m = record { machine = m; records = t.records }

-- a command that is done as long as there is room for it, and moves the machine
module _ (c : Command) (move : Machine → Machine) (room : Machine → ℕ) (less : (m : Machine) (n : ℕ) → suc n ≤ room m → n ≤ room (move m))
    (one : (t u : Journal) (a : Told) (n : ℕ) → suc n ≤ room t.machine → TellsSession t c a u → (a ≡ Done) × (u ≡ moved t (move t.machine))) where
  all_done : (n : ℕ) (t : Journal) (answers : List Told) (g : Stage) → n ≤ room t.machine → MakesAll (Session t) (replicate n (Give c)) answers g
      → (answers ≡ replicate n Done) × (g ≡ Session (moved t (times n move t.machine)))
  all_done zero t [] g le x = (refl, x)
  all_done (suc n) t (a ∷ answers) g le x =
      let first = one t x.1.0 a n le x.1.2 in
      let rest = subst (λ (k : Stage). MakesAll k (replicate n (Give c)) answers g) (x.1.1 ∙ ap Session first.1) x.2 in
      let later = all_done n (moved t (move t.machine)) answers g (less t.machine n le) rest in (
        λ i. first.0 i ∷ later.0 i,
        later.1,
      )
  all_done n t _ g le x = absurd x

undos_done : (n : ℕ) (t : Journal) (answers : List Told) (g : Stage) → n ≤ depth t.machine → MakesAll (Session t) (replicate n (Give Undo)) answers g
    → (answers ≡ replicate n Done) × (g ≡ Session (moved t (times n undo t.machine)))
undos_done = all_done Undo undo depth less_behind
    (λ t u a n le x. goes (undo_refusal t.machine) (u ≡ t) (u ≡ after_undo t) a (undo_free t.machine.past t.machine.present t.machine.future n le) x)

redos_done : (n : ℕ) (t : Journal) (answers : List Told) (g : Stage) → n ≤ ahead t.machine → MakesAll (Session t) (replicate n (Give Redo)) answers g
    → (answers ≡ replicate n Done) × (g ≡ Session (moved t (times n redo t.machine)))
redos_done = all_done Redo redo ahead less_ahead
    (λ t u a n le x. goes (redo_refusal t.machine) (u ≡ t) (u ≡ after_redo t) a (redo_free t.machine.past t.machine.present t.machine.future n le) x)

-- ---- the whole

module _ (s t : Journal) (n : ℕ) (grown : Grows s n t) (answers : List Told) (g : Stage) (x : MakesAll (Session t) (replicate n (Give Undo)) answers g) where
  deep : n ≤ depth t.machine
  deep = let d = grown_depth s n t grown in omega (arith, d)

  abbrev back : Journal
  back = moved t (times n undo t.machine)

  again : (others : List Told) (h : Stage) → MakesAll g (replicate n (Give Redo)) others h → (others ≡ replicate n Done) × (h ≡ Session t)
  again others h y =
      let redos = redos_done n back others h (all_ahead n t.machine deep) (subst (λ (k : Stage). MakesAll k (replicate n (Give Redo)) others h) (undos_done n t answers g deep x).1 y) in (
        redos.0,
        redos.1 ∙ ap (λ (m : Machine). Session (moved t m)) (all_redone n t.machine deep),
      )

  taken_back : IsTakenBack s t n answers g
  taken_back =
      let undos = undos_done n t answers g deep x in
      let behind = back_behind s n t t.machine grown refl refl in
      let records = begins s n t grown in record {
        done = undos.0;
        back = back;
        leads = undos.1;
        model = behind.1;
        behind = behind.0;
        later = records.0;
        records = records.1;
        redone = again;
      }

pub commands_are_taken_back : CommandsAreTakenBack
commands_are_taken_back s t calls answers n on x deeper others g y =
    let all = all_grow s (Session s) (Session t) calls answers 0 refl on x in
    let d = grown_depth s all.0 t all.1 in
    let many : all.0 ≡ n = omega (arith, d, deeper) in
    taken_back s t n (subst (λ (k : ℕ). Grows s k t) many all.1) others g y
