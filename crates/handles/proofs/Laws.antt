-- Exports of a handle are a list of calls.
use Rattle.std.proofs.Common.{◌≡◌, ◌∙◌, ℕ, suc, zero, Bool, true, false, ap, arith, cond, inl, inr, sym, refl, subst, List, [], ◌∷◌, Option, Some, None, replicate}
use Rattle.call_lists.specs.Common.{Call, Done, Drafting, Give, IsWhole, Session, Stage, Tells, Undo, new_journal}
use Rattle.call_lists.specs.Making.{MakesAll}
use Rattle.call_lists.specs.Laws.{CommandsAreTakenBack, Each, ListsKeepWhole}
use Rattle.session_slots.specs.Common.{Told, Asked, Model, Opened, calls, keeps, shown, slot_in}
use Rattle.handles.specs.Uses.{HandleGoes, HandleHeeds, Use, asks, closes, opens, reads, skips}
use Rattle.euler_operators.specs.Common.{Sound}
use Rattle.handles.specs.Listed.{JudgesText, ListedIsHeld}
use Rattle.session_slots.specs.Opening.{stage_in}
use Rattle.solid_listing.specs.Listing.{listing}
use Rattle.solid_listing.specs.Telling.{ListingTells}
use Rattle.session_slots.specs.declared.slot.Slot.{Slot}
use Rattle.handles.specs.Laws.{AreAnswered, HandleGoesOn, HandlesAreTakenBack, HandlesBeginNew, HandlesMakeCalls, HandlesStayWhole, IsWholeHandle, ReadersLeaveHandles, StaysOpen, calls_in}

one_stage : (o : Option Stage) (g h : Stage) → o ≡ Some g → o ≡ Some h → g ≡ h
one_stage (Some k) g h a b = cc
one_stage None g h a b = cc

-- ---- what is held stays whole

heeded : ListsKeepWhole → (x : Slot) (new : Option Slot) (q : Asked) (n : ℕ) → IsWholeHandle (Some x) → HandleHeeds (Some x) q new n → IsWholeHandle new
heeded keep x new (calls c) n whole d =
    let before = subst IsWhole (one_stage x.console.stage whole.0 d.0 whole.1 d.3) whole.2 in
    subst IsWholeHandle (sym d.4) (d.1, d.5, keep d.0 d.1 (c ∷ []) (d.6.0 ∷ []) before (d.1, d.6.1, refl))
heeded keep x new (keeps a) n whole d =
    let before = subst IsWhole (one_stage x.console.stage whole.0 d.0 whole.1 d.3) whole.2 in
    subst IsWholeHandle (sym d.4) (d.1, d.5, subst IsWhole (sym d.6.0) before)

module _ (begun : IsWhole (Session new_journal)) (keep : ListsKeepWhole) where
  opened : (new : Option Slot) (b : Bool) → Opened None new b → IsWholeHandle new
  opened None true o = absurd (cc o.0)
  opened None false o = tt
  opened (Some y) true o = (Session new_journal, o.0, begun)
  opened (Some y) false o = absurd (cc o)

  goes : (old new : Option Slot) (u : Use) (n : ℕ) → IsWholeHandle old → HandleGoes old u new n → IsWholeHandle new
  goes None new opens n whole x = opened new x.0 x.2
  goes (Some s) new opens n whole x = subst IsWholeHandle (sym x.2.1) whole
  goes old new closes n whole x = subst IsWholeHandle (sym x) tt
  goes None new (asks q) n whole x = subst IsWholeHandle (sym x.0) tt
  goes (Some s) new (asks q) n whole x = heeded keep s new q n whole x
  goes None new skips n whole x = subst IsWholeHandle (sym x.0) tt
  goes (Some s) new skips n whole x = subst IsWholeHandle (sym x.0) whole
  goes old new reads n whole x = subst IsWholeHandle (sym x) whole

  pub stay_whole : HandlesStayWhole
  stay_whole old new [] [] whole x = subst IsWholeHandle (sym x) whole
  stay_whole old new [] (n ∷ kinds) whole x = absurd x
  stay_whole old new (u ∷ uses) [] whole x = absurd x
  stay_whole old new (u ∷ uses) (n ∷ kinds) whole x = stay_whole x.0 new uses kinds (goes old x.0 u n whole x.1) x.2

-- ---- exports are calls

pub make_calls : HandlesMakeCalls
make_calls x g [] [] new at stays v = (x, g, [], v, at, refl, (refl, refl))
make_calls x g [] (n ∷ kinds) new at stays v = absurd v
make_calls x g (u ∷ uses) [] new at stays v = absurd v
make_calls x g (asks (calls c) ∷ uses) (n ∷ kinds) new at stays v =
    let d = v.1 in
    let rest = make_calls d.2 d.1 uses kinds new d.5 stays.1 (subst (λ (o : Option Slot). HandleGoesOn o uses kinds new) d.4 v.2) in
    let told = subst (λ (k : Stage). Tells k c d.6.0 d.1) (one_stage x.console.stage d.0 g d.3 at) d.6.1 in (
      rest.0,
      rest.1,
      d.6.0 ∷ rest.2,
      rest.3,
      rest.4,
      (d.1, told, rest.5),
      (d.6.3, subst (λ (b : Told). AreAnswered b uses rest.2 kinds rest.0.console.answer) d.6.2 rest.6),
    )
make_calls x g (asks (keeps a) ∷ uses) (n ∷ kinds) new at stays v =
    let d = v.1 in
    let there : d.2.console.stage ≡ Some g = d.5 ∙ ap (λ (k : Stage). Some k) (d.6.0 ∙ one_stage x.console.stage d.0 g d.3 at) in
    let rest = make_calls d.2 g uses kinds new there stays.1 (subst (λ (o : Option Slot). HandleGoesOn o uses kinds new) d.4 v.2) in
    (rest.0, rest.1, rest.2, rest.3, rest.4, rest.5, (d.6.2, subst (λ (b : Told). AreAnswered b uses rest.2 kinds rest.0.console.answer) d.6.1 rest.6))
make_calls x g (opens ∷ uses) (n ∷ kinds) new at stays v =
    let rest = make_calls x g uses kinds new at stays.1 (subst (λ (o : Option Slot). HandleGoesOn o uses kinds new) v.1.2.1 v.2) in
    (rest.0, rest.1, rest.2, rest.3, rest.4, rest.5, (v.1.1 ∙ ap (λ (b : Bool). cond b 1 0) v.1.2.0, rest.6))
make_calls x g (skips ∷ uses) (n ∷ kinds) new at stays v =
    let rest = make_calls x g uses kinds new at stays.1 (subst (λ (o : Option Slot). HandleGoesOn o uses kinds new) v.1.0 v.2) in
    (rest.0, rest.1, rest.2, rest.3, rest.4, rest.5, (v.1.1, rest.6))
make_calls x g (reads ∷ uses) (n ∷ kinds) new at stays v =
    make_calls x g uses kinds new at stays.1 (subst (λ (o : Option Slot). HandleGoesOn o uses kinds new) v.1 v.2)
make_calls x g (closes ∷ uses) (n ∷ kinds) new at stays v = absurd stays.0

pub begin_new : HandlesBeginNew
begin_new None (true, e, o) = absurd (cc o.0)
begin_new (Some y) (true, e, o) = (y, refl, o.0, cc)
begin_new new (false, e, o) = absurd (omega (arith, e))

-- ---- commands are taken back

undo_calls : (n : ℕ) → calls_in (replicate n (asks (calls (Give Undo)))) ≡ replicate n (Give Undo)
undo_calls zero = refl
undo_calls (suc n) = ap (λ (cs : List Call). Give Undo ∷ cs) (undo_calls n)

undos_stay : (n : ℕ) → Each StaysOpen (replicate n (asks (calls (Give Undo))))
undos_stay zero = tt
undos_stay (suc n) = (tt, undos_stay n)

all_ok : (n : ℕ) (b k : Told) (kinds : List ℕ) → AreAnswered b (replicate n (asks (calls (Give Undo)))) (replicate n Done) kinds k → kinds ≡ replicate n 1
all_ok zero b k kinds x = x.0
all_ok (suc n) b k [] x = absurd x
all_ok (suc n) b k (m ∷ kinds) x = let rest = all_ok n _ k kinds x.1 in (λ i. x.0 i ∷ rest i)

pub take_back : CommandsAreTakenBack → HandlesAreTakenBack
take_back law x y s t uses kinds others new n at there stays onward v more w =
    let first = make_calls x (Session s) uses kinds (Some y) at stays v in
    let leads = one_stage y.console.stage first.1 (Session t) (ap stage_in first.3 ∙ first.4) there in
    let made = subst (λ (k : Stage). MakesAll (Session s) (calls_in uses) first.2 k) leads first.5 in
    let second = make_calls y (Session t) (replicate n (asks (calls (Give Undo)))) others new there (undos_stay n) w in
    let undone = law s t (calls_in uses) first.2 n onward made more second.2 second.1
    (subst (λ (cs : List Call). MakesAll (Session t) cs second.2 second.1) (undo_calls n) second.5) in
    let answered = subst (λ (a : List Told). AreAnswered y.console.answer (replicate n (asks (calls (Give Undo)))) a others second.0.console.answer) undone.done second.6 in (
      all_ok n y.console.answer second.0.console.answer others answered,
      second.0,
      undone.back,
      second.3,
      second.4 ∙ ap (λ (k : Stage). Some k) undone.leads,
      undone.model,
    )

pub leave_handles : ReadersLeaveHandles
leave_handles old new n is = ap slot_in is

-- ---- what is listed is held

shown_is_sound : (g : Stage) → IsWhole g → Sound (shown g)
shown_is_sound (Session s) whole = whole.held_sound
shown_is_sound (Drafting d) whole = whole.1

is_listing : (M : Model) (text : List ℕ) → JudgesText M text 1 → text ≡ listing M
is_listing M text (inl x) = x.1
is_listing M text (inr (inl x)) = absurd (omega (arith, x.0))
is_listing M text (inr (inr x)) = absurd (omega (arith, x))

pub listed_is_held : ListingTells → ListedIsHeld
listed_is_held tells x g text M at whole judged sound listed =
    (tells (shown g) M (shown_is_sound g whole) sound).0 (sym (is_listing (shown g) text (judged g at)) ∙ sym listed)
