-- How a command that was settled ended.
use Rattle.commands.proofs.Prelude.{◌≡◌, inl, inr, Option, Some, None, Ok, Err, refl, sym, subst, ◌∙◌, OnOk, OnErr, ◌≢◌, ◌⊎◌, ◌↔◌, Result, verdict, Done, Failure, Memory, Refusal, Refused, Told, Settled, told_of, told_of_move}
use Rattle.std.specs.declared.alloc.AllocError.{AllocError}
use Rattle.undo_journal.specs.declared.session.Failure.TheVariants as failure

-- done, or refused, or memory was refused
abbrev pub Ended : Option Refusal → (Stays Goes : Type 0) → Told → Type 0
Ended o Stays Goes a = ((a ≡ Done) × (o ≡ None) × Goes) ⊎ (((r : Refusal) × (a ≡ Refused r) × (o ≡ Some r) × Stays) ⊎ ((a ≡ Memory) × Stays))

pub ended : (o : Option Refusal) (L S G : Type 0) (a : Told) → Settled o L S G a → Ended o S G a
ended o L S G Done h = inl (refl, h.0, h.1)
ended o L S G (Refused r) h = inr (inl (r, refl, h.0, h.1))
ended o L S G Memory h = inr (inr (refl, h.1))
ended o L S G a h = absurd h

-- what isn't done stays
pub stays : (o : Option Refusal) (L S G : Type 0) (a : Told) → a ≢ Done → Settled o L S G a → S
stays o L S G a other h = elim (ended o L S G a h) [
  | inl d ↦ absurd (other d.0)
  | inr (inl r) ↦ r.3
  | inr (inr m) ↦ m.1
]

-- what isn't refused, and takes no memory, is done
pub goes : (o : Option Refusal) (S G : Type 0) (a : Told) → o ≡ None → Settled o ⊥ S G a → (a ≡ Done) × G
goes o S G a is h = elim (ended o ⊥ S G a h) [
  | inl d ↦ (d.0, d.2)
  | inr (inl r) ↦ absurd (cc (sym r.2 ∙ is))
  | inr (inr m) ↦ absurd (subst (Settled o ⊥ S G) m.0 h).0
]

-- a change that ended so is settled, where its refusal is named, and memory lacks only where L says so
pub settled : (o : Option Refusal) (L S G N : Type 0) (r : Result (Unit {0}) Failure) → OnOk r ((o ≡ None) × G) → OnOk r N → ((q : Refusal) → r ≡ Err (failure.Refused q) → o ≡ Some q)
    → ((e : AllocError) → r ≡ Err (failure.Memory e) → L) → OnErr r S → Settled o L S (G × N) (told_of r)
settled o L S G N (Ok _) ok more named lacks err = (ok.0, (ok.1, more))
settled o L S G N (Err (failure.Refused q)) ok more named lacks err = (named q refl, err)
settled o L S G N (Err (failure.Memory e)) ok more named lacks err = (lacks e refl, err)

-- so is one that is refused exactly where a condition is false: memory lacks only where none is
pub settled_exactly : (o : Option Refusal) (S G N : Type 0) (r : Result (Unit {0}) Failure) → OnOk r ((o ≡ None) × G) → OnOk r N
    → ((q : Refusal) → (r ≡ Err (failure.Refused q)) ↔ (o ≡ Some q)) → OnErr r S → Settled o (o ≡ None) S (G × N) (told_of r)
settled_exactly o S G N r ok more iff err = settled o (o ≡ None) S G N r ok more (λ q. (iff q).0) (accepted o iff) err
  where
    accepted : (p : Option Refusal) → ((q : Refusal) → (r ≡ Err (failure.Refused q)) ↔ (p ≡ Some q)) → (e : AllocError) → r ≡ Err (failure.Memory e) → p ≡ None
    accepted None same e is = refl
    accepted (Some q) same e is = absurd (cc (sym ((same q).1 refl) ∙ is))

-- and undo or redo
pub settled_move : (o : Option Refusal) (S G : Type 0) (r : Result (Unit {0}) Refusal) → OnOk r G → r ≡ verdict o → OnErr r S → Settled o ⊥ S G (told_of_move r)
settled_move None S G (Ok _) ok is err = (refl, ok)
settled_move (Some p) S G (Err q) ok is err = (cc is, err)
settled_move o S G r ok is err = absurd (cc is)
