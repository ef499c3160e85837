-- A command is one call of a history, whatever it is told.
use Rattle.commands.proofs.Prelude.{◌≡◌, inl, inr, None, Option, refl, sym, ap, subst, plane_with, Change, Journal, Machine, Refusal, Told, accepted, held, refusal_of, made, Settled}
use Rattle.undo_journal.specs.Histories as histories
use Rattle.undo_journal.specs.Machine.{act}
use Rattle.undo_journal.proofs.Journals.{same_machine}
use Rattle.sweeps.specs.Calls.{LaminasAreCalls, BlocksAreCalls, SweepsAreCalls}
use Rattle.gluing.specs.Calls.{GluesAreCalls}
use Rattle.plane_split.specs.Calls.{SplitsAreCalls}
use Rattle.commands.specs.Common.{Sound}
use Rattle.call_types.specs.declared.command.Change.TheVariants as change
use Rattle.call_types.specs.declared.command.Command.TheVariants as command
use Rattle.commands.specs.Calls.{IsCall, CommandsAreCalls}
use Rattle.commands.proofs.Settling.{ended}

-- the larger commands are calls
pub record LargerAreCalls : Type 0 where
  pub lamina : LaminasAreCalls
  pub block : BlocksAreCalls
  pub sweep : SweepsAreCalls
  pub glue : GluesAreCalls
  pub split : SplitsAreCalls

pub stopped : (s t : Machine) → t ≡ s → IsCall s t
stopped s t e = record { call = histories.stopped; leads = sym e }

settles : (o : Option Refusal) (L G : Type 0) (s t : Journal) (a : Told) → (o ≡ None → G → IsCall s.machine t.machine) → Settled o L (t ≡ s) G a → IsCall s.machine t.machine
settles o L G s t a goes h = elim (ended o L (t ≡ s) G a h) [
  | inl done ↦ goes done.1 done.2
  | inr (inl refused) ↦ stopped s.machine t.machine (same_machine refused.3)
  | inr (inr memory) ↦ stopped s.machine t.machine (same_machine memory.1)
]

changes : LargerAreCalls → (s : Machine) (c : Change) → Sound (held s) → refusal_of (held s) c ≡ None → IsCall s (accepted s (made (held s) c))
changes l s (change.Act op) k goes = record { call = histories.acted op; leads = ap (λ (o : Option Refusal). histories.unless o (act s op) s) goes }
changes l s (change.Lamina n ps) k goes = record { call = histories.made _; leads = l.lamina s n ps k goes }
changes l s (change.Block n p dx dy dz) k goes = record { call = histories.made _; leads = l.block s n p dx dy dz k goes }
changes l s (change.Sweep f d) k goes = record { call = histories.made _; leads = l.sweep s f d k goes }
changes l s (change.Glue f g) k goes = record { call = histories.made _; leads = l.glue s f g k goes }
changes l s (change.Split n x y z w m) k goes = record { call = histories.made _; leads = l.split s n (plane_with x y z w) m k goes }

pub commands_are_calls : LargerAreCalls → CommandsAreCalls
commands_are_calls l s t (command.Change c) a k h = settles _ _ _ s t a (λ none goes. subst (IsCall s.machine) (sym goes.0) (changes l s.machine c k none)) h
commands_are_calls l s t (command.Ask q) a k h = stopped s.machine t.machine (same_machine h.1)
commands_are_calls l s t command.Undo a k h = settles _ _ _ s t a (λ none goes. subst (IsCall s.machine) (sym (same_machine goes)) (record { call = histories.undone; leads = refl })) h
commands_are_calls l s t command.Redo a k h = settles _ _ _ s t a (λ none goes. subst (IsCall s.machine) (sym (same_machine goes)) (record { call = histories.redone; leads = refl })) h
