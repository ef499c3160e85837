-- A change makes the model that its operators make, so it leaves alone what none of them touches.
use Rattle.call_lists.proofs.Prelude.{◌≡◌, ℕ, inl, inr, None, refl, sym, ap, subst, ◌∙◌, Drafting, Model, Session, Sound, Stage, AreAccepted, effects, ended, made, refusal_of, held}
use Rattle.call_lists.specs.Common.{shown}
use Rattle.commands.specs.Changes.{operators_of}
use Rattle.commands.specs.Common.{Change}
use Rattle.call_types.specs.declared.command.Change.TheVariants as change
use Rattle.sweeps_laws.specs.lamina.Laws.{OperatorsAreAccepted, OperatorsMakeLamina}
use Rattle.sweeps_laws.specs.block.Laws.{BlocksAreAccepted, OperatorsMakeBlocks}
use Rattle.sweeps_laws.specs.prism.Laws.{SweepsAreAccepted, SweepsMakePrisms}
use Rattle.gluing_laws.specs.glue.Laws.{GluesAreAccepted, GluesMakeGlued}
use Rattle.split_laws.specs.Laws.{SplitsAreAccepted, SplitsMakeSplit}
use Rattle.untouched_solids.specs.Alone.{StandsAs}
use Rattle.untouched_solids.specs.Laws.{NoneTouches, UntouchedStay}
use Rattle.call_lists.specs.Untouched.{ChangesLeaveUntouched}

-- the operators of the larger commands are accepted, each in its turn, and make their models
pub record OperatorsMake : Type 0 where
  pub lamina : OperatorsAreAccepted × OperatorsMakeLamina
  pub block : BlocksAreAccepted × OperatorsMakeBlocks
  pub sweep : SweepsAreAccepted × SweepsMakePrisms
  pub glue : GluesAreAccepted × GluesMakeGlued
  pub split : SplitsAreAccepted × SplitsMakeSplit

module _ (laws : OperatorsMake) (untouched : UntouchedStay) where
  made_by : (M : Model) (c : Change) → Sound M → refusal_of M c ≡ None → AreAccepted M (operators_of M c) × (effects M (operators_of M c) ≡ made M c)
  made_by M (change.Act op) sound goes = ((goes, tt), refl)
  made_by M (change.Lamina n ps) sound goes = (laws.lamina.0 M n ps sound goes, laws.lamina.1 M n ps sound goes)
  made_by M (change.Block n p dx dy dz) sound goes = (laws.block.0 M n p dx dy dz sound goes, laws.block.1 M n p dx dy dz sound goes)
  made_by M (change.Sweep f d) sound goes = (laws.sweep.0 M f d sound goes, laws.sweep.1 M f d sound goes)
  made_by M (change.Glue f g) sound goes = (laws.glue.0 M f g sound goes, laws.glue.1 M f g sound goes)
  made_by M (change.Split n x y z w m) sound goes = (laws.split.0 M n _ m sound goes, laws.split.1 M n _ m sound goes)

  -- a model that is made, or stays
  left : (M N : Model) (c : Change) (u : ℕ) → Sound M → NoneTouches M (operators_of M c) u → refusal_of M c ≡ None → N ≡ made M c → StandsAs M N u
  left M N c u sound none goes is =
      let by = made_by M c sound goes in subst (λ X. StandsAs M X u) (by.1 ∙ sym is) (untouched M (operators_of M c) u sound by.0 none)

  stood : (M N : Model) (u : ℕ) → N ≡ M → StandsAs M N u
  stood M N u is = subst (λ X. StandsAs M X u) (sym is) (record { same = refl; volume = refl })

  pub changes_leave_untouched : ChangesLeaveUntouched
  changes_leave_untouched (Session s) h c a u whole x none = subst (λ (g : Stage). StandsAs (held s.machine) (shown g) u) (sym x.1)
      (elim (ended _ _ _ _ a x.2) [
        | inl d ↦ left _ _ c u whole.held_sound none d.1 (ap held d.2.0)
        | inr (inl r) ↦ stood _ _ u (ap (λ t. held t.machine) r.3)
        | inr (inr m) ↦ stood _ _ u (ap (λ t. held t.machine) m.1)
      ])
  changes_leave_untouched (Drafting d) h c a u whole x none = subst (λ (g : Stage). StandsAs d.draft.model (shown g) u) (sym x.1) (elim (ended _ _ _ _ a x.2) [
    | inl d ↦ left _ _ c u whole.1 none d.1 d.2.0
    | inr (inl r) ↦ stood _ _ u (ap (λ e. e.model) r.3)
    | inr (inr m) ↦ stood _ _ u (ap (λ e. e.model) m.1)
  ])
