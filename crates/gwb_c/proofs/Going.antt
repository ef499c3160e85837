-- What is asked of the slot behind a handle is asked of the handle.
use Rattle.std.proofs.Common.{◌≡◌, ◌∙◌, ℕ, true, ap, refl, sym, subst, Option, Some, None}
use Rattle.session_slots.specs.Common.{Asked, Stage, is_staged}
unfoldable use Rattle.session_slots.specs.Common.{ConsoleHeeds}
use Rattle.session_slots.specs.declared.slot.Slot.{Slot}
use Rattle.handles.specs.Uses.{HandleGoes, HandleHeeds, asks}
use Rattle.gwb_c.specs.Calls.{Within}

-- an open handle has a session or a draft
staged_in : (o : Option Stage) → is_staged o ≡ true → (g : Stage) × (o ≡ Some g)
staged_in (Some g) staged = (g, refl)
staged_in None staged = cc

module _ (x z y : Slot) (same : z ≡ x) (staged : is_staged x.console.stage ≡ true) where
  -- and has one after each call
  pub stays : (q : Asked) (kind : ℕ) → ConsoleHeeds z.console q y.console kind → is_staged y.console.stage ≡ true
  unfolding ConsoleHeeds
  stays q kind h =
      let at = staged_in x.console.stage staged in ap is_staged (h at.0 (ap (λ (s : Slot). s.console.stage) same ∙ at.1)).1

  heeds : (q : Asked) (kind : ℕ) (new : Option Slot) → new ≡ Some y → ConsoleHeeds x.console q y.console kind → HandleHeeds (Some x) q new kind
  unfolding ConsoleHeeds
  heeds q kind new is h = let at = staged_in x.console.stage staged in let m = h at.0 at.1 in (at.0, m.0, y, at.1, is, m.1, m.2)

  pub goes : (q : Option Slot → Asked) (kind : ℕ) (R : Slot → Slot → Type 0) (o new : Option Slot) → o ≡ Some x → new ≡ Some y → ConsoleHeeds z.console (q (Some z)) y.console kind → R z y
      → HandleGoes o (asks (q o)) new kind × Within R o new
  goes q kind R o new is after h r = (
    subst (λ p. HandleHeeds p (q p) new kind) (sym is) (heeds (q (Some x)) kind new after (subst (λ (s : Slot). ConsoleHeeds s.console (q (Some s)) y.console kind) same h)),
    subst (λ p. Within R p new) (sym is) (y, after, subst (λ (s : Slot). R s y) same r),
  )
