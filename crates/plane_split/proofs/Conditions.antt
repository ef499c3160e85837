-- The conditions of a split: those that are tested first, and those that are tested once the faces are drawn.
use Rattle.plane_split.proofs.Prelude.{◌≡◌, ℕ, Bool, false, cond, nat_eq, ◌∷◌, Option, None, Some, Result, Err, sym, ap, ◌∙◌, Plane, Model, first_refusal, Refusal, CutCrossed, Drawing, with_drawings, below_halves, faces_above, first_conditions, later_conditions, no_such, section_conditions, split_conditions, split_refusal, put_aside}
use Rattle.shapes.proofs.Common.{first_refusal-append, first_refusal-refused}
use Rattle.split_drawing_laws.specs.crossings.Laws.{CanBegin}
use Rattle.undo_journal.specs.declared.session.Failure.{Failure}
use Rattle.undo_journal.specs.declared.session.Failure.TheVariants as failure

pub same_refusal : {X : Type 0} (q r : Refusal) → ◌≡◌ {A = Result X Failure} (Err (failure.Refused q)) (Err (failure.Refused r)) → q ≡ r
same_refusal q r e = cc

-- one failure is one whatever is answered without it
pub same_failure : {X Y : Type 0} (f g : Failure) → ◌≡◌ {A = Result X Failure} (Err f) (Err g) → ◌≡◌ {A = Result Y Failure} (Err f) (Err g)
same_failure f g e = let same : f ≡ g = cc in ap Err same

module _ (M : Model) (s : ℕ) (p : Plane) (t : ℕ) where
  -- a refusal before anything is changed is that of the split
  pub refused_first : (r : Refusal) → first_refusal (first_conditions M s p t) ≡ Some r → split_refusal M s p t ≡ Some r
  unfolding split_conditions
  refused_first r e = first_refusal-refused (first_conditions M s p t) (later_conditions s p (with_drawings M s p)) r e

  module _ (begun : CanBegin M s p t) where
    -- after that the later conditions decide, in which the pairs left aren't read
    later_decide : (d : Drawing) → d ≡ put_aside (with_drawings M s p) → first_refusal (later_conditions s p d) ≡ split_refusal M s p t
    unfolding split_conditions
    later_decide d e = ap (λ x. first_refusal (later_conditions s p x)) e ∙ sym (first_refusal-append (first_conditions M s p t) (later_conditions s p (with_drawings M s p)) begun)

    abbrev later_if : Drawing → Bool → Option Refusal
    later_if d b = first_refusal (no_such (cond b None (Some d.stuck)) CutCrossed ∷ section_conditions d.model s p d.taken (below_halves d.model (faces_above d.model p s) s))

    -- where a face is stuck, that is the refusal
    pub stuck_decides : (d : Drawing) → d ≡ put_aside (with_drawings M s p) → nat_eq d.stuck 0 ≡ false → Some (record { why = CutCrossed; number = d.stuck }) ≡ split_refusal M s p t
    stuck_decides d e stuck = sym (ap (later_if d) stuck) ∙ later_decide d e

    -- where none is, the conditions of the section decide
    pub section_decides : (d : Drawing) → d ≡ put_aside (with_drawings M s p) → d.stuck ≡ 0 → first_refusal (section_conditions d.model s p d.taken (below_halves d.model (faces_above d.model p s) s)) ≡ split_refusal M s p t
    section_decides d e done = sym (ap (λ n. later_if d (nat_eq n 0)) done) ∙ later_decide d e
