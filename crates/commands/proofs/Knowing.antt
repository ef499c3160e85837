-- What a session knows of a solid holds after a change.
use Rattle.commands.proofs.Prelude.{◌≡◌, ℕ, ℤ, inl, inr, false, Option, Some, None, Result, Ok, Err, refl, sym, subst, cond, IfSome, LoopContent, Point, cycle, is_lone, lone, plane_with, Change, Failure, Journal, Machine, accepted, held, refusal_of, made, TellsSession, told_of}
use Rattle.std.specs.Result.{is_ok}
use Rattle.std.proofs.lemmas.Bool.Decides.{eqb_tells}
use Rattle.undo_journal.specs.declared.session.Failure.TheVariants as failure
use Rattle.split_drawing_laws.specs.face_sides.Lone.{NoLoopIsLone}
use Rattle.split_laws.proofs.measures.Parts.{none_is_lone}
use Rattle.split_checks.specs.begin_checks.Conditions.{HasFlatFaces}
use Rattle.plane_split.specs.SplitModels.{IsSplit}
use Rattle.gluing.specs.Flat.{IsClosedFlat}
use Rattle.gluing.proofs.glue_checks_laws.Known.{none_false}
use Rattle.command_laws.specs.Commands.{IsBlock}
use Rattle.command_laws.proofs.BlockFlat.{blocks_lie_flat, block_keeps_flat}
use Rattle.command_laws.proofs.GlueFlat.{glues_lie_flat}
use Rattle.convex_laws.specs.Convex.{IsStrictlyConvex}
use Rattle.convex_laws.proofs.Bends.{blocks_are_convex}
use Rattle.convex_laws.proofs.Others.{block_keeps_strictly}
use Rattle.convex_laws.proofs.Strict.{splits_keep_strictly_convex}
use Rattle.commands.specs.Common.{Model, Sound}
use Rattle.call_types.specs.declared.command.Change.TheVariants as change
use Rattle.call_types.specs.declared.command.Command.TheVariants as command
use Rattle.commands.specs.declared.known.Known.{Known}
use Rattle.commands.specs.declared.known.Known.TheVariants as known
use Rattle.commands.specs.Known.{IsKnown, MakesKnown}

-- a split tests no condition on the faces of a solid that is closed and flat
pub flat_faces : (M : Model) (o : Option ℕ) → IfSome o (IsClosedFlat M) → IfSome o (HasFlatFaces M)
flat_faces M None h = tt
flat_faces M (Some u) h = none_false M u h

-- a strictly convex solid that is split leaves a part above that is closed and flat
held_cycle : (c : LoopContent) → ((v : ℕ) → c ≡ lone v → ⊥) → is_lone c ≡ false
held_cycle (lone v) never = absurd (never v refl)
held_cycle (cycle hs) never = refl

upper_flat : (m n : Machine) (s : ℕ) (x y z w : ℤ) (t : ℕ) → Sound (held m) → IsSplit m n s (plane_with x y z w) t → IsStrictlyConvex (held n) t → IsClosedFlat (held n) t
upper_flat m n s x y z w t sound split strict = record {
  flat = strict.convex.flat;
  closed = λ l has of. held_cycle _ (λ v at. subst (λ a. NoLoopIsLone (held a) t) (sym split.1) (none_is_lone (held m) s (plane_with x y z w) t sound split.0).1 l v at of);
}

module _ (s t : Journal) (sound : Sound (held s.machine)) where
  module _ (n : ℕ) (p : Point) (dx dy dz : ℤ) (block : IsBlock s.machine t.machine n p dx dy dz) where
    new_block : IsKnown t (known.Convex n)
    new_block = (blocks_lie_flat s.machine t.machine n p dx dy dz sound block, blocks_are_convex s.machine t.machine n p dx dy dz sound block)

    -- what was known is known after a block
    left_known : (o : Known) → IsKnown s o → IsKnown t o
    left_known known.Nothing was = tt
    left_known (known.Flat u) was = elim (eqb_tells u n) [
      | inl m ↦ subst (IsClosedFlat (held t.machine)) (sym m.1) new_block.0
      | inr m ↦ block_keeps_flat s.machine t.machine n p dx dy dz u sound block m.1 was
    ]
    left_known (known.Convex u) was = elim (eqb_tells u n) [
      | inl m ↦ subst (λ a. IsKnown t (known.Convex a)) (sym m.1) new_block
      | inr m ↦ (block_keeps_flat s.machine t.machine n p dx dy dz u sound block m.1 was.0, block_keeps_strictly s.machine t.machine n p dx dy dz u sound block m.1 was.1)
    ]

  -- after an accepted change this is known
  makes_known : (o : Known) (c : Change) (k : Known) → IsKnown s o → MakesKnown (held s.machine) o c k → refusal_of (held s.machine) c ≡ None → t.machine ≡ accepted s.machine (made (held s.machine) c) → IsKnown t k
  makes_known o (change.Block n p dx dy dz) k was (inl e) none is = subst (IsKnown t) (sym e) (left_known n p dx dy dz (none, is) o was)
  makes_known o (change.Block n p dx dy dz) k was (inr e) none is = subst (IsKnown t) (sym e) (new_block n p dx dy dz (none, is))
  makes_known o (change.Glue f g) k was (inl e) none is = subst (IsKnown t) (sym e) tt
  makes_known o (change.Glue f g) k was (inr e) none is = subst (IsKnown t) (sym e) (glues_lie_flat s.machine t.machine f g sound (none, is))
  makes_known o (change.Split n x y z w m) k was (inl e) none is = subst (IsKnown t) (sym e) tt
  makes_known o (change.Split n x y z w m) k was (inr h) none is =
      let before = subst (IsKnown s) h.0 was in
      let strict = (splits_keep_strictly_convex s.machine t.machine n (plane_with x y z w) m sound (none, is) before.1).1 in
      subst (IsKnown t) (sym h.1) (upper_flat s.machine t.machine n x y z w m sound (none, is) strict, strict)
  makes_known o c k was e none is = subst (IsKnown t) (sym e) tt

-- so what was to be known is, if the change was accepted, and else what was known
pub now_known : (s t : Journal) (o k : Known) (M : Model) (c : Change) (r : Result (Unit {0}) Failure) → Sound M → M ≡ held s.machine → IsKnown s o → MakesKnown M o c k
    → TellsSession s (command.Change c) (told_of r) t → IsKnown t (cond (is_ok r) k o)
now_known s t o k M c (Ok _) sound same was may h = makes_known s t (subst Sound same sound) o c k was (subst (λ K. MakesKnown K o c k) same may) h.0 h.1.0
now_known s t o k M c (Err (failure.Refused q)) sound same was may h = subst (λ (j : Journal). IsKnown j o) (sym h.1) was
now_known s t o k M c (Err (failure.Memory e)) sound same was may h = subst (λ (j : Journal). IsKnown j o) (sym h.1) was
