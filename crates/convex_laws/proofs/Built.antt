-- What blocks, splits, undos and redos make is sound, and all its solids are strictly convex.
use Rattle.convex_laws.proofs.Prelude.{ℕ, ℤ, List, [], ◌∷◌, sym, ap, subst, inl, inr, All, cases_eq, false≢true, empty_model, Model, Plane, Point, Sound, Machine, back_to, forth_to, held, IsSplit, IsBlock, sound_after, block_made, BuiltAreConvex, BuiltHaveVolume, IsBuilt, IsStrictlyConvex, redone, solid_split, started, undone}
use Rattle.std.proofs.lemmas.List.Elements.{All-cons, All-head, All-nil, All-tail}
use Rattle.euler_operators.specs.Table as table
use Rattle.euler_laws.proofs.shared.Empty.{empty_sound}
use Rattle.undo_journal.specs.Machine as machine
use Rattle.command_laws.proofs.splits_laws.Whole as whole
use Rattle.convex_laws.proofs.Bends.{blocks_are_convex}
use Rattle.convex_laws.proofs.Others.{block_keeps_strictly, split_leaves_strictly}
use Rattle.convex_laws.proofs.Strict.{splits_keep_strictly_convex}
use Rattle.convex_laws.proofs.Volumes.{convex_solids_have_volume}

-- a sound model, all of whose solids are strictly convex; a number that no solid has passes too, since no face is its
record IsStrict (M : Model) : Type 0 where
  sound : Sound M
  strict : (s : ℕ) → IsStrictlyConvex M s

-- a machine all of whose models are such
record AreStrict (m : Machine) : Type 0 where
  past : All IsStrict m.past
  present : IsStrict m.present
  future : All IsStrict m.future

empty_is_strict : IsStrict empty_model
unfolding empty_model table.empty table.get
empty_is_strict = record {
  sound = empty_sound;
  strict = λ s. record {
    convex = record { flat = λ k there of. absurd (false≢true there); below = λ k there of. absurd (false≢true there) };
    bends = λ h half of. absurd (false≢true half);
  };
}

start_is_strict : AreStrict machine.start
start_is_strict = record { past = All-nil IsStrict; present = empty_is_strict; future = All-nil IsStrict }

-- ---- a command drops the models ahead; undo and redo move one model

added : (m : Machine) (N : Model) → AreStrict m → IsStrict N → AreStrict (machine.accepted m N)
added m N w new = record { past = All-cons IsStrict m.present m.past w.present w.past; present = new; future = All-nil IsStrict }

back : (m : Machine) (Ms : List Model) → AreStrict m → All IsStrict Ms → AreStrict (back_to Ms m)
back m [] w all = w
back m (M ∷ Ms) w all = record { past = All-tail IsStrict M Ms all; present = All-head IsStrict M Ms all; future = All-cons IsStrict m.present m.future w.present w.future }

forth : (m : Machine) (Ms : List Model) → AreStrict m → All IsStrict Ms → AreStrict (forth_to Ms m)
forth m [] w all = w
forth m (M ∷ Ms) w all = record { past = All-cons IsStrict m.present m.past w.present w.past; present = All-head IsStrict M Ms all; future = All-tail IsStrict M Ms all }

-- ---- the model that a block or a split makes

module _ (before after : Machine) (was : IsStrict (held before)) where
  with_block : (s : ℕ) (p : Point) (dx dy dz : ℤ) → IsBlock before after s p dx dy dz → IsStrict (held after)
  with_block s p dx dy dz made = record {
    sound = sound_after before after s p dx dy dz was.sound made;
    strict = λ u. elim (cases_eq u s) [
      | inl is ↦ subst (IsStrictlyConvex (held after)) (sym is) (blocks_are_convex before after s p dx dy dz was.sound made)
      | inr other ↦ block_keeps_strictly before after s p dx dy dz u was.sound made other (was.strict u)
    ];
  }

  with_split : (s : ℕ) (p : Plane) (t : ℕ) → IsSplit before after s p t → IsStrict (held after)
  with_split s p t made =
      let parts = splits_keep_strictly_convex before after s p t was.sound made (was.strict s) in
      record {
        sound = subst Sound (sym (whole.after_is before after s p t was.sound made)) (whole.after_sound before after s p t was.sound made);
        strict = λ u. elim (cases_eq u s) [
          | inl is ↦ subst (IsStrictlyConvex (held after)) (sym is) parts.0
          | inr not_s ↦ elim (cases_eq u t) [
            | inl is ↦ subst (IsStrictlyConvex (held after)) (sym is) parts.1
            | inr not_t ↦ split_leaves_strictly before after s p t u was.sound made not_s not_t (was.strict u)
          ]
        ];
      }

-- a machine that is built has only such models
built_are_strict : (m : Machine) → IsBuilt m → AreStrict m
built_are_strict _ started = start_is_strict
built_are_strict _ (block_made before after s p dx dy dz b made) =
    let w = built_are_strict before b in
    subst AreStrict (sym made.1) (added before _ w (subst IsStrict (ap held made.1) (with_block before after w.present s p dx dy dz made)))
built_are_strict _ (solid_split before after s p t b made) =
    let w = built_are_strict before b in
    subst AreStrict (sym made.1) (added before _ w (subst IsStrict (ap held made.1) (with_split before after w.present s p t made)))
built_are_strict _ (undone before b goes) = let w = built_are_strict before b in back before before.past w w.past
built_are_strict _ (redone before b goes) = let w = built_are_strict before b in forth before before.future w w.future

pub built_are_convex : BuiltAreConvex
built_are_convex m b s there = (built_are_strict m b).present.strict s

pub built_have_volume : BuiltHaveVolume
built_have_volume m b s there = let w = (built_are_strict m b).present in convex_solids_have_volume (held m) s w.sound there (w.strict s)
