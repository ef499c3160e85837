-- The models before and after a split agree but for the two parts, and each vertex keeps its point.
use Rattle.command_laws.proofs.Prelude.{◌≡◌, ◌≢◌, ℕ, false, is_some, sym, ap, subst, ◌∙◌, filter, ne_eqb, arith, Plane, Model, rings_of, solid_of, Sound, Has, same_solid, split_model, crossings_keep, hole_ops, CanBeSplit, AreClosed, begins, drawn_stays, can_be_split, Machine, held, IsSplit, OfOthers, SplitKeepsRows, SplitKeepsLoops, SplitKeepsEdges, SplitKeepsPoints, SplitKeepsShapes, stages}
use Rattle.euler_operators.specs.Table as table
use Rattle.split_laws.proofs.Whole.{split_sound}
use Rattle.split_laws.proofs.volumes.Split as split
use Rattle.command_laws.proofs.Owners.{Agree, agree_on, is_either, is_of, solid_of_half, solid_of_loop}
use Rattle.command_laws.proofs.OnFaces.{vertex_there}
use Rattle.command_laws.proofs.Standing.{rings_same, stands}
use Rattle.command_laws.proofs.splits_laws.DrawnWithin.{drawings_within, within_on}
use Rattle.command_laws.proofs.splits_laws.PartedWithin.{holes_keep, holes_within, openings_vertices, openings_within, part_keeps}
use Rattle.command_laws.proofs.Inner.{AgreeBut}
use Rattle.command_laws.proofs.splits_laws.Steps.{part_agrees}

module _ (before after : Machine) (s : ℕ) (p : Plane) (t : ℕ) (sound : Sound (held before)) (made : IsSplit before after s p t) where
  abbrev M : Model
  M = held before

  open stages M s p t use {drawing as d, above, cycles, begun, opened as X, closed as K, upper as us, parted as N}

  pub can : CanBeSplit d above s p t
  can = can_be_split M s p t sound made.0

  pub after_is : held after ≡ N
  unfolding split_model
  after_is = ap held made.1 ∙ split.split_is d above s p t can

  pub after_sound : Sound N
  after_sound = subst Sound (sym (ap held made.1) ∙ after_is) (split_sound M s p t sound made.0)

  pub closed : AreClosed X.model K s us (hole_ops X.caps) (filter (λ k. k.hole) X.caps)
  closed = split.closed d above s p t can

  pub fresh : table.has K.solids t ≡ false
  fresh = ap (λ u. table.has u t) (split.solids_stay d above s p t can) ∙ ap is_some can.fresh

  drawn_closed : AgreeBut s d.model K
  drawn_closed = within_on s d.model X.model K (openings_within above s p begun cycles can.opens)
      (holes_within X.model s X.caps (split.ended d above s p t can).sound (split.caps d above s p t can).plain closed.leads.accepted)

  pub drawn_agree : Agree d.model N (is_of s) (is_either s t)
  drawn_agree = agree_on d.model K N (is_of s) (is_of s) (is_either s t) drawn_closed (part_agrees K s t us closed.part.sound after_sound closed.part.of_solid fresh)

  parts_agree : Agree M N (is_of s) (is_either s t)
  parts_agree = agree_on M d.model N (is_of s) (is_of s) (is_either s t) (drawings_within M s p t sound (begins M s p t sound made.0)) drawn_agree

  pub agree : Agree M (held after) (is_of s) (is_either s t)
  agree = subst (λ P. Agree M P (is_of s) (is_either s t)) (sym after_is) parts_agree

  pub apart : s ≢ t
  apart = can.apart

  pub drawn_point : (v : ℕ) → Has M.vertices v → table.get d.model.vertices v ≡ table.get M.vertices v
  drawn_point v there = ap (λ u. table.get u v) (drawn_stays M s p t sound made.0).vertices ∙ (crossings_keep M s p t sound (begins M s p t sound made.0)).points v there

  pub point_kept : (v : ℕ) → Has M.vertices v → table.get (held after).vertices v ≡ table.get M.vertices v
  point_kept v there = grind (arith, after_is, part_keeps, holes_keep, openings_vertices, can, drawn_point)

-- ---- a whole split: other solids stay

pub split_keeps_rows : SplitKeepsRows
split_keeps_rows before after s p t sound made k there ne = ((agree before after s p t sound made).faces k there (ne_eqb (solid_of (held before) k) s ne)).0

pub split_keeps_loops : SplitKeepsLoops
split_keeps_loops before after s p t sound made l there ne = (agree before after s p t sound made).loops l there (ne_eqb (solid_of_loop (held before) l) s ne)

pub split_keeps_edges : SplitKeepsEdges
split_keeps_edges before after s p t sound made h there ne = (agree before after s p t sound made).edges h there (ne_eqb (solid_of_half (held before) h) s ne)

pub split_keeps_points : SplitKeepsPoints
split_keeps_points before after s p t sound made l v i ne = point_kept before after s p t sound made v (vertex_there (held before) sound l v i)

-- no loop more is of a face of another solid
module _ (before after : Machine) (s : ℕ) (p : Plane) (t : ℕ) (sound : Sound (held before)) (made : IsSplit before after s p t) (k : ℕ) (there : Has (held before).faces k) (ne : OfOthers (held before) s k) where
  row : table.get (held after).faces k ≡ table.get (held before).faces k
  row = split_keeps_rows before after s p t sound made k there ne

  off : is_either s t (solid_of (held after) k) ≡ false
  off = ap (is_either s t) (same_solid (held before) (held after) k row) ∙ ((agree before after s p t sound made).faces k there (ne_eqb (solid_of (held before) k) s ne)).1

  rings_kept : rings_of (held after) k ≡ rings_of (held before) k
  rings_kept = rings_same (held before) (held after) k row (λ l has of. split_keeps_loops before after s p t sound made l has (λ e. ne (ap (solid_of (held before)) (sym of) ∙ e)))
      (λ l has of. (agree before after s p t sound made).loops_back l has (ap (λ j. is_either s t (solid_of (held after) j)) of ∙ off))

pub split_keeps_shapes : SplitKeepsShapes
split_keeps_shapes before after s p t sound made k there ne =
    stands (held before) (held after) (OfOthers (held before) s) sound (split_keeps_loops before after s p t sound made) (split_keeps_edges before after s p t sound made) (split_keeps_points before after s p t sound made)
    k there ne (row before after s p t sound made k there ne) (rings_kept before after s p t sound made k there ne)
