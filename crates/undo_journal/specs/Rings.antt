-- The operator for which a packed one stands.
use Rattle.euler_operators.specs.declared.Op.{Op}
use Rattle.euler_operators.specs.declared.Op.TheVariants as op
use Rattle.undo_journal.specs.declared.rings.RingOp.{RingOp}
use Rattle.undo_journal.specs.declared.rings.RingOp.TheVariants.{Kemr, Mekr, Kfmrh, Mfkrh, RingIn, RingOut, Outer}

abbrev pub ring_op : RingOp → Op
ring_op (Kemr h l) = op.Kemr h l
ring_op (Mekr a b h) = op.Mekr a b h
ring_op (Kfmrh f g) = op.Kfmrh f g
ring_op (Mfkrh l f) = op.Mfkrh l f
ring_op (RingIn l f) = op.RingIn l f
ring_op (RingOut l f) = op.RingOut l f
ring_op (Outer l f) = op.Outer l f
