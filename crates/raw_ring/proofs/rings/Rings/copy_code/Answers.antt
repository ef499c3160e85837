use Rattle.std.proofs.Common.{sym, ◌∙◌}
use Rattle.raw_ring.proofs.Copies.{IsAsleep-roomed, IsCopied-live, IsCopied-asleep}
use Rattle.raw_ring.proofs.rings.Rings.copy_code.Goals as goal

pub wake_as-requires : goal.wake_as-requires
wake_as-requires c = rw c.in_ok-room.ensures.ok (IsAsleep-roomed _ _ c.requires.new)

pub returns-then-is_live : goal.returns-then-is_live
returns-then-is_live c = IsCopied-live _ _ _ _ _ _ _ c.requires.new c.in_ok-room.ensures.ok c.wake_as.ensures c.tail.ensures c.label.ensures

pub returns-else-is_live : goal.returns-else-is_live
returns-else-is_live c = IsCopied-asleep _ _ _ _ c.requires.new c.in_ok-room.ensures.ok (c.requires.known, sym c.is_live.ensures.live ∙ c.if-is_live.false)
