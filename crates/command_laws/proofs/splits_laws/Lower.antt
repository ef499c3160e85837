-- A face that straddles the plane keeps its number below it: of each pair of places between which it is drawn the second goes down, and the
-- half-edge that starts there stays in the face.
use Rattle.command_laws.proofs.Prelude.{◌≡◌, Bool, true, false, ◌&&◌, ◌||◌, arith}

-- ---- a split

pub other_side : (a b c d : Bool) → ((a && b) || (c && d)) ≡ true → d ≡ false → b ≡ true
other_side a b c d e f = grind arith
