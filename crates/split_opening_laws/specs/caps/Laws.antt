-- The laws of caps, each over every sound model with strips along a cycle.
use Rattle.std.specs.Prelude.{◌≡◌, ◌≤◌, ◌<◌, ℕ, List, length}
use Rattle.euler_operators.specs.Common.{Model, Sound}
use Rattle.euler_laws.specs.Laws.{effects, AreAccepted}
use Rattle.shapes.specs.Common.{Taken}
use Rattle.split_opening_laws.specs.caps.Strips.{HasStrips}
use Rattle.split_opening_laws.specs.caps.Caps.{joined_part, capped}
use Rattle.split_opening_laws.specs.caps.CapOps.{joinings, cap_ops}

-- a cycle has at least two strips, since the ends of an edge differ
abbrev pub CyclesHaveTwo : Type 0
CyclesHaveTwo = (N : Model) (s : ℕ) (c : Taken) (hs : List ℕ) → Sound N → HasStrips N s c hs → 2 ≤ length hs

-- each operator is accepted in its turn
abbrev pub CapsAreAccepted : Type 0
CapsAreAccepted = (N : Model) (s : ℕ) (c : Taken) (hs : List ℕ) → Sound N → HasStrips N s c hs → AreAccepted N (cap_ops c (length hs))

-- the first of them join the strips one by one
abbrev pub StripsAreJoined : Type 0
StripsAreJoined = (N : Model) (s : ℕ) (c : Taken) (hs : List ℕ) (n : ℕ) → Sound N → HasStrips N s c hs → n < length hs → effects N (joinings c (length hs) n) ≡ joined_part N c hs n

-- together they make the caps
abbrev pub CapsAreMade : Type 0
CapsAreMade = (N : Model) (s : ℕ) (c : Taken) (hs : List ℕ) → Sound N → HasStrips N s c hs → effects N (cap_ops c (length hs)) ≡ capped N s c hs

abbrev pub CappedAreSound : Type 0
CappedAreSound = (N : Model) (s : ℕ) (c : Taken) (hs : List ℕ) → Sound N → HasStrips N s c hs → Sound (capped N s c hs)
