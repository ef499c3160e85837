-- What the nodes of an arena say: for each live code its successor, its tail and its loop's number.
use Rattle.std.specs.Prelude.{◌≡◌, ℕ, Bool, true, cond, nat_eq, nat_lt, ◌<◌, List, Option, Some, None, is_some}
use Rattle.raw_ring.specs.Rings.{Spot, or_zero, of_spot, ring_of_one}
use Rattle.boundary_model.specs.Items.{count, IsIn, IsApart}
use Rattle.boundary_model.specs.Rings.{canonical, orbit, IsRing, splice}
use Rattle.boundary_model.specs.HalfEdge.{mate}

abbrev pub Spots : Type 0
Spots = ℕ → Option Spot

-- each code is below this number
unfoldable pub codes : ℕ
codes = 2000002

-- each edge's number is below this one
unfoldable pub edges_end : ℕ
edges_end = 1000001

abbrev pub live : Spots → ℕ → Bool
live sp c = is_some (sp c)

abbrev pub next : Spots → ℕ → ℕ
next sp c = or_zero (of_spot (λ s. s.next) (sp c))

abbrev pub label : Spots → ℕ → ℕ
label sp c = or_zero (of_spot (λ s. s.label) (sp c))

abbrev pub tail_at : Spots → ℕ → ℕ
tail_at sp c = or_zero (of_spot (λ s. s.tail) (sp c))

-- the ring of a live code, from its least item on
unfoldable pub ring : Spots → ℕ → List ℕ
ring sp c = canonical (orbit (next sp) c codes)

-- whether x stands in the list
abbrev pub is_in : ℕ → List ℕ → Bool
is_in x xs = nat_lt 0 (count x xs)

-- what changes: a code wakes or falls asleep, or its tail, its successor or its label changes
abbrev pub woken : Spots → ℕ → ℕ → Spots
woken sp c t q = cond (nat_eq q c) (Some (ring_of_one c t)) (sp q)

abbrev pub asleep : Spots → ℕ → Spots
asleep sp c q = cond (nat_eq q c) None (sp q)

abbrev pub map_spot : (Spot → Spot) → Option Spot → Option Spot
map_spot f None = None
map_spot f (Some s) = Some (f s)

abbrev pub set_tail : Spots → ℕ → ℕ → Spots
set_tail sp c t q = cond (nat_eq q c) (map_spot (λ s. record s { tail = t }) (sp q)) (sp q)

abbrev pub with_links : Spots → (ℕ → ℕ) → Spots
with_links sp f q = map_spot (λ s. record s { next = f q }) (sp q)

abbrev pub spliced : Spots → ℕ → ℕ → Spots
spliced sp a b = with_links sp (splice (next sp) a b)

abbrev pub labelled : Spots → ℕ → List ℕ → Spots
labelled sp l hs q = cond (is_in q hs) (map_spot (λ s. record s { label = l }) (sp q)) (sp q)

-- hs is a ring of live codes with one label
pub record IsRingOf (sp : Spots) (c : ℕ) (hs : List ℕ) : Type 0 where
  pub leads : IsRing (next sp) hs
  pub apart : IsApart hs
  pub item : IsIn c hs
  pub awake : (d : ℕ) → IsIn d hs → live sp d ≡ true
  pub one_label : (d : ℕ) → IsIn d hs → label sp d ≡ label sp c

pub record AreRings (sp : Spots) : Type 0 where
  pub bound : (c : ℕ) → live sp c ≡ true → c < codes
  pub rings : (c : ℕ) → live sp c ≡ true → IsRingOf sp c (ring sp c)
  pub mates : (c : ℕ) → live sp c ≡ true → live sp (mate c) ≡ true

-- the items of hs have the label l now, except for those of waiting, and nothing else has changed
pub record PartlyLabelled (sp now : Spots) (l : ℕ) (hs waiting : List ℕ) : Type 0 where
  pub apart : IsApart waiting
  pub inside : (x : ℕ) → IsIn x waiting → IsIn x hs
  pub at : (q : ℕ) → now q ≡ cond (is_in q waiting) (sp q) (labelled sp l hs q)
