-- What stands in loops and faces that are there is there.
use Rattle.split_checks.proofs.Prelude.{◌≡◌, ℕ, true, List, [], ◌∷◌, map, refl, ap, arith, IsIn, HalfEdge, Ring, code, Table, Model, LoopContent, lone, cycle, items_of, content, loop_of, tail, Sound, Has, HasHalf, StandsIn, lists, tick_same, in-holds, Lone, Tells, first_listed, rest_listed, vertices_on}
use Rattle.euler_conditions.proofs.Borders.{ring_has}
use Rattle.split_checks.specs.cut_places.Walks.{AreThere, AreIn}

-- each of some numbers is in use, and the edge of each of some half-edges is there
pub all_in : {X : Type 0} (t : Table X) (ns : List ℕ) → ((n : ℕ) → lists ns n ≡ true → Has t n) → AreIn t ns
all_in t [] each = tt
all_in t (n ∷ ns) each = (each n (first_listed n ns), all_in t ns (λ k l. each k (rest_listed n k ns l)))

pub all_there : (M : Model) (hs : List ℕ) → ((h : ℕ) → IsIn h hs → HasHalf M h) → AreThere M hs
all_there M [] each = tt
all_there M (h ∷ hs) each = (each h (omega (arith, tick_same h)), all_there M hs (λ k i. each k (omega (arith, i))))

module _ (M : Model) (sound : Sound M) where
  -- what an arena answers of a loop with half-edges stands in it
  pub ring_stands : (l : ℕ) (h : HalfEdge) → Tells (content M l) (Ring h) → StandsIn M (code h) l
  ring_stands l h tells = in-holds (code h) (content M l) (ring_has (content M l) h tells)

  pub ring_there : (l : ℕ) (h : HalfEdge) → Tells (content M l) (Ring h) → HasHalf M (code h)
  ring_there l h tells = sound.only_edges (code h) l (ring_stands l h tells)

  pub ring_cycle : (l : ℕ) (h : HalfEdge) → Tells (content M l) (Ring h) → items_of (content M (loop_of M (code h))) ≡ items_of (content M l)
  ring_cycle l h tells = ap (λ q. items_of (content M q)) (sound.one_loop (code h) l (ring_stands l h tells))

-- the vertices on a loop with half-edges
pub ring_vertices : (M : Model) (t : LoopContent) (h : HalfEdge) → Tells t (Ring h) → vertices_on M t ≡ map (tail M) (items_of t)
ring_vertices M (lone v) h tells = absurd tells
ring_vertices M (cycle hs) h tells = refl

-- a lone loop has no half-edges
pub lone_items : (t : LoopContent) (v : ℕ) → Tells t (Lone v) → items_of t ≡ []
lone_items (lone w) v tells = refl
lone_items (cycle hs) v tells = absurd tells
