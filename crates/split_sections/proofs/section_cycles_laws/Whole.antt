-- The cycles of the below halves, all found.
use Rattle.split_sections.proofs.Prelude.{◌≡◌, ℕ, ◌≤◌, Bool, true, false, List, [], ◌∷◌, ◌++◌, map, length, sym, ap, ◌∙◌, arith, length-map, map-append, count, IsIn, IsApart, HalfEdge, Plane, code, strictly_rises, Model, Sound, steps_are, half_below, next_below, cycle_from, section_cycles, is_hole, Permutes, around_apart, around_within, AreThere, halves_of, Cycle}
use Rattle.split_sections.proofs.section_cycles_laws.Found.{Finding, all_found, found_whole}

pub cycle_low : (M : Model) → Sound M → (bs : List ℕ) → AreThere M bs → Permutes (next_below M bs) bs → (first : ℕ) → IsIn first bs → (cycle : List ℕ) → cycle ≡ cycle_from M bs first → (b : ℕ) → IsIn b cycle → b ≤ 2000001
cycle_low M sound bs there w first i cycle is b j =
    let k : IsIn b (cycle_from M bs first) = omega (arith, ap (count b) is, j) in
    omega (arith, steps_are, half_below M sound b (there b (around_within (next_below M bs) bs w first i b k)))

pub halves_pushed : (old : List Cycle) (cycle : Cycle) (new : List Cycle) → new ≡ old ++ cycle ∷ [] → map halves_of new ≡ map halves_of old ++ halves_of cycle ∷ []
halves_pushed old cycle new e = ap (λ (cs : List Cycle). map halves_of cs) e ∙ map-append halves_of old (cycle ∷ [])

abbrev pub AreTold : Model → Plane → List Cycle → Type 0
AreTold M p cs = map (λ c. c.hole) cs ≡ map (is_hole M p) (map halves_of cs)

pub holes_pushed : (M : Model) (p : Plane) (old : List Cycle) (cycle : Cycle) (new : List Cycle) → new ≡ old ++ cycle ∷ [] → AreTold M p old → cycle.hole ≡ is_hole M p (halves_of cycle) → AreTold M p new
holes_pushed M p old cycle new e told one = grind (arith, map-append, halves_pushed)

-- a cycle of some halves is of different ones that are there
pub round_there : (M : Model) (bs : List ℕ) → AreThere M bs → Permutes (next_below M bs) bs → (first : ℕ) → IsIn first bs → (cycle : List ℕ) → cycle ≡ cycle_from M bs first → AreThere M cycle
round_there M bs there w first i cycle is b j = there b (around_within (next_below M bs) bs w first i b (omega (arith, ap (count b) is, j)))

pub round_apart : (M : Model) (bs : List ℕ) → Permutes (next_below M bs) bs → (first : ℕ) → IsIn first bs → (cycle : List ℕ) → cycle ≡ cycle_from M bs first → IsApart cycle
round_apart M bs w first i cycle is b = omega (arith, ap (count b) is, around_apart (next_below M bs) bs w first i b)

pub listed_cycles : (M : Model) (bs left : List ℕ) (found : List (List ℕ)) (met : ℕ → Bool) → Finding (next_below M bs) bs left found met → left ≡ [] → found ≡ section_cycles M bs
unfolding section_cycles
listed_cycles M bs left found met f e = all_found (next_below M bs) bs left found met f e

pub whole_cycle : (M : Model) (hs : List HalfEdge) → Permutes (next_below M (map code hs)) (map code hs) → strictly_rises (map code hs) ≡ true → (left : List ℕ) (found : List (List ℕ)) (met : ℕ → Bool) → Finding (next_below M (map code hs)) (map code hs) left found met
    → (b : ℕ) (rest : List ℕ) → left ≡ b ∷ rest → met b ≡ false → (cycle : Cycle) → halves_of cycle ≡ cycle_from M (map code hs) b → length cycle.halves.items ≡ length hs → (more : List (List ℕ)) → more ≡ found ++ halves_of cycle ∷ [] → more ≡ section_cycles M (map code hs)
unfolding section_cycles
whole_cycle M hs w up left found met f b rest e t cycle is many more em =
    found_whole (next_below M (map code hs)) (map code hs) w up left found met f b rest e t (halves_of cycle) is (length-map cycle.halves.items code ∙ many ∙ sym (length-map hs code)) more em
