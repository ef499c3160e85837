-- Operators that are still to be taken.
use Rattle.gluing.proofs.Prelude.{◌≡◌, ℕ, List, [], ◌∷◌, refl, sym, ap, ◌∙◌, subst, HalfEdge, At, code, half, mate, plus, minus, Model, solid_of, half-code, Op, Merge, Kfmrh, Mekr, Kev, Mef, Kef, effects, AreAccepted, Leads, opening, closing}

-- ---- the operators of a glue, as half-edges are written in the code

pub opening_is : (M : Model) (f g e : ℕ) (first across : HalfEdge) (s t : ℕ) (a b : HalfEdge) → s ≡ solid_of M f → t ≡ solid_of M g → a ≡ half (plus e) → b ≡ half (plus e) →
    Merge s t ∷ Kfmrh f g ∷ Mekr (At first) (At across) a ∷ Kev b ∷ [] ≡ opening M f g (code first) (code across) e
opening_is M f g e first across s t a b is_s is_t is_a is_b =
    λ i. Merge (is_s i) (is_t i) ∷ Kfmrh f g ∷ Mekr (At (sym (half-code first) i)) (At (sym (half-code across) i)) (is_a i) ∷ Kev (is_b i) ∷ []

pub closing_is : (partner next : HalfEdge) (e s l : ℕ) (a b m : HalfEdge) → a ≡ half (plus e) → b ≡ half (minus e) → code m ≡ mate (code partner) →
    Mef partner next a s l ∷ Kev b ∷ Kef m ∷ [] ≡ closing (code partner) (code next) e s l
closing_is partner next e s l a b m is_a is_b is_m =
    λ i. Mef (sym (half-code partner) i) (sym (half-code next) i) (is_a i) s l ∷ Kev (is_b i) ∷ Kef ((sym (half-code m) ∙ ap half is_m) i) ∷ []

-- they are accepted, as they are written in the code
as_written : (M : Model) (ops written : List Op) → written ≡ ops → AreAccepted M ops → Leads M (effects M ops) written
as_written M ops written is accepted = subst (Leads M (effects M ops)) (sym is) (record { accepted = accepted; made = refl })

pub opening_left : (M : Model) (f g e : ℕ) (first across : HalfEdge) (s t : ℕ) (a b : HalfEdge) → s ≡ solid_of M f → t ≡ solid_of M g → a ≡ half (plus e) → b ≡ half (plus e) →
    AreAccepted M (opening M f g (code first) (code across) e) → Leads M (effects M (opening M f g (code first) (code across) e)) (Merge s t ∷ Kfmrh f g ∷ Mekr (At first) (At across) a ∷ Kev b ∷ [])
opening_left M f g e first across s t a b is_s is_t is_a is_b = as_written M _ _ (opening_is M f g e first across s t a b is_s is_t is_a is_b)

pub closing_left : (N : Model) (partner next : HalfEdge) (e s l : ℕ) (a b m : HalfEdge) → a ≡ half (plus e) → b ≡ half (minus e) → code m ≡ mate (code partner) →
    AreAccepted N (closing (code partner) (code next) e s l) → Leads N (effects N (closing (code partner) (code next) e s l)) (Mef partner next a s l ∷ Kev b ∷ Kef m ∷ [])
closing_left N partner next e s l a b m is_a is_b is_m = as_written N _ _ (closing_is partner next e s l a b m is_a is_b is_m)
