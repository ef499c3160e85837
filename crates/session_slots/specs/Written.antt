-- A list written into a buffer, as far as there is room.
use Rattle.std.specs.Prelude.{◌≡◌, ℕ, zero, suc, ◌+◌, List, [], ◌∷◌, ◌++◌, length, take, drop}

-- the items of the first list take the places of the second, as far as there is room; the places that they don't reach stay unchanged
abbrev pub laid_over : {X : Type 0} → List X → List X → List X
laid_over xs old = take (length old) xs ++ drop (length xs) old

-- one of the lists that R allows is written, as far as there is room, and its length is told
abbrev pub WritesOne : {X : Type 0} → (List X → Type 0) → List X → List X → ℕ → Type 0
WritesOne {X} R old new n = (xs : List X) × R xs × (n ≡ length xs) × (new ≡ laid_over xs old)

-- the same from place n on
abbrev pub laid_at : {X : Type 0} → ℕ → List X → List X → List X
laid_at zero xs old = laid_over xs old
laid_at (suc n) xs [] = []
laid_at (suc n) xs (x ∷ old) = x ∷ laid_at n xs old

abbrev pub WritesFrom : {X : Type 0} → (List X → Type 0) → ℕ → List X → List X → ℕ → Type 0
WritesFrom {X} R from old new n = (xs : List X) × R xs × (n ≡ from + length xs) × (new ≡ laid_at from xs old)
