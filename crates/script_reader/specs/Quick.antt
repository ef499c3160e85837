-- Numbers that are read by few instructions.
use Rattle.std.specs.Prelude.{◌≡◌, ◌<◌, ◌^◌, ℕ, List, length, Some}
use Rattle.script_reader.specs.Words.{IsAtWord, first_by, words}
use Rattle.script_reader.specs.Numbers.{magnitude}
use Rattle.script_reader.specs.Places.{Word}

-- the line begins with a number, whose value is this one, below 2^32, and these words follow
pub record Numbered (line : List ℕ) (n : ℕ) (rest : List Word) : Type 0 where
  pub left : List ℕ
  pub says : first_by magnitude line ≡ Some (n, left)
  pub follow : words left ≡ rest
  pub small : n < 2 ^ 32
  pub some : 0 < length line
  pub front : IsAtWord line
