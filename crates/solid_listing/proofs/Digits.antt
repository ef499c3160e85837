-- Numbers as digits, computed.
use Rattle.std.specs.Prelude.{ℕ}
use Rattle.std.specs.Fmt.{digits}

-- opens the definition that the digits of a number compute by
unfoldable pub computed : ℕ
unfolding digits
computed = 0
