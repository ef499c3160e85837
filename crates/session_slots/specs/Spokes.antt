-- Half-edges that start at a vertex.
use Rattle.std.specs.Prelude.{◌≡◌, ◌≢◌, ◌<◌, ◌≤◌, ℕ, true, Option, Some, None}
use Rattle.session_slots.specs.Common.Below.{edge_of, Model, has_half, tail}

-- a half-edge of edge e that starts at v; none if neither half-edge does
abbrev pub IsStartOf : Model → ℕ → ℕ → Option ℕ → Type 0
IsStartOf M e v None = (h : ℕ) → edge_of h ≡ e → tail M h ≢ v
IsStartOf M e v (Some h) = (edge_of h ≡ e) × (tail M h ≡ v)

-- a half-edge that starts at v; none only if no half-edge of the edges above n and up to m starts there
abbrev pub IsStartWithin : ℕ → ℕ → ℕ → Model → Option ℕ → Type 0
IsStartWithin v n m M None = (h : ℕ) → has_half M h ≡ true → n < edge_of h → edge_of h ≤ m → tail M h ≢ v
IsStartWithin v n m M (Some h) = (has_half M h ≡ true) × (tail M h ≡ v)

-- a half-edge that starts at v; none if no half-edge does
abbrev pub IsStart : ℕ → Model → Option ℕ → Type 0
IsStart v M None = (h : ℕ) → has_half M h ≡ true → tail M h ≢ v
IsStart v M (Some h) = (has_half M h ≡ true) × (tail M h ≡ v)
