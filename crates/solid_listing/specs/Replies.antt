-- The text of what was told.
use Rattle.std.specs.Prelude.{ℕ, ℤ, pos, List, [], ◌∷◌, ◌++◌, map, codes, decimal, cond}
use Rattle.std.specs.Fmt.{signed_decimal}
use Rattle.euler_operators.specs.Common.{Model, Plane}
use Rattle.euler_operators.specs.Refusal.{code_of}
use Rattle.solid_measure.specs.declared.solid_counts.Tally.{Tally}
use Rattle.solid_listing.specs.declared.told.Told.{Told}
use Rattle.solid_listing.specs.declared.told.Told.TheVariants.{Done, Refused, Fault, Memory, Plane as PlaneOf, Volume, Counts, Listing}
use Rattle.solid_listing.specs.Lines.{line_text}
use Rattle.solid_listing.specs.Listing.{listing}

-- the four coefficients of a plane
abbrev pub coefficient_words : Plane → List (List ℕ)
coefficient_words p = map signed_decimal (p.a ∷ p.b ∷ p.c ∷ p.d ∷ [])

-- the words of a count: vertices, edges, faces, rings, and the sum
abbrev pub tally_words : Tally → List ℤ
tally_words n = pos n.v ∷ pos n.e ∷ pos n.f ∷ pos n.r ∷ n.sum ∷ []

-- the words of a reply; what is told without a reply, or by a listing, has none
abbrev pub reply_words : Told → List (List ℕ)
reply_words Done = codes "ok" ∷ []
reply_words (Refused r) = codes "refused" ∷ decimal (code_of r.why) ∷ decimal r.number ∷ []
reply_words (Fault n) = codes "fault" ∷ decimal n ∷ []
reply_words Memory = codes "memory" ∷ []
reply_words (PlaneOf p flat) = codes "plane" ∷ (coefficient_words p ++ cond flat (codes "flat") (codes "bent") ∷ [])
reply_words (Volume n) = codes "volume" ∷ signed_decimal n ∷ []
reply_words (Counts n) = codes "count" ∷ map signed_decimal (tally_words n)
reply_words a = []

-- the line of these words, if there are any
abbrev pub line_if_any : List (List ℕ) → List ℕ
line_if_any [] = []
line_if_any (w ∷ ws) = line_text (w ∷ ws)

-- the line of a reply
unfoldable pub reply_text : Told → List ℕ
reply_text a = line_if_any (reply_words a)

-- the text of what was told; a listing is that of the model shown
abbrev pub told_text : Model → Told → List ℕ
told_text M Listing = listing M
told_text M a = reply_text a

-- how the line of a refusal begins, up to its value
abbrev pub refused_head : ℕ → List ℕ
refused_head why = codes "refused " ++ (decimal why ++ 32 ∷ [])
