-- What calls may be told one after the other, and to which session or draft they lead.
use Rattle.std.specs.Prelude.{◌≡◌, List, [], ◌∷◌, ◌++◌}
use Rattle.call_lists.specs.Common.{Call, Stage, Tells, Told}

-- a list of calls with one answer each; each call begins where those before it lead
abbrev pub MakesAll : Stage → List Call → List Told → Stage → Type 0
MakesAll g [] [] h = h ≡ g
MakesAll g [] (a ∷ rest) h = ⊥
MakesAll g (c ∷ calls) [] h = ⊥
MakesAll g (c ∷ calls) (a ∷ answers) h = (k : Stage) × Tells g c a k × MakesAll k calls answers h

-- the answers to calls are appended to those that were there before
abbrev pub AreTold : Stage → List Call → List Told → List Told → Stage → Type 0
AreTold g calls old new h = (answers : List Told) × (new ≡ old ++ answers) × MakesAll g calls answers h
