-- The points of a line, and the changes that take them.
use Rattle.std.specs.Prelude.{ℕ, List, [], Result, Ok, Err}
use Rattle.euler_operators.specs.Common.{Point}
use Rattle.call_types.specs.declared.command.Change.{Change}
use Rattle.call_types.specs.declared.command.Change.TheVariants as change
use Rattle.script_reader.specs.Words.{words}
use Rattle.script_reader.specs.Places.{Word, points_of}
use Rattle.script_reader.specs.declared.command.Fault.{Fault}
use Rattle.script_reader.specs.declared.polygon.Outline.{Outline}
use Rattle.script_reader.specs.declared.polygon.Outline.TheVariants as outline

-- the points that were read, or none
abbrev pub points_read : Result (List Point × List Word) Fault → List Point
points_read (Ok x) = x.0
points_read (Err f) = []

-- the points that the words of a line say
abbrev pub polygon_of : List ℕ → List Point
polygon_of line = points_read (points_of 64 (words line))

-- the change of this outline over these points
abbrev pub over : Outline → List Point → Change
over (outline.Lamina s) ps = change.Lamina s ps
