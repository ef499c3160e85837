-- Caps as the code has them, and the solid opened along a section.
use Rattle.std.specs.Prelude.{ℕ, List, [], map}
use Rattle.euler_operators.specs.Common.{Plane, Model}
use Rattle.shapes.specs.Common.{Caps, Opening, all_opened}
use Rattle.split_drawing.specs.Counters.{taken_of}
use Rattle.split_drawing.specs.declared.Counters.{Counters}
use Rattle.split_sections.specs.section_checks.Sections.{cycles_of}
use Rattle.split_sections.specs.declared.section_checks.section.Section.{Section}
use Rattle.plane_split.specs.declared.solid_opening.caps.Caps as declared

abbrev pub caps_of : declared.Caps → Caps
caps_of k = record { lower = k.lower; upper = k.upper; hole = k.hole }

abbrev pub all_caps : List declared.Caps → List Caps
all_caps ks = map caps_of ks

-- the opening so far: the model, the numbers taken and the caps
abbrev pub opening_of : Model → Counters → List declared.Caps → Opening
opening_of M c ks = record { model = M; taken = taken_of c; caps = all_caps ks }

-- nothing is opened yet
abbrev pub unopened : Model → Counters → Opening
unopened M c = record { model = M; taken = taken_of c; caps = [] }

-- solid s after it is opened along the cycles of a section
abbrev pub opened_section : Model → Counters → ℕ → Plane → Section → Opening
opened_section M c s p q = all_opened p q.above.items s (unopened M c) (cycles_of q)
