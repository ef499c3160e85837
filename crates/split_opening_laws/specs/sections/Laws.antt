-- The laws of solids opened along the cycles of a section, one after the other.
use Rattle.std.specs.Prelude.{◌≡◌, ℕ, true, List, [], ◌∷◌, length}
use Rattle.euler_operators.specs.Common.{Plane, Model, Sound, Has, lists, torn_edge}
use Rattle.shapes.specs.Common.{AreFree, AreLeft, Taken, below_halves, section_cycles, opened_along, Opening, next_opened, all_opened}
use Rattle.split_opening_laws.specs.cycles.SectionCycles.{AreOf, IsUnbranched, AreApartCycles}
use Rattle.split_opening_laws.specs.sections.Capped.{HasCaps}
use Rattle.split_opening_laws.specs.Numbers.{needed_for_openings}
use Rattle.split_opening_laws.specs.sections.InTurn.{upper_faces, CanBeOpenedInTurn}

-- after the solid is opened along one of some cycles, the others are still such cycles
abbrev pub CyclesStay : Type 0
CyclesStay = (M : Model) (above : List ℕ) (s : ℕ) (c : Taken) (bs : List ℕ) (cs : List (List ℕ)) → Sound M → AreFree M c →
    AreApartCycles M above s (bs ∷ cs) → AreApartCycles (opened_along M above s c bs) above s cs

-- the numbers above those that the opening takes are free
abbrev pub NumbersStayFree : Type 0
NumbersStayFree = (above : List ℕ) (s : ℕ) (p : Plane) (o : Opening) (bs : List ℕ) → AreFree o.model o.taken →
    AreFree (next_opened p above s o bs).model (next_opened p above s o bs).taken

-- if no vertex is branched, and numbers are left, a solid can be opened along the cycles of its section
abbrev pub SectionsCanBeOpened : Type 0
SectionsCanBeOpened = (M : Model) (above : List ℕ) (s : ℕ) (c : Taken) → Sound M → AreFree M c → AreOf M above s → ((f : ℕ) → lists above f ≡ true → Has M.faces f) →
    IsUnbranched M (below_halves M above s) → AreLeft c (needed_for_openings (length (below_halves M above s)) (length (section_cycles M (below_halves M above s)))) →
    CanBeOpenedInTurn above s (record { model = M; taken = c; caps = [] }) (section_cycles M (below_halves M above s))

-- the opening along the first of them makes a sound model
abbrev pub OpeningsAreSound : Type 0
OpeningsAreSound = (above : List ℕ) (s : ℕ) (p : Plane) (o : Opening) (bs : List ℕ) (cs : List (List ℕ)) → CanBeOpenedInTurn above s o (bs ∷ cs) → Sound (next_opened p above s o bs).model

-- then it can be opened along the others
abbrev pub OthersCanBeOpened : Type 0
OthersCanBeOpened = (above : List ℕ) (s : ℕ) (p : Plane) (o : Opening) (bs : List ℕ) (cs : List (List ℕ)) → CanBeOpenedInTurn above s o (bs ∷ cs) →
    CanBeOpenedInTurn above s (next_opened p above s o bs) cs

-- and so it can be opened along all of them
abbrev pub AllAreOpened : Type 0
AllAreOpened = (above : List ℕ) (s : ℕ) (p : Plane) (o : Opening) (cs : List (List ℕ)) → CanBeOpenedInTurn above s o cs →
    CanBeOpenedInTurn above s (all_opened p above s o cs) []

-- then no edge is left between an upper face and another one
abbrev pub NoneIsTorn : Type 0
NoneIsTorn = (above : List ℕ) (s : ℕ) (o : Opening) → CanBeOpenedInTurn above s o [] → torn_edge o.model (upper_faces above o.caps) ≡ 0

-- if the faces above rise, an opening leaves caps without rings, which rise after them
abbrev pub CapsStay : Type 0
CapsStay = (above : List ℕ) (s : ℕ) (p : Plane) (o : Opening) (bs : List ℕ) (cs : List (List ℕ)) → CanBeOpenedInTurn above s o (bs ∷ cs) →
    HasCaps above s o → HasCaps above s (next_opened p above s o bs)

-- all openings in turn do so too
abbrev pub CapsRise : Type 0
CapsRise = (above : List ℕ) (s : ℕ) (p : Plane) (o : Opening) (cs : List (List ℕ)) → CanBeOpenedInTurn above s o cs →
    HasCaps above s o → HasCaps above s (all_opened p above s o cs)
