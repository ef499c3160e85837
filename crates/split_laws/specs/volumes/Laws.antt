-- The six volumes of solids after the holes of a section are closed, and after its upper faces are parted from the solid.
use Rattle.std.specs.Prelude.{◌≡◌, ◌≢◌, ℕ, ◌+ℤ◌, true, false, List, [], None}
use Rattle.euler_operators.specs.Common.{Plane, Model, solid_of, Has, lists, strictly_rises, part}
use Rattle.euler_operators.specs.Table as table
use Rattle.shapes.specs.Common.{six_volume, Drawing, below_halves, section_cycles, has_stray_hole, Caps, holes_closed, split_drawn}
use Rattle.split_opening_laws.specs.sections.InTurn.{CanBeOpenedInTurn}
use Rattle.split_laws.specs.opened.Laws.{LieOn}
use Rattle.split_laws.specs.opened.Told.{AllTellAlike}
use Rattle.split_laws.specs.volumes.Closing.{CanClose}

-- some faces of solid s can go to solid t, which has no face
pub record CanBeParted (M : Model) (s t : ℕ) (fs : List ℕ) : Type 0 where
  pub apart : s ≢ t
  pub fresh : (f : ℕ) → Has M.faces f → solid_of M f ≢ t
  pub of_solid : (f : ℕ) → Has M.faces f → lists fs f ≡ true → solid_of M f ≡ s

-- then the two solids share its six volumes
abbrev pub PartSharesVolumes : Type 0
PartSharesVolumes = (M : Model) (s t : ℕ) (fs : List ℕ) → CanBeParted M s t fs → six_volume M s ≡ six_volume (part M s t fs) s +ℤ six_volume (part M s t fs) t

-- every other solid keeps its own
abbrev pub PartKeepsOthers : Type 0
PartKeepsOthers = (M : Model) (s t : ℕ) (fs : List ℕ) (u : ℕ) → CanBeParted M s t fs → u ≢ s → u ≢ t → six_volume (part M s t fs) u ≡ six_volume M u

-- if the holes of a section are closed, every solid keeps its six volumes
abbrev pub ClosingKeepsVolumes : Type 0
ClosingKeepsVolumes = (M : Model) (s : ℕ) (p : Plane) (ks : List Caps) (u : ℕ) → CanClose M s p ks → six_volume (holes_closed M ks) u ≡ six_volume M u

-- what is asked of a drawn model d that is split: solid s can be opened along the cycles of its section, which all lie on the plane, no
-- hole of the section is stray, and t is the number of no solid
pub record CanBeSplit (d : Drawing) (above : List ℕ) (s : ℕ) (p : Plane) (t : ℕ) : Type 0 where
  pub opens : CanBeOpenedInTurn above s (record { model = d.model; taken = d.taken; caps = [] }) (section_cycles d.model (below_halves d.model above s))
  pub above_rise : strictly_rises above ≡ true
  pub alike : AllTellAlike d.model s
  pub lie_on : LieOn d.model p (section_cycles d.model (below_halves d.model above s))
  pub no_stray : has_stray_hole d.model p (section_cycles d.model (below_halves d.model above s)) ≡ false
  pub apart : s ≢ t
  pub fresh : table.get d.model.solids t ≡ None

-- the two parts of a split solid share its six volumes
abbrev pub SplitSharesVolumes : Type 0
SplitSharesVolumes = (d : Drawing) (above : List ℕ) (s : ℕ) (p : Plane) (t : ℕ) → CanBeSplit d above s p t →
    six_volume d.model s ≡ six_volume (split_drawn d above s p t) s +ℤ six_volume (split_drawn d above s p t) t

-- every other solid keeps its own
abbrev pub SplitKeepsOthers : Type 0
SplitKeepsOthers = (d : Drawing) (above : List ℕ) (s : ℕ) (p : Plane) (t u : ℕ) → CanBeSplit d above s p t → u ≢ s → u ≢ t → six_volume (split_drawn d above s p t) u ≡ six_volume d.model u
