-- What the calls of operators ask of an arena, and what they make of it.
use Rattle.std.specs.Prelude.{◌≡◌, ℕ, true, List, [], ◌∷◌, None}
use Rattle.euler_operators.specs.Common.{Kind, Solid, Face, Loop, Edge, Vertex, Sound, first_false, effect}
use Rattle.euler_operators.specs.Table as table
use Rattle.halfedge_arena.specs.Store.{Store, has_room}
use Rattle.euler_operators.specs.declared.Op.{Op}
use Rattle.euler_operators.specs.declared.Op.TheVariants as op

-- the model is sound, and no ring stands outside its loops
pub record IsReady (s : Store) : Type 0 where
  pub sound : Sound s.model
  pub bare : s.loose ≡ table.empty

-- the arena after an operator: its model is the operator's effect, and nothing else has changed
abbrev pub after : Store → Op → Store
after s o = record s { model = effect s.model o }

-- the numbers that an operator makes
abbrev pub made : Op → List (Kind × ℕ)
made (op.Mvfs s f l v p) = (Solid, s) ∷ (Face, f) ∷ (Loop, l) ∷ (Vertex, v) ∷ []
made (op.Kvfs s) = []
made (op.Mev c d h v p) = (Edge, h.edge) ∷ (Vertex, v) ∷ []
made (op.Kev h) = []
made (op.Mef g k h f l) = (Edge, h.edge) ∷ (Face, f) ∷ (Loop, l) ∷ []
made (op.Kef h) = []
made (op.Kemr h l) = (Loop, l) ∷ []
made (op.Mekr c d h) = (Edge, h.edge) ∷ []
made (op.Kfmrh f g) = []
made (op.Mfkrh l f) = (Face, f) ∷ []
made (op.RingIn l f) = []
made (op.RingOut l f) = []
made (op.Outer l f) = []
made (op.Merge s t) = []
made (op.Part s t fs) = (Solid, t) ∷ []

-- each of some numbers has its room
abbrev pub AllRoom : Store → List (Kind × ℕ) → Type 0
AllRoom s [] = Unit {0}
AllRoom s (k ∷ ks) = (has_room s k.0 k.1 ≡ true) × AllRoom s ks

-- every number that the operator makes has its room
abbrev pub HasRoomFor : Store → Op → Type 0
HasRoomFor s o = AllRoom s (made o)

-- the operator may be applied: its conditions hold, and the numbers that it makes have their room
pub record Accepts (s : Store) (o : Op) : Type 0 where
  pub ready : IsReady s
  pub holds : first_false s.model o ≡ None
  pub room : HasRoomFor s o
