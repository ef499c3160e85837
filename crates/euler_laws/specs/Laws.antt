-- The laws of the Euler operators, each over every sound model and every operator whose conditions hold in it.
use Rattle.std.specs.Prelude.{◌≡◌, ◌↔◌, ℕ, ℤ, pos, neg_ℤ, ◌+◌, ◌+ℤ◌, ◌-ℤ◌, false, not, nat_eq, List, [], ◌∷◌, ◌++◌, length, Some, None}
use Rattle.euler_operators.specs.Table as table
use Rattle.euler_operators.specs.Common.{Table, Model, outer, empty_model, Sound, Condition, AllHold, first_refusal, first_false, effect, inverse}
use Rattle.euler_operators.specs.declared.Op.{Op}
use Rattle.euler_operators.specs.declared.Op.TheVariants.{Mvfs, Kvfs, Mev, Kev, Mef, Kef, Kemr, Mekr, Kfmrh, Mfkrh, RingIn, RingOut, Outer, Merge, Part}
use Rattle.euler_operators.specs.declared.Refusal.{Refusal}

-- nothing is refused exactly if each condition holds
abbrev pub NothingIsRefusedWhereAllHold : Type 0
NothingIsRefusedWhereAllHold = (cs : List Condition) → (first_refusal cs ≡ None) ↔ AllHold cs

-- the refusal is that of a condition that doesn't hold, and each one before it holds
pub record IsFirstFalse (cs : List Condition) (r : Refusal) : Type 0 where
  pub before : List Condition
  pub condition : Condition
  pub after : List Condition
  pub order : cs ≡ before ++ condition ∷ after
  pub hold : AllHold before
  pub fails : condition.holds ≡ false
  pub named : condition.refusal ≡ r

abbrev pub RefusalsNameTheFirstFalse : Type 0
RefusalsNameTheFirstFalse = (cs : List Condition) (r : Refusal) → (first_refusal cs ≡ Some r) ↔ IsFirstFalse cs r

-- all conditions of the operator hold in the model
abbrev pub IsAccepted : Model → Op → Type 0
IsAccepted M op = first_false M op ≡ None

abbrev pub EmptyIsSound : Type 0
EmptyIsSound = Sound empty_model

-- the model after the operator is sound
abbrev pub EffectsAreSound : Type 0
EffectsAreSound = (M : Model) (op : Op) → Sound M → IsAccepted M op → Sound (effect M op)

-- the inverse is accepted in the model after
abbrev pub InversesAreAccepted : Type 0
InversesAreAccepted = (M : Model) (op : Op) → Sound M → IsAccepted M op → IsAccepted (effect M op) (inverse M op)

-- the inverse gives the model before
abbrev pub InversesUndo : Type 0
InversesUndo = (M : Model) (op : Op) → Sound M → IsAccepted M op → effect (effect M op) (inverse M op) ≡ M

-- the model after a list of operators, applied from the first on
abbrev pub effects : Model → List Op → Model
effects M [] = M
effects M (op ∷ ops) = effects (effect M op) ops

-- each operator is accepted in its turn
abbrev pub AreAccepted : Model → List Op → Type 0
AreAccepted M [] = Unit {0}
AreAccepted M (op ∷ ops) = IsAccepted M op × AreAccepted (effect M op) ops

-- the inverses of the operators, the last operator's first
abbrev pub inverses : Model → List Op → List Op
inverses M [] = []
inverses M (op ∷ ops) = inverses (effect M op) ops ++ inverse M op ∷ []

abbrev pub RunsAreSound : Type 0
RunsAreSound = (M : Model) (ops : List Op) → Sound M → AreAccepted M ops → Sound (effects M ops)

abbrev pub InversesOfRunsAreAccepted : Type 0
InversesOfRunsAreAccepted = (M : Model) (ops : List Op) → Sound M → AreAccepted M ops → AreAccepted (effects M ops) (inverses M ops)

abbrev pub InversesOfRunsUndo : Type 0
InversesOfRunsUndo = (M : Model) (ops : List Op) → Sound M → AreAccepted M ops → effects (effects M ops) (inverses M ops) ≡ M

-- how many rows a table has
abbrev pub size : {X : Type 0} → Table X → ℕ
size t = length t.rows

-- the rings of all faces: the loops that aren't the outer loop of their face
abbrev pub all_rings : Model → List ℕ
all_rings M = table.all_where (λ l row. not (nat_eq (outer M row.face) l)) M.loops

-- each face has one outer loop, and each other loop is a ring
abbrev pub LoopsAreOuterOrRings : Type 0
LoopsAreOuterOrRings = (M : Model) → Sound M → size M.loops ≡ size M.faces + length (all_rings M)

-- vertices less edges, plus faces, less rings
abbrev pub euler_number : Model → ℤ
euler_number M = pos (size M.vertices) -ℤ pos (size M.edges) +ℤ pos (size M.faces) -ℤ pos (length (all_rings M))

-- what an operator adds to the Euler number
abbrev pub growth : Op → ℤ
growth (Mvfs s f l v p) = pos 2
growth (Kvfs s) = neg_ℤ (pos 2)
growth (Mev c d h v p) = pos 0
growth (Kev h) = pos 0
growth (Mef g k h f l) = pos 0
growth (Kef h) = pos 0
growth (Kemr h l) = pos 0
growth (Mekr c d h) = pos 0
growth (Kfmrh f g) = neg_ℤ (pos 2)
growth (Mfkrh l f) = pos 2
growth (RingIn l f) = pos 0
growth (RingOut l f) = pos 0
growth (Outer l f) = pos 0
growth (Merge s t) = pos 0
growth (Part s t fs) = pos 0

abbrev pub EulerNumberGrows : Type 0
EulerNumberGrows = (M : Model) (op : Op) → Sound M → IsAccepted M op → euler_number (effect M op) ≡ euler_number M +ℤ growth op
