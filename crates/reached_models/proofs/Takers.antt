-- The six operators that take models apart.
use Rattle.reached_models.proofs.Prelude.{List, [], ◌∷◌, All, All-nil, All-head, All-tail, All-push, Model, effect, inverse, Op, Kvfs, Kev, Kef, Kemr, Mfkrh, Part, inverses, IsBuilder}

abbrev pub IsTaker : Op → Type 0
IsTaker (Kvfs s) = Unit {0}
IsTaker (Kev h) = Unit {0}
IsTaker (Kef h) = Unit {0}
IsTaker (Kemr h l) = Unit {0}
IsTaker (Mfkrh l f) = Unit {0}
IsTaker (Part s t fs) = Unit {0}
IsTaker op = ⊥

-- each is taken back by a builder
builds_back : (M : Model) (op : Op) → IsTaker op → IsBuilder (inverse M op)
unfolding inverse
builds_back M (Kvfs s) t = tt
builds_back M (Kev h) t = tt
builds_back M (Kef h) t = tt
builds_back M (Kemr h l) t = tt
builds_back M (Mfkrh l f) t = tt
builds_back M (Part s t fs) k = tt
builds_back M op t = absurd t

pub build_back : (M : Model) (ops : List Op) → All IsTaker ops → All IsBuilder (inverses M ops)
build_back M [] each = All-nil IsBuilder
build_back M (op ∷ ops) each = All-push IsBuilder (inverses (effect M op) ops) (inverse M op)
    (build_back (effect M op) ops (All-tail IsTaker op ops each)) (builds_back M op (All-head IsTaker op ops each))
