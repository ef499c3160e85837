-- Steps that a draft has still to take.
use Rattle.split_drawing.proofs.Prelude.{◌≡◌, ◌<◌, List, [], ◌∷◌, ◌++◌, length, sym, ap, ◌∙◌, arith, Op, DraftJournal, after_steps, after_both, no_steps}

-- once some are taken, the others lead where all of them do
pub others_lead : (d e : DraftJournal) (ops more : List Op) → e ≡ after_steps d ops → after_steps e more ≡ after_steps d (ops ++ more)
others_lead d e ops more is = ap (λ (x : DraftJournal). after_steps x more) is ∙ after_both d ops more

-- where the steps are told by the items of a list, all are taken once no item is left
pub none_left : {X : Type 0} (xs : List X) (ops : List X → List Op) (d e : DraftJournal) (all : List Op) → length xs < 1 → ops [] ≡ [] → after_steps e (ops xs) ≡ after_steps d all → e ≡ after_steps d all
none_left [] ops d e all lt none lead = sym (no_steps e) ∙ ap (after_steps e) (sym none) ∙ lead
none_left (x ∷ xs) ops d e all lt none lead = absurd (omega (arith, lt))
