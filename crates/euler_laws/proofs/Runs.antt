-- Lists of operators, each accepted in its turn, and their inverses.
use Rattle.euler_laws.proofs.Prelude.{◌≡◌, List, [], ◌∷◌, ◌++◌, None, refl, sym, ap, subst, ◌∙◌, Model, Sound, first_false, effect, inverse, Op, IsAccepted, effects, AreAccepted, inverses}
use Rattle.euler_laws.proofs.Cases.{effect_keeps_sound, inverse_goes, inverse_undoes}

pub effects-append : (M : Model) (ops more : List Op) → effects M (ops ++ more) ≡ effects (effects M ops) more
effects-append M [] more = refl
effects-append M (op ∷ ops) more = effects-append (effect M op) ops more

pub AreAccepted-append : (M : Model) (ops more : List Op) → AreAccepted M ops → AreAccepted (effects M ops) more → AreAccepted M (ops ++ more)
AreAccepted-append M [] more a b = b
AreAccepted-append M (op ∷ ops) more a b = (a.0, AreAccepted-append (effect M op) ops more a.1 b)

-- of two lists of operators accepted one after the other, the first is accepted, and the second after it
pub AreAccepted-front : (M : Model) (ops more : List Op) → AreAccepted M (ops ++ more) → AreAccepted M ops
AreAccepted-front M [] more a = tt
AreAccepted-front M (op ∷ ops) more a = (a.0, AreAccepted-front (effect M op) ops more a.1)

pub AreAccepted-back : (M : Model) (ops more : List Op) → AreAccepted M (ops ++ more) → AreAccepted (effects M ops) more
AreAccepted-back M [] more a = a
AreAccepted-back M (op ∷ ops) more a = AreAccepted-back (effect M op) ops more a.1

pub effects_keep_sound : (M : Model) (ops : List Op) → Sound M → AreAccepted M ops → Sound (effects M ops)
effects_keep_sound M [] sound a = sound
effects_keep_sound M (op ∷ ops) sound a = effects_keep_sound (effect M op) ops (effect_keeps_sound M op sound a.0) a.1

pub inverses_undo : (M : Model) (ops : List Op) → Sound M → AreAccepted M ops → effects (effects M ops) (inverses M ops) ≡ M
inverses_undo M [] sound a = refl
inverses_undo M (op ∷ ops) sound a =
    let N : Model = effect M op in
    effects-append (effects N ops) (inverses N ops) (inverse M op ∷ [])
    ∙ ap (λ X. effect X (inverse M op)) (inverses_undo N ops (effect_keeps_sound M op sound a.0) a.1)
    ∙ inverse_undoes M op sound a.0

pub inverses_go : (M : Model) (ops : List Op) → Sound M → AreAccepted M ops → AreAccepted (effects M ops) (inverses M ops)
inverses_go M [] sound a = tt
inverses_go M (op ∷ ops) sound a =
    let N : Model = effect M op in
    let s : Sound N = effect_keeps_sound M op sound a.0 in
    AreAccepted-append (effects N ops) (inverses N ops) (inverse M op ∷ []) (inverses_go N ops s a.1)
    (subst (λ X. IsAccepted X (inverse M op)) (sym (inverses_undo N ops s a.1)) (inverse_goes M op sound a.0), tt)

-- ---- from one model to another

-- some operators are accepted in turn and make N of M
pub record Leads (M N : Model) (ops : List Op) : Type 0 where
  pub accepted : AreAccepted M ops
  pub made : effects M ops ≡ N

pub leads_none : (M : Model) → Leads M M []
leads_none M = record { accepted = tt; made = refl }

pub leads_one : (M N : Model) (op : Op) → first_false M op ≡ None → effect M op ≡ N → Leads M N (op ∷ [])
leads_one M N op a e = record { accepted = (a, tt); made = e }

pub leads_on : (M N K : Model) (ops more : List Op) → Leads M N ops → Leads N K more → Leads M K (ops ++ more)
leads_on M N K ops more a b = record {
  accepted = AreAccepted-append M ops more a.accepted (subst (λ X. AreAccepted X more) (sym a.made) b.accepted);
  made = effects-append M ops more ∙ ap (λ X. effects X more) a.made ∙ b.made;
}

pub leads_first : (M N K : Model) (op : Op) (more : List Op) → first_false M op ≡ None → effect M op ≡ N → Leads N K more → Leads M K (op ∷ more)
leads_first M N K op more a e b = leads_on M N K (op ∷ []) more (leads_one M N op a e) b

pub leads_sound : (M N : Model) (ops : List Op) → Sound M → Leads M N ops → Sound N
leads_sound M N ops sound a = subst Sound a.made (effects_keep_sound M ops sound a.accepted)

-- of operators that lead on from N the next one is accepted
pub next_goes : {N X : Model} {op : Op} {ops : List Op} → Leads N X (op ∷ ops) → first_false N op ≡ None
next_goes w = w.accepted.0

-- once it is taken the others lead on
pub next_taken : {N X K : Model} {op : Op} {ops : List Op} → Leads N X (op ∷ ops) → K ≡ effect N op → Leads K X ops
next_taken {X = X} {ops = ops} w e = subst (λ Y. Leads Y X ops) (sym e) (record { accepted = w.accepted.1; made = w.made })

-- once some are taken together the others lead on
pub some_taken : (N : Model) (ops more : List Op) (X K : Model) → AreAccepted N (ops ++ more) → effects N (ops ++ more) ≡ X → K ≡ effects N ops → Leads K X more
some_taken N ops more X K accepted made e = subst (λ Y. Leads Y X more) (sym e) (record { accepted = AreAccepted-back N ops more accepted; made = sym (effects-append N ops more) ∙ made })
