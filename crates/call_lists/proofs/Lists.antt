-- Lists of calls, one more at a time, and cut in two.
use Rattle.call_lists.proofs.Prelude.{◌≡◌, inl, inr, false, List, [], ◌∷◌, ◌++◌, refl, ap, subst, ◌∙◌, append_assoc, ◌⊎◌, Call, Done, Stage, Tells, Told, MakesAll, AreTold, is_done}
use Rattle.commands.proofs.Kept.{only_done_changes}

-- a call is told `Done`, or changes nothing
pub done_or_idle : (g h : Stage) (c : Call) (a : Told) → Tells g c a h → ((a ≡ Done) × Tells g c Done h) ⊎ ((is_done a ≡ false) × (h ≡ g))
done_or_idle g h c Done x = inl (refl, x)
done_or_idle g h c a x = inr (refl, only_done_changes g h c a (λ e. cc e) x)

-- one call more
pub one_more : (g k h : Stage) (calls : List Call) (answers : List Told) (c : Call) (a : Told) → MakesAll g calls answers k → Tells k c a h → MakesAll g (calls ++ c ∷ []) (answers ++ a ∷ []) h
one_more g k h [] [] c a is m = (h, subst (λ (x : Stage). Tells x c a h) is m, refl)
one_more g k h (d ∷ calls) (b ∷ answers) c a x m = (x.0, x.1, one_more x.0 k h calls answers c a x.2 m)
one_more g k h _ _ c a x m = absurd x

-- one answer more
pub told_more : (g k h : Stage) (calls : List Call) (old mid new : List Told) (c : Call) (a : Told) → AreTold g calls old mid k → new ≡ mid ++ a ∷ [] → Tells k c a h → AreTold g (calls ++ c ∷ []) old new h
told_more g k h calls old mid new c a x is m =
    (x.0 ++ a ∷ [], is ∙ ap (λ (xs : List Told). xs ++ a ∷ []) x.1 ∙ append_assoc old x.0 (a ∷ []), one_more g k h calls x.0 c a x.2 m)
