-- `show` takes what is lent to where it can be looked at. Assumes `Logic`.
use Rattle.session_slots.proofs.Prelude.{◌≡◌, List, [], ◌∷◌, ◌++◌, Option, IsSome, refl, sym, subst, Loan, lent_owns}
use Rattle.session_slots.proofs.Walking.{sem, ‵, raw, ◌⊛◌, ◌$◌, ◌∵◌, !, qed, move, keep, split, rewrite, fsplit, fjoin, fpick, fpack, feq_l, feq_i, suffices, done, agg, sub, whole, stop, fld, of_opd, and_then, no_more, returns, enter, alloc_all, pass_all, free_all, look_at, get, get_in, sets}
use Rattle.session_slots.proofs.Pointers.{proved_at, word, word-Good, SProp, ent, id⊢, never, fst∗, ftrue, Val, vstruct, of_list, WpFn, fact, tables, yes, Valss, shared_of, RawPtr, Ptr, block_ptr, ptr_val, in_a_block, plain, nothing, heard, lent_at, within, shape, Stays, stay_dropped, walk_of, says, ends_at, Goes-blank, R}
use Rattle.session_slots.proofs.KeptSteps.{some_of}
use Rattle.session_slots.proofs.lent.Lent.show.Statement.{statement}
use Rattle.session_slots.specs.contracts.lent.Lent as from
use Rattle.session_slots.specs.contracts.lent.Shown as to
use Rattle.session_slots.proofs.lent.Lent.show.Code as code

abbrev stayed : Stays from.show.ended.signature.params from.show.ended.kept
stayed = (stay_dropped (plain (λ _. from.the_row)) yes, tt)

pub show_spec : {M : Type 1} → statement M
show_spec 𝓤 𝓛 𝓜 𝓡 wired =
    let H = 𝓛.H in let c = from.show.clauses 𝓛 𝓜.mem 𝓡.returns in let W = walk_of 𝓛 from.show.ended stayed c in let 𝓣 = tables 𝓤 H 𝓜 𝓡 𝓡.env in
    proved_at 𝓛 from.show.ended stayed c 𝓜 𝓡 (Goes-blank 𝓛 0 (plain (λ _. from.the_row)) yes (λ κs x w. tt), tt) from.show.Key.name code.function (code.unfolded 𝓤 H 𝓜 𝓡 wired) (λ z are.
    let d = z.0.3.0 in let vs = z.0.4.0 in let Post : Val → SProp 𝓤 = W.post z in let Run : List Val → SProp 𝓤 = λ us. WpFn 𝓤 H 𝓣.C 𝓣.Λ code.function us Post in
    let Asked : Type 0 = IsSome d.loan in
    qed 𝓛 ((‵ ftrue ⊛ ‵ (from.the_row.own_val d vs) ⊛ ‵ ftrue) ∷ raw (fact 𝓤 Asked) ∷ []) ∵
    move ! (1 ∷ []) $ heard ! Asked (λ asked. let found = some_of d.loan asked in let g = found.0 in
    split ! $ move ! (1 ∷ []) $ split ! $ keep ! (0 ∷ []) $ fsplit ! $ fpick ! (λ vss. fsplit ! $ feq_l ! (λ ev. fsplit ! $ feq_l ! (λ ep. move ! (1 ∷ []) $
    rewrite ! 0 (λ (k : Option Loan). ‵ (lent_owns d.at k)) found.1 refl $ fsplit ! $ move ! (1 ∷ []) $
    in_a_block ! d.at (λ (p : Ptr). lent_at R p g.0 (g.1.0 ∷ [])) (fst∗ 𝓤 (never 𝓤) (sem 𝓛 (shared_of R g.0 0 0 (g.1.0 ∷ [])))) (λ b o e. let p : Ptr = block_ptr b o in
    move ! (1 ∷ 0 ∷ []) $ fjoin ! $ keep ! (0 ∷ []) $
    let is : vs ≡ word p ∷ [] = subst (λ (q : Ptr). vs ≡ word q ∷ []) e (subst (λ (us : List Val). vs ≡ vstruct (of_list (us ++ [])) ∷ []) ep ev) in
    let us = word p ∷ [] in
    suffices ! (Run us) (subst (λ (ws : List Val). ent 𝓤 (Run us) (Run (ws ++ []))) (sym is) (id⊢ 𝓤 (Run us))) $
    enter ! 𝓣.C 𝓣.Λ code.function us Post $ alloc_all ! (λ l. pass_all ! refl (word-Good [] p, tt) $
    sets ! (of_opd ! (get_in ! (fld ! refl (stop !)) (sub ! 0 refl (whole !)))) refl (tt, tt) $
    sets ! (agg ! (and_then ! (get ! refl) (no_more !))) refl (word-Good [] p) $
    let out : to.the_row.Denot = record { at = p; loan = g } in
    nothing ! $ feq_i ! (List Val) (ptr_val p ∷ []) (ptr_val p ∷ []) refl $ fjoin ! $ feq_i ! (List Val) (word p ∷ []) (word p ∷ []) refl $ fjoin ! $
    fpack ! (Valss (RawPtr ∷ [])) (within (shape to.the_type) (p, tt) (word p ∷ [])) (ptr_val p ∷ [], tt) $ fjoin ! $
    returns ! (look_at ! 0 refl) $ free_all ! refl $ keep ! (0 ∷ []) $
    suffices ! _ (ends_at 𝓛 from.show.ended stayed c z (word p) out (tt, tt) (tt, tt)) $ says ! (sym found.1) $
    nothing ! $ nothing ! $ fjoin ! $ nothing ! $ done !)))))))
