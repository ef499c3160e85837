-- `lay_down` keeps the pointer of a box, and lets the handle to the heap go. Assumes `Logic`.
use Rattle.std.proofs.Common.{List, [], ◌∷◌, ◌++◌, Some, refl, sym, subst}
use Rattle.session_slots.proofs.Walking.{‵, raw, ◌⊛◌, ◌$◌, ◌∵◌, !, qed, move, keep, split, use1, fjoin, fpack, feq_i, suffices, done, agg, sub, whole, stop, fld, of_opd, and_then, no_more, returns, enter, alloc_all, pass_all, free_all, look_at, get, get_in, sets}
use Rattle.session_slots.proofs.Pointers.{proved_at, word, word-Good, SProp, ent, id⊢, ftrue, Val, vptr, WpFn, tables, yes, Valss, RawPtr, Ptr, block_ptr, ptr_val, plain, nothing, within, shape, Stays, stay_dropped, walk_of, says, ends_at, Goes-blank, Z, LZ, ghosts, R}
use Rattle.session_slots.proofs.Values.{both, loose_good, loose_out}
use Rattle.session_slots.proofs.KeptSteps.{Own, Lr, own_in}
use Rattle.session_slots.proofs.kept.Kept.lay_down.Statement.{statement}
use Rattle.session_slots.specs.contracts.kept.Kept as kept
use Rattle.session_slots.proofs.kept.Kept.lay_down.Code as code

abbrev stayed : Stays kept.lay_down.ended.signature.params kept.lay_down.ended.kept
stayed = (stay_dropped (plain (λ _. Lr R)) yes, tt)

pub lay_down_spec : {M : Type 1} → statement M
lay_down_spec 𝓤 𝓛 𝓜 𝓡 wired =
    let H = 𝓛.H in let c = kept.lay_down.clauses 𝓛 𝓜.mem 𝓡.returns in let W = walk_of 𝓛 kept.lay_down.ended stayed c in let 𝓣 = tables 𝓤 H 𝓜 𝓡 𝓡.env in
    proved_at 𝓛 kept.lay_down.ended stayed c 𝓜 𝓡 (Goes-blank 𝓛 0 (plain (λ _. Lr R)) yes (λ κs x w. tt), tt) kept.lay_down.Key.name code.function (code.unfolded 𝓤 H 𝓜 𝓡 wired) (λ z are.
    let d = z.0.3.0 in let vs = z.0.4.0 in let Post : Val → SProp 𝓤 = W.post z in let Run : List Val → SProp 𝓤 = λ us. WpFn 𝓤 H 𝓣.C 𝓣.Λ code.function us Post in
    qed 𝓛 ((‵ ftrue ⊛ ‵ ((Lr R).own_val d vs) ⊛ ‵ ftrue) ∷ raw ((c z.0.0 z.0.3).requires z.1) ∷ []) ∵
    split ! $ move ! (1 ∷ []) $ split ! $ keep ! (0 ∷ []) $ loose_out R Z LZ ghosts ! d vs (λ b o h e ws fits. let p : Ptr = block_ptr b o in let v = both (vptr b o) h in
    use1 𝓛 (‵ (Own R p d.value)) (own_in R 𝓛 d.alloc p d.value) $ keep ! (0 ∷ []) $
    suffices ! (Run (v ∷ [])) (subst (λ (us : List Val). ent 𝓤 (Run (v ∷ [])) (Run (us ++ []))) (sym ws) (id⊢ 𝓤 (Run (v ∷ [])))) $
    enter ! 𝓣.C 𝓣.Λ code.function (v ∷ []) Post $ alloc_all ! (λ l. pass_all ! refl (loose_good R Z LZ ghosts b o h fits, tt) $
    sets ! (of_opd ! (get_in ! (fld ! refl (stop !)) (sub ! 0 refl (whole !)))) refl (tt, tt) $
    sets ! (of_opd ! (get ! refl)) refl (tt, tt) $
    sets ! (agg ! (and_then ! (get ! refl) (no_more !))) refl (word-Good [] p) $
    let out : kept.the_row.Denot = record { at = p; value = Some d.value } in
    nothing ! $ feq_i ! (List Val) (ptr_val p ∷ []) (ptr_val p ∷ []) refl $ fjoin ! $ feq_i ! (List Val) (word p ∷ []) (word p ∷ []) refl $ fjoin ! $
    fpack ! (Valss (RawPtr ∷ [])) (within (shape kept.the_type) (p, tt) (word p ∷ [])) (ptr_val p ∷ [], tt) $ fjoin ! $
    returns ! (look_at ! 0 refl) $ free_all ! refl $ keep ! (0 ∷ []) $
    suffices ! _ (ends_at 𝓛 kept.lay_down.ended stayed c z (word p) out (tt, tt) (tt, tt)) $ says ! refl $
    nothing ! $ nothing ! $ fjoin ! $ nothing ! $ done !)))
