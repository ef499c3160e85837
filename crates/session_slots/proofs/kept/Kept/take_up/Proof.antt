-- `take_up` gives the pointer to a box again. Assumes `Logic`.
use Rattle.session_slots.proofs.Prelude.{◌≡◌, List, [], ◌∷◌, ◌++◌, Option, IsSome, refl, sym, subst, kept_owns}
use Rattle.session_slots.proofs.Walking.{sem, ‵, raw, ◌⊛◌, ◌$◌, ◌∵◌, !, qed, move, keep, split, use1, rewrite, fsplit, fjoin, fpick, feq_l, suffices, done, agg, sub, whole, stop, fld, of_opd, and_then, no_more, returns, enter, alloc_all, pass_all, free_all, look_at, get, get_in, sets}
use Rattle.session_slots.proofs.Pointers.{proved_at, word, word-Good, SProp, ent, id⊢, never, fst∗, ftrue, bare, Val, vptr, vstruct, of_list, WpFn, fact, tables, yes, lone, Ptr, block_ptr, null_ptr, in_a_block, plain, nothing, heard, Stays, stay_dropped, walk_of, says, ends_at, Goes-dropped, Goes-blank, handle_tells, Z, LZ, ghosts, R}
use Rattle.session_slots.proofs.Values.{both, loose_good, loose_in}
use Rattle.session_slots.proofs.KeptSteps.{Boxed, heap, own_out, some_of}
use Rattle.session_slots.proofs.kept.Kept.take_up.Statement.{statement}
use Rattle.session_slots.specs.contracts.kept.Kept as kept
use Rattle.session_slots.proofs.kept.Kept.take_up.Code as code

abbrev stayed : Stays kept.take_up.ended.signature.params kept.take_up.ended.kept
stayed = (stay_dropped (plain (λ _. kept.the_row)) yes, (stay_dropped (plain (λ _. Z)) yes, tt))

pub take_up_spec : {M : Type 1} → statement M
take_up_spec 𝓤 𝓛 𝓜 𝓡 wired =
    let H = 𝓛.H in let c = kept.take_up.clauses 𝓛 𝓜.mem 𝓡.returns in let W = walk_of 𝓛 kept.take_up.ended stayed c in let 𝓣 = tables 𝓤 H 𝓜 𝓡 𝓡.env in
    proved_at 𝓛 kept.take_up.ended stayed c 𝓜 𝓡 (Goes-blank 𝓛 0 (plain (λ _. kept.the_row)) yes (λ κs x w. tt), (Goes-dropped 𝓛 0 (plain (λ _. Z)) yes (λ κs x w. refl), tt)) kept.take_up.Key.name code.function (code.unfolded 𝓤 H 𝓜 𝓡 wired) (λ z are.
    let d = z.0.3.0 in let alloc = z.0.3.1.0 in let vs = z.0.4.0 in let zs = z.0.4.1.0 in let Post : Val → SProp 𝓤 = W.post z in let Run : List Val → SProp 𝓤 = λ us. WpFn 𝓤 H 𝓣.C 𝓣.Λ code.function us Post in
    let Asked : Type 0 = IsSome d.value in
    qed 𝓛 ((‵ ftrue ⊛ ‵ (kept.the_row.own_val d vs) ⊛ ‵ (Z.own_val alloc zs) ⊛ ‵ ftrue) ∷ raw (fact 𝓤 Asked) ∷ []) ∵
    move ! (1 ∷ []) $ heard ! Asked (λ asked. let found = some_of d.value asked in let x = found.0 in
    split ! $ move ! (1 ∷ []) $ split ! $ move ! (1 ∷ []) $ split ! $ handle_tells heap ! alloc zs (λ h eh fits. keep ! (0 ∷ 2 ∷ []) $
    -- [the allocator; the handle]
    move ! (1 ∷ []) $ fsplit ! $ fpick ! (λ vss. fsplit ! $ feq_l ! (λ ev. fsplit ! $ feq_l ! (λ ep. move ! (1 ∷ 2 ∷ []) $
    -- [the block; the allocator]
    rewrite ! 0 (λ (k : Option R.Denot). ‵ (kept_owns d.at k)) found.1 refl $ use1 𝓛 (‵ (Boxed R 𝓛 alloc d.at x)) (own_out R 𝓛 alloc d.at x) $
    in_a_block ! d.at (λ p. Boxed R 𝓛 alloc p x) (fst∗ 𝓤 (never 𝓤) (sem 𝓛 (ghosts.dealloc_token alloc (bare (lone R.mir)) null_ptr))) (λ b o e. let p : Ptr = block_ptr b o in
    let is : vs ≡ word p ∷ [] = subst (λ (q : Ptr). vs ≡ word q ∷ []) e (subst (λ (us : List Val). vs ≡ vstruct (of_list (us ++ [])) ∷ []) ep ev) in
    let us = word p ∷ h ∷ [] in
    suffices ! (Run us) (subst (λ (ws : List Val × List Val). ent 𝓤 (Run us) (Run (ws.0 ++ (ws.1 ++ [])))) (λ i. (sym is i, sym eh i)) (id⊢ 𝓤 (Run us))) $
    enter ! 𝓣.C 𝓣.Λ code.function us Post $ alloc_all ! (λ l. pass_all ! refl (word-Good [] p, (fits, tt)) $
    sets ! (of_opd ! (get_in ! (fld ! refl (stop !)) (sub ! 0 refl (whole !)))) refl (tt, tt) $
    sets ! (of_opd ! (get ! refl)) refl (tt, tt) $
    sets ! (agg ! (and_then ! (get ! refl) (and_then ! (get ! refl) (no_more !)))) refl (loose_good R Z LZ ghosts b o h fits) $
    loose_in R Z LZ ghosts ! b o h alloc x $
    returns ! (look_at ! 0 refl) $ free_all ! refl $ keep ! (0 ∷ []) $
    suffices ! _ (ends_at 𝓛 kept.take_up.ended stayed c z (both (vptr b o) h) (record { at = p; alloc = alloc; value = x }) (tt, (tt, tt)) (tt, (tt, tt))) $ says ! (sym found.1) $
    nothing ! $ nothing ! $ fjoin ! $ nothing ! $ fjoin ! $ nothing ! $ done !))))))))
