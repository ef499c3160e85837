-- `slot` follows the pointer to the slot, which is lent. Assumes `Logic`.
use Rattle.std.proofs.Common.{List, [], ◌∷◌, refl, sym, ◌+◌}
use Rattle.session_slots.proofs.Walking.{sem, ‵, raw, ◌⊛◌, at_ret, ◌$◌, ◌∵◌, !, qed, move, keep, drop, split, join, rewrite, fsplit, fjoin, feq_i, feq_l, suffices, frame, done, look, stop, fld, load, of_opd, addr, first, blocks, exec, returns, enter, alloc_all, pass_all, free_all, look_at, get, through, sets, sets_last, env}
use Rattle.session_slots.proofs.Pointers.{proved, after, SProp, never, fst∗, ftrue, fat, flft, named, ty_ptr, Val, vptr, tables, RefOf, plain_Copied, yes, cell_at, shared_of, Ptr, RawPtr, coded_ptr, ptr_own, rawptr_pure, ptr_val, in_a_block, RawPtr-laws, ShrRef, shr_vals, shr_Tells, plain, hide, unhide, nothing, looks, shuts, lent_at, Stays, stay_dropped, walk_of, says, ends_at, Goes-dropped, R}
use Rattle.session_slots.specs.contracts.lent.Shown.{the_row as Kr}
use Rattle.session_slots.proofs.lent.Shown.slot.Statement.{statement}
use Rattle.session_slots.specs.contracts.lent.Shown.slot as f
use Rattle.session_slots.proofs.lent.Shown.slot.Code as code

abbrev stayed : Stays f.ended.signature.params f.ended.kept
stayed = (stay_dropped (RefOf (0 ∷ []) tt (plain (λ _. Kr)) (λ _. tt)) yes, tt)

pub slot_spec : {M : Type 1} → statement M
slot_spec 𝓤 𝓛 𝓜 𝓡 wired =
    let c = f.clauses 𝓛 𝓜.mem 𝓡.returns in let W = walk_of 𝓛 f.ended stayed c in let 𝓣 = tables 𝓤 𝓛.H 𝓜 𝓡 𝓡.env in
    proved 𝓛 f.ended stayed c 𝓜 𝓡 (Goes-dropped 𝓛 1 (RefOf (0 ∷ []) tt (plain (λ _. Kr)) (λ _. tt)) yes (λ κs x w. refl), tt)
    f.Key.name code.function (code.unfolded 𝓤 𝓛.H 𝓜 𝓡 wired)
    (λ κs. (shr_vals, tt)) (λ κs. (shr_Tells (named 0) κs.0 Kr, tt)) (λ κs qs bounds a _ are.
    let κ = κs.0 in let q = qs.0 in let d = a.0.now in let rb = a.0.ref_ptr.0 in let ro = a.0.ref_ptr.1 in
    let y : W.Ghost = ((κs, qs, bounds, a, (shr_vals a.0, tt)), tt) in
    let Post : Val → SProp 𝓤 = W.post y in let x = d.loan.0 in
    qed 𝓛 (((‵ (flft κ q) ⊛ ‵ ftrue) ⊛ ‵ ((ShrRef (named 0) κ Kr).own_val a.0 (shr_vals a.0)) ⊛ ‵ ftrue) ∷ raw ((c κs a).requires tt) ∷ []) ∵
    move ! (1 ∷ []) $ drop ! $
    split ! $ split ! $ move ! (1 ∷ []) $ drop ! $ move ! (1 ∷ []) $ split ! $ move ! (1 ∷ []) $ drop ! $ fsplit ! $ drop ! $
    -- [what the `&` shares; the token]
    enter ! 𝓣.C 𝓣.Λ code.function _ _ $ alloc_all ! (λ l. pass_all ! refl ((tt, tt), tt) $ let En = env code.function.locals l in
    unhide ! $ fsplit ! $ fsplit ! $ fsplit ! $ hide ! $ move ! (0 ∷ 4 ∷ []) $
    looks ! tt RawPtr (plain_Copied 𝓛 Ptr coded_ptr (ty_ptr ∷ []) ptr_own rawptr_pure ptr_val RawPtr-laws.tells).opens d.at rb (ro + 0) (λ part vs. move ! (1 ∷ []) $ feq_l ! (λ e0.
    rewrite ! 0 (λ (us : List Val). ‵ (cell_at part RawPtr.mir us rb (ro + 0))) e0 refl $ move ! (2 ∷ []) $ drop ! $ move ! (4 ∷ []) $
    in_a_block ! d.at (λ (p : Ptr). lent_at R p x κ) (fst∗ 𝓤 (never 𝓤) (sem 𝓛 (shared_of R x 0 0 κ))) (λ b o e. fsplit ! $ drop ! $ hide ! $
    rewrite ! 1 (λ (p : Ptr). ‵ (fat part ty_ptr rb (ro + 0) (ptr_val p))) e refl $
    -- [a `&` to the slot; the pointer's cell; the way back]
    first ! $ blocks ! $ sets ! (of_opd ! (load ! (through ! refl (fld ! refl (stop !))) (look ! 1 refl))) refl (tt, tt) $
    sets ! (of_opd ! (get ! refl)) refl (tt, tt) $ sets_last ! (addr ! (through ! refl (stop !))) refl (tt, tt) $
    exec ! 𝓣.C 𝓣.Λ En (after 1 (code.function).body) (at_ret En Post) $ sets ! (of_opd ! (get ! refl)) refl (tt, tt) $
    rewrite ! 1 (λ (p : Ptr). ‵ (fat part ty_ptr rb (ro + 0) (ptr_val p))) (sym e) refl $
    feq_i ! (List Val) (vptr b o ∷ []) (vptr b o ∷ []) refl $ fjoin ! $ move ! (1 ∷ 2 ∷ []) $
    feq_i ! (List Val) (ptr_val d.at ∷ []) (ptr_val d.at ∷ []) refl $ move ! (1 ∷ 0 ∷ []) $ shuts ! tt RawPtr part d.at (ptr_val d.at ∷ []) rb (ro + 0) $
    returns ! (look_at ! 0 refl) $ free_all ! refl $ keep ! (0 ∷ 1 ∷ []) $
    suffices ! _ (ends_at 𝓛 f.ended stayed c y (vptr b o) (record { ref_ptr = (b, o); now = x }) (tt, tt) (tt, tt)) $ says ! refl $
    nothing ! $ move ! (1 ∷ 0 ∷ []) $ join ! $ frame ! $ nothing ! $ nothing ! $ fjoin ! $ done !)))))
