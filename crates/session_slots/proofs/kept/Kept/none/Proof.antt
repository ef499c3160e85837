-- `none` makes a handle that owns nothing. Assumes `Logic`.
use Rattle.std.proofs.Common.{List, [], ◌∷◌, None, refl, lit<}
use Rattle.session_slots.proofs.Walking.{raw, ◌$◌, ◌∵◌, !, qed, drop, fjoin, fpack, feq_i, suffices, done, agg, of_opd, lit, and_then, no_more, returns, enter, alloc_all, pass_all, free_all, look_at, get, sets}
use Rattle.session_slots.proofs.Pointers.{proved, Val, vstruct, vcons, vnil, vnull, Valss, RawPtr, null_ptr, ptr_val, nothing, within, shape, on_entry, Stays, walk_of, says, ends_at}
use Rattle.session_slots.proofs.kept.Kept.none.Statement.{statement}
use Rattle.session_slots.specs.contracts.kept.Kept as kept
use Rattle.session_slots.proofs.kept.Kept.none.Code as code

abbrev stayed : Stays kept.none.ended.signature.params kept.none.ended.kept
stayed = tt

pub none_spec : {M : Type 1} → statement M
none_spec 𝓤 𝓛 𝓜 𝓡 wired =
    let c = kept.none.clauses 𝓛 𝓜.mem 𝓡.returns in let W = walk_of 𝓛 kept.none.ended stayed c in
    proved 𝓛 kept.none.ended stayed c 𝓜 𝓡 tt kept.none.Key.name code.function (code.unfolded 𝓤 𝓛.H 𝓜 𝓡 wired) (λ κs. tt) (λ κs. tt) (λ κs qs bounds a g are.
    let y : W.Ghost = ((κs, qs, bounds, a, tt), g) in let out : kept.the_row.Denot = record { at = null_ptr; value = None } in let v = vstruct (vcons vnull vnil) in
    qed 𝓛 (raw (on_entry 𝓛 kept.none.signature κs qs a tt) ∷ raw ((c κs a).requires g) ∷ []) ∵ drop ! $ drop ! $
    enter ! _ _ _ _ _ $ alloc_all ! (λ l. pass_all ! refl tt $
    sets ! (of_opd ! (lit ! tt)) refl (tt, record { fits = lit< tt }) $
    sets ! (agg ! (and_then ! (get ! refl) (no_more !))) refl (tt, (record { fits = lit< tt }, tt)) $
    returns ! (look_at ! 0 refl) $ free_all ! refl $
    suffices ! _ (ends_at 𝓛 kept.none.ended stayed c y v out tt tt) $ says ! refl $
    nothing ! $ nothing ! $ feq_i ! (List Val) (ptr_val null_ptr ∷ []) (ptr_val null_ptr ∷ []) refl $ fjoin ! $ feq_i ! (List Val) (v ∷ []) (v ∷ []) refl $ fjoin ! $
    fpack ! (Valss (RawPtr ∷ [])) (within (shape kept.the_type) (null_ptr, tt) (v ∷ [])) (vnull ∷ [], tt) $ fjoin ! $
    nothing ! $ nothing ! $ done !))
