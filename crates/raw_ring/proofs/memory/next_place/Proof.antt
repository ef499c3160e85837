-- `next_place` steps over one node. Assumes `Logic`.
use Rattle.raw_ring.proofs.Prelude.{◌≡◌, ◌+◌, [], ◌∷◌, refl, sym, ap, after, arith, proved, word, word-Good, the_row as R, IsAPlace, place_after}
use base.Fml.{ftrue, fat}
use base.Fraction.{full_share}
use base.Logic.{SProp}
use mir.Val.{Val, vptr}
use contract.Monad.{fact}
use contract.Running.{tables}
use types.Kit.{‵, raw, ◌⊛◌, at_ret, ◌$◌, ◌∵◌, !, qed, move, keep, drop, fjoin, rewrite, suffices, done}
use types.Part.{agg, whole, sub}
use types.Run.{bin, lit, stop, fld, of_opd, and_then, no_more, first, blocks, exec, returns, enter}
use types.ByLocal.{alloc_all, pass_all, free_all, look_at, get, get_in, is, sets, sets_last, env, take_at, give_at}
use denote.Exit.{yes}
use denote.Memory.{lone}
use denote.RawPtr.{Ptr, block_ptr}
use denote.Signature.{plain}
use denote.Steps.{nothing, heard}
use denote.Triple.Walked.{Stays, stay_dropped, walk_of, says, ends_at, Goes-dropped}
use Rattle.std.specs.Mem.{type_size}
use Rattle.raw_ring.specs.contracts.node.NodePtr.{the_row as Np}
use Rattle.raw_ring.proofs.node.NodePtr.TheLaws as place
use Rattle.raw_ring.proofs.CellSteps.{place_made}
use Rattle.raw_ring.specs.contracts.memory.next_place as f
use Rattle.raw_ring.specs.contracts.memory.next_place.Key.{name as #self}
use Rattle.raw_ring.proofs.memory.next_place.Statement.{statement}
use Rattle.raw_ring.proofs.memory.next_place.Code as code

abbrev stayed : Stays f.ended.signature.params f.ended.kept
stayed = (stay_dropped (plain (λ _. Np)) yes, tt)

pub next_place_spec : {M : Type 1} → statement M
unfolding place_after
next_place_spec 𝓤 𝓛 𝓜 𝓡 wired =
    let c = f.clauses 𝓛 𝓜.mem 𝓡.returns in let W = walk_of 𝓛 f.ended stayed c in let 𝓣 = tables 𝓤 𝓛.H 𝓜 𝓡 𝓡.env in
    proved 𝓛 f.ended stayed c 𝓜 𝓡 (Goes-dropped 𝓛 0 (plain (λ _. Np)) yes (λ κs x w. refl), tt)
    #self code.function (code.unfolded 𝓤 𝓛.H 𝓜 𝓡 wired) (λ κs. ((λ p. place.lowered p ∷ []), tt)) (λ κs. (place.lowers.val_is, tt)) (λ κs qs bounds a _ are.
    let p = a.0.ptr in let s = type_size R in let y : W.Ghost = ((κs, qs, bounds, a, (place.lowered a.0 ∷ [], tt)), tt) in let Post : Val → SProp 𝓤 = W.post y in
    qed 𝓛 ((‵ ftrue ⊛ ‵ (Np.own_val a.0 (place.lowered a.0 ∷ [])) ⊛ ‵ ftrue) ∷ raw (fact 𝓤 (IsAPlace p)) ∷ []) ∵
    move ! (1 ∷ []) $ heard ! (IsAPlace p) (λ lies. let b = lies.0 in let o = lies.1 in let next = block_ptr b (o + s) in
    let sum : 24 + o ≡ o + s = omega arith in let step : vptr b (24 + o) ≡ vptr b (o + s) = ap (vptr b) sum in
    drop ! $ enter ! 𝓣.C 𝓣.Λ code.function _ _ $ alloc_all ! (λ l. pass_all ! refl (word-Good [] p, tt) $ let En = env code.function.locals l in
    take_at ! 1 $ rewrite ! 0 (λ (r : Ptr). ‵ (fat full_share (lone Np.mir) (l 1) 0 (place.lowered (record { ptr = r })))) lies.2 refl $ give_at ! 1 $ first ! $ blocks ! $
    sets ! (of_opd ! (get_in ! (fld ! refl (stop !)) (sub ! 0 refl (whole !)))) refl (tt, tt) $
    sets_last ! (is ! (bin ! (get ! refl) (lit ! tt) tt) step) refl (tt, tt) $
    exec ! 𝓣.C 𝓣.Λ En (after 1 (code.function).body) (at_ret En Post) $ sets ! (of_opd ! (get ! refl)) refl (tt, tt) $ sets ! (agg ! (and_then ! (get ! refl) (no_more !))) refl (word-Good [] next) $
    returns ! (look_at ! 0 refl) $ free_all ! refl $ place_made ! next $ keep ! (0 ∷ []) $
    suffices ! _ (ends_at 𝓛 f.ended stayed c y (word next) (record { ptr = next }) (tt, tt) (tt, tt)) $ says ! (sym (ap place_after lies.2)) $
    nothing ! $ nothing ! $ fjoin ! $ nothing ! $ done !)))
