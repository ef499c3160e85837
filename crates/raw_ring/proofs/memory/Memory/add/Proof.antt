-- `add` takes a block over, whose nodes lie apart from the others. Assumes `Logic`.
use Rattle.raw_ring.proofs.Prelude.{◌≡◌, List, [], ◌∷◌, ◌++◌, length, refl, sym, ap, subst, proved_at, word, word-Good, Goes-blank, handle_tells, box_owns, ghosts, dict, the_row as R, Apart, Block, cells_own, stack}
use base.Fraction.{full_share}
use base.Logic.{SProp, ent, emp, id⊢, never}
use mir.Raw.{raw as raw_ty}
use denote.Memory.{lone}
use denote.Index.{row}
use Rattle.std.specs.declared.alloc.Global.{Global}
use base.Fml.{ftrue, flft}
use contract.BorrowLft.{◌⊑◌, ⊑_static}
use mir.Syntax.{named}
use mir.Val.{Val, vptr}
use prog.Wp.{WpFn}
use contract.Monad.{fact, fact_i}
use contract.Running.{tables}
use types.Kit.{‵, raw, ◌⊛◌, some, later, ◌$◌, ◌∵◌, !, qed, move, keep, drop, use0, use1, use2, split, join, fsplit, fsplit3, fjoin, fjoin3, fpack, feq_i, feq_l, given, learn, rewrite, pick, await, suffices, frame, done}
use types.Part.{agg}
use types.Run.{of_opd, and_then, no_more, returns, enter}
use types.ByLocal.{alloc_all, pass_all, free_all, look_at, get, sets, lands_as}
use denote.Exit.{yes}
use denote.Param.NoDrop.{glues}
use denote.RawPtr.{Ptr, RawPtr, block_ptr, in_a_block, lies_at, ptr_val, rawptr_Lawful}
use denote.Ref.{MutRef}
use denote.Signature.{plain}
use denote.Steps.{nothing, only, opens, closes}
use denote.Triple.Call.{calls_at}
use denote.Triple.Clauses.{Lasts, lasts}
use denote.Triple.Spec.{triple_of}
use denote.Triple.Table.{framed}
use denote.Triple.Walked.{Stays, stay_dropped, stay_ref, walk_of, says, ends_at, Goes-ref}
use Rattle.std.proofs.impls.GlobalAllocator.TheImpl.Met as heap
use Rattle.std.specs.contracts.boxed.Box.into_raw as g
use Rattle.std.proofs.boxed.Box.into_raw.Met.{met}
use Rattle.raw_ring.specs.contracts.memory.Memory.{the_row as Mr}
use Rattle.raw_ring.proofs.BoxedBlock.{block_box, passed_block, passed_heap, passed_block_laws, passed_heap_laws, no_drop, boxed}
use Rattle.raw_ring.proofs.CellSteps.{apart, array_out, row_in, knows_one, place_made}
use Rattle.raw_ring.proofs.Blocks.{rest_of_stack, places_of_stack}
use Rattle.raw_ring.specs.contracts.memory.Memory.add as f
use Rattle.raw_ring.specs.contracts.memory.Memory.add.Key.{name as #self}
use Rattle.raw_ring.proofs.memory.Memory.add.Statement.{statement}
use Rattle.raw_ring.proofs.memory.Memory.add.Code as code

abbrev stayed : Stays f.ended.signature.params f.ended.kept
stayed = (stay_ref (0 ∷ []) tt (plain (λ _. Mr)), (stay_dropped (plain (λ _. block_box)) yes, tt))

pub add_spec : {M : Type 1} → statement M
unfolding Rattle.raw_ring.proofs.Destruct++none.drop.Code.code
add_spec {M} 𝓤 𝓛 𝓜 𝓡 wired =
    let H = 𝓛.H in let c = f.clauses 𝓛 𝓜.mem 𝓡.returns in let W = walk_of 𝓛 f.ended stayed c in let 𝓣 = tables 𝓤 H 𝓜 𝓡 𝓡.env in
    let G = triple_of 𝓛 (g.signature passed_block passed_heap ghosts dict (no_drop passed_heap) (no_drop passed_block)) (g.spec passed_block passed_heap ghosts dict (no_drop passed_heap) (no_drop passed_block) 𝓛 𝓜.mem 𝓡.returns) in
    let G' = g.ended passed_block passed_heap ghosts dict (no_drop passed_heap) (no_drop passed_block) in let Lives : Type 0 = [] ⊑ [] in
    let none = code.calls-raw_ring::Destruct++none::drop 𝓡.env wired in
    let known = met 𝓤 𝓛 𝓜 𝓡 (code.calls-std_alloc::boxed::Box::into_raw 𝓡.env wired) passed_block passed_heap passed_block_laws passed_heap_laws ghosts dict (no_drop passed_heap) (no_drop passed_block)
    (heap.passed 𝓡.env (code.calls-std_heap::GlobalAllocator::allocate 𝓡.env wired) (code.calls-std_heap::GlobalAllocator::deallocate 𝓡.env wired) (code.calls-std_heap::GlobalAllocator::grow 𝓡.env wired) (code.calls-std_heap::GlobalAllocator::shrink 𝓡.env wired) M 𝓤 𝓛 𝓜 𝓡)
    (glues "raw_ring::Destruct++none::drop" 𝓡.env none passed_heap passed_heap_laws M 𝓤 𝓛 𝓜 𝓡) (glues "raw_ring::Destruct++none::drop" 𝓡.env none passed_block passed_block_laws M 𝓤 𝓛 𝓜 𝓡) in
    proved_at 𝓛 f.ended stayed c 𝓜 𝓡 (Goes-ref 𝓛 1 0 tt (plain (λ _. Mr)), (Goes-blank 𝓛 1 (plain (λ _. block_box)) yes (λ κs x w. tt), tt))
    #self code.function (code.unfolded 𝓤 H 𝓜 𝓡 wired) (λ z are.
    let κ = z.0.0.0 in let q = z.0.1.0 in let a = z.0.3 in let vs = z.0.4.0 in let bs = z.0.4.1.0 in let rb = a.0.ref_ptr.0 in let ro = a.0.ref_ptr.1 in let d = a.0.now in let x = a.1.0 in let ns = x.value in
    let Post : Val → SProp 𝓤 = W.post z in let Run : List Val → SProp 𝓤 = λ ws. WpFn 𝓤 H 𝓣.C 𝓣.Λ code.function ws Post in
    qed 𝓛 (((‵ (flft κ q) ⊛ ‵ ftrue) ⊛ ‵ ((MutRef (named 0) κ Mr).own_val a.0 vs) ⊛ ‵ (block_box.own_val x bs) ⊛ ‵ ftrue) ∷ raw ((c z.0.0 a).requires z.1) ∷ []) ∵
    split ! $ split ! $ keep ! (0 ∷ 2 ∷ []) $ move ! (1 ∷ []) $ split ! $ move ! (1 ∷ []) $ split ! $
    handle_tells boxed ! x bs (λ w is good. move ! (2 ∷ []) $ fsplit3 ! $ feq_l ! (λ passed. keep ! (0 ∷ 1 ∷ 4 ∷ 2 ∷ []) $
    -- [the reference, in two parts; its token; the box]
    let us = vptr rb ro ∷ w ∷ [] in
    suffices ! (Run us) (subst (λ (ws : List Val × List Val). ent 𝓤 (Run us) (Run (ws.0 ++ (ws.1 ++ [])))) (λ i. (sym passed i, sym is i)) (id⊢ 𝓤 (Run us))) $
    enter ! 𝓣.C 𝓣.Λ code.function us Post $ alloc_all ! (λ l. pass_all ! refl ((tt, tt), (good, tt)) $
    sets ! (of_opd ! (get ! refl)) refl good $ move ! (3 ∷ []) $ nothing ! $ move ! (1 ∷ 0 ∷ []) $ fjoin ! $
    nothing ! $ use0 𝓛 (‵ (flft [] full_share)) (𝓛.lfts.lft-nil full_share) $ join ! $ use0 𝓛 (‵ (flft [] full_share)) (𝓛.lfts.lft-nil full_share) $ join ! $ join ! $
    nothing ! $ use0 𝓛 (raw (fact 𝓤 Lives)) (fact_i 𝓤 Lives (emp 𝓤) (⊑_static [])) $ join ! $ use0 𝓛 (raw (fact 𝓤 Lives)) (fact_i 𝓤 Lives (emp 𝓤) (⊑_static [])) $ join ! $ move ! (1 ∷ 0 ∷ []) $ join ! $
    let y : G.Ghost = ((([], ([], tt)), (full_share, (full_share, tt)), tt, (x, tt), (w ∷ [], tt)), tt) in use1 𝓛 (raw (G.pre y)) (id⊢ 𝓤 _) $
    calls_at ! (framed 𝓤 H 𝓜 𝓣) G known y (and_then ! (get ! refl) (no_more !)) (λ u.
    use1 𝓛 (later (some (λ (r : Ptr). ((‵ (flft [] full_share) ⊛ ‵ (flft [] full_share) ⊛ ‵ ftrue) ⊛ ‵ (RawPtr.own_val r (u ∷ []))) ⊛
    some (λ (ws : Lasts G' y.0.0 y.0.3). ‵ (lasts G' y.0.0 y.0.3 ws) ⊛ ‵ (box_owns (ghosts.dealloc_token x.alloc) Block r ns))))) (id⊢ 𝓤 _) $ await ! tt $ pick ! (λ r. split ! $ move ! (1 ∷ []) $ pick ! (λ ws. split ! $ drop ! $
    move ! (1 ∷ []) $ split ! $ drop ! $ feq_l ! (λ is_ptr. lands_as ! (ap only is_ptr) refl (((rawptr_Lawful 𝓛).typed r (ptr_val r ∷ []) refl).0) $
    -- [the box; the reference, in two parts; its token; the locals]
    fsplit ! $ move ! (1 ∷ []) $ fpack ! Global (λ h. ghosts.dealloc_token h (raw_ty (lone Block.mir)) r) x.alloc $ move ! (1 ∷ []) $
    in_a_block ! r (λ (r : Ptr). lies_at Block full_share r ns) (id⊢ 𝓤 (never 𝓤)) (λ b o e.
    use1 𝓛 (given (length ns ≡ 64) (‵ (row R full_share ns b o))) (array_out 𝓛 b ns o) $ learn ! (λ all.
    -- [the nodes of the block; the right to free it; the reference, in two parts; its token; the locals]
    move ! (2 ∷ 3 ∷ 4 ∷ []) $ opens ! tt Mr rb ro (λ us. move ! (1 ∷ []) $ fsplit ! $ move ! (1 ∷ []) $ fsplit ! $
    -- [the nodes; the rights; the fields; the pool's cell; the open borrow, in three entries; the new nodes; the right to free them; the locals]
    move ! (7 ∷ 0 ∷ []) $ use2 𝓛 (‵ (cells_own (stack (block_ptr b o) ns d.cells))) (row_in 𝓛 b ns o d.cells) $ rewrite ! 0 (λ (r : Ptr). ‵ (cells_own (stack r ns d.cells))) (sym e) refl $
    knows_one ! (Apart (stack r ns d.cells)) (apart 𝓛 𝓜 (stack r ns d.cells)) (λ is_apart.
    move ! (7 ∷ 1 ∷ []) $ fjoin ! $ move ! (1 ∷ 0 ∷ []) $ fjoin ! $ move ! (1 ∷ []) $ fjoin ! $ move ! (1 ∷ []) $
    let new : Mr.Denot = record { cells = stack r ns d.cells; deeds = r ∷ d.deeds } in closes ! tt Mr new us rb ro $
    sets ! (of_opd ! (get ! refl)) refl (((rawptr_Lawful 𝓛).typed r (ptr_val r ∷ []) refl).0) $ sets ! (agg ! (and_then ! (get ! refl) (no_more !))) refl (word-Good [] r) $
    returns ! (look_at ! 0 refl) $ free_all ! refl $ keep ! (0 ∷ 1 ∷ 2 ∷ []) $ place_made ! r $
    suffices ! _ (ends_at 𝓛 f.ended stayed c z (word r) (record { ptr = r }) (new, (tt, tt)) (tt, (tt, tt))) $ says ! ((b, o, e), is_apart, rest_of_stack r ns d.cells all, places_of_stack r ns d.cells all, refl) $
    nothing ! $ move ! (4 ∷ 0 ∷ []) $ join ! $ frame ! $ move ! (1 ∷ 2 ∷ []) $ feq_i ! (List Val) vs (vptr rb ro ∷ []) passed $ fjoin3 ! $ nothing ! $ nothing ! $ fjoin ! $ move ! (1 ∷ 0 ∷ []) $ fjoin ! $ done !))))))))))))
