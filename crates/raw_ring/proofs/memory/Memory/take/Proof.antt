-- `take` makes the newest nodes an array again, and hands it out with the right to free it. Assumes `Logic`.
use Rattle.raw_ring.proofs.Prelude.{List, [], ◌∷◌, ◌++◌, ◌≡◌, refl, sym, ap, subst, drop as without_first, proved_at, word, word-Good, after, Fits, handle_tells, ghosts, dict, the_row as R, Block, cells_own, deeds_own, places, piled, stack}
use base.Fraction.{full_share}
use base.Logic.{SProp, ent, emp, id⊢}
use base.Fml.{ftrue, flft}
use denote.Index.{row}
use denote.Memory.{part_at}
use contract.BorrowLft.{◌⊑◌, ⊑_static}
use mir.Syntax.{named}
use mir.Val.{Val, vptr}
use prog.Wp.{WpFn}
use contract.Monad.{fact, fact_i}
use contract.Running.{tables}
use types.Kit.{‵, raw, ◌⊛◌, some, later, at_ret, ◌$◌, ◌∵◌, !, qed, move, keep, drop, use0, use1, split, join, pick, await, rewrite, fsplit, fsplit3, fjoin, fjoin3, fpick, feq_i, feq_l, suffices, frame, done}
use types.Part.{whole, sub}
use types.Run.{stop, fld, of_opd, and_then, no_more, first, blocks, exec, returns, enter}
use types.ByLocal.{alloc_all, pass_all, free_all, look_at, get, get_in, sets, lands_last, env}
use denote.Exit.{yes}
use denote.Laws.{Is, shows}
use denote.Param.NoDrop.{glues}
use denote.RawPtr.{Ptr, in_a_block, lies_at, ptr_val, rawptr_Lawful}
use denote.Ref.{MutRef}
use denote.Signature.{plain}
use denote.Steps.{nothing, only, heard, peeks, opens, closes}
use denote.Triple.Call.{calls_at_last}
use denote.Triple.Clauses.{Lasts, lasts}
use denote.Triple.Spec.{triple_of}
use denote.Triple.Table.{framed}
use denote.Triple.Walked.{Stays, stay_dropped, stay_ref, walk_of, says, ends_at, Goes-ref, Goes-dropped}
use Rattle.std.specs.Box.{box_allocator}
use Rattle.std.specs.contracts.alloc.Global.{the_row as Z}
use Rattle.std.proofs.impls.GlobalAllocator.TheImpl.Met as heap_met
use Rattle.std.specs.contracts.boxed.Box.from_raw as g
use Rattle.std.proofs.boxed.Box.from_raw.Met.{met}
use Rattle.raw_ring.specs.contracts.node.NodePtr.{the_row as Np}
use Rattle.raw_ring.proofs.node.NodePtr.TheLaws as place
use Rattle.raw_ring.specs.contracts.memory.Memory.{the_row as Nr}
use Rattle.raw_ring.proofs.BoxedBlock.{block_box, passed_block, passed_heap, passed_block_laws, passed_heap_laws, no_drop, heap, boxed}
use Rattle.raw_ring.proofs.Blocks.{block_stacked}
use Rattle.raw_ring.proofs.CellSteps.{array_in, nowhere, row_out}
use Rattle.raw_ring.specs.contracts.memory.Memory.take as f
use Rattle.raw_ring.specs.contracts.memory.Memory.take.Key.{name as #self}
use Rattle.raw_ring.proofs.memory.Memory.take.Statement.{statement}
use Rattle.raw_ring.proofs.memory.Memory.take.Code as code

abbrev stayed : Stays f.ended.signature.params f.ended.kept
stayed = (stay_ref (0 ∷ []) tt (plain (λ _. Nr)), (stay_dropped (plain (λ _. Z)) yes, (stay_dropped (plain (λ _. Np)) yes, tt)))

pub take_spec : {M : Type 1} → statement M
unfolding Rattle.raw_ring.proofs.Destruct++none.drop.Code.code
take_spec {M} 𝓤 𝓛 𝓜 𝓡 wired =
    let H = 𝓛.H in let c = f.clauses 𝓛 𝓜.mem 𝓡.returns in let W = walk_of 𝓛 f.ended stayed c in let 𝓣 = tables 𝓤 H 𝓜 𝓡 𝓡.env in
    let G = triple_of 𝓛 (g.signature passed_block passed_heap ghosts dict (no_drop passed_heap)) (g.spec passed_block passed_heap ghosts dict (no_drop passed_heap) 𝓛 𝓜.mem 𝓡.returns) in
    let G' = g.ended passed_block passed_heap ghosts dict (no_drop passed_heap) in let Lives : Type 0 = [] ⊑ [] in
    let none = code.calls-raw_ring::Destruct++none::drop 𝓡.env wired in
    let known = met 𝓤 𝓛 𝓜 𝓡 (code.calls-std_alloc::boxed::Box::from_raw 𝓡.env wired) passed_block passed_heap passed_block_laws passed_heap_laws ghosts dict (no_drop passed_heap)
    (heap_met.passed 𝓡.env (code.calls-std_heap::GlobalAllocator::allocate 𝓡.env wired) (code.calls-std_heap::GlobalAllocator::deallocate 𝓡.env wired) (code.calls-std_heap::GlobalAllocator::grow 𝓡.env wired) (code.calls-std_heap::GlobalAllocator::shrink 𝓡.env wired) M 𝓤 𝓛 𝓜 𝓡)
    (glues "raw_ring::Destruct++none::drop" 𝓡.env none passed_heap passed_heap_laws M 𝓤 𝓛 𝓜 𝓡) in
    proved_at 𝓛 f.ended stayed c 𝓜 𝓡 (Goes-ref 𝓛 1 0 tt (plain (λ _. Nr)), (Goes-dropped 𝓛 1 (plain (λ _. Z)) yes (λ κs x w. refl), (Goes-dropped 𝓛 1 (plain (λ _. Np)) yes (λ κs x w. refl), tt)))
    #self code.function (code.unfolded 𝓤 H 𝓜 𝓡 wired) (λ z are.
    let κ = z.0.0.0 in let q = z.0.1.0 in let a = z.0.3 in let vs = z.0.4.0 in let zs = z.0.4.1.0 in let ps = z.0.4.1.1.0 in let rb = a.0.ref_ptr.0 in let ro = a.0.ref_ptr.1 in let d = a.0.now in let alloc = a.1.0 in let at = a.1.1.0 in let p = at.ptr in
    let Post : Val → SProp 𝓤 = W.post z in let Run : List Val → SProp 𝓤 = λ ws. WpFn 𝓤 H 𝓣.C 𝓣.Λ code.function ws Post in let Asked : Type 0 = (places d.cells ≡ piled d.deeds) × (rest : List Ptr) × (d.deeds ≡ p ∷ rest) in
    qed 𝓛 (((‵ (flft κ q) ⊛ ‵ ftrue) ⊛ ‵ ((MutRef (named 0) κ Nr).own_val a.0 vs) ⊛ ‵ (Z.own_val alloc zs) ⊛ ‵ (Np.own_val at ps) ⊛ ‵ ftrue) ∷ raw (fact 𝓤 Asked) ∷ []) ∵
    move ! (1 ∷ []) $ heard ! Asked (λ asked. let rest = asked.1 in let found = block_stacked p rest d.deeds d.cells asked.0 asked.2 in let ns = found.0 in let old = found.1 in let all = found.2 in
    split ! $ split ! $ keep ! (0 ∷ 2 ∷ []) $ move ! (1 ∷ []) $ split ! $ move ! (1 ∷ []) $ split ! $ handle_tells heap ! alloc zs (λ h eh fits.
    move ! (1 ∷ []) $ split ! $ peeks ! Np (Is Np) (shows 𝓛 Np) at ps (λ is. move ! (3 ∷ []) $ fsplit3 ! $ feq_l ! (λ passed. keep ! (0 ∷ 1 ∷ 5 ∷ 4 ∷ []) $
    -- [the reference, in two parts; its token; the allocator]
    let us = vptr rb ro ∷ h ∷ word p ∷ [] in
    suffices ! (Run us) (subst (λ (ws : List Val × List Val × List Val). ent 𝓤 (Run us) (Run (ws.0 ++ (ws.1 ++ (ws.2 ++ []))))) (λ i. (sym passed i, sym eh i, sym (place.lowers.val_is at ps is) i)) (id⊢ 𝓤 (Run us))) $
    enter ! 𝓣.C 𝓣.Λ code.function us Post $ alloc_all ! (λ l. pass_all ! refl ((tt, tt), (fits, (word-Good [] p, tt))) $ let En = env code.function.locals l in
    opens ! tt Nr rb ro (λ ws. move ! (1 ∷ []) $ fsplit ! $ move ! (1 ∷ []) $ fsplit ! $
    -- [the nodes; the rights; the fields; the pool's cell; the open borrow, in three entries; the allocator; the locals]
    rewrite ! 0 (λ cs. ‵ (cells_own cs)) found.3 refl $ in_a_block ! p (λ (r : Ptr). cells_own (stack r ns old)) (nowhere 𝓛 ns old all) (λ b o e.
    use1 𝓛 (‵ (row R full_share ns b o) ⊛ ‵ (cells_own old)) (row_out 𝓛 b ns o old) $ split ! $
    use1 𝓛 (‵ (part_at Block full_share ns b o)) (array_in 𝓛 b ns o all) $ rewrite ! 0 (λ (r : Ptr). ‵ (lies_at Block full_share r ns)) (sym e) refl $
    move ! (2 ∷ []) $ rewrite ! 0 (λ ds. ‵ (deeds_own ds)) asked.2 refl $ fsplit ! $ fpick ! (λ any. move ! (2 ∷ 0 ∷ []) $ fjoin ! $
    move ! (2 ∷ 1 ∷ []) $ fjoin ! $ move ! (1 ∷ []) $ first ! $ blocks ! $ sets ! (of_opd ! (get_in ! (fld ! refl (stop !)) (sub ! 0 refl (whole !)))) refl (((rawptr_Lawful 𝓛).typed p (ptr_val p ∷ []) refl).0) $
    -- [the block; the others, with the rights to free them; the fields; the pool's cell; the open borrow, in three entries; the allocator; the locals]
    use0 𝓛 (raw (fact 𝓤 Lives)) (fact_i 𝓤 Lives (emp 𝓤) (⊑_static [])) $ join ! $ use0 𝓛 (raw (fact 𝓤 Lives)) (fact_i 𝓤 Lives (emp 𝓤) (⊑_static [])) $ join ! $
    move ! (7 ∷ []) $ nothing ! $ feq_i ! (List Val) (ptr_val p ∷ []) (ptr_val p ∷ []) refl $ fjoin ! $ move ! (1 ∷ 0 ∷ []) $ fjoin ! $
    nothing ! $ use0 𝓛 (‵ (flft [] full_share)) (𝓛.lfts.lft-nil full_share) $ join ! $ use0 𝓛 (‵ (flft [] full_share)) (𝓛.lfts.lft-nil full_share) $ join ! $ join ! $ join ! $
    let y : G.Ghost = ((([], ([], tt)), (full_share, (full_share, tt)), tt, (alloc, (p, tt)), (h ∷ [], (ptr_val p ∷ [], tt))), ns) in use1 𝓛 (raw (G.pre y)) (id⊢ 𝓤 _) $
    calls_at_last ! (framed 𝓤 H 𝓜 𝓣) G known y (and_then ! (get ! refl) (and_then ! (get ! refl) (no_more !))) (λ u.
    use1 𝓛 (later (some (λ (r : block_box.Denot). ((‵ (flft [] full_share) ⊛ ‵ (flft [] full_share) ⊛ ‵ ftrue) ⊛ ‵ (block_box.own_val r (u ∷ []))) ⊛
    some (λ (ws : Lasts G' y.0.0 y.0.3). ‵ (lasts G' y.0.0 y.0.3 ws) ⊛ raw (fact 𝓤 (r.value ≡ ns)) ⊛ raw (fact 𝓤 (box_allocator r ≡ alloc)))))) (id⊢ 𝓤 _) $ await ! tt $ pick ! (λ r. split ! $ move ! (1 ∷ []) $ drop ! $
    split ! $ drop ! $ handle_tells boxed ! r (u ∷ []) (λ w is_box told. let back = sym (ap only is_box) in let good = subst (Fits boxed) back told in rewrite ! 0 (λ v. ‵ (block_box.own_val r (v ∷ []))) back refl $ lands_last ! refl good $
    exec ! 𝓣.C 𝓣.Λ En (after 1 (code.function).body) (at_ret En Post) $ sets ! (of_opd ! (get ! refl)) refl good $
    -- [the box; the others, with the rights to free them; the fields; the pool's cell; the open borrow, in three entries; the locals]
    move ! (2 ∷ 1 ∷ []) $ fjoin ! $ move ! (2 ∷ 0 ∷ 3 ∷ 4 ∷ 5 ∷ []) $
    let new : Nr.Denot = record { cells = old; deeds = rest } in closes ! tt Nr new ws rb ro $
    returns ! (look_at ! 0 refl) $ free_all ! refl $ keep ! (0 ∷ 1 ∷ 2 ∷ 3 ∷ []) $
    suffices ! _ (ends_at 𝓛 f.ended stayed c z u r (new, (tt, (tt, tt))) (tt, (tt, (tt, tt)))) $ says ! (found.4, sym (ap (without_first 1) asked.2)) $
    nothing ! $ move ! (3 ∷ 0 ∷ []) $ join ! $ frame ! $ feq_i ! (List Val) vs (vptr rb ro ∷ []) passed $ fjoin3 ! $ nothing ! $ nothing ! $ fjoin ! $ nothing ! $ fjoin ! $ move ! (1 ∷ 0 ∷ []) $ fjoin ! $ done !))))))))))))
