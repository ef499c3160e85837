-- mev at a lone loop is taken back by kev.
use Rattle.euler_laws.proofs.Prelude.{◌≡◌, ℕ, [], ◌∷◌, refl, sym, ap, ◌∙◌, arith, inl, inr, eqb_tells, Point, canonical, mate, Model, lone, cycle, holds, tail, content, loop_of, Sound, Has, HasHalf, mev_lone, kev, tick_same, count-canonical, edge_of-mate, remove-put, no_tail, in-holds}
use Rattle.euler_operators.specs.Table as table
use Rattle.euler_laws.proofs.shared.EdgeMore.{OneMore, comes, half_h, half_old, edge_apart, tail-h, tail-m, tail_old}
use Rattle.euler_laws.proofs.shared.Loops.{none_free}
use Rattle.euler_laws.proofs.shared.Undo.{same_edges, edge_back, same_model}
use Rattle.euler_laws.proofs.mev.MevLoneSound as put
use Rattle.euler_laws.proofs.kev.MevUndo.{loops_again}
use Rattle.euler_laws.proofs.kev.KevSound as kill

module _ {M : Model} (sound : Sound M) {l h v u : ℕ} {p : Point} (goes : put.LoneGoes M l h v u p) where
  abbrev N : Model
  N = mev_lone M l h v p

  abbrev K : Model
  K = kev N h

  edge : OneMore M N h u v
  edge = put.edge sound goes

  sound-N : Sound N
  sound-N = put.sound-mev_lone sound goes

  -- what kev asks is so after mev
  pub kev_goes : kill.KevGoes N h
  kev_goes = record { h_there = half_h (comes edge); no_parallel = put.no_parallel-lone sound goes; not_bare = λ _. put.after-h sound goes }

  loop_h : loop_of N h ≡ l
  loop_h = sound-N.one_loop h l (ap (holds h) (put.content_new sound goes) ∙ in-holds h (cycle (canonical (h ∷ mate h ∷ []))) (omega (arith, count-canonical h (h ∷ mate h ∷ []), tick_same h)))

  contents : (q : ℕ) → Has M.loops q → content K q ≡ content M q
  contents q there = elim (eqb_tells q l) [
    | inl e ↦ ap (content K) (e.1 ∙ sym loop_h) ∙ kill.lone_new N sound-N h kev_goes (put.after-m sound goes) ∙ ap lone (tail-h (comes edge)) ∙ sym (ap (content M) e.1 ∙ goes.is_lone)
    | inr e ↦ kill.content-N N sound-N h kev_goes q ∙ ap (kill.new N sound-N h kev_goes) (put.content_other sound goes q e.1)
        ∙ kill.back_none h (tail N h) (content M q) (none_free M sound h goes.edge_free q) (none_free M sound (mate h) (ap (table.get M.edges) (edge_of-mate h) ∙ goes.edge_free) q)
  ]

  loops-back : K.loops ≡ M.loops
  loops-back = loops_again (put.same sound goes) (kill.same N sound-N h kev_goes) contents

  tails : (x : ℕ) → HasHalf M x → tail K x ≡ tail M x
  tails x there = let s = tail_old edge x there in
      kill.tail_kept N sound-N h kev_goes x (half_old (comes edge) x there) (edge_apart (comes edge) x there) (λ e. no_tail M sound v goes.vertex_free x there (sym s ∙ e ∙ tail-m (comes edge))) ∙ s

  vertices-back : K.vertices ≡ M.vertices
  unfolding kev mev_lone
  vertices-back = ap (table.remove (table.put M.vertices v p)) (tail-m (comes edge)) ∙ remove-put M.vertices v p goes.vertex_free

  pub kev-mev_lone : kev (mev_lone M l h v p) h ≡ M
  unfolding mev_lone kev
  kev-mev_lone = same_model K M refl refl loops-back (same_edges K M (edge_back (comes edge) (kill.edge_goes N sound-N h kev_goes)) tails) vertices-back
