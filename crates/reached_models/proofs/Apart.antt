-- Each sound model is taken apart, step by step; and made again by the inverses, in the opposite order.
use Rattle.reached_models.proofs.Prelude.{◌≡◌, ℕ, zero, suc, ◌+◌, ◌<◌, Bool, true, not, nat_eq, List, [], ◌++◌, is_some, sym, ap, ◌∙◌, subst, arith, ◌⊎◌, ◌↔◌, All, inl, inr, true≢false, eqb-true, not-true, not-false, eqb-false, All-nil, All-append, mate, edge_of, plus, Model, LoopRow, EdgeRow, lone, loop_of, content, face_of, outer, empty_model, is_lone, lone_vertex, Sound, Has, HasHalf, row_some, face_row, content_row, lone_there, mate-mate, mate_plus, plus_there, Op, AreAccepted, effects, inverses, Leads, leads_none, leads_on, leads_sound, inverses_go, inverses_undo, effects_keep_sound, halves_of_edge, OperatorsLead, IsBuilder}
use Rattle.euler_operators.specs.Table as table
use Rattle.euler_laws.proofs.shared.Rows.{lone_is}
use Rattle.euler_laws.proofs.shared.Empty.{empty_sound}
use Rattle.reached_models.proofs.Takers.{IsTaker, build_back}
use Rattle.reached_models.proofs.Found.{NonePasses, found_or_none}
use Rattle.reached_models.proofs.Weights.{Shrinks, weight}
use Rattle.reached_models.proofs.Steps.{NoRings, ring_goes, edge_between_goes}
use Rattle.reached_models.proofs.Bare.{lone_goes}
use Rattle.reached_models.proofs.Edges.{NoLone, OneLoop, some_edge_goes}
use Rattle.reached_models.proofs.Empty.{nothing_left}

module _ (M : Model) (sound : Sound M) where
  abbrev a_ring : ℕ → LoopRow → Bool
  a_ring l row = not (nat_eq (outer M row.face) l)

  abbrev a_lone : ℕ → LoopRow → Bool
  a_lone l row = is_lone row.content

  abbrev between : ℕ → EdgeRow → Bool
  between e row = not (nat_eq (loop_of M (plus e)) (loop_of M (mate (plus e))))

  abbrev any : ℕ → EdgeRow → Bool
  any e row = true

  ringless : NonePasses a_ring M.loops → NoRings M
  ringless none l there = let w = row_some (table.get M.loops l) there in
      ap (outer M) (face_row M l w.0 w.1) ∙ eqb-true _ _ (not-false _ (none l w.0 w.1))

  filled : NonePasses a_lone M.loops → NoLone M
  filled none l v e = let w = row_some (table.get M.loops l) (lone_there M l v e) in
      true≢false (sym (ap is_lone (sym (content_row M l w.0 w.1) ∙ e)) ∙ none l w.0 w.1)

  one_loop : NonePasses between M.edges → OneLoop M
  one_loop none h there =
      let w = row_some (table.get M.edges (edge_of h)) there in
      let e : loop_of M (plus (edge_of h)) ≡ loop_of M (mate (plus (edge_of h))) = eqb-true _ _ (not-false _ (none (edge_of h) w.0 w.1)) in
      elim (halves_of_edge h) [
        | inl p ↦ ap (loop_of M) p.0 ∙ e ∙ ap (λ x. loop_of M (mate x)) (sym p.0)
        | inr p ↦
            let m : h ≡ mate (plus (edge_of h)) = p.0 ∙ sym (mate_plus (edge_of h)) in
            ap (loop_of M) m ∙ sym e ∙ ap (loop_of M) (sym (ap mate m ∙ mate-mate (plus (edge_of h))))
      ]

  no_half : NonePasses any M.edges → (h : ℕ) → HasHalf M h → ⊥
  no_half none h there = let w = row_some (table.get M.edges (edge_of h)) there in true≢false (none (edge_of h) w.0 w.1)

  -- the model is empty, or some operators make a lighter one
  next_step : (M ≡ empty_model) ⊎ Shrinks M
  next_step = elim (found_or_none a_ring M.loops) [
    | inl w ↦ inr (ring_goes M sound w.number (ap is_some w.at) (λ e. eqb-false _ _ (not-true _ w.passes) (ap (outer M) (sym (face_row M w.number w.row w.at)) ∙ e)))
    | inr no_ring ↦ elim (found_or_none a_lone M.loops) [
      | inl w ↦
          let r : NoRings M = ringless no_ring in
          let there : Has M.loops w.number = ap is_some w.at in
          let bare : content M w.number ≡ lone (lone_vertex w.row.content) = content_row M w.number w.row w.at ∙ lone_is w.row.content w.passes in
          inr (lone_goes M sound r (face_of M w.number) (lone_vertex w.row.content) (sound.loops_of_faces w.number there) (ap (content M) (r w.number there) ∙ bare))
      | inr no_lone ↦ elim (found_or_none between M.edges) [
        | inl w ↦ inr (edge_between_goes M sound (ringless no_ring) (plus w.number) (plus_there M w.number (ap is_some w.at)) (eqb-false _ _ (not-true _ w.passes)))
        | inr no_between ↦ elim (found_or_none any M.edges) [
          | inl w ↦ inr (some_edge_goes M sound (filled no_lone) (one_loop no_between) (plus w.number) (plus_there M w.number (ap is_some w.at)))
          | inr none ↦ inl (nothing_left M sound (filled no_lone) (no_half none))
        ]
      ]
    ]
  ]

-- ---- step by step

record Emptied (M : Model) : Type 0 where
  ops : List Op
  leads : Leads M empty_model ops
  takers : All IsTaker ops

emptied_within : (n : ℕ) (M : Model) → Sound M → weight M < n → Emptied M
emptied_within zero M sound l = absurd (omega arith)
emptied_within (suc n) M sound l = elim (next_step M sound) [
  | inl e ↦ record { ops = []; leads = subst (λ N. Leads M N []) e (leads_none M); takers = All-nil IsTaker }
  | inr s ↦
      let rest : Emptied s.next = emptied_within n s.next (leads_sound M s.next s.ops sound s.leads) (omega (arith, s.less)) in
      record {
        ops = s.ops ++ rest.ops;
        leads = leads_on M s.next empty_model s.ops rest.ops s.leads rest.leads;
        takers = All-append IsTaker s.ops rest.ops s.takers rest.takers;
      }
]

module _ (M : Model) (sound : Sound M) where
  emptied : Emptied M
  emptied = emptied_within (weight M + 1) M sound (omega arith)

  -- the inverses make it again
  reached : OperatorsLead empty_model M
  reached = record {
    ops = inverses M emptied.ops;
    accepted = subst (λ N. AreAccepted N (inverses M emptied.ops)) emptied.leads.made (inverses_go M emptied.ops sound emptied.leads.accepted);
    made = subst (λ N. effects N (inverses M emptied.ops) ≡ M) emptied.leads.made (inverses_undo M emptied.ops sound emptied.leads.accepted);
  }

  -- by builders alone
  pub built : (w : OperatorsLead empty_model M) × All IsBuilder w.ops
  unfolding reached
  built = (reached, build_back M emptied.ops emptied.takers)

reached_sound : (M : Model) → OperatorsLead empty_model M → Sound M
reached_sound M w = subst Sound w.made (effects_keep_sound empty_model w.ops empty_sound w.accepted)

pub sound_reached : (M : Model) → Sound M ↔ OperatorsLead empty_model M
sound_reached M = (reached M, reached_sound M)

pub linked : (M N : Model) → Sound M → Sound N → OperatorsLead M N
linked M N sound other =
    let there : Leads M empty_model (emptied M sound).ops = (emptied M sound).leads in
    let from : OperatorsLead empty_model N = reached N other in
    let both = leads_on M empty_model N (emptied M sound).ops from.ops there (record { accepted = from.accepted; made = from.made }) in
    record { ops = (emptied M sound).ops ++ from.ops; accepted = both.accepted; made = both.made }
