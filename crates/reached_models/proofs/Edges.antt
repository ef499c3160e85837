-- An edge of a sound model in which no loop is a ring or lone, and both half-edges of each edge stand in one loop: one can go.
use Rattle.reached_models.proofs.Prelude.{◌≡◌, ◌≢◌, ℕ, Bool, true, not, nat_eq, ◌&&◌, is_some, refl, sym, ap, ◌∙◌, arith, inl, inr, eqb-true, nat_tests, eqb_tells, and_parts, not-true, eqb-false, IsIn, head_or, mate, edge_of, plus, Model, LoopContent, lone, cycle, EdgeRow, items_of, loop_of, content, after, round, Sound, Has, HasHalf, StandsIn, Reaches, here, further, IsIn_some_head, in-holds, row_some, mate_there, mate-mate, edge_of-mate, mate_plus, plus_there, KevGoes, half_after, loop_after, halves_of_edge}
use Rattle.euler_operators.specs.Table as table
use Rattle.reached_models.proofs.Free.{Free, free_number, one_missed}
use Rattle.reached_models.proofs.Found.{Found, NonePasses, found_or_none}
use Rattle.reached_models.proofs.Weights.{Shrinks}
use Rattle.reached_models.proofs.Steps.{edge_within_goes, edge_alone_goes}

-- no loop is lone
abbrev pub NoLone : Model → Type 0
NoLone M = (l v : ℕ) → content M l ≢ lone v

-- both half-edges of each edge stand in one loop
abbrev pub OneLoop : Model → Type 0
OneLoop M = (h : ℕ) → HasHalf M h → loop_of M h ≡ loop_of M (mate h)

module _ (M : Model) (sound : Sound M) (filled : NoLone M) (one : OneLoop M) where
  -- the loop of an edge is that of each of its half-edges
  edge_loop : (x : ℕ) → HasHalf M x → loop_of M (plus (edge_of x)) ≡ loop_of M x
  edge_loop x there = elim (halves_of_edge x) [
    | inl p ↦ ap (loop_of M) (sym p.0)
    | inr p ↦ one (plus (edge_of x)) (plus_there M (edge_of x) there) ∙ ap (loop_of M) (mate_plus (edge_of x) ∙ sym p.0)
  ]

  -- the edge of a loop's first half-edge
  abbrev first_edge : ℕ → ℕ
  first_edge l = edge_of (head_or 0 (items_of (content M l)))

  first_stands : (l : ℕ) → Has M.loops l → StandsIn M (head_or 0 (items_of (content M l))) l
  first_stands l there = in-holds _ (content M l) (first_in (content M l) refl) where
    first_in : (c : LoopContent) → content M l ≡ c → IsIn (head_or 0 (items_of c)) (items_of c)
    first_in (lone v) e = absurd (filled l v e)
    first_in (cycle hs) e = IsIn_some_head hs (sound.cycles l hs there e).some_item

  first_there : (l : ℕ) → Has M.loops l → Has M.edges (first_edge l)
  first_there l there = sound.only_edges _ l (first_stands l there)

  first_back : (l : ℕ) → Has M.loops l → loop_of M (plus (first_edge l)) ≡ l
  first_back l there = edge_loop _ (first_there l there) ∙ sound.one_loop _ l (first_stands l there)

  module _ (h : ℕ) (there : HasHalf M h) where
    abbrev beside : ℕ → EdgeRow → Bool
    beside e row = not (nat_eq e (edge_of h)) && nat_eq (loop_of M (plus e)) (loop_of M h)

    -- there is a number for a loop where a loop has two edges, since then there are fewer loops than edges
    loop_free : Found beside M.edges → Free M.loops
    loop_free w =
        let p : (not (nat_eq w.number (edge_of h)) ≡ true) × (nat_eq (loop_of M (plus w.number)) (loop_of M h) ≡ true) = and_parts (not (nat_eq w.number (edge_of h))) (nat_eq (loop_of M (plus w.number)) (loop_of M h)) w.passes in
        free_number M.loops M.edges sound.loops_fit sound.edges_fit (one_missed M.loops M.edges first_edge (λ e. loop_of M (plus e)) first_there first_back
        w.number (edge_of h) (ap is_some w.at) there (eqb-false _ _ (not-true _ p.0)) (eqb-true _ _ p.1 ∙ sym (edge_loop h there)))

    module _ (none : NonePasses beside M.edges) where
      only_edge : (x : ℕ) → HasHalf M x → loop_of M x ≡ loop_of M h → edge_of x ≡ edge_of h
      only_edge x x_there e =
          let w = row_some (table.get M.edges (edge_of x)) x_there in
          let fails = none (edge_of x) w.0 w.1 in
          let is : loop_of M (plus (edge_of x)) ≡ loop_of M h = edge_loop x x_there ∙ e in
          grind (arith, nat_tests)

      -- a walk round a vertex stays in one loop
      stays : (g x : ℕ) → HasHalf M g → Reaches (round M) g x → HasHalf M x × (loop_of M x ≡ loop_of M g)
      stays g x t here = (t, refl)
      stays g x t (further {h = y} p) =
          let w = stays g y t p in
          let m_there : HasHalf M (mate y) = mate_there M y w.0 in
          (half_after M sound (mate y) m_there, loop_after M sound (mate y) m_there ∙ sym (one y w.0) ∙ w.1)

      alone : (k : ℕ) → HasHalf M k → edge_of k ≡ edge_of h → loop_of M k ≡ loop_of M h → (after M (mate k) ≡ k → after M k ≡ mate k) → KevGoes M k
      alone k k_there e same not_bare = record {
        h_there = k_there;
        no_parallel = λ x t ne a b. ne (only_edge x t ((stays k x k_there (sound.one_fan k x k_there t (sym a))).1 ∙ same) ∙ sym e);
        not_bare = not_bare;
      }

      alone_goes : Shrinks M
      alone_goes = elim (eqb_tells (after M h) (mate h)) [
        | inl e ↦ edge_alone_goes M sound h (alone h there refl refl (λ _. e.1))
        | inr ne ↦ edge_alone_goes M sound (mate h) (alone (mate h) (mate_there M h there) (edge_of-mate h) (sym (one h there)) (λ e. absurd (ne.1 (ap (after M) (sym (mate-mate h)) ∙ e))))
      ]

    pub some_edge_goes : Shrinks M
    some_edge_goes = elim (found_or_none beside M.edges) [ inl w ↦ edge_within_goes M sound h there (one h there) (loop_free w) | inr none ↦ alone_goes none ]
