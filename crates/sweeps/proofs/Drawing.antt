-- A draft in which a lamina is being drawn.
use Rattle.sweeps.proofs.Prelude.{◌≡◌, ℕ, suc, ◌+◌, ◌≤◌, ◌<◌, List, [], ◌∷◌, ◌++◌, None, refl, sym, ap, subst, ◌∙◌, arith, length, get_or, ◌-◌, Point, HalfEdge, Corner, At, Lone, Model, no_point, Sound, first_false, effect, Op, Mvfs, Mev, Mef, Taken, taken_in, lamina_refusal, path_at, first_half, second_half, first_point, end_corner, next_point, further_points, last_edge, lamina_operators, Goes, first_made, lamina_goes, next_accepted, next_made, path_sound, DraftJournal, after_step, after_steps, step_after, taken_of, Counters}
use Rattle.sweeps_laws.proofs.lamina.Steps.{first_accepted}
use Rattle.sweeps_laws.proofs.lamina.Walk.{close_accepted}

-- the premises, from what the steps are told
pub begun : (M : Model) (k : Counters) (s : ℕ) (ps : List Point) → Sound M → taken_of k ≡ taken_in M → lamina_refusal M s ps ≡ None → Goes M (taken_of k) s ps (length ps)
begun M k s ps sound is e = subst (λ c. Goes M c s ps (length ps)) (sym is) (lamina_goes M s ps sound e)

-- a path on its way: as it stands before edge i is drawn
pub record Along (d : DraftJournal) (c : Taken) (s : ℕ) (ps : List Point) (i : ℕ) (e : DraftJournal) (end : Corner) : Type 0 where
  pub edges : ℕ
  pub counted : i ≡ suc edges
  pub within : i ≤ length ps
  pub model : e.model ≡ path_at d.model c s ps edges
  pub steps : e ≡ after_steps d (first_point c s ps ∷ further_points c ps edges)
  pub corner : end ≡ end_corner c edges

module _ (d : DraftJournal) (c : Taken) (s : ℕ) (ps : List Point) (goes : Goes d.model c s ps (length ps)) where
  abbrev M : Model
  M = d.model

  pub first_is : (op : Op) (p : Point) → op ≡ Mvfs s (c.face + 1) (c.loop + 1) (c.vertex + 1) p → p ≡ get_or ps 0 no_point → op ≡ first_point c s ps
  first_is op p is at = is ∙ ap (Mvfs s (c.face + 1) (c.loop + 1) (c.vertex + 1)) at

  pub first_goes : (op : Op) → op ≡ first_point c s ps → first_false M op ≡ None
  first_goes op is = ap (first_false M) is ∙ first_accepted M c s ps (length ps) goes

  pub first_along : (op : Op) (e : DraftJournal) → e ≡ after_step d op → op ≡ first_point c s ps → Along d c s ps 1 e (Lone (c.loop + 1))
  first_along op e made is = record {
    edges = 0;
    counted = refl;
    within = omega (arith, goes.many);
    model = ap (λ (x : DraftJournal). x.model) made ∙ ap (effect M) is ∙ first_made M c s ps (length ps) goes;
    steps = made ∙ ap (after_step d) is;
    corner = refl;
  }

  module _ (i : ℕ) (e : DraftJournal) (end : Corner) (a : Along d c s ps i e end) (op : Op) (h : HalfEdge) (v : ℕ) (p : Point)
      (is : op ≡ Mev end end h v p) (half : h ≡ first_half (c.edge + i)) (number : v ≡ c.vertex + 1 + i) (at : p ≡ get_or ps i no_point) (l : i < length ps) where
    next_is : op ≡ next_point c ps a.edges
    next_is = is ∙ (λ t. Mev (a.corner t) (a.corner t) (half t) (number t) (at t))
        ∙ (λ t. Mev (end_corner c a.edges) (end_corner c a.edges) (first_half (c.edge + a.counted t)) (vertex_is t) (get_or ps (a.counted t) no_point)) where
          vertex_is : c.vertex + 1 + i ≡ c.vertex + suc (suc a.edges)
          vertex_is = omega (arith, a.counted)

    short : suc a.edges < length ps
    short = omega (arith, a.counted, l)

    pub next_goes : first_false e.model op ≡ None
    next_goes = (λ t. first_false (a.model t) (next_is t)) ∙ next_accepted M c s ps (length ps) goes a.edges short (path_sound M c s ps (length ps) goes a.edges (omega (arith, short)))

    pub next_along : (k : DraftJournal) (g : HalfEdge) → k ≡ after_step e op → g ≡ second_half (c.edge + i) → Along d c s ps (i + 1) k (At g)
    next_along k g made turn = record {
      edges = suc a.edges;
      counted = omega (arith, a.counted);
      within = omega (arith, l);
      model = ap (λ (x : DraftJournal). x.model) made ∙ (λ t. effect (a.model t) (next_is t)) ∙ next_made M c s ps (length ps) goes a.edges (path_sound M c s ps (length ps) goes a.edges (omega (arith, short)));
      steps = step_after d e k (first_point c s ps ∷ further_points c ps a.edges) (next_point c ps a.edges) a.steps (made ∙ ap (after_step e) next_is);
      corner = ap At turn ∙ ap (λ n. At (second_half (c.edge + n))) a.counted;
    }

  module _ (i : ℕ) (e : DraftJournal) (end : Corner) (b : Along d c s ps i e end) (all : i ≡ length ps) (op : Op) (is : op ≡ Mef (second_half (c.edge + length ps - 1)) (first_half (c.edge + 1)) (first_half (c.edge + length ps)) (c.face + 2) (c.loop + 2)) where
    all_along : Along d c s ps (length ps) e end
    all_along = subst (λ k. Along d c s ps k e end) all b

    last_is : op ≡ last_edge c all_along.edges
    last_is = is ∙ (λ t. Mef (second_half (before t)) (first_half (c.edge + 1)) (first_half (c.edge + all_along.counted t)) (c.face + 2) (c.loop + 2)) where
      before : c.edge + length ps - 1 ≡ c.edge + all_along.edges
      before = omega (arith, all_along.counted)

    pub last_goes : first_false e.model op ≡ None
    last_goes = (λ t. first_false (all_along.model t) (last_is t)) ∙ close_accepted M c s ps (length ps) goes all_along.edges all_along.counted

    edges_are : all_along.edges ≡ length ps - 1
    edges_are = omega (arith, all_along.counted)

    pub last_steps : (k : DraftJournal) → k ≡ after_step e op → c ≡ taken_in M → k ≡ after_steps d (lamina_operators M s ps)
    unfolding lamina_operators
    last_steps k made counters =
        step_after d e k (first_point c s ps ∷ further_points c ps all_along.edges) (last_edge c all_along.edges) all_along.steps (made ∙ ap (after_step e) last_is)
        ∙ (λ t. after_steps d (first_point (counters t) s ps ∷ further_points (counters t) ps (edges_are t) ++ last_edge (counters t) (edges_are t) ∷ []))
