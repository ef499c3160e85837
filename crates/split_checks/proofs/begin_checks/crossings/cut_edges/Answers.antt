use Rattle.split_checks.proofs.Prelude.{◌∙◌, ℕ, cond, List, ◌∷◌, ◌++◌, Some, map, slice_index_or, sym, ap, subst, append_assoc, first_such, cut_at, AreCrossing, is_off, CutEdge}
use Rattle.split_checks.proofs.cut_places_laws.Lists.{others, parts}
use Rattle.split_checks.proofs.begin_checks.crossings.cut_edges.Goals as goal

pub cut_edge-requires-clause-crossing : goal.cut_edge-requires-clause-crossing
cut_edge-requires-clause-crossing c = (subst (AreCrossing c.args.arena.now.model c.args.plane) (parts c.edges.rest.now 0 c.in-len1-up.len_at_least) c.edges.invariant.crossing).0

pub returns-in_default-cut_edge-clause-off : goal.returns-in_default-cut_edge-clause-off
returns-in_default-cut_edge-clause-off c =
    let test = is_off c.args.arena.now.model c.args.plane in let es = c.edges.rest.now in let e = slice_index_or es 0 0 in
    sym c.edges.invariant.first ∙ ap (first_such test) (parts es 0 c.in-len1-up.len_at_least) ∙ ap (λ b. cond b (Some e) (first_such test (others es))) (sym c.in_default-cut_edge.ensures.off)

pub edges-preserved : goal.edges-preserved
edges-preserved c =
    let M = c.args.arena.now.model in let p = c.args.plane in let test = is_off M p in
    let es = c.edges.rest.now in let e = slice_index_or es 0 0 in let rest = others es in let is = parts es 0 c.in-len1-up.len_at_least in
    let had = c.edges.cut.items in let cut = map (cut_at M p) in
    record {
      crossing = (subst (AreCrossing M p) is c.edges.invariant.crossing).1;
      first = sym (ap (first_such test) is ∙ ap (λ b. cond b (Some e) (first_such test rest)) (sym c.in-Some.ensures.off)) ∙ c.edges.invariant.first;
      made = ap (λ (qs : List CutEdge). qs ++ cut rest) c.in_ok-push.ensures.items ∙ append_assoc had _ (cut rest) ∙ ap (λ (q : CutEdge). had ++ q ∷ cut rest) c.in-Some.ensures.cut
          ∙ ap (λ (ks : List ℕ). had ++ cut ks) (sym is) ∙ c.edges.invariant.made;
    }
