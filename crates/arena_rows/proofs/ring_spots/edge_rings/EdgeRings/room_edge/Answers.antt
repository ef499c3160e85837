use Rattle.arena_rows.proofs.Prelude.{◌≡◌, ℕ, true, nat_lt, ◌&&◌, sym, ◌∙◌, false≢true, contains_key, plus, minus, and_first, and_second, Spots}
use Rattle.arena_rows.proofs.ring_spots_laws.LiveEdges.{edges_roomed}
use Rattle.arena_rows.proofs.ring_spots_laws.RingViews.{seen_known, seen_as, seen_ok}
use Rattle.arena_rows.proofs.ring_spots.edge_rings.EdgeRings.room_edge.Goals as goal

pub invariant_of-self-2 : goal.invariant_of-self-2
invariant_of-self-2 c = record {
  labelled = c.room_edge.ensures.whole;
  edges = edges_roomed _ _ c.self.invariant.edges _ c.reach.ensures.same c.reach.ensures.grows _ c.args.e c.in_ok-reach.ensures.ok (seen_as (λ (s : Spots). s) c.self.inside.labels.loops.items c.room_edge.new.labels.loops.items c.self.inside.rings c.room_edge.new.rings c.room_edge.ensures.spots)
      (λ q n m. seen_known c.room_edge.new.labels.loops.items c.room_edge.new.rings q ∙ c.room_edge.ensures.only q n m ∙ sym (seen_known c.self.inside.labels.loops.items c.self.inside.rings q));
}

pub returns-in_err-reach-clause-known : goal.returns-in_err-reach-clause-known
returns-in_err-reach-clause-known c = λ there.
    let m = c.args.self.now in
    let keys : contains_key m (plus c.args.e) && contains_key m (minus c.args.e) ≡ true = and_second (nat_lt 0 c.args.e) _ there in
    let first : contains_key m (plus c.args.e) ≡ true = and_first _ _ keys in
    absurd (false≢true (c.in_err-reach.ensures.known (c.self.invariant.edges.room c.args.e c.requires (rw (← c.self.view_is) at first))))

pub returns : goal.returns
returns c = record {
  spots = rw (← c.self.view_is) (seen_as (λ (s : Spots). s) c.self.inside.labels.loops.items c.room_edge.new.labels.loops.items c.self.inside.rings c.room_edge.new.rings c.room_edge.ensures.spots);
  kept = rw (← c.self.view_is) (λ q k. seen_known c.room_edge.new.labels.loops.items c.room_edge.new.rings q ∙ c.room_edge.ensures.kept q (sym (seen_known c.self.inside.labels.loops.items c.self.inside.rings q) ∙ k));
  ok = seen_ok c.room_edge.new.labels.loops.items c.room_edge.new.rings c.args.e c.room_edge.result c.room_edge.ensures.ok;
  known = λ there.
      let m = c.args.self.now in
      let keys : contains_key m (plus c.args.e) && contains_key m (minus c.args.e) ≡ true = and_second (nat_lt 0 c.args.e) _ there in
      let known : (q : ℕ) → contains_key m q ≡ true → contains_key c.self.inside.rings q ≡ true = λ q k. sym (seen_known c.self.inside.labels.loops.items c.self.inside.rings q) ∙ (rw (← c.self.view_is) at k) in
      c.room_edge.ensures.known (known _ (and_first _ _ keys)) (known _ (and_second _ _ keys));
}
