use Rattle.arena_rows.proofs.Prelude.{ap, ◌∙◌, ℕ, Bool, sym, spot, plus, minus, plus_other, Spots, live, woken}
use Rattle.arena_rows.proofs.ring_spots_laws.LabelEdges.{spot-woken, known-woken, live-woken_other}
use Rattle.arena_rows.proofs.ring_spots.links.put_edge.Goals as goal

pub wake-requires-2 : goal.wake-requires-2
wake-requires-2 c =
    let spots = spot-woken _ _ (plus c.args.e) c.args.start c.wake.ensures in
    let known = known-woken _ _ (plus c.args.e) c.args.start c.requires.first.0 c.wake.ensures in (
      ap (λ (k : ℕ → Bool). k (minus c.args.e)) known ∙ c.requires.second.0,
      ap (λ (s : Spots). live s (minus c.args.e)) spots ∙ live-woken_other (spot c.args.rings.now) (plus c.args.e) _ (minus c.args.e) (λ q. plus_other c.args.e (sym q)) ∙ c.requires.second.1,
    )

pub returns : goal.returns
returns c =
    let known = known-woken _ _ (plus c.args.e) c.args.start c.requires.first.0 c.wake.ensures in
    record {
      spots = spot-woken _ _ (minus c.args.e) c.args.end c.wake-2.ensures ∙ ap (λ (s : Spots). woken s (minus c.args.e) c.args.end) (spot-woken _ _ (plus c.args.e) c.args.start c.wake.ensures);
      known = known-woken _ _ (minus c.args.e) c.args.end (ap (λ (k : ℕ → Bool). k (minus c.args.e)) known ∙ c.requires.second.0) c.wake-2.ensures ∙ known;
    }
