use Rattle.arena_rows.proofs.Prelude.{◌≡◌, ◌≢◌, true, IsClear, items}
use Rattle.arena_rows.proofs.owner_chains.places.below.Given as goal

abbrev pub invariant-sides : goal.invariant-sides
invariant-sides l = record {
  item : l.at ≢ 0 → items l.links l.owner l.at ≡ true;
  clear : IsClear (items l.links l.owner) l.number l.distance;
}
