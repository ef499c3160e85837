use Rattle.arena_rows.proofs.Prelude.{◌&&◌, sym, ◌∙◌, le-leb, lt-ltb, contains_key, minus}
use Rattle.arena_rows.proofs.ring_spots.links.has_edge_room.Goals as goal

pub returns-then-has_room : goal.returns-then-has_room
returns-then-has_room c =
    let low = sym (le-leb c.args.e 1000000 c.if-e-le-NUMBER_LIMIT.true) in
    let some = sym (lt-ltb 0 c.args.e c.if-e-gt0.true) in
    let first = sym c.if-has_room.true ∙ c.has_room.ensures in
    c.has_room-then-has_room.ensures ∙ (λ i. low i && (some i && (first i && contains_key c.args.rings.now (minus c.args.e))))
