use Rattle.arena_rows.proofs.Prelude.{sym, ◌∙◌, inl, inr, arith, cases_eq}
use Rattle.arena_rows.proofs.ring_spots_laws.RingMaps.{room_spots, room_kept, room_only, room_ok}
use Rattle.arena_rows.proofs.ring_spots_laws.LabelTables.{same_room}
use Rattle.arena_rows.proofs.ring_spots_laws.LabelEdges.{labelled-room}
use Rattle.arena_rows.proofs.ring_spots.links.room_code.Goals as goal

pub returns : goal.returns
returns c =
    let only = room_only _ _ _ _ c.room.ensures.ok c.room.ensures.err in
    let spots = room_spots _ _ _ _ c.room.ensures.ok c.room.ensures.err in
    let kept = room_kept _ _ _ _ c.room.ensures.ok c.room.ensures.err in
    record {
      whole = labelled-room _ _ _ c.requires.whole c.args.labels.now (same_room c.args.labels.now) _ spots _ kept (λ q k. elim (cases_eq q c.args.code) [
        | inl e ↦ omega (arith, e, c.requires.label)
        | inr n ↦ c.requires.whole.room.room q (sym (only q n) ∙ k)
      ]);
      spots = spots;
      kept = kept;
      only = only;
      ok = room_ok _ _ _ _ c.room.ensures.ok;
      known = c.room.ensures.known;
    }
