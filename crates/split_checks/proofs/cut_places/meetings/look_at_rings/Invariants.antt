use Rattle.split_checks.proofs.Prelude.{◌≡◌, ◌&&◌, length, list_all, rings_of, loop_is_cut, above, AreSides}
use Rattle.split_checks.proofs.cut_places_laws.Met.{LoopsWalked}
use Rattle.split_checks.proofs.cut_places.meetings.look_at_rings.Given as goal

abbrev pub invariant-rings : goal.invariant-rings
invariant-rings l = record {
  cut : l.all && list_all (loop_is_cut l.arena.model l.plane) (above l.last (rings_of l.arena.model l.f)) ≡ list_all (loop_is_cut l.arena.model l.plane) (rings_of l.arena.model l.f);
  sides : AreSides l.arena.model l.plane l.sides;
  walked : LoopsWalked l.arena.model l.plane l.fn.looked l.looked (above l.last (rings_of l.arena.model l.f)) (rings_of l.arena.model l.f);
}

abbrev pub decreases-rings : goal.decreases-rings
decreases-rings l = length (above l.last (rings_of l.arena.model l.f))
