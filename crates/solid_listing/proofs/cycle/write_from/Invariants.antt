use Rattle.solid_listing.proofs.Prelude.{◌∷◌, length, map, IsIn, code, cycle_of, spaced, half_word, outgoing, to_come}
use Rattle.solid_listing.proofs.TellingLaws.{Telling}
use Rattle.solid_listing.proofs.cycle.write_from.Given as goal

abbrev pub invariant-round : goal.invariant-round
invariant-round g l = record {
  at_in : IsIn (code l.at) (cycle_of l.arena.model (code l.first));
  written : Telling (outgoing (g.W.Write.contents l.fn.writer) l.fn.text) (outgoing (g.W.Write.contents l.writer) l.text)
      (spaced (map half_word (cycle_of l.arena.model (code l.first))))
      (spaced (map half_word (code l.at ∷ to_come (code l.first) (cycle_of l.arena.model (code l.first)) (code l.at))));
}

abbrev pub decreases-round : goal.decreases-round
decreases-round g l = length (to_come (code l.first) (cycle_of l.arena.model (code l.first)) (code l.at))
