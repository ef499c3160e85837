use Rattle.split_sections.proofs.Prelude.{◌∙◌, map, sym, ap, subst, code, HasHalf, moved, cross, mate_there, start, finish, read, no_half}
use Rattle.split_sections.proofs.section_cycles_laws.Meetings.{first_there, others_there, first_code}
use Rattle.split_sections.proofs.section_cycles_laws.Sums.{more_summed, sum_limited, sum_room}
use Rattle.split_sections.proofs.section_cycles.holes.mates_area.Goals as goal

pub half_added-area-requires-clause-there : goal.half_added-area-requires-clause-there
half_added-area-requires-clause-there c =
    subst (HasHalf c.args.arena.now.model) (sym c.mate.ensures) (mate_there c.args.arena.now.model _ (first_there c.args.arena.now.model c.halves.rest.now no_half c.in-len1-up.len_at_least c.halves.invariant.there))

pub half_added-area-requires-clause-vector : goal.half_added-area-requires-clause-vector
half_added-area-requires-clause-vector c = sum_room c.args.arena.now.model c.requires.ready.sound (map code c.args.halves.now) c.requires.there c.requires.apart (map code c.halves.rest.now) (read c.halves.area) c.halves.invariant.sum

pub halves-preserved : goal.halves-preserved
halves-preserved c =
    let M = c.args.arena.now.model in record {
      there = others_there M c.halves.rest.now no_half c.in-len1-up.len_at_least c.halves.invariant.there;
      sum = more_summed M _ _ (read c.halves.area) c.halves.invariant.sum _ _ (read c.half_added-area.result) (first_code c.halves.rest.now no_half c.in-len1-up.len_at_least)
          (c.half_added-area.ensures ∙ ap (λ h. moved (read c.halves.area) (cross (start M h) (finish M h))) c.mate.ensures);
    }

pub returns-clause-within : goal.returns-clause-within
returns-clause-within c = sum_limited c.args.arena.now.model c.requires.ready.sound (map code c.args.halves.now) c.requires.there c.requires.apart (map code c.halves.rest.now) (read c.halves.area) c.halves.invariant.sum
