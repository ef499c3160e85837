use Rattle.split_sections.proofs.Prelude.{◌∙◌, sym, ap, subst, code, tail, HasHalf, IsIn, mate_there, start_vertices}
use Rattle.split_sections.proofs.section_cycles_laws.Started.{place_half, place_tail}
use Rattle.split_sections.proofs.section_cycles.starts.next_half.Goals as goal

pub tail-vertex-requires : goal.tail-vertex-requires
tail-vertex-requires c = subst (HasHalf c.args.arena.now.model) (sym c.mate.ensures) (mate_there c.args.arena.now.model (code c.args.half) c.requires.there)

pub place_of-requires-clause-listed : goal.place_of-requires-clause-listed
place_of-requires-clause-listed c =
    subst (λ v. IsIn v (start_vertices c.args.starts.now)) (sym (c.tail-vertex.ensures ∙ ap (tail c.args.arena.now.model) c.mate.ensures)) c.requires.leads

pub returns-clause-listed : goal.returns-clause-listed
returns-clause-listed c = place_half c.args.starts.now c.tail-vertex.result c.place_of.result c.place_of.ensures

pub returns-clause-follows : goal.returns-clause-follows
returns-clause-follows c =
    place_tail c.args.arena.now.model c.args.starts.now c.requires.starts c.tail-vertex.result c.place_of.result c.place_of.ensures ∙ c.tail-vertex.ensures ∙ ap (tail c.args.arena.now.model) c.mate.ensures
