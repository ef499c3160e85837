use Rattle.split_sections.proofs.Prelude.{◌∙◌, ap, code, has, face_of, lists, loop_there}
use Rattle.split_checks.proofs.cut_places_laws.Searched.{found_listed}
use Rattle.split_sections.proofs.section_edges.halves.lies_above.Goals as goal

pub face_of-face-requires : goal.face_of-face-requires
face_of-face-requires c = let M = c.args.arena.now.model in ap (has M.loops) c.loop_of.ensures ∙ loop_there M c.requires.ready.sound (code c.args.h) c.requires.there

pub returns : goal.returns
returns c =
    let M = c.args.arena.now.model in
    c.is_ok.ensures.value ∙ found_listed c.args.above.now c.face_of-face.result c.binary_search.result c.requires.rises c.binary_search.ensures.position
    ∙ ap (lists c.args.above.now) (c.face_of-face.ensures ∙ ap (face_of M) c.loop_of.ensures)
