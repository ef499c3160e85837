-- Scripts and their answers, computed.
use Rattle.script_laws.proofs.Prelude.{refl, digits, mate, code, half, edge_of, is_first, empty_model, point_of, content, tail, loop_of, face_of, solid_of, outer, arc, holds, after, rotate_to, canonical, rest, conditions, first_false, has_rings, effect, mvfs, mev_lone, mev_at, boundary, corners, lamina_conditions, lamina_model, loops_of, normal, prism_conditions, prism_model, raised, taken_in, with_side, lines, listing, reply_text, arguments, answer_of, machine_after, answers, AnsweredSo, OthersMayHaveNone}
use Rattle.euler_operators.specs.Table as table
use Rattle.shapes.specs.Common.{is_flat, plane_of, six_volume}

pub answered_so : AnsweredSo
unfolding digits mate code half edge_of is_first rotate_to canonical rest holds after table.empty table.get table.put table.remove table.map_rows table.first_where table.all_where empty_model point_of content tail loop_of face_of solid_of outer arc conditions first_false has_rings effect mvfs mev_lone mev_at lines listing reply_text arguments answer_of machine_after answers
answered_so = refl

pub others_may_have_none : OthersMayHaveNone
unfolding digits mate code half edge_of is_first rotate_to canonical rest holds after table.empty table.get table.put table.remove table.map_rows table.first_where table.all_where empty_model point_of content tail loop_of face_of solid_of outer arc conditions first_false has_rings effect mvfs mev_lone mev_at lines listing reply_text arguments answer_of machine_after table.greatest boundary corners is_flat lamina_conditions lamina_model loops_of normal plane_of prism_conditions prism_model raised six_volume taken_in with_side answers
others_may_have_none = refl
