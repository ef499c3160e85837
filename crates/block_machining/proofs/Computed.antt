-- The machines of this program computed: which numbers they have left, which solids they hold, that the cut is accepted, and what its parts measure.
use Rattle.block_machining.proofs.Prelude.{◌≡◌, ℕ, pos, None, false, refl, subst, sym, ap, arith, six_volume, Machine, held, start, undo_refusal, split_refusal, last_face, Has, first_false, rotate_to, canonical, rest, mate, code, half, edge_of, is_first, empty_model, content, tail, loop_of, face_of, solid_of, outer, arc, holds, after, before, point_of, conditions, has_rings, effect, inverse, mvfs, kvfs_at, mev_lone, mev_at, kev, mef, kef, kemr, mekr, kfmrh, mfkrh, ring_in, ring_out, take_outer, merge, part, AreLeft, Needed, Taken, early_glue_conditions, glue_conditions, glue_model, loops_of, boundary, corners, taken_in, lamina_conditions, lamina_model, prism_conditions, with_side, raised, prism_model, block_conditions, block_model, normal, plane_of, is_flat, straddles, face_is_above, is_place, place_point, places, is_touched, is_cut_often, is_crossed, sorted_pairs, place_pairs, next_cut, with_crossings, drawn_pairs, join_next, draw_next, next_drawn, with_drawings, below_halves, section_cycles, is_hole, opened_along, next_opened, early_split_conditions, first_conditions, section_conditions, split_conditions, split_model, HasSolids, alone, bar, cut_plane, three_blocks, parted, standing}
use Rattle.euler_operators.specs.Table as table

-- opens the definitions that the machines compute by
unfoldable computed : ℕ
unfolding mate code half edge_of is_first rotate_to canonical rest holds after before table.empty table.get table.put table.remove table.map_rows table.first_where table.all_where table.greatest empty_model content tail loop_of face_of solid_of outer arc conditions first_false has_rings effect inverse mvfs kvfs_at mev_lone mev_at kev mef kef kemr mekr kfmrh mfkrh ring_in ring_out take_outer merge part point_of loops_of boundary corners taken_in lamina_conditions lamina_model prism_conditions with_side raised prism_model block_conditions block_model normal plane_of is_flat six_volume straddles face_is_above is_place place_point places is_touched is_cut_often is_crossed sorted_pairs place_pairs next_cut with_crossings drawn_pairs join_next draw_next next_drawn with_drawings below_halves section_cycles is_hole opened_along next_opened early_split_conditions first_conditions section_conditions split_conditions split_model early_glue_conditions glue_conditions glue_model
computed = 0

-- ---- numbers that are free, and how many are left

pub start_free : table.has (held start).solids 3 ≡ false
unfolding computed
start_free = refl

pub alone_free : table.has (held alone).solids 1 ≡ false
unfolding computed alone
alone_free = refl

pub standing_free : table.has (held standing).solids 2 ≡ false
unfolding computed alone standing
standing_free = refl

start_taken : taken_in (held start) ≡ record { face = 0; loop = 0; edge = 0; vertex = 0 }
unfolding computed
start_taken = refl

alone_taken : taken_in (held alone) ≡ record { face = 6; loop = 6; edge = 12; vertex = 8 }
unfolding computed alone
alone_taken = refl

standing_taken : taken_in (held standing) ≡ record { face = 12; loop = 12; edge = 24; vertex = 16 }
unfolding computed alone standing
standing_taken = refl

three_blocks_taken : taken_in (held three_blocks) ≡ record { face = 18; loop = 18; edge = 36; vertex = 24 }
unfolding computed alone standing three_blocks
three_blocks_taken = refl

left : (m : Machine) (c : Taken) (n : Needed) → taken_in (held m) ≡ c → AreLeft c n → AreLeft (taken_in (held m)) n
left m c n taken w = subst (λ t. AreLeft t n) (sym taken) w

abbrev pub needed_for_a_block : Needed
needed_for_a_block = record { faces = 6; loops = 6; edges = 12; vertices = 8 }

pub start_left : AreLeft (taken_in (held start)) needed_for_a_block
start_left = left start _ _ start_taken (record { faces = omega arith; loops = omega arith; edges = omega arith; vertices = omega arith })

pub alone_left : AreLeft (taken_in (held alone)) needed_for_a_block
alone_left = left alone _ _ alone_taken (record { faces = omega arith; loops = omega arith; edges = omega arith; vertices = omega arith })

pub standing_left : AreLeft (taken_in (held standing)) needed_for_a_block
standing_left = left standing _ _ standing_taken (record { faces = omega arith; loops = omega arith; edges = omega arith; vertices = omega arith })

pub three_blocks_left : AreLeft (taken_in (held three_blocks)) (record { faces = 0; loops = 0; edges = 1; vertices = 0 })
three_blocks_left = left three_blocks _ _ three_blocks_taken (record { faces = omega arith; loops = omega arith; edges = omega arith; vertices = omega arith })

-- ---- the greatest numbers of faces

pub alone_last : last_face alone ≡ 6
unfolding taken_in
alone_last = ap (λ c. c.face) alone_taken

pub standing_last : last_face standing ≡ 12
unfolding taken_in
standing_last = ap (λ c. c.face) standing_taken

-- ---- solids

pub three_blocks_there : HasSolids (held three_blocks) 1 2 3
unfolding computed alone standing three_blocks
three_blocks_there = (refl, refl, refl)

pub bar_there : Has (held bar).solids 1
unfolding computed alone standing three_blocks bar
bar_there = refl

pub parted_there : HasSolids (held parted) 1 2 3
unfolding computed alone standing three_blocks bar parted
parted_there = (refl, refl, refl)

-- ---- the cut

pub cut_accepted : split_refusal bar 1 cut_plane 2 ≡ None
unfolding computed alone standing three_blocks bar
cut_accepted = refl

pub near_is : six_volume (held parted) 1 ≡ pos 72
unfolding computed alone standing three_blocks bar parted
near_is = refl

pub far_is : six_volume (held parted) 2 ≡ pos 108
unfolding computed alone standing three_blocks bar parted
far_is = refl

-- ---- the cut taken back

pub undo_is_open : undo_refusal parted ≡ None
unfolding alone standing three_blocks bar parted
undo_is_open = refl

pub bar_whole : six_volume (held bar) 1 ≡ pos 180
unfolding computed alone standing three_blocks bar
bar_whole = refl
