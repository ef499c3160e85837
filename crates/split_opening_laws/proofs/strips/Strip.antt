-- One strip more is cut off.
use Rattle.split_opening_laws.proofs.Prelude.{◌≡◌, ◌≢◌, ℕ, suc, ◌+◌, ◌<◌, List, [], ◌∷◌, ◌++◌, length, cond, nat_eq, false, Some, None, is_some, unwrap_or, refl, sym, ap, ◌∙◌, subst, arith, inl, inr, map, get_or, option_map, eqb_tells, IsIn, IsApart, canonical, rest, successor, upto, onward, mate, edge_of, is_first, plus, Model, LoopContent, LoopRow, cycle, holds, tail, tail_in, no_edge, loop_of, solid_of, cycle_of, after, Sound, Has, HasHalf, face_at, first_false, effect, mef, where_held, rotate_to_is, code-half, mate-mate, mate_plus, row_of, in-holds, none-holds, not_held, other_loop, cycle_there, cycle_sound, in_use_within, map_alike, half_after, loop_after, where_held_none, where_held_there, edge_row_plus, map_twice, MefGoes, mef_accepted, fits, edge_plus, Taken, rewritten_row, renamed, row_stays, row_turns, with_rows, put_out, strip_face, strip_row, strip_edge, strips_cut, cut_strip, CanBeOpened}
use Rattle.std.proofs.lemmas.Option.{same_Some}
use Rattle.euler_operators.specs.Table as table
use Rattle.split_opening_laws.proofs.sections.Numbered.{rows_low, rows_high, rows_same, rows_map}
use Rattle.split_opening_laws.proofs.strips.Cycle as on

-- an item of a ring of others, cut before the next one
cut_one : (xs : List ℕ) (a : ℕ) → IsApart xs → IsIn a xs → successor xs a ≢ a → (upto a (successor xs a) xs ≡ a ∷ []) × (onward a (successor xs a) xs ≡ rest a xs)
cut_one xs a d i ne = grind (arith, rotate_to_is)

module _ (M : Model) (above : List ℕ) (s : ℕ) (c : Taken) (bs : List ℕ) (w : CanBeOpened M above s c bs) where
  -- ---- what stays in the model with i strips

  module _ (i : ℕ) where
    pub cut_loops : (strips_cut M s c bs i).loops ≡ with_rows (table.map_rows (rewritten_row (map (renamed (put_out c bs i)))) M.loops) c.loop (strip_row c bs) i
    unfolding strips_cut
    cut_loops = refl

    pub cut_edges : (strips_cut M s c bs i).edges ≡ with_rows M.edges c.edge (strip_edge M bs) i
    unfolding strips_cut
    cut_edges = refl

    pub cut_faces : (strips_cut M s c bs i).faces ≡ with_rows M.faces c.face (strip_face s c) i
    unfolding strips_cut
    cut_faces = refl

    old_edge : (h : ℕ) → HasHalf M h → table.get (strips_cut M s c bs i).edges (edge_of h) ≡ table.get M.edges (edge_of h)
    old_edge h there = ap (λ t. table.get t (edge_of h)) cut_edges ∙ rows_low M.edges c.edge (strip_edge M bs) i (edge_of h) (on.low_edge M above s c bs w h there)

    pub cut_half : (h : ℕ) → HasHalf M h → HasHalf (strips_cut M s c bs i) h
    cut_half h there = ap is_some (old_edge h there) ∙ there

    pub cut_tail : (h : ℕ) → HasHalf M h → tail (strips_cut M s c bs i) h ≡ tail M h
    unfolding tail
    cut_tail h there = ap (λ o. tail_in (unwrap_or o no_edge) (is_first h)) (old_edge h there)

    pub cut_solid : (f : ℕ) → Has M.faces f → solid_of (strips_cut M s c bs i) f ≡ solid_of M f
    unfolding solid_of
    cut_solid f there = grind (arith, cut_faces, rows_low, in_use_within)

  -- ---- one strip more

  module _ (i : ℕ) (lt : i < length bs) (sound : Sound (strips_cut M s c bs i)) where
    abbrev N : Model
    N = strips_cut M s c bs i

    abbrev a : ℕ
    a = mate (get_or bs i 0)

    abbrev e : ℕ
    e = c.edge + suc i

    abbrev f : ℕ
    f = c.face + suc i

    abbrev l : ℕ
    l = c.loop + suc i

    abbrev k : ℕ
    k = after (strips_cut M s c bs i) (mate (get_or bs i 0))

    abbrev xs : List ℕ
    xs = cycle_of (strips_cut M s c bs i) (mate (get_or bs i 0))

    a_old : HasHalf M a
    a_old = on.mate_there M above s c bs w i lt

    a_there : HasHalf N a
    a_there = cut_half i a a_old

    tail_k : tail N k ≡ tail M (get_or bs i 0)
    tail_k = sound.ends_meet a a_there ∙ ap (tail N) (mate-mate (get_or bs i 0)) ∙ cut_tail i (get_or bs i 0) (on.half_there M above s c bs w i lt)

    ends_apart : tail N a ≢ tail N k
    ends_apart q = sound.ends_differ a a_there (q ∙ sound.ends_meet a a_there)

    edge_free : table.get N.edges (edge_of (plus e)) ≡ None
    edge_free = ap (table.get N.edges) (edge_plus e) ∙ ap (λ t. table.get t e) (cut_edges i) ∙ rows_high M.edges c.edge (strip_edge M bs) i e (omega arith) ∙ w.free.edges e (omega arith)

    face_free : table.get N.faces f ≡ None
    face_free = ap (λ t. table.get t f) (cut_faces i) ∙ rows_high M.faces c.face (strip_face s c) i f (omega arith) ∙ w.free.faces f (omega arith)

    loop_free : table.get N.loops l ≡ None
    loop_free = ap (λ t. table.get t l) (cut_loops i) ∙ rows_high (table.map_rows (rewritten_row (map (renamed (put_out c bs i)))) M.loops) c.loop (strip_row c bs) i l (omega arith)
        ∙ table.get-map_rows (rewritten_row (map (renamed (put_out c bs i)))) M.loops l ∙ ap (option_map (rewritten_row (map (renamed (put_out c bs i))) l)) (w.free.loops l (omega arith))

    goes : MefGoes N a k (plus e) f l
    goes = grind (arith, a_there, half_after, edge_free, face_free, loop_free, loop_after, ends_apart, edge_plus, fits)

    pub strip_accepted : first_false N (cut_strip N c bs i) ≡ None
    strip_accepted = grind (arith, mef_accepted, code-half, goes)

    -- ---- the loops

    abbrev old : ℕ → ℕ
    old = renamed (put_out c bs i)

    abbrev new : ℕ → ℕ
    new = renamed (put_out c bs (suc i))

    kept : old a ≡ a
    kept = on.out_other M above s c bs w i a (λ j less below same. let z = on.mates_differ M above s c bs w j i below lt same in omega (arith, z, less))

    place : (loop_of N a ≡ loop_of M a) × (face_at N a ≡ face_at M a)
    place = subst (λ x. (loop_of N x ≡ loop_of M a) × (face_at N x ≡ face_at M a)) kept (on.old_place M above s c bs w N sound i i (strip_row c bs) (cut_loops i) a a_old)

    in_xs : IsIn a xs
    in_xs = cycle_there N sound a a_there

    next_is : k ≡ successor xs a
    unfolding after
    next_is = refl

    parts : (upto a k xs ≡ a ∷ []) × (onward a k xs ≡ rest a xs)
    parts = subst (λ x. (upto a x xs ≡ a ∷ []) × (onward a x xs ≡ rest a xs)) (sym next_is)
        (cut_one xs a (cycle_sound N sound a a_there).apart in_xs (λ q. ends_apart (ap (tail N) (sym (next_is ∙ q)))))

    abbrev turn : List ℕ → LoopContent
    turn hs = cycle (canonical (plus e ∷ onward a k hs))

    -- the row of a loop that was there
    row_next : (q : ℕ) (row : LoopRow) → table.get M.loops q ≡ Some row → where_held a turn q (rewritten_row (map old) q row) ≡ rewritten_row (map new) q row
    row_next q row at =
        let here = on.old_loop M above s c bs w N sound i i (strip_row c bs) (cut_loops i) q row at in
        let more : (u : ℕ) → new u ≡ cond (nat_eq (old u) a) (plus e) (old u) = λ u. on.out_next M above s c bs w i u lt in
        elim (eqb_tells q (loop_of N a)) [
          | inl p ↦
              let is : rewritten_row (map old) q row ≡ record { face = face_at N a; content = cycle xs } = same_Some _ _ (sym here ∙ ap (table.get N.loops) p.1 ∙ row_of N sound a a_there) in
              ap (where_held a turn q) is
              ∙ where_held_there a turn q (record { face = face_at N a; content = cycle xs }) (in-holds a (cycle xs) in_xs)
              ∙ ap (λ t. record { face = face_at N a; content = cycle (canonical (plus e ∷ t)) }) parts.1
              ∙ sym (row_turns old new a (plus e) more q (face_at N a) row xs is (cycle_sound N sound a a_there).apart in_xs
              (not_held N sound (plus e) edge_free (loop_of N a) (record { face = face_at N a; content = cycle xs }) (row_of N sound a a_there)))
          | inr p ↦
              let none : holds a (rewritten_row (map old) q row).content ≡ false = other_loop N sound a q (rewritten_row (map old) q row) p.1 here in
              where_held_none a turn q (rewritten_row (map old) q row) none
              ∙ sym (row_stays old new a (plus e) more q row (none-holds a (rewritten_row (map old) q row).content none))
        ]

    -- and of a strip
    strip_stays : (j : ℕ) → j < i → where_held a turn (c.loop + suc j) (strip_row c bs j) ≡ strip_row c bs j
    strip_stays j less = where_held_none a turn (c.loop + suc j) (strip_row c bs j)
        (other_loop N sound a (c.loop + suc j) (strip_row c bs j)
        (λ q. omega (arith, q, place.0, on.low_loop M above s c bs w N sound i i (strip_row c bs) (cut_loops i) (loop_of M a) (ap is_some (row_of M w.sound a a_old))))
        (on.new_loop M above s c bs w N sound i i (strip_row c bs) (cut_loops i) j less))

    loops_next : (mef N a k (plus e) f l).loops ≡ (strips_cut M s c bs (suc i)).loops
    unfolding mef
    loops_next =
        (λ n. table.put (table.map_rows (where_held a turn) (cut_loops i n)) l (record { face = f; content = cycle (canonical (parts.0 n ++ mate_plus e n ∷ [])) }))
        ∙ ap (λ t. table.put t l (strip_row c bs i)) (
        rows_map (where_held a turn) (table.map_rows (rewritten_row (map old)) M.loops) c.loop (strip_row c bs) i
        ∙ rows_same (table.map_rows (where_held a turn) (table.map_rows (rewritten_row (map old)) M.loops)) c.loop (λ j. where_held a turn (c.loop + suc j) (strip_row c bs j)) (strip_row c bs) i strip_stays
        ∙ ap (λ t. with_rows t c.loop (strip_row c bs) i) (map_twice (where_held a turn) (rewritten_row (map old)) M.loops
        ∙ map_alike (λ q row. where_held a turn q (rewritten_row (map old) q row)) (rewritten_row (map new)) M.loops row_next)
        )
        ∙ sym (cut_loops (suc i))

    solid_is : solid_of N (face_at N a) ≡ s
    solid_is =
        let there : Has M.faces (face_at M a) = w.sound.loops_of_faces (loop_of M a) (ap is_some (row_of M w.sound a a_old)) in
        ap (solid_of N) place.1 ∙ cut_solid i (face_at M a) there
        ∙ sym (w.sound.one_solid (get_or bs i 0) (on.half_there M above s c bs w i lt)) ∙ (w.cycle.halves (get_or bs i 0) (on.half_in M above s c bs w i lt)).of_solid

    pub strip_is : effect N (cut_strip N c bs i) ≡ strips_cut M s c bs (suc i)
    unfolding effect mef strips_cut
    strip_is = (λ n. mef N (code-half a n) (code-half k n) (code-half (plus e) n) f l)
        ∙ grind (arith, solid_is, loops_next, edge_plus, edge_row_plus, tail_k, cut_tail, a_old)
