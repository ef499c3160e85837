-- The far face and the sides of a sweep of a face that may have rings.
use Rattle.command_laws.proofs.Prelude.{◌≡◌, ℕ, ◌+◌, ◌≤◌, ◌<◌, List, [], ◌∷◌, ◌++◌, Some, None, is_some, refl, sym, ap, subst, ◌∙◌, arith, append-nil, length, get_or, map, length-map, map-append, Point, moved, count, IsIn, Model, cycle, items_of, content, face_of, outer, point_of, solid_of, rings_of, Sound, Has, count-append, tick_same, split_at, IsIn_rest, IsIn_head, same_content, same_outer, same_solid, start, loops_of, items_in, boundary, vertices_on, vertices_in, corners, Growing, growing, taken_in, top_items, next_place, prism_from, prism_refusal, prism_model, area, normal, anchor, first_vertex, plane_through, plane_of, at_most_greatest, area-append, loop_row, prism_sound, next_within, IsPathOf, within, loop_here, taken_after, item_within, taken_free, held, corner_points, nth, all_moved, side_over, IsFaceOf, loop_points, IsFarFace, RingedFaceIsFar}
use Rattle.euler_operators.specs.Items.{before as ahead, after as behind}
use Rattle.euler_operators.specs.Table as table
use Rattle.sweeps_laws.proofs.prism.Accepted.{face_there}
use Rattle.command_laws.proofs.Outlines.{nth_start, as_many, same_starts, ring_path}
use Rattle.command_laws.proofs.MovedAreas.{moved_many, nth_moved, area_kept}
use Rattle.command_laws.proofs.SweptLoops.{Ready, Later, items, swept_once, next, raised_is, after_ready, later_all, later_whole, ready_all, from_append, taken_all, sweep_ready, face_counted}
use Rattle.command_laws.proofs.SweptSides.{along_cycle, ring_is, ring_moved, items_taken, loop_low, side_stands}

-- how many corners some loops have
abbrev corner_count : Model → List ℕ → ℕ
corner_count M ls = length (vertices_in M ls)

module _ (M : Model) (f : ℕ) (d : Point) (sound : Sound M) (goes : prism_refusal M f d ≡ None) where
  abbrev s : ℕ
  s = solid_of M f

  abbrev Z : Model
  Z = (prism_from f d (growing M) (loops_of M f)).model

  pub prism_is : prism_model M f d ≡ (prism_from f d (growing M) (loops_of M f)).model
  unfolding prism_model
  prism_is = refl

  pub Z_sound : Sound Z
  Z_sound = subst Sound prism_is (prism_sound M f d sound goes)

  begun : Ready f (solid_of M f) d (growing M) (loops_of M f)
  begun = sweep_ready M f d sound goes

  pub whole : Later M Z (taken_in M) (loops_of M f)
  whole = later_whole f s d (loops_of M f) (growing M) begun

  -- ---- at loop l, once the loops ls are swept

  module _ (ls rs : List ℕ) (l : ℕ) (parts : loops_of M f ≡ ls ++ l ∷ rs) where
    abbrev g : Growing
    g = prism_from f d (growing M) ls

    all_ready : Ready f (solid_of M f) d (growing M) (ls ++ l ∷ rs)
    all_ready = subst (Ready f s d (growing M)) parts begun

    pub now : Ready f (solid_of M f) d g (l ∷ rs)
    now = ready_all f s d ls (l ∷ rs) (growing M) all_ready

    earlier : Later M g.model (taken_in M) ls
    earlier = later_all f s d ls (l ∷ rs) (growing M) all_ready

    pub l_path : IsPathOf M f l (items_of (content M l))
    l_path = ring_path M sound f l (items_of (content M l)) (all_ready.going.rows l (omega (arith, count-append l ls (l ∷ rs), tick_same l)))

    l_low : l ≤ (taken_in M).loop
    l_low = within M (taken_in M) s d (items_of (content M l)) f l (taken_free M sound) l_path

    l_once : count l ls ≡ 0
    l_once = omega (arith, all_ready.going.apart l, count-append l ls (l ∷ rs), tick_same l)

    l_not_later : count l rs ≡ 0
    l_not_later = omega (arith, all_ready.going.apart l, count-append l ls (l ∷ rs), tick_same l)

    same_loop : content g.model l ≡ content M l
    same_loop = same_content M g.model l (earlier.loops l l_low l_once)

    abbrev hs : List ℕ
    hs = items d now

    same_items : hs ≡ items_of (content M l)
    same_items = ap items_of same_loop

    -- its points are those that it had
    points_then : map (start g.model) hs ≡ loop_points M l
    points_then = ap (map (start g.model)) same_items
        ∙ same_starts M g.model (items_of (content M l)) (λ h i. earlier.starts h (item_within (taken_free M sound) h l i)) ∙ sym (along_cycle M l (items_of (content M l)) l_path.content)

    next_is : prism_from f d (growing M) (loops_of M f) ≡ prism_from f d (next d now) rs
    next_is = ap (prism_from f d (growing M)) parts ∙ from_append f s d ls (l ∷ rs) (growing M) ∙ ap (λ x. prism_from f d x rs) (raised_is d now)

    rest : Later (swept_once d now) Z (taken_after g.taken (length hs)) rs
    rest = subst (λ x. Later (swept_once d now) x.model (taken_after g.taken (length hs)) rs) (sym next_is) (later_whole f s d rs (next d now) (after_ready d now))

    abbrev tops : List ℕ
    tops = top_items g.taken.edge (length hs) (length hs)

    pub loop_then : content Z l ≡ cycle tops
    loop_then = same_content (swept_once d now) Z l (rest.loops l (omega (arith, loop_low d now)) l_not_later) ∙ ring_is d now

    tops_moved : map (start Z) tops ≡ all_moved d (loop_points M l)
    tops_moved = same_starts (swept_once d now) Z tops (λ h i. rest.starts h (items_taken d now l h (subst (λ x. IsIn h (items_of x)) (sym (ring_is d now)) i)))
        ∙ ring_moved d now ∙ ap (all_moved d) points_then

    loop_moved : loop_points Z l ≡ all_moved d (loop_points M l)
    loop_moved = along_cycle Z l tops loop_then ∙ tops_moved

    pub loop_there : Has Z.loops l
    loop_there = ap is_some (rest.loops l (omega (arith, loop_low d now)) l_not_later ∙ loop_here g.model g.taken (solid_of g.model f) d hs f l)

    points_some : 0 < length (loop_points M l)
    points_some = subst (λ n. 0 < n) (sym (ap length (along_cycle M l (items_of (content M l)) l_path.content) ∙ as_many M (items_of (content M l)))) l_path.some_item

    pub tops_some : 0 < length tops
    tops_some = subst (λ n. 0 < n) (sym (sym (as_many Z tops) ∙ ap length tops_moved ∙ moved_many d (loop_points M l))) points_some

    area_moved : area Z (items_of (content Z l)) ≡ area M (items_of (content M l))
    area_moved = ap (λ x. area Z (items_of x)) loop_then
        ∙ area_kept d l_path (ring_path Z Z_sound (face_of Z l) l tops (loop_row Z l loop_there ∙ ap (λ x. Some (record { face = face_of Z l; content = x })) loop_then)) (tops_moved ∙ ap (all_moved d) (along_cycle M l (items_of (content M l)) l_path.content))

    many : length hs ≡ length (loop_points M l)
    many = sym (as_many g.model hs) ∙ ap length points_then

    pub side_at : (i : ℕ) → i < length (loop_points M l) → IsFaceOf Z (table.greatest M.faces + corner_count M ls + 1 + i) (solid_of M f)
        (side_over d (nth (loop_points M l) i) (nth (loop_points M l) (next_place (length (loop_points M l)) i)))
    side_at i m =
        let ps = loop_points M l in
        let at : i < length hs = subst (λ n. i < n) (sym many) m in
        let j = next_place (length hs) i in
        subst (λ n. IsFaceOf Z (n + 1 + i) s (side_over d (nth ps i) (nth ps (next_place (length ps) i))))
        (taken_all f s d M ls (l ∷ rs) (growing M) all_ready (λ q k. refl) ∙ ap (λ n. n + corner_count M ls) (face_counted M))
        (subst (λ n. IsFaceOf Z (g.taken.face + 1 + i) s (side_over d (nth ps i) (nth ps (next_place n i)))) many
        (subst (λ xs. IsFaceOf Z (g.taken.face + 1 + i) s (side_over d (nth xs i) (nth xs j))) points_then
        (subst (λ p. IsFaceOf Z (g.taken.face + 1 + i) s (side_over d p (nth (map (start g.model) hs) j))) (sym (nth_start g.model hs i at))
        (subst (λ p. IsFaceOf Z (g.taken.face + 1 + i) s (side_over d (start g.model (get_or hs i 0)) p)) (sym (nth_start g.model hs j (next_within (length hs) i at)))
        (side_stands d now Z Z_sound rest i at)))))

  -- ---- the far face

  pub face_low : f ≤ (taken_in M).face
  unfolding taken_in
  face_low = at_most_greatest M.faces f (face_there M f d sound goes)

  pub same_row : table.get Z.faces f ≡ table.get M.faces f
  same_row = whole.faces f face_low

  same_loops : loops_of Z f ≡ loops_of M f
  unfolding loops_of
  same_loops = λ i. same_outer M (prism_from f d (growing M) (outer M f ∷ rings_of M f)).model f same_row i ∷ whole.rings f face_low i

  each_moved : (l : ℕ) → IsIn l (loops_of M f) → loop_points Z l ≡ all_moved d (loop_points M l)
  each_moved l i = loop_moved (ahead l (loops_of M f)) (behind l (loops_of M f)) l (split_at l (loops_of M f) i)

  all_points : (N : Model) (l : ℕ) (ls : List ℕ) → map (point_of N) (vertices_in N (l ∷ ls)) ≡ loop_points N l ++ map (point_of N) (vertices_in N ls)
  all_points N l ls = map-append (point_of N) (vertices_on N (content N l)) (vertices_in N ls)

  points_moved : (ls : List ℕ) → ((l : ℕ) → IsIn l ls → IsIn l (loops_of M f)) → map (point_of Z) (vertices_in Z ls) ≡ all_moved d (map (point_of M) (vertices_in M ls))
  points_moved [] inside = refl
  points_moved (l ∷ ls) inside = all_points Z l ls
      ∙ (λ t. each_moved l (inside l (IsIn_head l ls)) t ++ points_moved ls (λ q i. inside q (IsIn_rest q l ls i)) t)
      ∙ sym (map-append (λ p. moved p d) (loop_points M l) (map (point_of M) (vertices_in M ls))) ∙ ap (all_moved d) (sym (all_points M l ls))

  corners_moved : corner_points Z f ≡ all_moved d (corner_points M f)
  unfolding corners
  corners_moved = ap (λ ls. map (point_of Z) (vertices_in Z ls)) same_loops ∙ points_moved (loops_of M f) (λ l i. i)

  pub outer_in : IsIn (outer M f) (loops_of M f)
  unfolding loops_of
  outer_in = IsIn_head (outer M f) (rings_of M f)

  first_of : (N : Model) (q : ℕ) (xs : List ℕ) → content N q ≡ cycle xs → 0 < length xs → point_of N (first_vertex N (content N q)) ≡ nth (loop_points N q) 0
  first_of N q [] is some = absurd (omega (arith, some))
  first_of N q (x ∷ xs) is some = ap (λ y. point_of N (first_vertex N y)) is ∙ sym (ap (λ y. nth (map (point_of N) (vertices_on N y)) 0) is)

  anchor_moved : anchor Z f ≡ moved (anchor M f) d
  anchor_moved =
      let l = outer M f in
      let ls = ahead l (loops_of M f) in
      let rs = behind l (loops_of M f) in
      let parts = split_at l (loops_of M f) outer_in in
      let p = ring_path M sound f l (items_of (content M l)) (begun.going.rows l outer_in) in
      ap (λ q. point_of Z (first_vertex Z (content Z q))) (same_outer M Z f same_row)
      ∙ first_of Z l _ (loop_then ls rs l parts) (tops_some ls rs l parts)
      ∙ ap (λ ps. nth ps 0) (each_moved l outer_in) ∙ nth_moved d (loop_points M l) 0 (points_some ls rs l parts)
      ∙ ap (λ q. moved q d) (sym (first_of M l (items_of (content M l)) p.content p.some_item))

  areas_moved : (ls : List ℕ) → ((l : ℕ) → IsIn l ls → IsIn l (loops_of M f)) → area Z (items_in Z ls) ≡ area M (items_in M ls)
  areas_moved [] inside = refl
  areas_moved (l ∷ ls) inside = let i = inside l (IsIn_head l ls) in
      area-append Z (items_of (content Z l)) (items_in Z ls)
      ∙ (λ t. moved (area_moved (ahead l (loops_of M f)) (behind l (loops_of M f)) l (split_at l (loops_of M f) i) t) (areas_moved ls (λ q j. inside q (IsIn_rest q l ls j)) t))
      ∙ sym (area-append M (items_of (content M l)) (items_in M ls))

  normal_kept : normal Z f ≡ normal M f
  unfolding normal boundary
  normal_kept = ap (λ ls. area Z (items_in Z ls)) same_loops ∙ areas_moved (loops_of M f) (λ l i. i)

  plane_moved : plane_of Z f ≡ plane_through (normal M f) (moved (anchor M f) d)
  unfolding plane_of
  plane_moved = λ i. plane_through (normal_kept i) (anchor_moved i)

  pub far_face : IsFarFace M Z f d
  far_face = grind (arith, same_row, face_there, same_solid, same_loops, each_moved, corners_moved, plane_moved)

  all_counted : table.greatest Z.faces ≡ table.greatest M.faces + length (corners M f)
  unfolding corners
  all_counted =
      let all : Ready f (solid_of M f) d (growing M) (loops_of M f ++ []) = subst (Ready f s d (growing M)) (sym (append-nil (loops_of M f))) begun in
      (ready_all f s d (loops_of M f) [] (growing M) all).last
      ∙ taken_all f s d M (loops_of M f) [] (growing M) all (λ q i. refl) ∙ ap (λ n. n + length (vertices_in M (loops_of M f))) (face_counted M)

-- as many faces more as the face has corners
pub model_counted : (M : Model) (f : ℕ) (d : Point) → Sound M → prism_refusal M f d ≡ None → table.greatest (prism_model M f d).faces ≡ table.greatest M.faces + length (corner_points M f)
model_counted M f d sound goes = ap (λ (N : Model). table.greatest N.faces) (prism_is M f d sound goes) ∙ all_counted M f d sound goes ∙ ap (λ n. table.greatest M.faces + n) (sym (length-map (corners M f) (point_of M)))

-- ---- the laws

pub ringed_face_is_far : RingedFaceIsFar
ringed_face_is_far before after f d sound made =
    subst (λ N. IsFarFace (held before) N f d) (sym (ap held made.1 ∙ prism_is (held before) f d sound made.0)) (far_face (held before) f d sound made.0)
