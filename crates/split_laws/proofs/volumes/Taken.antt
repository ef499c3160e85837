-- A cap that becomes a ring of another cap on the same plane: their normals add up, and so do what they add to the six volumes.
use Rattle.split_laws.proofs.Prelude.{◌≡◌, ◌≢◌, ℕ, ◌+◌, ℤ, ◌+ℤ◌, Bool, cond, not, nat_eq, ◌&&◌, List, [], ◌∷◌, ◌++◌, Option, Some, None, is_some, refl, sym, ap, ◌∙◌, arith, true≢false, inl, inr, option_map, ne_eqb, eq-eqb, eqb_tells, Plane, origin, moved, dot, cross, direction, is_on, count, tick, IsIn, mate, SameItems, get-map_rows, Model, FaceRow, LoopRow, items_of, tail, content, face_of, outer, solid_of, point_of, rings_of, faces_of, Has, kfmrh, loop_to_face, count-append, tick_same, tick_other, split_at, face_row, dot_turned, dot_moved, none_moved, add_exchanged, add_assoc, count_taken, no_items, face_there, FaceSet, row_here, row_other, outer_other, solid_other, LoopMoves, face_moved, face_kept, walks_same, start, items_in, loops_of, boundary, anchor, area, first_vertex, normal, volume_in, six_volume, AgreeOn, area-append, area_kept, areas_kept, corner_kept, told_alike, cross_moved, area_same, items_joined, normal_agrees, rings_agree, one_if, passed, count_where, volume_of, volume_same, only_loop, LiesAlong, OutersAreOwn}
use Rattle.euler_operators.specs.Items.{before, after}
use Rattle.euler_operators.specs.Table as table
use Rattle.split_laws.proofs.opened.Caps.{anchor_along}

-- ---- lists of loops, and of faces

same_loops : (M : Model) (ls ks : List ℕ) → SameItems ls ks → SameItems (items_in M ls) (items_in M ks)
same_loops M [] ks s x = ap (λ q. count x (items_in M q)) (sym (no_items ks (λ y. sym (s y))))
same_loops M (l ∷ ls) ks s x =
    let e = split_at l ks (omega (arith, s l, tick_same l)) in
    let r = same_loops M ls (before l ks ++ after l ks) (λ y. count_taken l y ls ks s e) x in
    omega (
      arith,
      r,
      count-append x (items_of (content M l)) (items_in M ls),
      ap (λ q. count x (items_in M q)) e,
      ap (count x) (items_joined M (before l ks) (l ∷ after l ks)),
      ap (count x) (items_joined M (before l ks) (after l ks)),
      count-append x (items_in M (before l ks)) (items_in M (l ∷ after l ks)),
      count-append x (items_of (content M l)) (items_in M (after l ks)),
      count-append x (items_in M (before l ks)) (items_in M (after l ks)),
    )

module _ (M N : Model) (f : ℕ) where
  -- faces among which f isn't
  sum_without : (ks : List ℕ) → count f ks ≡ 0 → ((k : ℕ) → IsIn k ks → k ≢ f → volume_of N k ≡ volume_of M k) → volume_in N ks ≡ volume_in M ks
  sum_without [] z e = refl
  sum_without (k ∷ ks) z e = λ i. e k (omega (arith, tick_same k)) (λ q. absurd (omega (arith, z, ap (λ j. tick f j) q, tick_same f))) i +ℤ sum_without ks (omega (arith, z)) (λ j l. e j (omega (arith, l))) i

  -- faces among which f is, to which something is added
  sum_with : (d : ℤ) → volume_of N f ≡ d +ℤ volume_of M f → (ks : List ℕ) → count f ks ≡ 1 → ((k : ℕ) → IsIn k ks → k ≢ f → volume_of N k ≡ volume_of M k) → volume_in N ks ≡ d +ℤ volume_in M ks
  sum_with d more [] o e = absurd (omega (arith, o))
  sum_with d more (k ∷ ks) o e = elim (eqb_tells f k) [
    | inl q ↦ grind (arith, tick_same, volume_of, sum_without, add_assoc)
    | inr q ↦
        (λ i. e k (omega (arith, tick_same k)) (λ z. q.1 (sym z)) i +ℤ sum_with d more ks (omega (arith, o, tick_other f k q.1)) (λ j l. e j (omega (arith, l))) i)
        ∙ add_exchanged (volume_of M k) d (volume_in M ks)
  ]

-- face g can become a ring of face f
pub record CanTake (M : Model) (p : Plane) (f g : ℕ) : Type 0 where
  pub outers : OutersAreOwn M
  pub f_there : Has M.faces f
  pub g_there : Has M.faces g
  pub apart : f ≢ g
  pub one_solid : solid_of M g ≡ solid_of M f
  pub alone : rings_of M g ≡ []
  pub f_along : LiesAlong M p f
  pub g_along : LiesAlong M p g
  pub some_way : direction p ≢ origin

module _ (M : Model) (p : Plane) (f g : ℕ) (w : CanTake M p f g) where
  abbrev N : Model
  N = kfmrh M f g

  taken_loops : N.loops ≡ table.map_rows (loop_to_face (outer M g) f) M.loops
  unfolding kfmrh
  taken_loops = refl

  moves : LoopMoves M N (outer M g) f
  unfolding kfmrh
  moves = record { there = (w.outers g w.g_there).0; loops = taken_loops; solids = refl; edges = refl; vertices = refl }

  taken_faces : FaceSet M N g None
  unfolding kfmrh
  taken_faces = record { rows = record { are = refl } }

  row_is : (l : ℕ) → table.get N.loops l ≡ option_map (loop_to_face (outer M g) f l) (table.get M.loops l)
  row_is l = ap (λ t. table.get t l) taken_loops ∙ get-map_rows (loop_to_face (outer M g) f) M.loops l

  pub face_stays : (k : ℕ) → k ≢ g → table.get N.faces k ≡ table.get M.faces k
  face_stays = row_other taken_faces.rows

  pub face_goes : table.get N.faces g ≡ None
  face_goes = row_here taken_faces.rows

  -- ---- loops and points stay

  pub content_same : (l : ℕ) → content N l ≡ content M l
  content_same = (walks_same moves).contents

  pub loop_there : (l : ℕ) → table.has N.loops l ≡ table.has M.loops l
  loop_there = (walks_same moves).loops

  pub face_else : (l : ℕ) → Has M.loops l → l ≢ outer M g → face_of N l ≡ face_of M l
  face_else l there = face_kept moves l

  pub face_taken : (l : ℕ) → Has M.loops l → l ≡ outer M g → face_of N l ≡ f
  face_taken l there e = ap (face_of N) e ∙ face_moved moves

  pub start_same : (h : ℕ) → start N h ≡ start M h
  unfolding kfmrh tail point_of
  start_same h = refl

  point_same : (v : ℕ) → point_of N v ≡ point_of M v
  unfolding kfmrh point_of
  point_same v = refl

  loop_area : (l : ℕ) → area N (items_of (content N l)) ≡ area M (items_of (content M l))
  loop_area l = ap (λ c. area N (items_of c)) (content_same l) ∙ area_kept M N (items_of (content M l)) (λ h i. (start_same h, start_same (mate h)))

  pub outer_same : (k : ℕ) → k ≢ g → outer N k ≡ outer M k
  outer_same = outer_other taken_faces

  pub solid_same : (k : ℕ) → k ≢ g → solid_of N k ≡ solid_of M k
  solid_same = solid_other taken_faces

  -- ---- faces that are neither keep their loops

  agree : (k : ℕ) → k ≢ f → k ≢ g → AgreeOn M N k
  agree k not_f not_g = grind (arith, outer_same, loop_there, face_else, face_taken, loop_area)

  pub rings_same : (k : ℕ) → k ≢ f → k ≢ g → rings_of N k ≡ rings_of M k
  rings_same k not_f not_g = rings_agree (agree k not_f not_g)

  pub normal_same : (k : ℕ) → k ≢ f → k ≢ g → normal N k ≡ normal M k
  normal_same k not_f not_g = normal_agrees (agree k not_f not_g)

  -- ---- the rings of f

  abbrev ring_before : ℕ → ℕ → LoopRow → Bool
  ring_before k l row = nat_eq row.face k && not (nat_eq (outer M k) l)

  abbrev ring_after : ℕ → ℕ → LoopRow → Bool
  ring_after k l row = nat_eq row.face k && not (nat_eq (outer N k) l)

  row_of_g : (l : ℕ) (row : LoopRow) → table.get M.loops l ≡ Some row → l ≡ outer M g → row.face ≡ g
  row_of_g l row at e = sym (face_row M l row at) ∙ ap (face_of M) e ∙ (w.outers g w.g_there).1

  else_ring : (k l : ℕ) (row : LoopRow) → k ≢ g → l ≢ outer M g → passed (ring_after k) l (Some (loop_to_face (outer M g) f l row)) ≡ passed (ring_before k) l (Some row)
  else_ring k l row ne away = ap (λ b. one_if (ring_after k l (cond b (record row { face = f }) row))) (ne_eqb l (outer M g) away) ∙ ap (λ o. one_if (nat_eq row.face k && not (nat_eq o l))) (outer_same k ne)

  not_outer_f : outer M f ≢ outer M g
  not_outer_f e = w.apart (sym (w.outers f w.f_there).1 ∙ ap (face_of M) e ∙ (w.outers g w.g_there).1)

  more_ring : (l : ℕ) (o : Option LoopRow) → table.get M.loops l ≡ o → passed (ring_after f) l (option_map (loop_to_face (outer M g) f l) o) ≡ tick l (outer M g) + passed (ring_before f) l o
  more_ring l o e = grind (arith, tick_other, true≢false, passed, one_if, eq-eqb, ne_eqb, not_outer_f, outer_same, row_of_g, tick_same, else_ring)

  rings_more : (l : ℕ) → count l (rings_of N f) ≡ count l (outer M g ∷ rings_of M f)
  rings_more l = omega (arith, count_where (ring_after f) N.loops l ∙ ap (passed (ring_after f) l) (row_is l) ∙ more_ring l (table.get M.loops l) refl, count_where (ring_before f) M.loops l)

  -- ---- normals

  normal_g : normal M g ≡ area M (items_of (content M (outer M g)))
  normal_g = only_loop M g w.g_along.items w.alone w.g_along.outer_is ∙ sym (ap (λ c. area M (items_of c)) w.g_along.outer_is)

  pub normal_f : normal N f ≡ moved (normal M g) (normal M f)
  unfolding normal boundary loops_of
  normal_f = (λ i. area N (items_in N (outer_same f w.apart i ∷ rings_of N f))) ∙ areas_kept M N (outer M f ∷ rings_of N f) (λ l i. loop_area l)
      ∙ area_same M (items_in M (outer M f ∷ rings_of N f)) (items_in M (outer M g ∷ outer M f ∷ rings_of M f))
      (same_loops M (outer M f ∷ rings_of N f) (outer M g ∷ outer M f ∷ rings_of M f) (λ x. omega (arith, rings_more x)))
      ∙ area-append M (items_of (content M (outer M g))) (items_in M (outer M f ∷ rings_of M f))
      ∙ ap (λ v. moved v (area M (items_in M (outer M f ∷ rings_of M f)))) (sym normal_g)

  -- ---- volumes

  anchor_same : (k : ℕ) → k ≢ g → anchor N k ≡ anchor M k
  anchor_same k ne = ap (λ c. point_of N (first_vertex N c)) (content_same (outer N k) ∙ ap (content M) (outer_same k ne)) ∙ corner_kept M N (content M (outer M k)) start_same point_same

  pub volume_other : (k : ℕ) → k ≢ f → k ≢ g → volume_of N k ≡ volume_of M k
  volume_other k not_f not_g = λ i. dot (anchor_same k not_g i) (normal_same k not_f not_g i)

  volume_f : volume_of N f ≡ volume_of M g +ℤ volume_of M f
  volume_f = grind (arith, anchor_same, normal_f, dot_turned, dot_moved, told_alike, anchor_along)

  abbrev of : ℕ → ℕ → FaceRow → Bool
  of u k row = nat_eq row.solid u

  none_of_g : (u : ℕ) → count g (faces_of N u) ≡ 0
  none_of_g u = count_where (of u) N.faces g ∙ ap (passed (of u) g) face_goes

  not_g_in : (u k : ℕ) → IsIn k (faces_of N u) → k ≢ g
  not_g_in u k i e = absurd (omega (arith, i, none_of_g u, ap (λ j. count j (faces_of N u)) e))

  same_at : (u k : ℕ) → k ≢ g → count k (faces_of N u) ≡ count k (faces_of M u)
  same_at u k ne = count_where (of u) N.faces k ∙ ap (passed (of u) k) (face_stays k ne) ∙ sym (count_where (of u) M.faces k)

  solid_count : (u k : ℕ) → Has M.faces k → count k (faces_of M u) ≡ one_if (nat_eq (solid_of M k) u)
  solid_count u k there = count_where (of u) M.faces k ∙ ap (passed (of u) k) (face_there M k there)

  solid_keeps : six_volume N (solid_of M f) ≡ six_volume M (solid_of M f)
  unfolding six_volume
  solid_keeps =
      let s = solid_of M f in
      let here : count f (faces_of N s) ≡ 1 = same_at s f w.apart ∙ solid_count s f w.f_there ∙ ap one_if (eq-eqb s s refl) in
      sum_with M N f (volume_of M g) volume_f (faces_of N s) here (λ k i ne. volume_other k ne (not_g_in s k i))
      ∙ volume_same M (g ∷ faces_of N s) (faces_of M s) (λ k. grind (arith, solid_count, none_of_g, same_at))

  other_keeps : (u : ℕ) → u ≢ solid_of M f → six_volume N u ≡ six_volume M u
  unfolding six_volume
  other_keeps u ne =
      let same : SameItems (faces_of N u) (faces_of M u) = λ k. elim (eqb_tells k g) [
        | inl e ↦ ap (λ j. count j (faces_of N u)) e.1 ∙ none_of_g u ∙ sym (ap (λ j. count j (faces_of M u)) e.1 ∙ solid_count u g w.g_there ∙ ap one_if (ne_eqb (solid_of M g) u (λ z. ne (sym z ∙ w.one_solid))))
        | inr e ↦ same_at u k e.1
      ] in
      let none : count f (faces_of N u) ≡ 0 = same_at u f w.apart ∙ solid_count u f w.f_there ∙ ap one_if (ne_eqb (solid_of M f) u (λ z. ne (sym z))) in
      sum_without M N f (faces_of N u) none (λ k i q. volume_other k q (not_g_in u k i)) ∙ volume_same M (faces_of N u) (faces_of M u) same

  pub taken_keeps : (u : ℕ) → six_volume N u ≡ six_volume M u
  taken_keeps u = grind (arith, solid_keeps, other_keeps)

  -- ---- what stays so

  pub there_still : (k : ℕ) → k ≢ g → Has M.faces k → Has N.faces k
  there_still k ne there = ap is_some (face_stays k ne) ∙ there

  pub outers_still : OutersAreOwn N
  outers_still k there = grind (arith, face_goes, face_stays, outer_same, loop_there, face_else)

  pub along_still : (k : ℕ) → k ≢ g → LiesAlong M p k → LiesAlong N p k
  along_still k ne a = record {
    items = a.items;
    some_item = a.some_item;
    outer_is = content_same (outer N k) ∙ ap (content M) (outer_same k ne) ∙ a.outer_is;
    on_plane = λ h i. ap (is_on p) (start_same h) ∙ a.on_plane h i;
    across = elim (eqb_tells k f) [
      | inl e ↦ ap (λ j. cross (direction p) (normal N j)) e.1 ∙ ap (cross (direction p)) normal_f ∙ cross_moved (direction p) (normal M g) (normal M f)
          ∙ ap (moved (cross (direction p) (normal M g))) w.f_along.across ∙ (ap (λ v. moved v origin) w.g_along.across ∙ none_moved origin)
      | inr e ↦ ap (cross (direction p)) (normal_same k e.1 ne) ∙ a.across
    ];
  }
