-- Each operator of a lamina is accepted, and leads from one model of the path to the next.
use Rattle.sweeps_laws.proofs.Prelude.{◌≡◌, ℕ, zero, suc, ◌+◌, ◌≤◌, ◌<◌, List, [], ◌∷◌, ◌++◌, Some, None, unwrap_or, is_some, refl, sym, ap, ◌∙◌, arith, IsTrue, map, reverse, length, get_or, ◌-◌, Point, IsInRange, canonical, code, mate, edge_of, plus, minus, Table, Model, cycle, EdgeRow, no_point, no_face, content, face_of, solid_of, tail, is_number, Sound, first_false, lone_vertex, effect, edge_row, mvfs, mev_lone, mef, plus_row, mate_plus, content_row, face_row, plus_tail_row, minus_tail_row, get-put_here, get-put_other, put-put, canonical_same, edge_row_plus, lone_accepted, mev_accepted, mef_accepted, mvfs_accepted, Around, apart_xs, greatest-put_last, none_above, number_fits, AreLeft, Taken, numbers_after, with_points, with_path, with_ring, lamina_at, out, back, path_content, path_at, first_half, second_half, first_point, next_point, last_edge}
use Rattle.euler_operators.specs.Table as table
use Rattle.euler_laws.proofs.mev.MevLoneSound.{LoneGoes}
use Rattle.sweeps_laws.proofs.lamina.Lists.{two_halves, path_read, longer, later, ring_plus, ring_minus, out_first, plus_halves, minus_halves}
use Rattle.sweeps_laws.proofs.prism.Steps.{spur_goes, mev_here, chord_goes, mef_here}

-- ---- the tables of a path

pub greatest-with_path : (t : Table EdgeRow) (e v j : ℕ) → table.greatest t ≡ e → table.greatest (with_path t e v j) ≡ e + j
greatest-with_path t e v zero is = omega (arith, is)
greatest-with_path t e v (suc j) is = greatest-put_last (with_path t e v j) (e + suc j) (record { plus_tail = v + suc j; minus_tail = v + suc j + 1 }) (omega (arith, greatest-with_path t e v j is))

pub greatest-with_points : (t : Table Point) (v : ℕ) (ps : List Point) (j : ℕ) → table.greatest t ≡ v → table.greatest (with_points t v ps j) ≡ v + j
greatest-with_points t v ps zero is = omega (arith, is)
greatest-with_points t v ps (suc j) is = greatest-put_last (with_points t v ps j) (v + suc j) (get_or ps j no_point) (omega (arith, greatest-with_points t v ps j is))

last_row : (t : Table EdgeRow) (e v j : ℕ) → table.get (with_path t e v (suc j)) (e + suc j) ≡ Some (record { plus_tail = v + suc j; minus_tail = v + suc j + 1 })
last_row t e v j = get-put_here (with_path t e v j) (e + suc j) (record { plus_tail = v + suc j; minus_tail = v + suc j + 1 })

first_row : (t : Table EdgeRow) (e v j : ℕ) → table.get (with_path t e v (suc j)) (e + 1) ≡ Some (record { plus_tail = v + 1; minus_tail = v + 1 + 1 })
first_row t e v zero = last_row t e v zero
first_row t e v (suc j) = get-put_other (with_path t e v (suc j)) (e + suc (suc j)) (record { plus_tail = v + suc (suc j); minus_tail = v + suc (suc j) + 1 }) (e + 1) (omega arith) ∙ first_row t e v j

-- ---- the premises

pub record Goes (M : Model) (c : Taken) (s : ℕ) (ps : List Point) (n : ℕ) : Type 0 where
  pub sound : Sound M
  pub faces : table.greatest M.faces ≡ c.face
  pub loops : table.greatest M.loops ≡ c.loop
  pub edges : table.greatest M.edges ≡ c.edge
  pub vertices : table.greatest M.vertices ≡ c.vertex
  pub solid_free : table.get M.solids s ≡ None
  pub solid_fits : IsTrue (is_number s)
  pub many : 3 ≤ n
  pub points_fit : (i : ℕ) → i < n → IsInRange (get_or ps i no_point)
  pub left : AreLeft c (record { faces = 2; loops = 2; edges = n; vertices = n })

module _ (M : Model) (c : Taken) (s : ℕ) (ps : List Point) (n : ℕ) (goes : Goes M c s ps n) where
  above_face : table.greatest M.faces < c.face + 1
  above_face = omega (arith, goes.faces)

  -- ---- the first point

  pub first_accepted : first_false M (first_point c s ps) ≡ None
  first_accepted = mvfs_accepted M s (c.face + 1) (c.loop + 1) (c.vertex + 1) (get_or ps 0 no_point) (record {
    solid_free = goes.solid_free;
    face_free = none_above M.faces (c.face + 1) above_face;
    loop_free = none_above M.loops (c.loop + 1) (omega (arith, goes.loops));
    vertex_free = none_above M.vertices (c.vertex + 1) (omega (arith, goes.vertices));
    solid_fits = goes.solid_fits;
    face_fits = number_fits (c.face + 1) (omega arith) (omega (arith, goes.left.faces));
    loop_fits = number_fits (c.loop + 1) (omega arith) (omega (arith, goes.left.loops));
    vertex_fits = number_fits (c.vertex + 1) (omega arith) (omega (arith, goes.many, goes.left.vertices));
    point_fits = goes.points_fit 0 (omega (arith, goes.many));
  })

  pub first_made : effect M (first_point c s ps) ≡ path_at M c s ps 0
  unfolding effect mvfs path_at
  first_made = refl

  -- ---- what a path holds

  module _ (j : ℕ) where
    loop_is : table.get (path_at M c s ps j).loops (c.loop + 1) ≡ Some (record { face = c.face + 1; content = path_content c j })
    unfolding path_at
    loop_is = get-put_here M.loops (c.loop + 1) (record { face = c.face + 1; content = path_content c j })

    content_is : content (path_at M c s ps j) (c.loop + 1) ≡ path_content c j
    content_is = content_row (path_at M c s ps j) (c.loop + 1) (record { face = c.face + 1; content = path_content c j }) loop_is

    face_is : face_of (path_at M c s ps j) (c.loop + 1) ≡ c.face + 1
    face_is = face_row (path_at M c s ps j) (c.loop + 1) (record { face = c.face + 1; content = path_content c j }) loop_is

    solid_is : solid_of (path_at M c s ps j) (c.face + 1) ≡ s
    unfolding path_at solid_of
    solid_is = ap (λ o. (unwrap_or o no_face).solid) (get-put_here M.faces (c.face + 1) (record { solid = s; outer = c.loop + 1 }))

    -- the next edge and vertex are free
    next_edge_free : table.get (path_at M c s ps j).edges (c.edge + suc j) ≡ None
    unfolding path_at
    next_edge_free = none_above (with_path M.edges c.edge c.vertex j) (c.edge + suc j) (omega (arith, greatest-with_path M.edges c.edge c.vertex j goes.edges))

    next_vertex_free : table.get (path_at M c s ps j).vertices (c.vertex + suc (suc j)) ≡ None
    unfolding path_at
    next_vertex_free = none_above (with_points M.vertices c.vertex ps (suc j)) (c.vertex + suc (suc j)) (omega (arith, greatest-with_points M.vertices c.vertex ps (suc j) goes.vertices))

  -- ---- the second point

  second_goes : LoneGoes (path_at M c s ps 0) (c.loop + 1) (code (first_half (c.edge + 1))) (c.vertex + 2) (c.vertex + 1) (get_or ps 1 no_point)
  unfolding code
  second_goes = record {
    is_lone = content_is 0;
    loop_there = ap is_some (loop_is 0);
    edge_free = ap (table.get (path_at M c s ps 0).edges) (plus_row (c.edge + 1)).0 ∙ next_edge_free 0;
    vertex_free = next_vertex_free 0;
    edge_fits = ap is_number (plus_row (c.edge + 1)).0 ∙ number_fits (c.edge + 1) (omega arith) (omega (arith, goes.many, goes.left.edges));
    vertex_fits = number_fits (c.vertex + 2) (omega arith) (omega (arith, goes.many, goes.left.vertices));
    point_fits = goes.points_fit 1 (omega (arith, goes.many));
  }

  pub second_accepted : Sound (path_at M c s ps 0) → first_false (path_at M c s ps 0) (next_point c ps 0) ≡ None
  second_accepted sound = lone_accepted (path_at M c s ps 0) (c.loop + 1) (first_half (c.edge + 1)) (c.vertex + 2) (c.vertex + 1) (get_or ps 1 no_point) sound second_goes

  second_put : table.put (path_at M c s ps 0).loops (c.loop + 1) (record { face = c.face + 1; content = path_content c 1 }) ≡ table.put M.loops (c.loop + 1) (record { face = c.face + 1; content = path_content c 1 })
  unfolding path_at
  second_put = put-put M.loops (c.loop + 1) _ _

  second_loop : table.put (path_at M c s ps 0).loops (c.loop + 1) (record { face = face_of (path_at M c s ps 0) (c.loop + 1); content = cycle (canonical (plus (c.edge + 1) ∷ mate (plus (c.edge + 1)) ∷ [])) })
      ≡ table.put M.loops (c.loop + 1) (record { face = c.face + 1; content = path_content c 1 })
  second_loop = grind (arith, second_put, face_is, mate_plus, two_halves)

  second_edge : table.put (path_at M c s ps 0).edges (edge_of (plus (c.edge + 1))) (edge_row (plus (c.edge + 1)) (lone_vertex (content (path_at M c s ps 0) (c.loop + 1))) (c.vertex + 2)) ≡ with_path M.edges c.edge c.vertex 1
  unfolding path_at
  second_edge = (λ i. table.put M.edges ((plus_row (c.edge + 1)).0 i) (edge_row_plus (c.edge + 1) (lone_vertex (content_is 0 i)) (c.vertex + 2) i))
      ∙ ap (λ v. table.put M.edges (c.edge + 1) (record { plus_tail = c.vertex + 1; minus_tail = v })) (omega arith)

  pub second_made : effect (path_at M c s ps 0) (next_point c ps 0) ≡ path_at M c s ps 1
  unfolding effect mev_lone code path_at
  second_made = grind (arith, second_loop, second_edge)

  -- ---- a further point

  module _ (j : ℕ) where
    abbrev P : Model
    P = path_at M c s ps (suc j)

    -- the end of the path, and the edge that goes on from there
    abbrev g : ℕ
    g = minus (c.edge + suc j)

    abbrev u : ℕ
    u = c.edge + suc (suc j)

    abbrev v : ℕ
    v = c.vertex + suc (suc (suc j))

    abbrev p : Point
    p = get_or ps (suc (suc j)) no_point

    turn_tail : tail P g ≡ c.vertex + suc (suc j)
    unfolding path_at
    turn_tail = minus_tail_row P (c.edge + suc j) _ (last_row M.edges c.edge c.vertex j) ∙ omega arith

    module _ (sound : Sound P) where
      around : Around P (c.loop + 1) (c.face + 1) (out c.edge (suc j) ++ back c.edge (suc j))
      around = record { sound = sound; at = loop_is (suc j) ∙ ap (λ xs. Some (record { face = c.face + 1; content = cycle xs })) (sym (path_read c.edge j)) }

      pub further_accepted : suc (suc j) < n → first_false P (next_point c ps (suc j)) ≡ None
      unfolding code
      further_accepted l = mev_accepted P (second_half (c.edge + suc j)) (second_half (c.edge + suc j)) (first_half u) v p sound
          (spur_goes P (c.loop + 1) (c.face + 1) (out c.edge (suc j)) (back c.edge j) g u v p around (next_edge_free (suc j)) (next_vertex_free (suc j))
          (number_fits u (omega arith) (omega (arith, l, goes.left.edges))) (number_fits v (omega arith) (omega (arith, l, goes.left.vertices))) (goes.points_fit (suc (suc j)) l))

      one_on : c.vertex + suc (suc (suc j)) ≡ c.vertex + suc (suc j) + 1
      one_on = omega arith

      pub further_made : effect P (next_point c ps (suc j)) ≡ path_at M c s ps (suc (suc j))
      unfolding effect code path_at
      further_made = mev_here P (c.loop + 1) (c.face + 1) (out c.edge (suc j)) (back c.edge j) g u v p around (next_edge_free (suc j)) ∙ (λ i. record {
        solids = table.put M.solids s tt;
        faces = table.put M.faces (c.face + 1) (record { solid = s; outer = c.loop + 1 });
        loops = (put-put M.loops (c.loop + 1) (record { face = c.face + 1; content = path_content c (suc j) }) (record { face = c.face + 1; content = cycle (canonical (out c.edge (suc j) ++ plus u ∷ minus u ∷ back c.edge (suc j))) }) ∙ ap (λ xs. table.put M.loops (c.loop + 1) (record { face = c.face + 1; content = cycle xs })) (longer c.edge j)) i;
        edges = table.put (with_path M.edges c.edge c.vertex (suc j)) u (record { plus_tail = turn_tail i; minus_tail = one_on i });
        vertices = with_points M.vertices c.vertex ps (suc (suc (suc j)));
      })

  -- ---- the last edge

  module _ (j : ℕ) (sound : Sound (path_at M c s ps (suc j))) where
    start_tail : tail (path_at M c s ps (suc j)) (plus (c.edge + 1)) ≡ c.vertex + 1
    unfolding path_at
    start_tail = plus_tail_row (path_at M c s ps (suc j)) (c.edge + 1) _ (first_row M.edges c.edge c.vertex j)

    second_face_free : table.get (path_at M c s ps (suc j)).faces (c.face + 2) ≡ None
    unfolding path_at
    second_face_free = none_above (table.put M.faces (c.face + 1) (record { solid = s; outer = c.loop + 1 })) (c.face + 2) (omega (arith, greatest-put_last M.faces (c.face + 1) (record { solid = s; outer = c.loop + 1 }) above_face))

    second_loop_free : table.get (path_at M c s ps (suc j)).loops (c.loop + 2) ≡ None
    unfolding path_at
    second_loop_free = grind (arith, greatest-put_last, none_above)

    -- the loop from the end of the path on
    turned : Around (path_at M c s ps (suc j)) (c.loop + 1) (c.face + 1) (back c.edge (suc j) ++ plus (c.edge + 1) ∷ later c.edge j)
    turned = record {
      sound = sound;
      at = (around j sound).at ∙ ap (λ xs. Some (record { face = c.face + 1; content = cycle xs })) (canonical_same (out c.edge (suc j) ++ back c.edge (suc j)) (back c.edge (suc j) ++ plus (c.edge + 1) ∷ later c.edge j)
          (record { front = out c.edge (suc j); back = back c.edge (suc j); here = refl; there = ap (λ xs. back c.edge (suc j) ++ xs) (sym (out_first c.edge j)) }) (apart_xs (path_at M c s ps (suc j)) (c.loop + 1) (c.face + 1) (out c.edge (suc j) ++ back c.edge (suc j)) (around j sound)));
    }

    pub last_accepted : n ≡ suc (suc j) → first_false (path_at M c s ps (suc j)) (last_edge c (suc j)) ≡ None
    unfolding code
    last_accepted all = mef_accepted (path_at M c s ps (suc j)) (second_half (c.edge + suc j)) (first_half (c.edge + 1)) (first_half (u j)) (c.face + 2) (c.loop + 2) sound
        (chord_goes (path_at M c s ps (suc j)) (c.loop + 1) (c.face + 1) (g j) (plus (c.edge + 1)) (back c.edge j) (later c.edge j) (u j) (c.face + 2) (c.loop + 2) turned (next_edge_free (suc j)) second_loop_free second_face_free
        (λ e. absurd (omega (arith, e, turn_tail j, start_tail))) (number_fits (u j) (omega arith) (omega (arith, all, goes.left.edges)))
        (number_fits (c.face + 2) (omega arith) (omega (arith, goes.left.faces))) (number_fits (c.loop + 2) (omega arith) (omega (arith, goes.left.loops))))

    -- the lamina over n points
    abbrev pub closed_at : ℕ → Model
    closed_at k = record {
      solids = table.put M.solids s tt;
      faces = table.put (table.put M.faces (c.face + 1) (record { solid = s; outer = c.loop + 1 })) (c.face + 2) (record { solid = s; outer = c.loop + 2 });
      loops = table.put (table.put M.loops (c.loop + 1) (record { face = c.face + 1; content = cycle (map plus (numbers_after c.edge k)) })) (c.loop + 2) (record { face = c.face + 2; content = cycle (canonical (reverse (map minus (numbers_after c.edge k)))) });
      edges = with_ring M.edges c.edge c.vertex k;
      vertices = with_points M.vertices c.vertex ps k;
    }

    -- its two loops, and its edges
    out_is : canonical (plus (u j) ∷ plus (c.edge + 1) ∷ later c.edge j) ≡ map plus (numbers_after c.edge (suc (suc j)))
    out_is = ring_plus c.edge j ∙ sym (plus_halves c.edge (suc (suc j)))

    back_is : canonical (back c.edge (suc j) ++ minus (u j) ∷ []) ≡ canonical (reverse (map minus (numbers_after c.edge (suc (suc j)))))
    back_is = ring_minus c.edge j ∙ ap canonical (sym (minus_halves c.edge (suc (suc j))))

    one_less : suc j ≡ suc (suc j) - 1
    one_less = omega arith

    closes : mef (path_at M c s ps (suc j)) (g j) (plus (c.edge + 1)) (plus (u j)) (c.face + 2) (c.loop + 2) ≡ closed_at (suc (suc j))
    unfolding path_at
    closes = mef_here (path_at M c s ps (suc j)) (c.loop + 1) (c.face + 1) (g j) (plus (c.edge + 1)) (back c.edge j) (later c.edge j) (u j) (c.face + 2) (c.loop + 2) turned (next_edge_free (suc j)) second_loop_free ∙ (λ i. record {
      solids = table.put M.solids s tt;
      faces = table.put (table.put M.faces (c.face + 1) (record { solid = s; outer = c.loop + 1 })) (c.face + 2) (record { solid = solid_is (suc j) i; outer = c.loop + 2 });
      loops = table.put ((put-put M.loops (c.loop + 1) (record { face = c.face + 1; content = path_content c (suc j) }) (record { face = c.face + 1; content = cycle (canonical (plus (u j) ∷ plus (c.edge + 1) ∷ later c.edge j)) }) ∙ ap (λ xs. table.put M.loops (c.loop + 1) (record { face = c.face + 1; content = cycle xs })) out_is) i) (c.loop + 2) (record { face = c.face + 2; content = cycle (back_is i) });
      edges = table.put (with_path M.edges c.edge c.vertex (one_less i)) (u j) (record { plus_tail = turn_tail j i; minus_tail = start_tail i });
      vertices = with_points M.vertices c.vertex ps (suc (suc j));
    })

    pub last_made : length ps ≡ suc (suc j) → effect (path_at M c s ps (suc j)) (last_edge c (suc j)) ≡ lamina_at M c s ps
    unfolding effect code
    last_made all = closes ∙ ap closed_at (sym all)
