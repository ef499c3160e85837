-- What mev at one corner and mef make of a sound model of which one loop is known.
use Rattle.sweeps_laws.proofs.Prelude.{cond, suc, zero, ◌≡◌, ◌≢◌, ℕ, List, [], ◌∷◌, ◌++◌, None, IsTrue, refl, sym, ap, ◌∙◌, arith, Point, IsInRange, At, count, IsIn, IsApart, canonical, rotate_to, upto, onward, insert_before, edge_of, plus, minus, half, Model, EdgeRow, cycle, tail, loop_of, face_of, solid_of, cycle_of, arc, is_number, face_at, first_false, effect, mev_at, mef, with_before, with_tails, edge_row, count-append, tick_same, tick_other, count-canonical, rotate_at, rotate_to_head, canonical_same, upto_itself, onward_itself, upto_once, count-insert_before, apart_front, nat_eq_itself, plus_row, minus_row, code-half, mate_plus, plus_other, map_one, map_same, map-put, put-put, in-holds, not_held, other_loop, Mev, Mef, where_held_none, where_held_there, edge_row_plus, both_in, MevGoes, mev_accepted, loops-mef, MefGoes, mef_accepted, Around, face_is, canonical_apart, apart_xs, loop_is, half_is, cycle_is, rotated_canonical}
use Rattle.euler_operators.specs.Rings as rings
use Rattle.euler_operators.specs.Table as table

pub arc_itself : (next : ℕ → ℕ) (g n : ℕ) → rings.arc next g g n ≡ []
arc_itself next g zero = refl
arc_itself next g (suc n) = ap (λ b. cond b [] (g ∷ rings.arc next (next g) g n)) (nat_eq_itself g)

pub arc_none : (M : Model) (g : ℕ) → arc M g g ≡ []
unfolding arc
arc_none M g = arc_itself _ g _

pub edge_plus : (e : ℕ) → edge_of (plus e) ≡ e
edge_plus e = (plus_row e).0

-- the model with another cycle in loop l, one more edge and one more vertex
abbrev pub with_spur : Model → ℕ → ℕ → List ℕ → ℕ → EdgeRow → ℕ → Point → Model
with_spur M l f xs u row v p = record M {
  loops = table.put M.loops l (record { face = f; content = cycle (canonical xs) });
  edges = table.put M.edges u row;
  vertices = table.put M.vertices v p;
}

-- mev at one corner: the new edge stands before g, there and back
module _ (M : Model) (l f : ℕ) (ps qs : List ℕ) (g u v : ℕ) (p : Point) (a : Around M l f (ps ++ g ∷ qs)) (edge_free : table.get M.edges u ≡ None) where
  abbrev ys : List ℕ
  ys = canonical (ps ++ g ∷ qs)

  g_in : IsIn g (ps ++ g ∷ qs)
  g_in = omega (arith, count-append g ps (g ∷ qs), tick_same g)

  g_here : IsIn g (canonical (ps ++ g ∷ qs))
  g_here = omega (arith, g_in, count-canonical g (ps ++ g ∷ qs))

  none_new : (x : ℕ) → edge_of x ≡ u → count x (canonical (ps ++ g ∷ qs)) ≡ 0
  none_new x e = not_held M a.sound x (ap (table.get M.edges) e ∙ edge_free) l (record { face = f; content = cycle (canonical (ps ++ g ∷ qs)) }) a.at

  put_in_loop : (x : ℕ) → table.map_rows (with_before g x) M.loops ≡ table.put M.loops l (record { face = f; content = cycle (canonical (insert_before g x (canonical (ps ++ g ∷ qs)))) })
  put_in_loop x =
      map_one (with_before g x) M.loops l (record { face = f; content = cycle (canonical (ps ++ g ∷ qs)) }) a.at
      (λ q row ne at. where_held_none g (λ hs. cycle (canonical (insert_before g x hs))) q row (other_loop M a.sound g q row (λ e. ne (e ∙ loop_is M l f (ps ++ g ∷ qs) a g g_in)) at))
      ∙ ap (table.put M.loops l) (where_held_there g (λ hs. cycle (canonical (insert_before g x hs))) l (record { face = f; content = cycle (canonical (ps ++ g ∷ qs)) }) (in-holds g (cycle (canonical (ps ++ g ∷ qs))) g_here))

  turned_apart : IsApart (plus u ∷ minus u ∷ g ∷ (qs ++ ps))
  turned_apart =
      let base : IsApart (g ∷ (qs ++ ps)) = λ x. omega (arith, apart_xs M l f (ps ++ g ∷ qs) a x, count-append x ps (g ∷ qs), count-append x qs ps) in
      let same : (x : ℕ) → count x (g ∷ (qs ++ ps)) ≡ count x (canonical (ps ++ g ∷ qs)) = λ x. omega (arith, count-canonical x (ps ++ g ∷ qs), count-append x ps (g ∷ qs), count-append x qs ps) in
      let no_m : count (minus u) (g ∷ (qs ++ ps)) ≡ 0 = same (minus u) ∙ none_new (minus u) (minus_row u).0 in
      let no_h : count (plus u) (minus u ∷ g ∷ (qs ++ ps)) ≡ 0 = omega (arith, same (plus u), none_new (plus u) (plus_row u).0, tick_other (plus u) (minus u) (plus_other u)) in
      apart_front (plus u) (minus u ∷ g ∷ (qs ++ ps)) no_h (apart_front (minus u) (g ∷ (qs ++ ps)) no_m base)

  turned : rotate_to g (canonical (ps ++ g ∷ qs)) ≡ g ∷ (qs ++ ps)
  turned = rotated_canonical M l f (ps ++ g ∷ qs) a g g_in
      ∙ rotate_at g ps qs (omega (arith, apart_xs M l f (ps ++ g ∷ qs) a g, count-append g ps (g ∷ qs), tick_same g))

  items_are : canonical (insert_before g (minus u) (canonical (insert_before g (plus u) (canonical (ps ++ g ∷ qs))))) ≡ canonical (ps ++ plus u ∷ minus u ∷ g ∷ qs)
  items_are =
      both_in (canonical (ps ++ g ∷ qs)) (canonical_apart M l f (ps ++ g ∷ qs) a) (plus u) (minus u) g g g_here g_here (plus_other u) (none_new (plus u) (plus_row u).0) (none_new (minus u) (minus_row u).0)
      ∙ (λ i. canonical ((plus u ∷ upto_itself g (canonical (ps ++ g ∷ qs)) g_here i) ++ minus u ∷ (onward_itself g (canonical (ps ++ g ∷ qs)) g_here ∙ turned) i))
      ∙ canonical_same (plus u ∷ minus u ∷ g ∷ (qs ++ ps)) (ps ++ plus u ∷ minus u ∷ g ∷ qs) (record { front = plus u ∷ minus u ∷ g ∷ qs; back = ps; here = refl; there = refl }) turned_apart

  still_here : IsIn g (canonical (insert_before g (plus u) (canonical (ps ++ g ∷ qs))))
  still_here = omega (arith, g_here, count-canonical g (insert_before g (plus u) (canonical (ps ++ g ∷ qs))), count-insert_before g g (plus u) (canonical (ps ++ g ∷ qs)) g_here)

  loops_are : table.map_rows (with_before g (minus u)) (table.map_rows (with_before g (plus u)) M.loops) ≡ table.put M.loops l (record { face = f; content = cycle (canonical (ps ++ plus u ∷ minus u ∷ g ∷ qs)) })
  loops_are =
      ap (table.map_rows (with_before g (minus u))) (put_in_loop (plus u))
      ∙ map-put (with_before g (minus u)) M.loops l (record { face = f; content = cycle (canonical (insert_before g (plus u) (canonical (ps ++ g ∷ qs)))) })
      ∙ ap (λ t. table.put t l (with_before g (minus u) l (record { face = f; content = cycle (canonical (insert_before g (plus u) (canonical (ps ++ g ∷ qs)))) }))) (put_in_loop (minus u))
      ∙ put-put M.loops l _ _
      ∙ ap (table.put M.loops l) (where_held_there g (λ hs. cycle (canonical (insert_before g (minus u) hs))) l (record { face = f; content = cycle (canonical (insert_before g (plus u) (canonical (ps ++ g ∷ qs)))) })
      (in-holds g (cycle (canonical (insert_before g (plus u) (canonical (ps ++ g ∷ qs))))) still_here)
      ∙ ap (λ xs. record { face = f; content = cycle xs }) items_are)

  edges_are : table.put (table.map_rows (with_tails (arc M g g) v) M.edges) (edge_of (plus u)) (edge_row (plus u) (tail M g) v) ≡ table.put M.edges u (record { plus_tail = tail M g; minus_tail = v })
  edges_are = grind (arith, arc_none, edge_plus, edge_row_plus, map_same)

  pub mev_here : mev_at M g g (plus u) v p ≡ with_spur M l f (ps ++ plus u ∷ minus u ∷ g ∷ qs) u (record { plus_tail = tail M g; minus_tail = v }) v p
  unfolding mev_at
  mev_here = grind (arith, loops_are, mate_plus, edges_are)

  pub mev_does : effect M (Mev (At (half g)) (At (half g)) (half (plus u)) v p) ≡ with_spur M l f (ps ++ plus u ∷ minus u ∷ g ∷ qs) u (record { plus_tail = tail M g; minus_tail = v }) v p
  unfolding effect
  mev_does = (λ i. mev_at M (code-half g i) (code-half g i) (code-half (plus u) i) v p) ∙ mev_here

  pub spur_goes : table.get M.vertices v ≡ None → IsTrue (is_number u) → IsTrue (is_number v) → IsInRange p → MevGoes M g g (plus u) v p
  spur_goes vertex_free edge_fits vertex_fits point_fits = record {
    g_there = half_is M l f (ps ++ g ∷ qs) a g g_in;
    k_there = half_is M l f (ps ++ g ∷ qs) a g g_in;
    edge_free = ap (table.get M.edges) (edge_plus u) ∙ edge_free;
    vertex_free = vertex_free;
    one_tail = refl;
    edge_fits = ap is_number (edge_plus u) ∙ edge_fits;
    vertex_fits = vertex_fits;
    point_fits = point_fits;
  }

  pub mev_fits : table.get M.vertices v ≡ None → IsTrue (is_number u) → IsTrue (is_number v) → IsInRange p → first_false M (Mev (At (half g)) (At (half g)) (half (plus u)) v p) ≡ None
  mev_fits vertex_free edge_fits vertex_fits point_fits = grind (arith, code-half, spur_goes, mev_accepted)

-- the model with loop l parted in two, and one more edge and face
abbrev pub with_chord : Model → ℕ → ℕ → List ℕ → ℕ → EdgeRow → ℕ → ℕ → List ℕ → Model
with_chord M l f xs t row s r ys = record M {
  faces = table.put M.faces s (record { solid = solid_of M f; outer = r });
  loops = table.put (table.put M.loops l (record { face = f; content = cycle (canonical xs) })) r (record { face = s; content = cycle (canonical ys) });
  edges = table.put M.edges t row;
}

-- mef between g and k of one loop
module _ (M : Model) (l f : ℕ) (g k : ℕ) (ps qs : List ℕ) (t s r : ℕ) (a : Around M l f ((g ∷ ps) ++ k ∷ qs)) (edge_free : table.get M.edges t ≡ None) (loop_free : table.get M.loops r ≡ None) where
  first_in : IsIn g ((g ∷ ps) ++ k ∷ qs)
  first_in = omega (arith, tick_same g)

  second_in : IsIn k ((g ∷ ps) ++ k ∷ qs)
  second_in = omega (arith, count-append k (g ∷ ps) (k ∷ qs), tick_same k)

  parts : (upto g k (cycle_of M g) ≡ g ∷ ps) × (onward g k (cycle_of M g) ≡ k ∷ qs)
  parts = let w = upto_once g k (canonical ((g ∷ ps) ++ k ∷ qs)) (g ∷ ps) qs (canonical_apart M l f ((g ∷ ps) ++ k ∷ qs) a)
      (rotated_canonical M l f ((g ∷ ps) ++ k ∷ qs) a g first_in ∙ rotate_to_head g (ps ++ k ∷ qs)) in
      let c : cycle_of M g ≡ canonical ((g ∷ ps) ++ k ∷ qs) = cycle_is M l f ((g ∷ ps) ++ k ∷ qs) a g first_in in
      (ap (upto g k) c ∙ w.0, ap (onward g k) c ∙ w.1)

  chord_loops : (mef M g k (plus t) s r).loops ≡ table.put (table.put M.loops l (record { face = f; content = cycle (canonical (plus t ∷ k ∷ qs)) })) r (record { face = s; content = cycle (canonical ((g ∷ ps) ++ minus t ∷ [])) })
  chord_loops = let at : loop_of M g ≡ l = loop_is M l f ((g ∷ ps) ++ k ∷ qs) a g first_in in
      loops-mef M a.sound g k (plus t) s r (half_is M l f ((g ∷ ps) ++ k ∷ qs) a g first_in) (ap (table.get M.edges) (edge_plus t) ∙ edge_free) loop_free
      ∙ (λ i. table.put (table.put M.loops (at i) (record { face = (ap (face_of M) at ∙ face_is M l f ((g ∷ ps) ++ k ∷ qs) a) i; content = cycle (canonical (plus t ∷ parts.1 i)) })) r
      (record { face = s; content = cycle (canonical (parts.0 i ++ mate_plus t i ∷ [])) }))

  pub mef_here : mef M g k (plus t) s r ≡ with_chord M l f (plus t ∷ k ∷ qs) t (record { plus_tail = tail M g; minus_tail = tail M k }) s r ((g ∷ ps) ++ minus t ∷ [])
  unfolding mef
  mef_here = let at : face_at M g ≡ f = ap (face_of M) (loop_is M l f ((g ∷ ps) ++ k ∷ qs) a g first_in) ∙ face_is M l f ((g ∷ ps) ++ k ∷ qs) a in λ i. record M {
    faces = table.put M.faces s (record { solid = solid_of M (at i); outer = r });
    loops = chord_loops i;
    edges = table.put M.edges (edge_plus t i) (edge_row_plus t (tail M g) (tail M k) i);
  }

  pub mef_does : effect M (Mef (half g) (half k) (half (plus t)) s r) ≡ with_chord M l f (plus t ∷ k ∷ qs) t (record { plus_tail = tail M g; minus_tail = tail M k }) s r ((g ∷ ps) ++ minus t ∷ [])
  unfolding effect
  mef_does = (λ i. mef M (code-half g i) (code-half k i) (code-half (plus t) i) s r) ∙ mef_here

  pub chord_goes : table.get M.faces s ≡ None → tail M g ≢ tail M k → IsTrue (is_number t) → IsTrue (is_number s) → IsTrue (is_number r) → MefGoes M g k (plus t) s r
  chord_goes face_free ends_apart edge_fits face_fits loop_fits = record {
    g_there = half_is M l f ((g ∷ ps) ++ k ∷ qs) a g first_in;
    k_there = half_is M l f ((g ∷ ps) ++ k ∷ qs) a k second_in;
    edge_free = ap (table.get M.edges) (edge_plus t) ∙ edge_free;
    face_free = face_free;
    loop_free = loop_free;
    one_loop = loop_is M l f ((g ∷ ps) ++ k ∷ qs) a k second_in ∙ sym (loop_is M l f ((g ∷ ps) ++ k ∷ qs) a g first_in);
    ends_apart = ends_apart;
    edge_fits = ap is_number (edge_plus t) ∙ edge_fits;
    face_fits = face_fits;
    loop_fits = loop_fits;
  }

  pub mef_fits : table.get M.faces s ≡ None → tail M g ≢ tail M k → IsTrue (is_number t) → IsTrue (is_number s) → IsTrue (is_number r) → first_false M (Mef (half g) (half k) (half (plus t)) s r) ≡ None
  mef_fits face_free ends_apart edge_fits face_fits loop_fits = grind (arith, code-half, chord_goes, mef_accepted)
