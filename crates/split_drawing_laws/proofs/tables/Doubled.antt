-- Edges cut one after the other: in the tables all are doubled at once.
use Rattle.split_drawing_laws.proofs.Prelude.{◌≡◌, ℕ, ◌+◌, List, [], ◌∷◌, length, Some, is_some, option_map, refl, sym, ap, ◌∙◌, arith, flat_map, fold, true≢false, Point, Plane, count, IsIn, IsApart, canonical, plus, minus, Table, Model, LoopContent, LoopRow, EdgeRow, lone, cycle, content, tail, Sound, get-map_rows, content_row, count-canonical, map_same, tick_same, Growing, growing, rewritten, rewritten_row, crossing_edges, all_cut, next_cut, with_crossings, CanBegin, Cut, cuts_from, doubled_in, with_two_edges, with_cut_point, doubled_at, edges_doubled, crossings_doubled, none_in}
use Rattle.euler_operators.specs.Table as table
use Rattle.split_drawing_laws.proofs.crossings.OneCut.{maps_agree, cut_rows}
use Rattle.split_drawing_laws.proofs.crossings.Runs.{Crossing, Going, all_gone, cut_at, same_cut, next_model, kept_edge, going_on, goes_now}
use Rattle.split_drawing_laws.proofs.crossings.Whole.{begins}
use Rattle.split_drawing_laws.proofs.tables.Composed.{all_items, once_canonical, folds_agree}

-- ---- no edge cut

no_halves : (hs : List ℕ) → flat_map (doubled_in []) hs ≡ hs
no_halves [] = refl
no_halves (h ∷ hs) = ap (λ t. h ∷ t) (no_halves hs)

none_doubled : (p : Plane) (N : Model) → Sound N → doubled_at p N [] ≡ N
none_doubled p N sound = λ i. record N { loops = map_same (rewritten_row (flat_map (doubled_in []))) N.loops row_stays i } where
  row_stays : (n : ℕ) (row : LoopRow) → table.get N.loops n ≡ Some row → rewritten_row (flat_map (doubled_in [])) n row ≡ row
  row_stays n row at = ap (λ c. record row { content = c }) (content_stays row.content (content_row N n row at)) where
    content_stays : (c : LoopContent) → content N n ≡ c → rewritten (flat_map (doubled_in [])) c ≡ c
    content_stays (lone v) is = refl
    content_stays (cycle hs) is = ap (λ t. cycle (canonical t)) (no_halves hs) ∙ ap cycle (sound.cycles n hs (ap is_some at) is).from_least

-- ---- one edge more

module _ (M : Model) (p : Plane) (sound : Sound M) (g : Growing) (ds : List ℕ) (e : ℕ) (rs : List ℕ) (w : Going M p g ds (e ∷ rs))
    (on : all_cut p (next_cut p g e) rs ≡ edges_doubled p (next_cut p g e) rs) where
  abbrev N : Model
  N = g.model

  abbrev K : Model
  K = (next_cut p g e).model

  abbrev one : Cut
  one = record { edge = e; added = g.taken.edge + 1; vertex = g.taken.vertex + 1 }

  abbrev cs : List Cut
  cs = cuts_from rs (g.taken.edge + 1) (g.taken.vertex + 1)

  then : Going M p (next_cut p g e) (e ∷ ds) rs
  then = going_on M p sound g ds e rs w

  rows : K ≡ doubled_at p N (one ∷ [])
  rows = next_model M p sound g ds e rs w ∙ cut_rows N e (g.taken.edge + 1) (g.taken.vertex + 1) (cut_at N p e) (goes_now M p sound g ds e rs w).can

  -- ---- the loops

  abbrev first : ℕ → LoopRow → LoopRow
  first = rewritten_row (flat_map (doubled_in (one ∷ [])))

  abbrev second : ℕ → LoopRow → LoopRow
  second = rewritten_row (flat_map (doubled_in cs))

  F_sound : Sound (all_cut p (next_cut p g e) rs).model
  F_sound = (all_gone M p sound (next_cut p g e) (e ∷ ds) rs then).cut.sound

  loops_then : (all_cut p (next_cut p g e) rs).model.loops ≡ table.map_rows second (table.map_rows first N.loops)
  unfolding edges_doubled next_cut
  loops_then = ap (λ x. x.model.loops) on ∙ ap (λ X. table.map_rows second X.loops) rows

  row_then : (n : ℕ) (row : LoopRow) → table.get N.loops n ≡ Some row → table.get (all_cut p (next_cut p g e) rs).model.loops n ≡ Some (second n (first n row))
  row_then n row at = ap (λ t. table.get t n) loops_then ∙ get-map_rows second (table.map_rows first N.loops) n ∙ ap (option_map (second n)) (get-map_rows first N.loops n ∙ ap (option_map (first n)) at)

  uncut : count e rs ≡ 0
  uncut = omega (arith, w.apart e, tick_same e)

  fresh : count (g.taken.edge + 1) rs ≡ 0
  fresh = none_in (g.taken.edge + 1) rs (λ i. true≢false (sym (kept_edge M N w.cut.kept (g.taken.edge + 1) (w.crossing (g.taken.edge + 1) (omega (arith, i))).there) ∙ ap is_some (goes_now M p sound g ds e rs w).can.edge_free))

  row_agrees : (n : ℕ) (row : LoopRow) → table.get N.loops n ≡ Some row → second n (first n row) ≡ rewritten_row (flat_map (doubled_in (one ∷ cs))) n row
  row_agrees n row at = ap (λ c. record row { content = c }) (content_agrees row.content refl) where
    apart_then : (hs : List ℕ) → row.content ≡ cycle hs → IsApart (flat_map (doubled_in cs) (canonical (flat_map (doubled_in (one ∷ [])) hs)))
    apart_then hs is x =
        let ys : List ℕ = flat_map (doubled_in cs) (canonical (flat_map (doubled_in (one ∷ [])) hs)) in
        let c = F_sound.cycles n (canonical ys) (ap is_some (row_then n row at)) (content_row (all_cut p (next_cut p g e) rs).model n (second n (first n row)) (row_then n row at)
        ∙ ap (λ c. rewritten (flat_map (doubled_in cs)) (rewritten (flat_map (doubled_in (one ∷ []))) c)) is) in
        omega (arith, c.apart x, count-canonical x ys)

    content_agrees : (c : LoopContent) → row.content ≡ c → rewritten (flat_map (doubled_in cs)) (rewritten (flat_map (doubled_in (one ∷ []))) c) ≡ rewritten (flat_map (doubled_in (one ∷ cs))) c
    content_agrees (lone v) is = refl
    content_agrees (cycle hs) is =
        ap cycle (once_canonical (doubled_in cs) (flat_map (doubled_in (one ∷ [])) hs) (apart_then hs is))
        ∙ ap (λ t. cycle (canonical t)) (all_items rs g.taken.edge g.taken.vertex e uncut fresh hs)

  -- ---- the edges and the vertices

  module _ (x : ℕ) (i : IsIn x rs) where
    crossing_x : Crossing M p x
    crossing_x = then.crossing x i

    uncut_before : count x ds ≡ 0
    uncut_before = omega (arith, i, w.apart x)

    uncut_then : count x (e ∷ ds) ≡ 0
    uncut_then = omega (arith, i, then.apart x)

    plus_stays : tail K (plus x) ≡ tail N (plus x)
    plus_stays = then.cut.plus_tails x crossing_x.there uncut_then ∙ sym (w.cut.plus_tails x crossing_x.there uncut_before)

    minus_stays : tail K (minus x) ≡ tail N (minus x)
    minus_stays = then.cut.minus_tails x crossing_x.there ∙ sym (w.cut.minus_tails x crossing_x.there)

    point_stays : cut_at K p x ≡ cut_at N p x
    point_stays = same_cut M K p (e ∷ ds) sound then.cut x crossing_x uncut_then ∙ sym (same_cut M N p ds sound w.cut x crossing_x uncut_before)

    edges_alike : (t : Table EdgeRow) (c : Cut) → c.edge ≡ x → with_two_edges K t c ≡ with_two_edges N t c
    edges_alike t c is = λ j. table.put (table.put t c.added (record { plus_tail = (ap (λ y. tail K (plus y)) is ∙ plus_stays ∙ ap (λ y. tail N (plus y)) (sym is)) j; minus_tail = c.vertex }))
        c.edge (record { plus_tail = c.vertex; minus_tail = (ap (λ y. tail K (minus y)) is ∙ minus_stays ∙ ap (λ y. tail N (minus y)) (sym is)) j })

    points_alike : (t : Table Point) (c : Cut) → c.edge ≡ x → with_cut_point K p t c ≡ with_cut_point N p t c
    points_alike t c is = ap (table.put t c.vertex) (ap (cut_at K p) is ∙ point_stays ∙ ap (cut_at N p) (sym is))

  edges_then : fold (with_two_edges K) K.edges cs ≡ fold (with_two_edges N) N.edges (one ∷ cs)
  edges_then = folds_agree (with_two_edges K) (with_two_edges N) rs (g.taken.edge + 1) (g.taken.vertex + 1) K.edges edges_alike ∙ ap (λ X. fold (with_two_edges N) X.edges cs) rows

  points_then : fold (with_cut_point K p) K.vertices cs ≡ fold (with_cut_point N p) N.vertices (one ∷ cs)
  points_then = folds_agree (with_cut_point K p) (with_cut_point N p) rs (g.taken.edge + 1) (g.taken.vertex + 1) K.vertices points_alike ∙ ap (λ X. fold (with_cut_point N p) X.vertices cs) rows

  model_then : doubled_at p K cs ≡ doubled_at p N (one ∷ cs)
  model_then = λ i. record {
    solids = ap (λ X. X.solids) rows i;
    faces = ap (λ X. X.faces) rows i;
    loops = (ap (λ X. table.map_rows second X.loops) rows ∙ maps_agree first second (rewritten_row (flat_map (doubled_in (one ∷ cs)))) N.loops row_agrees) i;
    edges = edges_then i;
    vertices = points_then i;
  }

  pub one_more : all_cut p g (e ∷ rs) ≡ edges_doubled p g (e ∷ rs)
  unfolding edges_doubled next_cut
  one_more = on ∙ (λ i. record { model = model_then i; taken = taken_then i }) where
    edge_then : (g.taken.edge + 1) + length rs ≡ g.taken.edge + length (e ∷ rs)
    edge_then = omega arith

    vertex_then : (g.taken.vertex + 1) + length rs ≡ g.taken.vertex + length (e ∷ rs)
    vertex_then = omega arith

    taken_then : record g.taken { edge = (g.taken.edge + 1) + length rs; vertex = (g.taken.vertex + 1) + length rs } ≡ record g.taken { edge = g.taken.edge + length (e ∷ rs); vertex = g.taken.vertex + length (e ∷ rs) }
    taken_then = λ i. record g.taken { edge = edge_then i; vertex = vertex_then i }

-- ---- all of them

pub all_doubled : (M : Model) (p : Plane) → Sound M → (g : Growing) (ds rs : List ℕ) → Going M p g ds rs → all_cut p g rs ≡ edges_doubled p g rs
unfolding edges_doubled
all_doubled M p sound g ds [] w = λ i. record {
  model = sym (none_doubled p g.model w.cut.sound) i;
  taken = record g.taken { edge = no_more g.taken.edge i; vertex = no_more g.taken.vertex i };
} where
  no_more : (n : ℕ) → n ≡ n + 0
  no_more n = omega arith
all_doubled M p sound g ds (e ∷ rs) w = one_more M p sound g ds e rs w (all_doubled M p sound (next_cut p g e) (e ∷ ds) rs (going_on M p sound g ds e rs w))

pub crossings_are_doubled : (M : Model) (s : ℕ) (p : Plane) (t : ℕ) → Sound M → CanBegin M s p t → with_crossings M s p ≡ crossings_doubled M s p
unfolding with_crossings crossings_doubled
crossings_are_doubled M s p t sound begun = all_doubled M p sound (growing M) [] (crossing_edges M p s) (begins M s p t sound begun)
