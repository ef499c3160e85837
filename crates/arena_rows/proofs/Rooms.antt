-- The store where rows have been added, or nodes.
use Rattle.arena_rows.proofs.Prelude.{nat_tests, and_from, Point, FaceCell, LoopCell, get, row_at, ArenaRows, Store, Spots, label, store_of, RowsAreTied, Fits, AreLoops, loop_row, face_row, solid_row, map_row, within, has_room, HasGrown, edges_end, edge_room, ℕ, ◌<◌, nat_le, nat_lt, Result, Ok, Err, OnOk, ◌≡◌, ◌-◌, ◌≤◌, Bool, true, List, length, Option, is_some, refl, sym, ap, subst, ◌∙◌, arith, Kind, plus, minus, tabulate, and_first, and_second}
use Rattle.arena_rows.proofs.Views.{table_of-same}
use Rattle.arena_rows.proofs.Writes.{tied_faces, tied_loops, tied_vertices}
use Rattle.arena_rows.proofs.ring_spots_laws.SpotTables.{edge_has_room}

within_more : (n k m : ℕ) → k ≤ m → within n (k - 1) ≡ true → within n (m - 1) ≡ true
within_more n k m l h = grind (arith, nat_tests)

within_is : (n k : ℕ) → 1 ≤ n → n < k → within n (k - 1) ≡ true
within_is n k l h = grind (arith, nat_tests)

pub fits-same : {X : Type 0} (rows new : List (Option X)) → Fits rows → ((q : ℕ) → row_at new q ≡ row_at rows q) → length new ≤ 1000001 → Fits new
fits-same rows new fits same limit = record { no_zero = same 0 ∙ fits.no_zero; within = limit }

pub rooms_ok : {E : Type 0} (r : Result (Unit {0}) E) (n last k : ℕ) → 1 ≤ n → n ≤ last → OnOk r (last < k) → OnOk r (within n (k - 1) ≡ true)
rooms_ok (Ok u) n last k least from h = within_is n k least (omega (arith, from, h))
rooms_ok (Err e) n last k least from h = tt

-- the numbers of each kind have their room still
kinds_kept : (s t : Store) → ((n : ℕ) → has_room s Kind.Solid n ≡ true → has_room t Kind.Solid n ≡ true) → ((n : ℕ) → has_room s Kind.Face n ≡ true → has_room t Kind.Face n ≡ true) → ((n : ℕ) → has_room s Kind.Loop n ≡ true → has_room t Kind.Loop n ≡ true) →
    ((n : ℕ) → has_room s Kind.Edge n ≡ true → has_room t Kind.Edge n ≡ true) → ((n : ℕ) → has_room s Kind.Vertex n ≡ true → has_room t Kind.Vertex n ≡ true) → (kind : Kind) (n : ℕ) → has_room s kind n ≡ true → has_room t kind n ≡ true
kinds_kept s t solids faces loops edges vertices Kind.Solid = solids
kinds_kept s t solids faces loops edges vertices Kind.Face = faces
kinds_kept s t solids faces loops edges vertices Kind.Loop = loops
kinds_kept s t solids faces loops edges vertices Kind.Edge = edges
kinds_kept s t solids faces loops edges vertices Kind.Vertex = vertices

module _ (arena : ArenaRows) (tied : RowsAreTied arena) where
  abbrev store : Store
  store = store_of arena

  module _ (new : List (Option Bool)) (same : (q : ℕ) → row_at new q ≡ row_at arena.solids q) (grows : length arena.solids ≤ length new) (limit : length new ≤ 1000001) where
    pub grown_solids : HasGrown store (store_of (record arena { solids = new }))
    grown_solids = record {
      model = λ i. record store.model { solids = table_of-same solid_row solid_row arena.solids new (λ q. ap (map_row solid_row) (same q)) i };
      loose = refl;
      kept = kinds_kept store (store_of (record arena { solids = new })) (λ n. within_more n (length arena.solids) (length new) grows) (λ n h. h) (λ n h. h) (λ n h. h) (λ n h. h);
    }

  module _ (new : List (Option FaceCell)) (same : (q : ℕ) → row_at new q ≡ row_at arena.faces q) (grows : length arena.faces ≤ length new) (limit : length new ≤ 1000001) where
    pub more_faces : RowsAreTied (record arena { faces = new })
    more_faces = tied_faces arena tied new (fits-same arena.faces new tied.faces_fit same limit)

    pub grown_faces : HasGrown store (store_of (record arena { faces = new }))
    grown_faces = record {
      model = λ i. record store.model { faces = table_of-same face_row face_row arena.faces new (λ q. ap (map_row face_row) (same q)) i };
      loose = refl;
      kept = kinds_kept store (store_of (record arena { faces = new })) (λ n h. h) (λ n. within_more n (length arena.faces) (length new) grows) (λ n h. h) (λ n h. h) (λ n h. h);
    }

  module _ (new : List (Option LoopCell)) (same : (q : ℕ) → row_at new q ≡ row_at arena.loops q) (grows : length arena.loops ≤ length new) (limit : length new ≤ 1000001) where
    loops_same_rows : AreLoops arena.spots new
    loops_same_rows = record {
      entries = λ q cell at. tied.loops_tied.entries q cell (sym (same q) ∙ at);
      stands = λ h a n. let s = tied.loops_tied.stands h a n in record { face = s.face; entry = s.entry; here = same (label arena.spots h) ∙ s.here; item = s.item };
    }

    pub more_loops : RowsAreTied (record arena { loops = new })
    more_loops = tied_loops arena tied new (fits-same arena.loops new tied.loops_fit same limit) loops_same_rows

    pub grown_loops : HasGrown store (store_of (record arena { loops = new }))
    grown_loops = record {
      model = λ i. record store.model { loops = table_of-same (loop_row arena.spots) (loop_row arena.spots) arena.loops new (λ q. ap (map_row (loop_row arena.spots)) (same q)) i };
      loose = refl;
      kept = kinds_kept store (store_of (record arena { loops = new })) (λ n h. h) (λ n h. h) (λ n. within_more n (length arena.loops) (length new) grows) (λ n h. h) (λ n h. h);
    }

  module _ (new : List (Option Point)) (same : (q : ℕ) → row_at new q ≡ row_at arena.vertices q) (grows : length arena.vertices ≤ length new) (limit : length new ≤ 1000001) where
    pub more_vertices : RowsAreTied (record arena { vertices = new })
    more_vertices = tied_vertices arena tied new (fits-same arena.vertices new tied.vertices_fit same limit) (λ v p at. tied.points v p (sym (same v) ∙ at))

    pub grown_vertices : HasGrown store (store_of (record arena { vertices = new }))
    grown_vertices = record {
      model = λ i. record store.model { vertices = table_of-same (λ p. p) (λ p. p) arena.vertices new (λ q. ap (map_row (λ p. p)) (same q)) i };
      loose = refl;
      kept = kinds_kept store (store_of (record arena { vertices = new })) (λ n h. h) (λ n h. h) (λ n h. h) (λ n h. h) (λ n. within_more n (length arena.vertices) (length new) grows);
    }

  module _ (sp' : Spots) (known' : ℕ → Bool) (spots : sp' ≡ arena.spots) (keeps : (c : ℕ) → arena.known c ≡ true → known' c ≡ true) where
    pub more_edges : RowsAreTied (record arena { spots = sp'; known = known' })
    more_edges = subst (λ s. RowsAreTied (record arena { spots = s; known = known' })) (sym spots) (record { rings = tied.rings; no_edge = tied.no_edge; loops_tied = tied.loops_tied; solids_fit = tied.solids_fit; faces_fit = tied.faces_fit; loops_fit = tied.loops_fit; vertices_fit = tied.vertices_fit; points = tied.points })

    room_kept : (e : ℕ) → is_some (get (tabulate (edge_room arena.known) edges_end) e) ≡ true → is_some (get (tabulate (edge_room known') edges_end) e) ≡ true
    room_kept e h =
        let r = sym (edge_has_room arena.known e) ∙ h in
        let rest = and_second (nat_le e 1000000) _ r in
        let keys = and_second (nat_lt 0 e) _ rest in
        edge_has_room known' e ∙ and_from (nat_le e 1000000) _ (and_first (nat_le e 1000000) _ r)
        (and_from (nat_lt 0 e) _ (and_first (nat_lt 0 e) _ rest) (and_from (known' (plus e)) _ (keeps (plus e) (and_first (arena.known (plus e)) _ keys)) (keeps (minus e) (and_second (arena.known (plus e)) _ keys))))

    pub grown_edges : HasGrown store (store_of (record arena { spots = sp'; known = known' }))
    grown_edges = record {
      model = λ i. (store_of (record arena { spots = spots i; known = known' })).model;
      loose = λ i. (store_of (record arena { spots = spots i; known = known' })).loose;
      kept = kinds_kept store (store_of (record arena { spots = sp'; known = known' })) (λ n h. h) (λ n h. h) (λ n h. h) room_kept (λ n h. h);
    }

pub edges_ok : {E : Type 0} (known : ℕ → Bool) (r : Result (Unit {0}) E) (e : ℕ) → 1 ≤ e → e ≤ 1000000 → OnOk r ((known (plus e) ≡ true) × (known (minus e) ≡ true)) → OnOk r (is_some (get (tabulate (edge_room known) edges_end) e) ≡ true)
edges_ok known (Ok u) e l m h =
    let p : nat_le e 1000000 ≡ true = grind (arith, nat_tests) in
    let q : nat_lt 0 e ≡ true = grind (arith, nat_tests) in
    edge_has_room known e ∙ and_from _ _ p (and_from _ _ q (and_from _ _ h.0 h.1))
edges_ok known (Err x) e l m h = tt
