-- An edge made at two half-edges by the writers of an arena.
use Rattle.low_euler.proofs.Prelude.{◌≡◌, ◌≢◌, ℕ, false, None, is_some, sym, ap, ◌∙◌, Point, HalfEdge, At, code, edge_of, loop_of, before, arc, effect, mev_at, with_before, with_tails, edge_row, edge_of-code, Mev, MevGoes, mev_goes, Store, put_vertex, Accepts, after, LoopsStandApart, IsStanding, IsUnused, with_edge, put_before, make_edge, with_tails_at}
use Rattle.euler_operators.specs.Table as table
use Rattle.low_euler.proofs.steps_laws.LoopsApart.{HasLoop, placed_of, placed-same, loop-same, before-same, never_zero, standing_of, placed-edge, unused_of, loops_E, loops_put, placed-put, loop-put}
use Rattle.low_euler.proofs.steps_laws.Spots.{spots}
use Rattle.low_euler.proofs.steps_laws.EdgeSteps as edge
use Rattle.low_euler.proofs.steps_laws.EdgeSteps.{first_loose, second_loose}
use Rattle.low_euler.proofs.steps_laws.Tails.{loops-tails, loose-tails, half-tails, free-tails}

module _ (s : Store) (from to half : HalfEdge) (v : ℕ) (p : Point) (ok : Accepts s (Mev (At from) (At to) half v p)) where
  open s use {model as M}
  open ok.ready use {sound}
  open spots s (code from) use {h as g, u}
  open spots s (code to) use {h as k}
  open spots s (code half) use {h, m}

  pub goes : MevGoes s.model (code from) (code to) (code half) v p
  goes = mev_goes s.model from to half v p ok.holds

  -- the steps
  abbrev pub moved : Store
  moved = put_vertex (with_tails_at s (arc s.model (code from) (code to)) v) v p

  abbrev edged : Store
  edged = with_edge moved h u v

  abbrev first_in : Store
  first_in = put_before edged g h

  -- what the new edge asks
  edge_none : table.get moved.model.edges (edge_of h) ≡ None
  edge_none = free-tails s (arc M g k) v (edge_of h) goes.edge_free

  pub edge_free : table.has moved.model.edges half.edge ≡ false
  edge_free = ap is_some (ap (table.get moved.model.edges) (sym (edge_of-code half)) ∙ edge_none)

  placed : LoopsStandApart moved.model
  placed = placed-same M moved.model (loops-tails s (arc M g k) v) (half-tails s (arc M g k) v) (placed_of M sound)

  bare : moved.loose ≡ table.empty
  bare = loose-tails s (arc M g k) v ∙ ok.ready.bare

  pub unused : IsUnused moved h
  unused = unused_of moved placed bare h u v edge_none

  pub placed_edged : LoopsStandApart edged.model
  placed_edged = placed-edge moved placed bare h u v edge_none

  loops_are : edged.model.loops ≡ M.loops
  loops_are = loops_E moved placed bare h u v edge_none ∙ loops-tails s (arc M g k) v

  from_in : HasLoop edged.model g
  from_in = loop-same M edged.model loops_are g (sound.stands g goes.g_there)

  -- what stands before the first corner
  pub looped : loop_of M g ≢ 0
  looped = never_zero M (placed_of M sound) g (sound.stands g goes.g_there)

  pub before_from : (n : ℕ) → n ≡ before M g → n ≡ before edged.model g
  before_from n e = e ∙ sym (before-same M edged.model loops_are g)

  pub from_stands : IsStanding edged.model g
  from_stands = standing_of edged.model placed_edged g from_in

  placed_first : LoopsStandApart first_in.model
  placed_first = placed-put edged placed_edged g h from_in (first_loose moved h u v unused)

  to_in : HasLoop first_in.model k
  to_in = loop-put edged placed_edged g h from_in (first_loose moved h u v unused) k (loop-same M edged.model loops_are k (sound.stands k goes.k_there))

  pub to_stands : IsStanding first_in.model k
  to_stands = standing_of first_in.model placed_first k to_in

  loops_made : (make_edge moved (At from) (At to) h u v).model.loops ≡ table.map_rows (with_before k m) (table.map_rows (with_before g h) M.loops)
  loops_made =
      loops_put first_in placed_first k m to_in (second_loose moved h u v unused (At from))
      ∙ ap (table.map_rows (with_before k m)) (loops_put edged placed_edged g h from_in (first_loose moved h u v unused) ∙ ap (table.map_rows (with_before g h)) loops_are)

  loose_made : (make_edge moved (At from) (At to) h u v).loose ≡ s.loose
  unfolding put_before
  loose_made = edge.loose_made moved h u v unused (At from) ∙ loose-tails s (arc M g k) v

  -- together they are mev
  pub made_is : make_edge moved (At from) (At to) h u v ≡ after s (Mev (At from) (At to) half v p)
  unfolding effect mev_at with_edge put_before with_tails_at
  made_is =
      let loops : (make_edge moved (At from) (At to) h u v).model.loops ≡ table.map_rows (with_before k m) (table.map_rows (with_before g h) M.loops) = loops_made in
      let loose : (make_edge moved (At from) (At to) h u v).loose ≡ s.loose = loose_made in
      λ i. record s {
        model = record M {
          loops = loops i;
          edges = table.put (table.map_rows (with_tails (arc M g k) v) M.edges) (edge_of h) (edge_row h u v);
          vertices = table.put M.vertices v p;
        };
        loose = loose i;
      }
