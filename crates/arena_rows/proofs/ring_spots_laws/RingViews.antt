-- What a contract sees of rings: the codes that are live and known, and the numbers of the edges.
use Rattle.arena_rows.proofs.Prelude.{◌≡◌, ℕ, Bool, true, List, [], Option, Some, None, is_some, option_map, Result, Ok, Err, OnOk, length, refl, sym, ap, subst, ◌∙◌, arith, true≢false, nat_cmp, vec_capacity, nat_cmp_total, contains_key, same_map, nat_cmp-IsAntisymmetric, RingMap, Spot, spot, or_zero, of_spot, next_of, tail_of, label_of, IsPermutation, plus, minus, Labels, Spots, live, label, ring, labelled, spliced, map_spot, loop_at, with_loop, in_loops, map_in_loops, AreEdgeRings}
use Rattle.std.specs.FinMap.{get-empty}
use Rattle.arena_rows.proofs.ring_spots_laws.RingMaps.{no_codes, spot-empty, known-empty}
use Rattle.arena_rows.proofs.ring_spots_laws.LiveEdges.{no_edges}
use Rattle.arena_rows.proofs.ring_spots_laws.LoopSpots.{spot-loops, known-loops, get-loops, label-loops, ring-loops, live-loops}

-- what holds of the loops of the codes holds of the map that is seen
pub seen_as : (F : Spots → Spots) (rows rows' : List ℕ) (m new : RingMap) → in_loops rows' (spot new) ≡ F (in_loops rows (spot m)) → spot (map_in_loops rows' new) ≡ F (spot (map_in_loops rows m))
seen_as F rows rows' m new e = spot-loops rows' new ∙ e ∙ ap F (sym (spot-loops rows m))

-- the same codes are seen to be known where the same are
pub known_as : (rows rows' : List ℕ) (m new : RingMap) → contains_key new ≡ contains_key m → contains_key (map_in_loops rows' new) ≡ contains_key (map_in_loops rows m)
known_as rows rows' m new e = known-loops rows' new ∙ e ∙ sym (known-loops rows m)

module _ (rows : List ℕ) (m : RingMap) where
  -- a code is seen to be live where it is
  pub seen_live : (q : ℕ) → live (spot (map_in_loops rows m)) q ≡ live (spot m) q
  seen_live q = ap (λ (s : Spots). live s q) (spot-loops rows m) ∙ live-loops rows (spot m) q

  -- a code is seen to be known where it is
  pub seen_known : (q : ℕ) → contains_key (map_in_loops rows m) q ≡ contains_key m q
  seen_known q = ap (λ (k : ℕ → Bool). k q) (known-loops rows m)

  -- a code is seen in its ring
  pub seen_ring : (q : ℕ) → ring (spot (map_in_loops rows m)) q ≡ ring (spot m) q
  seen_ring q = ap (λ (s : Spots). ring s q) (spot-loops rows m) ∙ ring-loops rows (spot m) q

  -- the label of a live code is seen as its loop
  pub seen_label : (q : ℕ) → live (spot m) q ≡ true → label (spot (map_in_loops rows m)) q ≡ loop_at rows (label (spot m) q)
  seen_label q a = ap (λ (s : Spots). label s q) (spot-loops rows m) ∙ label-loops rows (spot m) q a

  -- what is no label is seen as it is
  same_part : (g : Spot → ℕ) → ((s : Spot) → g (with_loop rows s) ≡ g s) → (o : Option Spot) → of_spot g (map_spot (with_loop rows) o) ≡ of_spot g o
  same_part g same None = refl
  same_part g same (Some s) = ap Some (same s)

  -- the successor of a code is seen as it is
  pub seen_next : (q : ℕ) → next_of (map_in_loops rows m) q ≡ next_of m q
  seen_next q = ap (λ (s : Spots). of_spot (λ (t : Spot). t.next) (s q)) (spot-loops rows m) ∙ same_part _ (λ s. refl) (spot m q)

  -- the tail of a code is seen as it is
  pub seen_tail : (q : ℕ) → tail_of (map_in_loops rows m) q ≡ tail_of m q
  seen_tail q = ap (λ (s : Spots). of_spot (λ (t : Spot). t.tail) (s q)) (spot-loops rows m) ∙ same_part _ (λ s. refl) (spot m q)

  -- what is read as the label of a live code is its loop
  pub seen_label_of : (q l : ℕ) → live (spot m) q ≡ true → l ≡ loop_at rows (label (spot m) q) → label_of (map_in_loops rows m) q ≡ Some l
  seen_label_of q l a e = ap (λ (s : Spots). of_spot (λ (t : Spot). t.label) (s q)) (spot-loops rows m) ∙ label-with_loop (spot m q) a e where
    label-with_loop : (o : Option Spot) → is_some o ≡ true → l ≡ loop_at rows (or_zero (of_spot (λ s. s.label) o)) → of_spot (λ s. s.label) (map_spot (with_loop rows) o) ≡ Some l
    label-with_loop None h e = absurd (true≢false (sym h))
    label-with_loop (Some s) h e = ap Some (sym e)

  -- the links that are seen are a permutation where the links are
  pub seen_permutation : IsPermutation m → IsPermutation (map_in_loops rows m)
  seen_permutation P = record {
    live = λ c d e. seen_live d ∙ P.live c d (sym (seen_next c) ∙ e);
    reached = λ d h. let r = P.reached d (sym (seen_live d) ∙ h) in (r.0, seen_next r.0 ∙ r.1);
    one = λ c d e p q. P.one c d e (sym (seen_next c) ∙ p) (sym (seen_next d) ∙ q);
  }

  -- two codes are seen to be known where they were made so
  pub seen_ok : {E : Type 0} (e : ℕ) (r : Result (Unit {0}) E) → OnOk r ((contains_key m (plus e) ≡ true) × (contains_key m (minus e) ≡ true)) → OnOk r ((contains_key (map_in_loops rows m) (plus e) ≡ true) × (contains_key (map_in_loops rows m) (minus e) ≡ true))
  seen_ok e (Ok u) h = (seen_known (plus e) ∙ h.0, seen_known (minus e) ∙ h.1)
  seen_ok e (Err x) h = tt

  -- a ring in another loop
  pub seen-put : (rows' : List ℕ) (new : RingMap) (from l : ℕ) → in_loops rows' (spot new) ≡ labelled (in_loops rows (spot m)) l (ring (spot m) from) → spot (map_in_loops rows' new) ≡ labelled (spot (map_in_loops rows m)) l (ring (spot (map_in_loops rows m)) from)
  seen-put rows' new from l e = seen_as (λ s. labelled s l (ring s from)) rows rows' m new (e ∙ ap (labelled (in_loops rows (spot m)) l) (sym (ring-loops rows (spot m) from)))

  -- two rings in one
  pub seen-joined : (rows' : List ℕ) (new : RingMap) (a b : ℕ) → live (spot m) a ≡ true → in_loops rows' (spot new) ≡ spliced (labelled (in_loops rows (spot m)) (loop_at rows (label (spot m) a)) (ring (spot m) b)) a b →
      spot (map_in_loops rows' new) ≡ spliced (labelled (spot (map_in_loops rows m)) (label (spot (map_in_loops rows m)) a) (ring (spot (map_in_loops rows m)) b)) a b
  seen-joined rows' new a b h e = seen_as (λ s. spliced (labelled s (label s a) (ring s b)) a b) rows rows' m new
      (e ∙ (λ i. spliced (labelled (in_loops rows (spot m)) (sym (label-loops rows (spot m) a h) i) (sym (ring-loops rows (spot m) b) i)) a b))

-- with no code
pub seen-empty : (rows : List ℕ) (m : RingMap) → m ≡ no_codes → map_in_loops rows m ≡ no_codes
seen-empty rows m e = ap (map_in_loops rows) e ∙ same_map nat_cmp_total nat_cmp-IsAntisymmetric (map_in_loops rows no_codes) no_codes (λ q. get-loops rows no_codes q ∙ ap (option_map (map_spot (with_loop rows))) (get-empty nat_cmp q) ∙ sym (get-empty nat_cmp q))

-- where no code is known the nodes have their labels, and no edge is in use
pub no_edge_rings : (m : RingMap) (t : Labels) (words : List ℕ) → m ≡ no_codes → t.loops.items ≡ [] → t.free ≡ 0 → vec_capacity t.loops ≡ 0 → words ≡ [] → AreEdgeRings m t words
no_edge_rings m t words a rows free room c = subst (λ (k : RingMap). AreEdgeRings k t words) (sym a) (record {
  labelled = record {
    rings = record {
      bound = λ q h. absurd (dead q h);
      rings = λ q h. absurd (dead q h);
      mates = λ q h. absurd (dead q h);
    };
    room = record {
      live_known = λ q h. absurd (dead q h);
      room = λ q k. absurd (true≢false (sym k ∙ known-empty q));
      some = λ p. absurd (omega (arith, p, room));
    };
    table = record {
      none = ap (λ (xs : List ℕ). loop_at xs 0) rows;
      frees = [];
      chain = free;
      apart = λ x. omega arith;
      within = λ n i. absurd (omega (arith, i));
      there = λ n z u. absurd (dead u.0 u.1);
      taken = λ n z b f. absurd (omega (arith, b, ap length rows));
    };
    alone = λ q h. absurd (dead q h);
    one = λ q d h. absurd (dead q h);
  };
  edges = no_edges (map_in_loops t.loops.items no_codes) words (seen-empty t.loops.items no_codes refl) c;
}) where
  dead : (q : ℕ) → live (spot no_codes) q ≡ true → ⊥
  dead q h = true≢false (sym h ∙ ap is_some (spot-empty q))
