-- The numbers of the edges in use, where an edge comes or goes.
use Rattle.arena_rows.proofs.Prelude.{◌≡◌, ◌≢◌, ℕ, ◌/◌, ◌≤◌, ◌<◌, Bool, true, false, cond, nat_eq, nat_le, ◌&&◌, List, [], length, Some, None, is_some, refl, sym, ap, subst, ◌∙◌, arith, eq-eqb, ne_eqb, true≢false, inl, inr, cases_eq, nat_tests, contains_key, RingMap, spot, ring_of_one, plus, minus, and_false, uses, Spots, live, woken, asleep, labelled, spliced, is_edge, AreEdges, set_tail}
use Rattle.raw_cells.proofs.numbers_laws.Words.{uses_past}
use Rattle.arena_rows.proofs.ring_spots_laws.SpotLaws.{live-labelled, live-spliced, live-set_tail}
use Rattle.arena_rows.proofs.ring_spots_laws.RingMaps.{no_codes, spot-empty, known-empty}

module _ (sp new : Spots) (e : ℕ) where
  -- an edge is in use once its two codes wake
  edge_woken : (a b : ℕ) → e ≤ 1000000 → new ≡ woken (woken sp (plus e) a) (minus e) b → is_edge new e ≡ true
  edge_woken a b limit is =
      let most : nat_le e 1000000 ≡ true = grind (arith, nat_tests) in
      let there : woken (woken sp (plus e) a) (minus e) b (plus e) ≡ Some (ring_of_one (plus e) a) =
      ap (λ t. cond t (Some (ring_of_one (minus e) b)) (woken sp (plus e) a (plus e))) (ne_eqb (plus e) (minus e) (λ q. omega arith))
      ∙ ap (λ t. cond t (Some (ring_of_one (plus e) a)) (sp (plus e))) (eq-eqb (plus e) (plus e) refl) in
      ap (λ (s : Spots). is_edge s e) is ∙ (λ i. most i && is_some (there i))

  -- another edge is in use where it was
  other_woken : (a b : ℕ) → new ≡ woken (woken sp (plus e) a) (minus e) b → (k : ℕ) → k ≢ e → is_edge new k ≡ is_edge sp k
  other_woken a b is k ne = ap (λ (s : Spots). is_edge s k) is ∙ ap (λ o. nat_le k 1000000 && is_some o) (
      ap (λ t. cond t (Some (ring_of_one (minus e) b)) (woken sp (plus e) a (plus k))) (ne_eqb (plus k) (minus e) (λ q. omega arith))
      ∙ ap (λ t. cond t (Some (ring_of_one (plus e) a)) (sp (plus k))) (ne_eqb (plus k) (plus e) (λ q. ne (omega arith))))

  -- an edge is not in use once its two codes sleep
  edge_asleep : new ≡ asleep (asleep sp (plus e)) (minus e) → is_edge new e ≡ false
  edge_asleep is = ap (λ (s : Spots). is_edge s e) is ∙ ap (λ o. nat_le e 1000000 && is_some o) (
      ap (λ t. cond t None (asleep sp (plus e) (plus e))) (ne_eqb (plus e) (minus e) (λ q. omega arith))
      ∙ ap (λ t. cond t None (sp (plus e))) (eq-eqb (plus e) (plus e) refl)) ∙ and_false (nat_le e 1000000)

  -- another edge is in use where it was
  other_asleep : new ≡ asleep (asleep sp (plus e)) (minus e) → (k : ℕ) → k ≢ e → is_edge new k ≡ is_edge sp k
  other_asleep is k ne = ap (λ (s : Spots). is_edge s k) is ∙ ap (λ o. nat_le k 1000000 && is_some o) (
      ap (λ t. cond t None (asleep sp (plus e) (plus k))) (ne_eqb (plus k) (minus e) (λ q. omega arith))
      ∙ ap (λ t. cond t None (sp (plus k))) (ne_eqb (plus k) (plus e) (λ q. ne (omega arith))))

-- where no code is known no edge is in use
pub no_edges : (m : RingMap) (words : List ℕ) → m ≡ no_codes → words ≡ [] → AreEdges m words
no_edges m words a b = subst (λ (k : RingMap). AreEdges k words) (sym a) (subst (AreEdges no_codes) (sym b) (record {
  live = λ e. uses_past [] e (omega arith) ∙ sym (ap (λ o. nat_le e 1000000 && is_some o) (spot-empty (plus e)) ∙ and_false (nat_le e 1000000));
  room = λ e l h. absurd (true≢false (sym h ∙ known-empty (plus e)));
}))

module _ (m : RingMap) (words : List ℕ) (A : AreEdges m words) where
  -- the same codes are live and known
  edges_alike : (new : RingMap) → ((c : ℕ) → live (spot new) c ≡ live (spot m) c) → contains_key new ≡ contains_key m → AreEdges new words
  edges_alike new same known = record {
    live = λ e. A.live e ∙ sym (ap (λ b. nat_le e 1000000 && b) (same (plus e)));
    room = λ e l h. A.room e l (sym (ap (λ (k : ℕ → Bool). k (plus e)) known) ∙ h);
  }

  -- the edges stay in use where a ring gets a label
  pub edges_labelled : (new : RingMap) (l : ℕ) (hs : List ℕ) → spot new ≡ labelled (spot m) l hs → contains_key new ≡ contains_key m → AreEdges new words
  edges_labelled new l hs is = edges_alike new (λ c. ap (λ (s : Spots). live s c) is ∙ live-labelled (spot m) l hs c)

  -- so they do where a ring is cut and a part gets a label
  pub edges_cut : (new : RingMap) (a b l : ℕ) (hs : List ℕ) → spot new ≡ labelled (spliced (spot m) a b) l hs → contains_key new ≡ contains_key m → AreEdges new words
  edges_cut new a b l hs is = edges_alike new (λ c. ap (λ (s : Spots). live s c) is ∙ live-labelled (spliced (spot m) a b) l hs c ∙ live-spliced (spot m) a b c)

  -- so they do where a ring gets a label and is joined to another
  pub edges_joined : (new : RingMap) (a b l : ℕ) (hs : List ℕ) → spot new ≡ spliced (labelled (spot m) l hs) a b → contains_key new ≡ contains_key m → AreEdges new words
  edges_joined new a b l hs is = edges_alike new (λ c. ap (λ (s : Spots). live s c) is ∙ live-spliced (labelled (spot m) l hs) a b c ∙ live-labelled (spot m) l hs c)

  -- so they do where a half-edge starts elsewhere
  pub edges_set_tail : (new : RingMap) (h t : ℕ) → spot new ≡ set_tail (spot m) h t → contains_key new ≡ contains_key m → AreEdges new words
  edges_set_tail new h t is = edges_alike new (λ c. ap (λ (s : Spots). live s c) is ∙ live-set_tail (spot m) h t c)

  -- edge e comes or goes, and its number with it
  edges_turned : (new : RingMap) (after : List ℕ) (e : ℕ) (b : Bool) → is_edge (spot new) e ≡ b → ((k : ℕ) → k ≢ e → is_edge (spot new) k ≡ is_edge (spot m) k) → contains_key new ≡ contains_key m →
      ((q : ℕ) → uses after q ≡ cond (nat_eq q e) b (uses words q)) → length after ≡ length words → AreEdges new after
  edges_turned new after e b here others known is len = record {
    live = λ k. elim (cases_eq k e) [
      | inl same ↦ is k ∙ ap (λ t. cond t b (uses words k)) (eq-eqb k e same) ∙ sym (ap (is_edge (spot new)) same ∙ here)
      | inr ne ↦ is k ∙ ap (λ t. cond t b (uses words k)) (ne_eqb k e ne) ∙ A.live k ∙ sym (others k ne)
    ];
    room = λ k l h. let below : k / 64 < length words = A.room k l (sym (ap (λ (p : ℕ → Bool). p (plus k)) known) ∙ h) in omega (arith, below, len);
  }

  -- the number of an edge that wakes comes
  pub edges_woken : (new : RingMap) (after : List ℕ) (e a b : ℕ) → e ≤ 1000000 → spot new ≡ woken (woken (spot m) (plus e) a) (minus e) b → contains_key new ≡ contains_key m →
      ((q : ℕ) → uses after q ≡ cond (nat_eq q e) true (uses words q)) → length after ≡ length words → AreEdges new after
  edges_woken new after e a b limit is = edges_turned new after e true (edge_woken (spot m) (spot new) e a b limit is) (other_woken (spot m) (spot new) e a b is)

  -- the number of an edge that goes to sleep goes
  pub edges_asleep : (new : RingMap) (after : List ℕ) (e : ℕ) → spot new ≡ asleep (asleep (spot m) (plus e)) (minus e) → contains_key new ≡ contains_key m →
      ((q : ℕ) → uses after q ≡ cond (nat_eq q e) false (uses words q)) → length after ≡ length words → AreEdges new after
  edges_asleep new after e is = edges_turned new after e false (edge_asleep (spot m) (spot new) e is) (other_asleep (spot m) (spot new) e is)

  module _ (after : List ℕ) (same : (q : ℕ) → uses after q ≡ uses words q) (more : length words ≤ length after) where
    -- there is room for more numbers, and then for the nodes of an edge
    pub edges_more : AreEdges m after
    edges_more = record {
      live = λ e. same e ∙ A.live e;
      room = λ e l h. let below : e / 64 < length words = A.room e l h in omega (arith, below, more);
    }

    -- the numbers stay where an edge gets its nodes
    pub edges_roomed : (new : RingMap) (n : ℕ) → n / 64 < length after → spot new ≡ spot m → ((q : ℕ) → q ≢ plus n → q ≢ minus n → contains_key new q ≡ contains_key m q) → AreEdges new after
    edges_roomed new n there spots only = record {
      live = λ e. edges_more.live e ∙ sym (ap (λ (s : Spots). is_edge s e) spots);
      room = λ e l h. elim (cases_eq e n) [
        | inl is ↦ omega (arith, is, there)
        | inr ne ↦ edges_more.room e l (sym (only (plus e) (λ q. ne (omega arith)) (λ q. omega arith)) ∙ h)
      ];
    }
