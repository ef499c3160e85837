-- The tables of loops, edges and loose rings, where the nodes change.
use Rattle.arena_rows.proofs.ring_spots_laws.SpotTables.{loose_put}
use Rattle.arena_rows.proofs.Prelude.{◌≡◌, ◌≢◌, ℕ, ◌-◌, Bool, true, cond, nat_eq, List, [], ◌∷◌, length, Option, Some, None, is_some, refl, sym, ap, subst, ◌∙◌, arith, true≢false, inl, inr, eqb_tells, same_Some, count, IsIn, head_or, LoopCell, StoredContent, Empty, Lone, At, Table, get, put, tabulate, get-put, same_table, row_at, ArenaRows, map_row, table_of, Store, loosened, Spots, codes, live, label, ring, AreRings, store_of, RowsAreTied, Fits, stored_content, loop_row, HasEntry, AreLoops, StandsAt, edge_row, loose_row, cycle, EdgeRow, LoopRow}
use Rattle.arena_rows.proofs.Views.{get-table_of}
use Rattle.arena_rows.proofs.Writes.{loops_told}
use Rattle.arena_rows.proofs.ring_spots_laws.SpotLaws.{ring_same}

loosened_is : (hs : List ℕ) (t : Table (List ℕ)) (c : ℕ) → IsIn c hs → loosened hs t ≡ put t (head_or 0 hs) hs
loosened_is [] t c i = absurd (omega arith)
loosened_is (h ∷ hs) t c i = refl

pub loose_added : (sp new : Spots) → AreRings sp → (N : AreRings new) → (c : ℕ) (hs : List ℕ) → (a : live new c ≡ true) → (z : label new c ≡ 0) → ring new c ≡ hs → ((k : ℕ) → IsIn k hs → loose_row sp k ≡ None) → ((k : ℕ) → count k hs ≡ 0 → loose_row new k ≡ loose_row sp k) →
    tabulate (loose_row new) codes ≡ loosened hs (tabulate (loose_row sp) codes)
loose_added sp new R N c hs a z e inside outside = loose_put sp new R N c hs a z e inside outside ∙ sym (loosened_is hs (tabulate (loose_row sp) codes) c (subst (IsIn c) e (N.rings c a).item))

-- ---- loops

pub content_alike : (sp new : Spots) (l : ℕ) (stored : StoredContent) → HasEntry sp l stored → ((c : ℕ) → live sp c ≡ true → label sp c ≡ l → ring new c ≡ ring sp c) → stored_content new stored ≡ stored_content sp stored
content_alike sp new l Empty e k = refl
content_alike sp new l (Lone v) e k = refl
content_alike sp new l (At c) e k = ap cycle (k c e.0 e.1)

-- one row is written, and what the others hold reads alike
pub loops_table_rows : (sp new : Spots) (rows0 rows : List (Option LoopCell)) (l : ℕ) (cell : LoopCell) → ((q : ℕ) → row_at rows q ≡ cond (nat_eq q l) (Some cell) (row_at rows0 q)) → ((q : ℕ) (c : LoopCell) → q ≢ l → row_at rows0 q ≡ Some c → stored_content new c.stored ≡ stored_content sp c.stored) →
    table_of (loop_row new) rows ≡ put (table_of (loop_row sp) rows0) l (loop_row new cell)
loops_table_rows sp new rows0 rows l cell is alike = same_table (table_of (loop_row new) rows) (put (table_of (loop_row sp) rows0) l (loop_row new cell)) (λ q.
    get-table_of (loop_row new) rows q ∙ ap (map_row (loop_row new)) (is q) ∙ elim (eqb_tells q l) [
      | inl p ↦ ap (λ b. map_row (loop_row new) (cond b (Some cell) (row_at rows0 q))) p.0 ∙ sym (get-put _ l (loop_row new cell) q ∙ ap (λ b. cond b (Some (loop_row new cell)) (get (table_of (loop_row sp) rows0) q)) p.0)
      | inr p ↦ ap (λ b. map_row (loop_row new) (cond b (Some cell) (row_at rows0 q))) p.0 ∙ other q p.1 (row_at rows0 q) refl ∙ sym (get-put _ l (loop_row new cell) q ∙ ap (λ b. cond b (Some (loop_row new cell)) (get (table_of (loop_row sp) rows0) q)) p.0 ∙ get-table_of (loop_row sp) rows0 q)
    ])
  where
    other : (q : ℕ) → q ≢ l → (o : Option LoopCell) → row_at rows0 q ≡ o → map_row (loop_row new) o ≡ map_row (loop_row sp) o
    other q n None at = refl
    other q n (Some c) at = ap (λ k. Some (record { face = c.face; content = k })) (alike q c n at)

-- one row is written, and the rings of the other loops stay
pub loops_table : (sp new : Spots) (loops rows : List (Option LoopCell)) → AreLoops sp loops → (l : ℕ) (cell : LoopCell) → ((q : ℕ) → row_at rows q ≡ cond (nat_eq q l) (Some cell) (row_at loops q)) → ((q c : ℕ) → q ≢ l → live sp c ≡ true → label sp c ≡ q → ring new c ≡ ring sp c) →
    table_of (loop_row new) rows ≡ put (table_of (loop_row sp) loops) l (loop_row new cell)
loops_table sp new loops rows are l cell is kept = loops_table_rows sp new loops rows l cell is (λ q c n at. content_alike sp new q c.stored (are.entries q c at) (λ d a e. kept q d n a e))

pub loops_same : (sp new : Spots) (loops : List (Option LoopCell)) → AreLoops sp loops → ((c : ℕ) → live sp c ≡ true → label sp c ≢ 0 → ring new c ≡ ring sp c) → row_at loops 0 ≡ None → table_of (loop_row new) loops ≡ table_of (loop_row sp) loops
loops_same sp new loops are kept zero = same_table (table_of (loop_row new) loops) (table_of (loop_row sp) loops) (λ q. get-table_of (loop_row new) loops q ∙ other q (row_at loops q) refl ∙ sym (get-table_of (loop_row sp) loops q)) where
  other : (q : ℕ) → (o : Option LoopCell) → row_at loops q ≡ o → map_row (loop_row new) o ≡ map_row (loop_row sp) o
  other q None at = refl
  other q (Some c) at =
      let n : q ≢ 0 = λ e. true≢false (sym (sym (ap is_some zero) ∙ ap (λ k. is_some (row_at loops k)) (sym e) ∙ ap is_some at)) in
      ap (λ k. Some (record { face = c.face; content = k })) (content_alike sp new q c.stored (are.entries q c at) (λ d a e. kept d a (λ z. n (sym e ∙ z))))

-- the codes that stand in loops are those that did, with their labels and rings
pub loops_kept : (sp new : Spots) (loops : List (Option LoopCell)) → AreLoops sp loops → row_at loops 0 ≡ None → ((c : ℕ) → live sp c ≡ true → label sp c ≢ 0 → (live new c ≡ true) × (label new c ≡ label sp c) × (ring new c ≡ ring sp c)) →
    ((c : ℕ) → live new c ≡ true → label new c ≢ 0 → (live sp c ≡ true) × (label sp c ≢ 0)) → AreLoops new loops
loops_kept sp new loops are zero on back = loops_told sp new loops loops are zero (λ l n. inl (record {
  row = refl;
  stays = λ c a e. let o = on c a (λ z. n (sym e ∙ z)) in (o.0, o.1 ∙ e, o.2);
  stood = λ c a e. let o = back c a (λ z. n (sym e ∙ z)) in (o.0, sym (on c o.0 o.1).1 ∙ e);
}))

-- what stands in the loop of a stands in its ring
pub same_loop : (sp : Spots) (loops : List (Option LoopCell)) → (R : AreRings sp) → AreLoops sp loops → (a c : ℕ) → live sp a ≡ true → live sp c ≡ true → label sp a ≢ 0 → label sp c ≡ label sp a → IsIn c (ring sp a)
same_loop sp loops R are a c k j n e =
    let s = are.stands a k n in
    let t = subst (StandsAt sp loops c) e (are.stands c j (λ z. n (sym e ∙ z))) in
    let f : At t.entry ≡ At s.entry = ap (λ (w : LoopCell). w.stored) (same_Some _ _ (sym t.here ∙ s.here)) in
    let d : t.entry ≡ s.entry = cc in
    let h = are.entries (label sp a) (record { face = s.face; stored = At s.entry }) s.here in
    let i : IsIn c (ring sp s.entry) = subst (λ w. IsIn c (ring sp w)) d t.item in
    subst (IsIn c) (sym (ring_same sp R s.entry a h.0 s.item)) i

-- ---- the arena with other nodes and rows of loops

-- the arena is tied, and stands for a store
pub record TiedAs (arena : ArenaRows) (store : Store) : Type 0 where
  pub tied : RowsAreTied arena
  pub is : store_of arena ≡ store

-- every arena with these nodes and rows of loops is tied, and stands for the store
abbrev pub Makes : ArenaRows → Spots → List (Option LoopCell) → Store → Type 0
Makes arena sp rows store = (known : ℕ → Bool) → known ≡ arena.known → (new : Spots) → new ≡ sp → TiedAs (record arena { spots = new; known = known; loops = rows }) store

module _ (arena : ArenaRows) where
  abbrev store : Store
  store = store_of arena

  pub store_is : (new : Spots) (rows : List (Option LoopCell)) (e : Table EdgeRow) (t : Table LoopRow) (u : Table (List ℕ)) → length rows ≡ length arena.loops → tabulate (edge_row new) codes ≡ e → table_of (loop_row new) rows ≡ t → tabulate (loose_row new) codes ≡ u →
      store_of (record arena { spots = new; loops = rows }) ≡ record store { model = record store.model { edges = e; loops = t }; loose = u }
  store_is new rows e t u len edges loops loose = λ i. record store { model = record store.model { edges = edges i; loops = loops i }; loose = loose i; room = record store.room { loops = len i - 1 } }

  pub tied_as : RowsAreTied arena → (sp : Spots) (rows : List (Option LoopCell)) (s : Store) → AreRings sp → (live sp 0 ≡ true → live arena.spots 0 ≡ true) → AreLoops sp rows → Fits rows → store_of (record arena { spots = sp; loops = rows }) ≡ s → Makes arena sp rows s
  tied_as tied sp rows s rings zero loops fits makes known k new e = record {
    tied = subst (λ (x : Spots). RowsAreTied (record arena { spots = x; known = known; loops = rows })) (sym e) (record {
      rings = rings;
      no_edge = λ t. tied.no_edge (zero t);
      loops_tied = loops;
      solids_fit = tied.solids_fit;
      faces_fit = tied.faces_fit;
      loops_fit = fits;
      vertices_fit = tied.vertices_fit;
      points = tied.points;
    });
    is = (λ i. store_of (record arena { spots = e i; known = k i; loops = rows })) ∙ makes;
  }
