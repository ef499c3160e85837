-- What becomes of the store where one row is written.
use Rattle.arena_rows.proofs.Prelude.{◌≡◌, ℕ, ◌-◌, ◌≢◌, Bool, true, false, cond, nat_eq, List, [], length, Option, Some, None, is_some, refl, sym, ap, subst, ◌∙◌, arith, true≢false, eq-eqb, ne_eqb, ◌⊎◌, inl, inr, eqb_tells, same_Some, Point, count, IsIn, FaceCell, LoopCell, StoredContent, Empty, Lone, At, Table, row_at, ArenaRows, table_of, Store, Spots, live, label, ring, store_of, RowsAreTied, Fits, AreLoops, HasEntry, StandsAt, stored_content, loop_row, face_row, solid_row, cycle, FaceRow, LoopRow, items_of}
use Rattle.boundary_model.specs.Points.{IsInRange}
use Rattle.arena_rows.proofs.Views.{fits-write, row_not_zero}

-- the row that is written is read back
pub row_here : {X : Type 0} (rows new : List (Option X)) (n : ℕ) (x : Option X) → ((q : ℕ) → row_at new q ≡ cond (nat_eq q n) x (row_at rows q)) → row_at new n ≡ x
row_here rows new n x is = is n ∙ ap (λ b. cond b x (row_at rows n)) (eq-eqb n n refl)

-- loop l, which is there, gets other content: its row alone is written
pub record IsRefilled (rows new : List (Option LoopCell)) (l : ℕ) (x : StoredContent) : Type 0 where
  pub cell : LoopCell
  pub found : row_at rows l ≡ Some cell
  pub len : length new ≡ length rows
  pub is : (q : ℕ) → row_at new q ≡ cond (nat_eq q l) (Some (record { face = cell.face; stored = x })) (row_at rows q)

-- by a read of its row and a write, under the number n that is l
abbrev pub refilled_at : {old new : List (Option LoopCell)} {l n : ℕ} {x : StoredContent} (cell : LoopCell) → l ≡ n → row_at old n ≡ Some cell →
    record { rows : (q : ℕ) → row_at new q ≡ cond (nat_eq q n) (Some (record { face = cell.face; stored = x })) (row_at old q); len : length new ≡ length old } → IsRefilled old new l x
refilled_at {old} {new} {l} {n} {x} cell e found set = record {
  cell = cell;
  found = ap (row_at old) e ∙ found;
  len = set.len;
  is = λ q. set.rows q ∙ ap (λ k. cond (nat_eq q k) (Some (record { face = cell.face; stored = x })) (row_at old q)) (sym e);
}

module _ {rows new : List (Option LoopCell)} {l : ℕ} {x : StoredContent} (w : IsRefilled rows new l x) where
  -- the row of loop l has the new content
  pub refilled_here : row_at new l ≡ Some (record { face = w.cell.face; stored = x })
  refilled_here = row_here rows new l _ w.is

  -- each other row stays
  pub refilled_elsewhere : (q : ℕ) → q ≢ l → row_at new q ≡ row_at rows q
  refilled_elsewhere q ne = w.is q ∙ ap (λ b. cond b (Some (record { face = w.cell.face; stored = x })) (row_at rows q)) (ne_eqb q l ne)

  -- l is not 0
  pub refilled_some : Fits rows → l ≢ 0
  refilled_some fits = row_not_zero rows l fits (ap is_some w.found)

  -- the rows fit still
  pub refilled_fits : Fits rows → Fits new
  refilled_fits fits = fits-write rows new l _ fits (refilled_some fits) w.len w.is

module _ (arena : ArenaRows) (tied : RowsAreTied arena) where
  abbrev store : Store
  store = store_of arena

  -- solids' rows that fit stay tied to the nodes
  pub tied_solids : (new : List (Option Bool)) → Fits new → RowsAreTied (record arena { solids = new })
  tied_solids new fits = record { rings = tied.rings; no_edge = tied.no_edge; loops_tied = tied.loops_tied; solids_fit = fits; faces_fit = tied.faces_fit; loops_fit = tied.loops_fit; vertices_fit = tied.vertices_fit; points = tied.points }

  -- the store has their table in the place of the old one
  pub store_solids : (new : List (Option Bool)) (t : Table (Unit {0})) → length new ≡ length arena.solids → table_of solid_row new ≡ t → store_of (record arena { solids = new }) ≡ record store { model = record store.model { solids = t } }
  store_solids new t len e = λ i. record store { model = record store.model { solids = e i }; room = record store.room { solids = len i - 1 } }

  -- faces' rows that fit stay tied to the nodes
  pub tied_faces : (new : List (Option FaceCell)) → Fits new → RowsAreTied (record arena { faces = new })
  tied_faces new fits = record { rings = tied.rings; no_edge = tied.no_edge; loops_tied = tied.loops_tied; solids_fit = tied.solids_fit; faces_fit = fits; loops_fit = tied.loops_fit; vertices_fit = tied.vertices_fit; points = tied.points }

  -- the store has their table in the place of the old one
  pub store_faces : (new : List (Option FaceCell)) (t : Table FaceRow) → length new ≡ length arena.faces → table_of face_row new ≡ t → store_of (record arena { faces = new }) ≡ record store { model = record store.model { faces = t } }
  store_faces new t len e = λ i. record store { model = record store.model { faces = e i }; room = record store.room { faces = len i - 1 } }

  -- vertices' rows that fit stay tied, where their points are in range
  pub tied_vertices : (new : List (Option Point)) → Fits new → ((v : ℕ) (p : Point) → row_at new v ≡ Some p → IsInRange p) → RowsAreTied (record arena { vertices = new })
  tied_vertices new fits points = record { rings = tied.rings; no_edge = tied.no_edge; loops_tied = tied.loops_tied; solids_fit = tied.solids_fit; faces_fit = tied.faces_fit; loops_fit = tied.loops_fit; vertices_fit = fits; points = points }

  -- the store has their table in the place of the old one
  pub store_vertices : (new : List (Option Point)) (t : Table Point) → length new ≡ length arena.vertices → table_of (λ p. p) new ≡ t → store_of (record arena { vertices = new }) ≡ record store { model = record store.model { vertices = t } }
  store_vertices new t len e = λ i. record store { model = record store.model { vertices = e i }; room = record store.room { vertices = len i - 1 } }

  -- loops' rows that fit stay tied, where they say what the loops hold
  pub tied_loops : (new : List (Option LoopCell)) → Fits new → AreLoops arena.spots new → RowsAreTied (record arena { loops = new })
  tied_loops new fits are = record { rings = tied.rings; no_edge = tied.no_edge; loops_tied = are; solids_fit = tied.solids_fit; faces_fit = tied.faces_fit; loops_fit = fits; vertices_fit = tied.vertices_fit; points = tied.points }

  -- the store has their table in the place of the old one
  pub store_loops : (new : List (Option LoopCell)) (t : Table LoopRow) → length new ≡ length arena.loops → table_of (loop_row arena.spots) new ≡ t → store_of (record arena { loops = new }) ≡ record store { model = record store.model { loops = t } }
  store_loops new t len e = λ i. record store { model = record store.model { loops = e i }; room = record store.room { loops = len i - 1 } }

-- points stay in range
pub points_write : (rows new : List (Option Point)) (n : ℕ) (x : Option Point) → ((v : ℕ) (p : Point) → row_at rows v ≡ Some p → IsInRange p) → ((p : Point) → x ≡ Some p → IsInRange p) → ((q : ℕ) → row_at new q ≡ cond (nat_eq q n) x (row_at rows q)) → (v : ℕ) (p : Point) → row_at new v ≡ Some p → IsInRange p
points_write rows new n x old here is v p at = elim (eqb_tells v n) [
  | inl e ↦ here p (sym (is v ∙ ap (λ b. cond b x (row_at rows v)) e.0) ∙ at)
  | inr e ↦ old v p (sym (is v ∙ ap (λ b. cond b x (row_at rows v)) e.0) ∙ at)
]

-- a code stands in a loop of which the row stays
pub stands_kept : (sp : Spots) (rows new : List (Option LoopCell)) (h q : ℕ) → row_at new q ≡ row_at rows q → StandsAt sp rows h q → StandsAt sp new h q
stands_kept sp rows new h q e s = record { face = s.face; entry = s.entry; here = e ∙ s.here; item = s.item }

-- the loops where one row is written
pub loops_write : (sp : Spots) (rows new : List (Option LoopCell)) (l : ℕ) (x : Option LoopCell) → AreLoops sp rows → ((cell : LoopCell) → x ≡ Some cell → HasEntry sp l cell.stored) →
    ((h : ℕ) → live sp h ≡ true → StandsAt sp rows h l → StandsAt sp new h l) → ((q : ℕ) → row_at new q ≡ cond (nat_eq q l) x (row_at rows q)) → AreLoops sp new
loops_write sp rows new l x are entry keeps is = record {
  entries = λ q cell at. elim (eqb_tells q l) [
    | inl e ↦ subst (λ k. HasEntry sp k cell.stored) (sym e.1) (entry cell (sym (is q ∙ ap (λ b. cond b x (row_at rows q)) e.0) ∙ at))
    | inr e ↦ are.entries q cell (sym (is q ∙ ap (λ b. cond b x (row_at rows q)) e.0) ∙ at)
  ];
  stands = λ h a n. elim (eqb_tells (label sp h) l) [
    | inl e ↦ subst (StandsAt sp new h) (sym e.1) (keeps h a (subst (StandsAt sp rows h) e.1 (are.stands h a n)))
    | inr e ↦ stands_kept sp rows new h (label sp h) (is (label sp h) ∙ ap (λ b. cond b x (row_at rows (label sp h))) e.0) (are.stands h a n)
  ];
}

-- a code that stands in a loop is found at an entry
no_stand : (sp : Spots) (rows : List (Option LoopCell)) (h l : ℕ) → is_some (row_at rows l) ≡ false → StandsAt sp rows h l → ⊥
no_stand sp rows h l free s = true≢false (sym (ap is_some s.here) ∙ free)

-- no code stands in a loop without a row, so whatever is said of it holds
pub no_stand_free : (sp : Spots) (rows new : List (Option LoopCell)) (h l : ℕ) → is_some (row_at rows l) ≡ false → StandsAt sp rows h l → StandsAt sp new h l
no_stand_free sp rows new h l free s = absurd (no_stand sp rows h l free s)

-- loop l is there and holds no half-edge
pub record IsBare (sp : Spots) (loops : List (Option LoopCell)) (l : ℕ) : Type 0 where
  pub cell : LoopCell
  pub here : row_at loops l ≡ Some cell
  pub bare : items_of (stored_content sp cell.stored) ≡ []

-- no code stands in a loop that holds no half-edge
pub none_in_bare : (sp : Spots) (rows : List (Option LoopCell)) (h l : ℕ) → IsBare sp rows l → StandsAt sp rows h l → ⊥
none_in_bare sp rows h l b s =
    let e : stored_content sp b.cell.stored ≡ cycle (ring sp s.entry) = ap (λ c. stored_content sp c.stored) (same_Some _ _ (sym b.here ∙ s.here)) in
    let z : count h (ring sp s.entry) ≡ 0 = ap (count h) (sym (ap items_of e) ∙ b.bare) in
    let i = s.item in
    absurd (omega arith)

-- a code stands in a loop that goes to another face
pub stand_moved : (sp : Spots) (rows new : List (Option LoopCell)) (cell : LoopCell) (h l f : ℕ) → row_at rows l ≡ Some cell → row_at new l ≡ Some (record { face = f; stored = cell.stored }) → StandsAt sp rows h l → StandsAt sp new h l
stand_moved sp rows new cell h l f at is s = record {
  face = f;
  entry = s.entry;
  here = is ∙ ap (λ c. Some (record { face = f; stored = c.stored })) (same_Some _ _ (sym at ∙ s.here));
  item = s.item;
}

-- a row whose content is empty has its entry in no ring
pub entry_empty : (sp : Spots) (l f : ℕ) (cell : LoopCell) → Some (record { face = f; stored = Empty }) ≡ Some cell → HasEntry sp l cell.stored
entry_empty sp l f cell e = subst (HasEntry sp l) (ap (λ c. c.stored) (same_Some _ _ e)) tt

-- a row has the entry of its content
pub entry_same : (sp : Spots) (l f : ℕ) (stored : StoredContent) (cell : LoopCell) → HasEntry sp l stored → Some (record { face = f; stored = stored }) ≡ Some cell → HasEntry sp l cell.stored
entry_same sp l f stored cell h e = subst (HasEntry sp l) (ap (λ c. c.stored) (same_Some _ _ e)) h

-- ---- the loops where codes have other labels and rings

-- what loop l holds reads alike: its row, and the codes that stand in it with their rings
pub record IsKept (sp new : Spots) (rows rows' : List (Option LoopCell)) (l : ℕ) : Type 0 where
  pub row : row_at rows' l ≡ row_at rows l
  pub stays : (c : ℕ) → live sp c ≡ true → label sp c ≡ l → (live new c ≡ true) × (label new c ≡ l) × (ring new c ≡ ring sp c)
  pub stood : (c : ℕ) → live new c ≡ true → label new c ≡ l → (live sp c ≡ true) × (label sp c ≡ l)

-- what loop l holds is told anew
pub record IsTold (new : Spots) (rows : List (Option LoopCell)) (l : ℕ) : Type 0 where
  pub entry : (cell : LoopCell) → row_at rows l ≡ Some cell → HasEntry new l cell.stored
  pub stands : (c : ℕ) → live new c ≡ true → label new c ≡ l → StandsAt new rows c l

-- by its row, where all that have its label are among what that holds
pub told_at : (new : Spots) (rows : List (Option LoopCell)) (l f : ℕ) (x : StoredContent) → row_at rows l ≡ Some (record { face = f; stored = x }) → HasEntry new l x →
    ((c : ℕ) → live new c ≡ true → label new c ≡ l → IsIn c (items_of (stored_content new x))) → IsTold new rows l
told_at new rows l f x here e holds = record {
  entry = λ cell at. subst (HasEntry new l) (ap (λ (k : LoopCell). k.stored) (same_Some _ _ (sym here ∙ at))) e;
  stands = λ c a b. stands c x here (holds c a b);
} where
  stands : (c : ℕ) (x : StoredContent) → row_at rows l ≡ Some (record { face = f; stored = x }) → IsIn c (items_of (stored_content new x)) → StandsAt new rows c l
  stands c Empty at i = absurd (omega arith)
  stands c (Lone v) at i = absurd (omega arith)
  stands c (At d) at i = record { face = f; entry = d; here = at; item = i }

-- the rows say what the loops hold, where each is kept or told anew
pub loops_told : (sp new : Spots) (rows rows' : List (Option LoopCell)) → AreLoops sp rows → row_at rows' 0 ≡ None → ((l : ℕ) → l ≢ 0 → IsKept sp new rows rows' l ⊎ IsTold new rows' l) → AreLoops new rows'
loops_told sp new rows rows' are zero each = record {
  entries = λ l cell at. elim (each l (λ z. true≢false (sym (ap is_some at) ∙ ap (λ n. is_some (row_at rows' n)) z ∙ ap is_some zero))) [
    | inl k ↦ entry l k cell.stored (are.entries l cell (sym k.row ∙ at))
    | inr t ↦ t.entry cell at
  ];
  stands = λ c a n. elim (each (label new c) n) [
    | inl k ↦
        let o = k.stood c a refl in
        let s = subst (StandsAt sp rows c) o.1 (are.stands c o.0 (λ z. n (sym o.1 ∙ z))) in
        let e = are.entries (label new c) (record { face = s.face; stored = At s.entry }) s.here in
        record { face = s.face; entry = s.entry; here = k.row ∙ s.here; item = subst (IsIn c) (sym (k.stays s.entry e.0 e.1).2) s.item }
    | inr t ↦ t.stands c a refl
  ];
} where
  entry : (l : ℕ) → IsKept sp new rows rows' l → (stored : StoredContent) → HasEntry sp l stored → HasEntry new l stored
  entry l k Empty e = tt
  entry l k (Lone v) e = tt
  entry l k (At c) e = let o = k.stays c e.0 e.1 in (o.0, o.1)
