-- What stands beside the rows: what it says of the model, and what keeps it.
use Rattle.arena_rows.proofs.Prelude.{◌≡◌, ◌≢◌, ℕ, ◌+◌, ◌-◌, ◌≤◌, ◌<◌, Bool, true, false, cond, not, nat_eq, ◌&&◌, List, [], length, Option, Some, None, is_some, refl, sym, ap, ◌∙◌, arith, true≢false, eq-eqb, ne_eqb, inl, inr, eqb_tells, same_length, passes, count-all_where, count, tick, tick_same, tick_other, Table, get, all_where, same_table, get-put, get-remove, rings_of, outer, ArenaRows, Fits, IsWhole, Owners, no_owners, take, owned, OwnersHaveGrown, Spots, map_row, table_of, names, store_of, face_row, loop_row, solid_numbers, face_numbers, AreIndexed, within, FaceCell, LoopCell, StoredContent, row_at}
use Rattle.boundary_model.specs.Table as table
use Rattle.arena_rows.specs.Common.{put}
use Rattle.arena_rows.proofs.owner_chains_laws.Counting.{more}
use Rattle.arena_rows.proofs.Writes.{IsRefilled}
use Rattle.arena_rows.proofs.Stands.{outer_row_of}
use Rattle.arena_rows.proofs.Views.{get-table_of, table_of-same, table_of-put, table_of-remove, table_of-empty, fits_within, row_within, row_not_zero, not_zero}

-- ---- what it says

-- by the rows: the owner of each, and what the model's rows say
alike_rows : {X Y : Type 0} (rows : List (Option X)) (g : X → ℕ) (f : X → Y) (o : ℕ) (p : ℕ → Y → Bool) → ((q : ℕ) (x : X) → p q (f x) ≡ nat_eq (g x) o) → (q : ℕ) → count q (owned o (table_of g rows)) ≡ count q (all_where p (table_of f rows))
alike_rows rows g f o p same q =
    count-all_where (λ _ x. nat_eq x o) (table_of g rows) q ∙ ap (passes (λ _ x. nat_eq x o) q) (get-table_of g rows q) ∙ rows_pass_alike (row_at rows q)
    ∙ sym (count-all_where p (table_of f rows) q ∙ ap (passes p q) (get-table_of f rows q))
  where
    rows_pass_alike : (x : Option _) → passes (λ _ x. nat_eq x o) q (map_row g x) ≡ passes p q (map_row f x)
    rows_pass_alike None = refl
    rows_pass_alike (Some x) = ap {B = ℕ} (λ b. cond b 1 0) (sym (same q x))

-- a solid owns as many faces as name it
pub face_count_is : (faces : List (Option FaceCell)) (s : ℕ) → length (owned s (solid_numbers faces)) ≡ length (all_where (λ _ row. nat_eq row.solid s) (table_of face_row faces))
face_count_is faces s = same_length _ _ (alike_rows faces (λ cell. cell.solid) face_row s (λ _ row. nat_eq row.solid s) (λ q x. refl))

module _ (sp : Spots) (loops : List (Option LoopCell)) (f out : ℕ) where
  abbrev rings : List ℕ
  rings = all_where (λ l row. nat_eq row.face f && not (nat_eq out l)) (table_of (loop_row sp) loops)

  -- a row counts as a ring, or as the outer loop, where it names the face
  count-rings : (q : ℕ) (x : Option LoopCell) → cond (names f x) 1 0 ≡ cond (cond (nat_eq out q) (names f x) false) 1 0 + passes (λ l row. nat_eq row.face f && not (nat_eq out l)) q (map_row (loop_row sp) x)
  count-rings q None = nothing_counted (nat_eq out q) where
    nothing_counted : (b : Bool) → 0 ≡ cond (cond b false false) 1 0 + 0
    nothing_counted true = omega arith
    nothing_counted false = omega arith
  count-rings q (Some cell) = loop_counted (nat_eq cell.face f) (nat_eq out q) where
    loop_counted : (b d : Bool) → cond b 1 0 ≡ cond (cond d b false) 1 0 + cond (b && not d) 1 0
    loop_counted true true = omega arith
    loop_counted true false = omega arith
    loop_counted false true = omega arith
    loop_counted false false = omega arith

  -- a row passes where it names the face
  by_names : (q : ℕ) (x : Option LoopCell) → passes (λ _ n. nat_eq n f) q (map_row (λ (cell : LoopCell). cell.face) x) ≡ cond (names f x) 1 0
  by_names q None = refl
  by_names q (Some cell) = refl

  -- the loops of a face are its rings, and its outer loop where that names it
  alike_rings : length (owned f (face_numbers loops)) ≡ length (more (names f (row_at loops out)) out rings)
  alike_rings = same_length _ _ (λ q.
      count-all_where (λ _ n. nat_eq n f) (face_numbers loops) q ∙ ap (passes (λ _ n. nat_eq n f) q) (get-table_of (λ (cell : LoopCell). cell.face) loops q) ∙ by_names q (row_at loops q) ∙ count-rings q (row_at loops q)
      ∙ ap (λ n. cond (cond (nat_eq out q) (names f (row_at loops q)) false) 1 0 + n) (sym (count-all_where (λ l row. nat_eq row.face f && not (nat_eq out l)) (table_of (loop_row sp) loops) q ∙ ap (passes (λ l row. nat_eq row.face f && not (nat_eq out l)) q) (get-table_of (loop_row sp) loops q)))
      ∙ elim (eqb_tells q out) [
        | inl p ↦
            ap {B = ℕ} (λ b. cond (cond b (names f (row_at loops q)) false) 1 0 + count q rings) (eq-eqb out q (sym p.1))
            ∙ ap {B = ℕ} (λ k. cond (names f (row_at loops k)) 1 0 + count q rings) p.1 ∙ here q p.1 (names f (row_at loops out))
        | inr p ↦ ap {B = ℕ} (λ b. cond (cond b (names f (row_at loops q)) false) 1 0 + count q rings) (ne_eqb out q (λ e. p.1 (sym e))) ∙ there q p.1 (names f (row_at loops out))
      ])
    where
      here : (q : ℕ) → q ≡ out → (b : Bool) → cond b 1 0 + count q rings ≡ count q (more b out rings)
      here q e true = omega (arith, ap (tick q) (sym e), tick_same q)
      here q e false = omega arith

      there : (q : ℕ) → q ≢ out → (b : Bool) → 0 + count q rings ≡ count q (more b out rings)
      there q ne true = omega (arith, tick_other q out ne)
      there q ne false = omega arith

  -- the loops of a face are one more than its rings, where its outer loop names it
  pub ring_count_is : (b : Bool) → names f (row_at loops out) ≡ b → length (owned f (face_numbers loops)) ≡ cond b 1 0 + length rings
  ring_count_is b e = alike_rings ∙ ap (λ c. length (more c out rings)) e ∙ length-more b where
    length-more : (b : Bool) → length (more b out rings) ≡ cond b 1 0 + length rings
    length-more true = omega arith
    length-more false = omega arith

-- what the loops of a face say of its rings
pub rings_counted : (arena : ArenaRows) (ss fs : Owners) → IsWhole arena ss fs →
    (f : ℕ) (cell : FaceCell) → row_at arena.faces f ≡ Some cell → (b : Bool) → names f (row_at arena.loops cell.outer) ≡ b → length (owned f fs.owner_of) ≡ cond b 1 0 + length (rings_of (store_of arena).model f)
rings_counted arena ss fs whole f cell found b e =
    let M = (store_of arena).model in
    let o = outer_row_of arena whole.tied f cell found in
    ap (λ t. length (owned f t)) whole.indexed.of_faces ∙ ring_count_is arena.spots arena.loops f (outer M f) b (ap (λ n. names f (row_at arena.loops n)) o ∙ e)

-- ---- what keeps it

module _ {X : Type 0} (g : X → ℕ) (rows new : List (Option X)) (n : ℕ) where
  -- a row is written with the same owner
  pub owner_kept : (x old : X) → row_at rows n ≡ Some old → g x ≡ g old → ((q : ℕ) → row_at new q ≡ cond (nat_eq q n) (Some x) (row_at rows q)) → table_of g new ≡ table_of g rows
  owner_kept x old found same is = table_of-same g g rows new (λ q. ap (map_row g) (is q) ∙ elim (eqb_tells q n) [
    | inl p ↦ ap (λ b. map_row g (cond b (Some x) (row_at rows q))) p.0 ∙ ap Some same ∙ sym (ap (map_row g) (ap (row_at rows) p.1 ∙ found))
    | inr p ↦ ap (λ b. map_row g (cond b (Some x) (row_at rows q))) p.0
  ])

-- a number is taken and put again
put_after : (t : Table ℕ) (n o : ℕ) → table.put (table.remove t n) n o ≡ table.put t n o
put_after t n o = same_table _ _ (λ q. get-put (table.remove t n) n o q ∙ elim (eqb_tells q n) [
  | inl p ↦ ap (λ b. cond b (Some o) (get (table.remove t n) q)) p.0 ∙ sym (get-put t n o q ∙ ap (λ b. cond b (Some o) (get t q)) p.0)
  | inr p ↦ ap (λ b. cond b (Some o) (get (table.remove t n) q)) p.0 ∙ get-remove t n q ∙ ap (λ b. cond b None (get t q)) p.0 ∙ sym (get-put t n o q ∙ ap (λ b. cond b (Some o) (get t q)) p.0)
])

-- owners that stay have grown by nothing
pub grown_none : (os : Owners) → OwnersHaveGrown os os
grown_none os = record { same = refl; owners = omega arith; items = omega arith }

-- the ends stay
pub record HasSameEnds (old new : Owners) : Type 0 where
  pub owners : new.owners_end ≡ old.owners_end
  pub items : new.items_end ≡ old.items_end

-- they stay where an item is put
pub ends_put : (os new : Owners) (n o : ℕ) → new ≡ put os n o → HasSameEnds os new
ends_put os new n o e = record { owners = ap (λ (t : Owners). t.owners_end) e; items = ap (λ (t : Owners). t.items_end) e }

-- they stay where an item is taken
pub ends_take : (os new : Owners) (n : ℕ) → new ≡ take os n → HasSameEnds os new
ends_take os new n e = record { owners = ap (λ (t : Owners). t.owners_end) e; items = ap (λ (t : Owners). t.items_end) e }

-- they stay where an item goes to another owner
pub ends_move : (os between new : Owners) (n o : ℕ) → between ≡ take os n → new ≡ put between n o → HasSameEnds os new
ends_move os between new n o e f = record { owners = ap (λ (t : Owners). t.owners_end) f ∙ ap (λ (t : Owners). t.owners_end) e; items = ap (λ (t : Owners). t.items_end) f ∙ ap (λ (t : Owners). t.items_end) e }

-- they stay where nothing changes
pub ends_same : (os : Owners) → HasSameEnds os os
ends_same os = record { owners = refl; items = refl }

-- what `put` of the owners asks of an item and its owner
abbrev pub CanPut : Owners → ℕ → ℕ → Type 0
CanPut os n o = record { owner_room : o < os.owners_end; room : n < os.items_end; some : n ≢ 0; free : get os.owner_of n ≡ None }

-- what the owners of rows say of one of them
module _ {X : Type 0} (g : X → ℕ) (rows : List (Option X)) (os : Owners) (of_rows : os.owner_of ≡ table_of g rows) (n : ℕ) where
  -- an item without a row has no owner
  pub owner_free : is_some (row_at rows n) ≡ false → get os.owner_of n ≡ None
  owner_free free = ap (λ t. get t n) of_rows ∙ get-table_of g rows n ∙ map_row-none (row_at rows n) free where
    map_row-none : (o : Option X) → is_some o ≡ false → map_row g o ≡ None
    map_row-none None e = refl
    map_row-none (Some x) e = absurd (true≢false e)

  -- an item with a row has an owner
  pub owner_there : is_some (row_at rows n) ≡ true → is_some (get os.owner_of n) ≡ true
  owner_there there = ap (λ t. is_some (get t n)) of_rows ∙ ap is_some (get-table_of g rows n) ∙ map_row-some (row_at rows n) there where
    map_row-some : (o : Option X) → is_some o ≡ true → is_some (map_row g o) ≡ true
    map_row-some None e = e
    map_row-some (Some x) e = refl

  -- an item that was taken has no owner
  pub owner_taken : (new : Owners) → new ≡ take os n → get new.owner_of n ≡ None
  owner_taken new is = ap (λ (t : Owners). get t.owner_of n) is ∙ get-remove os.owner_of n n ∙ ap (λ b. cond b None (get os.owner_of n)) (eq-eqb n n refl)

  -- under an owner that has its room a new item can be put, and one that was taken
  module _ {Y : Type 0} (owners : List (Option Y)) (o : ℕ) (owners_reach : length owners ≤ os.owners_end) (items_reach : length rows ≤ os.items_end) (owner_room : within o (length owners - 1) ≡ true) where
    -- a number without a row can be put
    pub can_put_new : within n (length rows - 1) ≡ true → is_some (row_at rows n) ≡ false → CanPut os n o
    can_put_new room free =
        let owner = fits_within owners o owner_room in
        let item = fits_within rows n room in
        record { owner_room = omega arith; room = omega arith; some = not_zero n _ room; free = owner_free free }

    -- a number that was taken can be put again
    pub can_put_again : (new : Owners) → new ≡ take os n → Fits rows → is_some (row_at rows n) ≡ true → CanPut new n o
    can_put_again new is fits there =
        let owner = fits_within owners o owner_room in
        let item = row_within rows n there in
        let ends = ends_take os new n is in
        record { owner_room = omega (arith, ends.owners); room = omega (arith, ends.items); some = row_not_zero rows n fits there; free = owner_taken new is }

  -- the owners, where a row is written: a new one, none, or one of another owner
  module _ (rows' : List (Option X)) where
    -- a row that is written puts its owner
    owners_new : (x : X) → ((q : ℕ) → row_at rows' q ≡ cond (nat_eq q n) (Some x) (row_at rows q)) → table.put os.owner_of n (g x) ≡ table_of g rows'
    owners_new x is = ap (λ t. table.put t n (g x)) of_rows ∙ sym (table_of-put g rows rows' n x is)

    -- a row that goes takes its owner
    owners_gone : ((q : ℕ) → row_at rows' q ≡ cond (nat_eq q n) None (row_at rows q)) → table.remove os.owner_of n ≡ table_of g rows'
    owners_gone is = ap (λ t. table.remove t n) of_rows ∙ sym (table_of-remove g rows rows' n is)

    -- once the item is put the owners are those of the rows
    pub after_put : (new : Owners) (x : X) → new ≡ put os n (g x) → ((q : ℕ) → row_at rows' q ≡ cond (nat_eq q n) (Some x) (row_at rows q)) → new.owner_of ≡ table_of g rows'
    after_put new x e is = ap (λ (t : Owners). t.owner_of) e ∙ owners_new x is

    -- once the item is taken the owners are those of the rows
    pub after_take : (new : Owners) → new ≡ take os n → ((q : ℕ) → row_at rows' q ≡ cond (nat_eq q n) None (row_at rows q)) → new.owner_of ≡ table_of g rows'
    after_take new e is = ap (λ (t : Owners). t.owner_of) e ∙ owners_gone is

    -- once it went to another owner the owners are those of the rows
    pub after_move : (between new : Owners) (x : X) → between ≡ take os n → new ≡ put between n (g x) → ((q : ℕ) → row_at rows' q ≡ cond (nat_eq q n) (Some x) (row_at rows q)) → new.owner_of ≡ table_of g rows'
    after_move between new x e f is = ap (λ (t : Owners). t.owner_of) f ∙ ap (λ (t : Owners). table.put t.owner_of n (g x)) e ∙ put_after os.owner_of n (g x) ∙ owners_new x is

module _ (solids : List (Option Bool)) (faces : List (Option FaceCell)) (loops : List (Option LoopCell)) (ss fs : Owners) (indexed : AreIndexed solids faces loops ss fs) where
  -- the loops' faces stay, or change with what stands beside them
  pub indexed_loops : (new : List (Option LoopCell)) (fs' : Owners) → length new ≡ length loops → HasSameEnds fs fs' → fs'.owner_of ≡ face_numbers new → AreIndexed solids faces new ss fs'
  indexed_loops new fs' len ends are = record {
    of_solids = indexed.of_solids;
    of_faces = are;
    solid_owners = indexed.solid_owners;
    face_owners = omega (arith, indexed.face_owners, ends.owners);
    face_items = indexed.face_items;
    loop_items = omega (arith, indexed.loop_items, ends.items, len);
  }

  -- a loop gets other content
  pub indexed_refilled : (new : List (Option LoopCell)) (l : ℕ) (x : StoredContent) → IsRefilled loops new l x → AreIndexed solids faces new ss fs
  indexed_refilled new l x w = indexed_loops new fs w.len (ends_same fs) (indexed.of_faces ∙ sym (owner_kept (λ (cell : LoopCell). cell.face) loops new l _ w.cell w.found refl w.is))

  -- the same of the faces' solids
  pub indexed_faces : (new : List (Option FaceCell)) (ss' : Owners) → length new ≡ length faces → HasSameEnds ss ss' → ss'.owner_of ≡ solid_numbers new → AreIndexed solids new loops ss' fs
  indexed_faces new ss' len ends are = record {
    of_solids = are;
    of_faces = indexed.of_faces;
    solid_owners = omega (arith, indexed.solid_owners, ends.owners);
    face_owners = omega (arith, indexed.face_owners, len);
    face_items = omega (arith, indexed.face_items, ends.items, len);
    loop_items = indexed.loop_items;
  }

  -- no face goes to another solid
  pub indexed_same_faces : (new : List (Option FaceCell)) → length new ≡ length faces → solid_numbers new ≡ solid_numbers faces → AreIndexed solids new loops ss fs
  indexed_same_faces new len e = indexed_faces new ss len (ends_same ss) (indexed.of_solids ∙ sym e)

  -- the solids' rows change, within the room for owners
  pub indexed_solids : (new : List (Option Bool)) → length new ≤ ss.owners_end → AreIndexed new faces loops ss fs
  indexed_solids new reach = record { of_solids = indexed.of_solids; of_faces = indexed.of_faces; solid_owners = reach; face_owners = indexed.face_owners; face_items = indexed.face_items; loop_items = indexed.loop_items }

  -- no number loses its room
  pub indexed_grown : (ss' fs' : Owners) → OwnersHaveGrown ss ss' → OwnersHaveGrown fs fs' → AreIndexed solids faces loops ss' fs'
  indexed_grown ss' fs' more_ss more_fs = record {
    of_solids = more_ss.same ∙ indexed.of_solids;
    of_faces = more_fs.same ∙ indexed.of_faces;
    solid_owners = omega (arith, indexed.solid_owners, more_ss.owners);
    face_owners = omega (arith, indexed.face_owners, more_fs.owners);
    face_items = omega (arith, indexed.face_items, more_ss.items);
    loop_items = omega (arith, indexed.loop_items, more_fs.items);
  }

  -- there is room for more faces
  pub indexed_more_faces : (new : List (Option FaceCell)) (ss' fs' : Owners) → ((q : ℕ) → row_at new q ≡ row_at faces q) → OwnersHaveGrown ss ss' → OwnersHaveGrown fs fs' → length new ≤ ss'.items_end → length new ≤ fs'.owners_end → AreIndexed solids new loops ss' fs'
  indexed_more_faces new ss' fs' rows more_ss more_fs reach_items reach_owners = record {
    of_solids = more_ss.same ∙ indexed.of_solids ∙ sym (table_of-same (λ cell. cell.solid) (λ cell. cell.solid) faces new (λ q. ap (map_row (λ (cell : FaceCell). cell.solid)) (rows q)));
    of_faces = more_fs.same ∙ indexed.of_faces;
    solid_owners = omega (arith, indexed.solid_owners, more_ss.owners);
    face_owners = reach_owners;
    face_items = reach_items;
    loop_items = omega (arith, indexed.loop_items, more_fs.items);
  }

  -- there is room for more loops
  pub indexed_more_loops : (new : List (Option LoopCell)) (fs' : Owners) → ((q : ℕ) → row_at new q ≡ row_at loops q) → OwnersHaveGrown fs fs' → length new ≤ fs'.items_end → AreIndexed solids faces new ss fs'
  indexed_more_loops new fs' rows grown reach = record {
    of_solids = indexed.of_solids;
    of_faces = grown.same ∙ indexed.of_faces ∙ sym (table_of-same (λ cell. cell.face) (λ cell. cell.face) loops new (λ q. ap (map_row (λ (cell : LoopCell). cell.face)) (rows q)));
    solid_owners = indexed.solid_owners;
    face_owners = omega (arith, indexed.face_owners, grown.owners);
    face_items = indexed.face_items;
    loop_items = reach;
  }

-- nothing stands beside no rows
pub indexed-empty : AreIndexed [] [] [] no_owners no_owners
indexed-empty = record {
  of_solids = sym (table_of-empty (λ (cell : FaceCell). cell.solid));
  of_faces = sym (table_of-empty (λ (cell : LoopCell). cell.face));
  solid_owners = omega arith;
  face_owners = omega arith;
  face_items = omega arith;
  loop_items = omega arith;
}
