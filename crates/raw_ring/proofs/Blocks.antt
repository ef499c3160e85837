-- Nodes in blocks: where they lie, and which of them are in use.
--     block_stacked, rest_of_stack, places_of_stack      the nodes of a block, before others
--     node_at-drop, put_node-drop      a read and a write of a node that is in use
--     AreNodes-put, AreNodes-made, AreNodes-block      after a write;  once a place is in use;  once a block is added
--     newest, none_left      the blocks as they are freed
use Rattle.raw_ring.proofs.Prelude.{◌≡◌, ◌+◌, ℕ, zero, suc, List, [], ◌∷◌, ◌++◌, length, drop, Option, Some, None, IsSome, true, false, cond, refl, sym, ap, ◌∙◌, subst, arith, the_row, Node, NodePtr, Cell, same_ptr, node_at, put_node, Adds, Apart, AreNodes, IsAPlace, begun, block_places, pile, piled, place_after, places, stack}
use Rattle.std.specs.Mem.{type_size}
use denote.RawPtr.{Ptr, null_ptr}
use Rattle.raw_ring.proofs.Pointers.{differs}
use Rattle.raw_ring.proofs.Linking.{IsSome-is, found_first, Adds-made}

drop-more : {X : Type 0} (k : ℕ) (x : X) (xs ys : List X) → drop k ys ≡ x ∷ xs → drop (suc k) ys ≡ xs
drop-more zero x xs (y ∷ ys) e = ap (drop 1) e
drop-more zero x xs [] e = ap (drop 1) e
drop-more (suc k) x xs (y ∷ ys) e = drop-more k x xs ys e
drop-more (suc k) x xs [] e = cc

drop-stack : (ns : List Node) (p : Ptr) (cs : List Cell) → drop (length ns) (stack p ns cs) ≡ cs
unfolding stack
drop-stack [] p cs = refl
drop-stack (n ∷ ns) p cs = drop-more (length ns) (p, n) cs _ (drop-stack ns (place_after p) ((p, n) ∷ cs))

places-stack : (ns : List Node) (p : Ptr) (cs : List Cell) → places (stack p ns cs) ≡ pile p (length ns) (places cs)
unfolding stack pile places
places-stack [] p cs = refl
places-stack (n ∷ ns) p cs = places-stack ns (place_after p) ((p, n) ∷ cs)

first-cell : (p : Ptr) (ps : List Ptr) (cs : List Cell) → places cs ≡ p ∷ ps → (n : Node) × (old : List Cell) × (cs ≡ (p, n) ∷ old) × (places old ≡ ps)
unfolding places
first-cell p ps [] e = cc
first-cell p ps (c ∷ cs) e = let here : c.0 ≡ p = cc in (c.1, cs, (λ i. (here i, c.1) ∷ cs), cc)

-- cells that lie side by side are a stack
abbrev pub Stacked : List Cell → Ptr → ℕ → List Ptr → Type 0
Stacked cs p k ps = (ns : List Node) × (old : List Cell) × (length ns ≡ k) × (cs ≡ stack p ns old) × (places old ≡ ps)

stacked : (k : ℕ) (p : Ptr) (ps : List Ptr) (cs : List Cell) → places cs ≡ pile p k ps → Stacked cs p k ps
unfolding stack pile
stacked zero p ps cs e = ([], cs, refl, refl, e)
stacked (suc k) p ps cs e =
    let above = stacked k (place_after p) (p ∷ ps) cs e in let first = first-cell p ps above.1 above.4 in
    (first.0 ∷ above.0, first.1, ap suc above.2, above.3 ∙ ap (stack (place_after p) above.0) first.2, first.3)

pub block_stacked : (p : Ptr) (rest ds : List Ptr) (cs : List Cell) → places cs ≡ piled ds → ds ≡ p ∷ rest → Stacked cs p 64 (piled rest)
unfolding block_places piled
block_stacked p rest ds cs lie is = stacked 64 p (piled rest) cs (lie ∙ ap piled is)

pub rest_of_stack : (p : Ptr) (ns : List Node) (cs : List Cell) → length ns ≡ 64 → drop 64 (stack p ns cs) ≡ cs
rest_of_stack p ns cs all = ap (λ k. drop k (stack p ns cs)) (sym all) ∙ drop-stack ns p cs

pub places_of_stack : (p : Ptr) (ns : List Node) (cs : List Cell) → length ns ≡ 64 → places (stack p ns cs) ≡ block_places p (places cs)
unfolding block_places
places_of_stack p ns cs all = places-stack ns p cs ∙ ap (λ k. pile p k (places cs)) all

-- the nodes that are in use are found among all
none_here : {X : Type 0} (o : Option X) → IsSome o → o ≡ None → ⊥
none_here (Some x) h e = cc
none_here None h e = cc

passes : (c : Cell) (cs : List Cell) (p : Ptr) → Apart (c ∷ cs) → IsSome (node_at cs p) → same_ptr c.0 p ≡ false
passes c cs p A there = differs c.0 p (λ is. none_here (node_at cs p) there (sym (ap (node_at cs) is) ∙ A.0))

pub node_at-drop : (k : ℕ) (cs : List Cell) (p : Ptr) → Apart cs → IsSome (node_at (drop k cs) p) → node_at cs p ≡ node_at (drop k cs) p
unfolding node_at
node_at-drop zero cs p A there = refl
node_at-drop (suc k) [] p A there = refl
node_at-drop (suc k) (c ∷ cs) p A there =
    let rest = node_at-drop k cs p A.1 there in ap (λ b. cond b (Some c.1) (node_at cs p)) (passes c cs p A (subst IsSome (sym rest) there)) ∙ rest

pub found_all : (k : ℕ) (cs : List Cell) (p : Ptr) → Apart cs → IsSome (node_at (drop k cs) p) → IsSome (node_at cs p)
found_all k cs p A there = subst IsSome (sym (node_at-drop k cs p A there)) there

pub put_node-drop : (k : ℕ) (cs : List Cell) (p : Ptr) (n : Node) → Apart cs → IsSome (node_at (drop k cs) p) → drop k (put_node cs p n) ≡ put_node (drop k cs) p n
unfolding put_node
put_node-drop zero cs p n A there = refl
put_node-drop (suc k) [] p n A there = refl
put_node-drop (suc k) (c ∷ cs) p n A there =
    ap (λ b. drop (suc k) (cond b ((c.0, n) ∷ cs) (c ∷ put_node cs p n))) (passes c cs p A (found_all k cs p A.1 there)) ∙ put_node-drop k cs p n A.1 there

-- a write moves no node
places-put : (cs : List Cell) (p : Ptr) (n : Node) → places (put_node cs p n) ≡ places cs
unfolding places put_node
places-put [] p n = refl
places-put (c ∷ cs) p n = elim (same_ptr c.0 p) as (λ b. places (cond b ((c.0, n) ∷ cs) (c ∷ put_node cs p n)) ≡ c.0 ∷ places cs) [ true ↦ refl | false ↦ ap (λ ps. c.0 ∷ ps) (places-put cs p n) ]

none-put : (cs : List Cell) (p q : Ptr) (n : Node) → node_at cs q ≡ None → node_at (put_node cs p n) q ≡ None
unfolding node_at put_node
none-put [] p q n none = refl
none-put (c ∷ cs) p q n none = (elim (same_ptr c.0 q) as (λ b. same_ptr c.0 q ≡ b → cond b (Some c.1) (node_at cs q) ≡ None → node_at (cond (same_ptr c.0 p) ((c.0, n) ∷ cs) (c ∷ put_node cs p n)) q ≡ None) [
  | true ↦ λ e h. cc
  | false ↦ λ e h. elim (same_ptr c.0 p) as (λ b. node_at (cond b ((c.0, n) ∷ cs) (c ∷ put_node cs p n)) q ≡ None) [
    | true ↦ ap (λ b. cond b (Some n) (node_at cs q)) e ∙ h
    | false ↦ ap (λ b. cond b (Some c.1) (node_at (put_node cs p n) q)) e ∙ none-put cs p q n h
  ]
]) refl none

Apart-put : (cs : List Cell) (p : Ptr) (n : Node) → Apart cs → Apart (put_node cs p n)
unfolding put_node
Apart-put [] p n A = tt
Apart-put (c ∷ cs) p n A = elim (same_ptr c.0 p) as (λ b. Apart (cond b ((c.0, n) ∷ cs) (c ∷ put_node cs p n))) [ true ↦ A | false ↦ (none-put cs p c.0 n A.0, Apart-put cs p n A.1) ]

Apart-drop : (k : ℕ) (cs : List Cell) → Apart cs → Apart (drop k cs)
Apart-drop zero cs A = A
Apart-drop (suc k) [] A = tt
Apart-drop (suc k) (c ∷ cs) A = Apart-drop k cs A.1

pub AreNodes-none : AreNodes [] [] [] null_ptr 0
unfolding places piled begun pile
AreNodes-none = record { apart = tt; piled = refl; begun = refl; spare = ([], refl); lies = λ some. absurd (some refl) }

module _ (cells : List Cell) (deeds : List Ptr) (blocks : List NodePtr) (next : Ptr) (left : ℕ) (N : AreNodes cells deeds blocks next left) where
  pub AreNodes-put : (p : Ptr) (n : Node) → AreNodes (put_node cells p n) deeds blocks next left
  AreNodes-put p n = let same = places-put cells p n in record {
    apart = Apart-put cells p n N.apart;
    piled = same ∙ N.piled;
    begun = N.begun;
    spare = (N.spare.0, same ∙ N.spare.1);
    lies = N.lies;
  }

-- the places of the newest nodes
places-drop : (k : ℕ) (cs : List Cell) → places (drop k cs) ≡ drop k (places cs)
unfolding places
places-drop zero cs = refl
places-drop (suc k) [] = refl
places-drop (suc k) (c ∷ cs) = places-drop k cs

drop-pile : (k : ℕ) (p : Ptr) (ps : List Ptr) → drop k (pile p k ps) ≡ ps
unfolding pile
drop-pile zero p ps = refl
drop-pile (suc k) p ps = drop-more k p ps _ (drop-pile k (place_after p) (p ∷ ps))

IsAPlace-after : (p : Ptr) → IsAPlace p → IsAPlace (place_after p)
unfolding place_after
IsAPlace-after p h = (h.0, h.1 + type_size the_row, ap place_after h.2)

-- the first of the spare places comes into use
module _ (cells : List Cell) (deeds : List Ptr) (blocks : List NodePtr) (at : Ptr) (left k : ℕ) (N : AreNodes cells deeds blocks at left) (one_more : left ≡ suc k) where
  first_spare : (n : Node) × (drop k cells ≡ (at, n) ∷ drop left cells)
  unfolding pile
  first_spare =
      let are : places cells ≡ pile at (suc k) N.spare.0 = N.spare.1 ∙ ap (λ l. pile at l N.spare.0) one_more in
      let first = first-cell at N.spare.0 (drop k cells) (places-drop k cells ∙ ap (drop k) are ∙ drop-pile k (place_after at) (at ∷ N.spare.0)) in
      (first.0, first.2 ∙ ap (λ rest. (at, first.0) ∷ rest) (sym (ap (λ l. drop l cells) one_more ∙ drop-more k _ _ cells first.2)))

  first_there : IsSome (node_at (drop k cells) at)
  first_there = IsSome-is _ first_spare.0 (ap (λ cs. node_at cs at) first_spare.1 ∙ found_first (drop left cells) at first_spare.0)

  pub spare_there : IsSome (node_at cells at)
  spare_there = found_all k cells at N.apart first_there

  IsAPlace-spare : IsAPlace at
  IsAPlace-spare = N.lies (λ none. omega (arith, none, one_more))

  pub AreNodes-made : (n : Node) → AreNodes (put_node cells at n) deeds blocks (place_after at) k
  unfolding pile
  AreNodes-made n = let kept = AreNodes-put cells deeds blocks at left N at n in record {
    apart = kept.apart;
    piled = kept.piled;
    begun = kept.begun;
    spare = (at ∷ kept.spare.0, kept.spare.1 ∙ ap (λ l. pile at l kept.spare.0) one_more);
    lies = λ _. IsAPlace-after at IsAPlace-spare;
  }

  pub Adds-spare : (code : ℕ) → Adds (drop left cells) (drop k (put_node cells at (record { code = code; tail = 0; next = at; prev = at }))) at code
  Adds-spare code =
      subst (λ new. Adds (drop left cells) new at code) (sym (put_node-drop k cells at _ N.apart first_there))
      (Adds-made (drop left cells) (drop k cells) at first_spare.0 code (subst Apart first_spare.1 (Apart-drop k cells N.apart)).0 first_spare.1)

no_places : (cs : List Cell) → places cs ≡ [] → cs ≡ []
unfolding places
no_places [] e = refl
no_places (c ∷ cs) e = cc

-- the blocks, from the newest on
begun-last : (bs : List NodePtr) (b : NodePtr) (ps : List Ptr) → begun (bs ++ b ∷ []) ps ≡ b.ptr ∷ begun bs ps
unfolding begun
begun-last [] b ps = refl
begun-last (a ∷ bs) b ps = begun-last bs b (a.ptr ∷ ps)

pub AreNodes-block : (cells new_cells : List Cell) (deeds : List Ptr) (blocks : List NodePtr) (next : Ptr) (left : ℕ) (base : NodePtr) → AreNodes cells deeds blocks next left → IsAPlace base.ptr → Apart new_cells
    → places new_cells ≡ block_places base.ptr (places cells) → AreNodes new_cells (base.ptr ∷ deeds) (blocks ++ base ∷ []) base.ptr 64
unfolding piled block_places
AreNodes-block cells new_cells deeds blocks next left base N there is_apart are = record {
  apart = is_apart;
  piled = are ∙ ap (block_places base.ptr) N.piled;
  begun = ap (λ ps. base.ptr ∷ ps) N.begun ∙ sym (begun-last blocks base []);
  spare = (places cells, are);
  lies = λ _. there;
}

pub newest : (bs all : List NodePtr) (b : NodePtr) (deeds : List Ptr) → deeds ≡ begun all [] → all ≡ bs ++ b ∷ [] → deeds ≡ b.ptr ∷ begun bs []
newest bs all b deeds began are = began ∙ ap (λ blocks. begun blocks []) are ∙ begun-last bs b []

pub none_left : (cells : List Cell) (deeds : List Ptr) (blocks : List NodePtr) → places cells ≡ piled deeds → deeds ≡ begun blocks [] → blocks ≡ [] → (cells ≡ []) × (deeds ≡ [])
unfolding begun piled
none_left cells deeds blocks are began none = let no_deed = began ∙ ap (λ bs. begun bs []) none in (no_places cells (are ∙ ap piled no_deed), no_deed)
