-- What single rows and loops of a model say, and small facts that several operators share.
use Rattle.euler_laws.proofs.Prelude.{◌≡◌, ◌≢◌, ℕ, ◌+◌, Bool, true, false, cond, not, nat_eq, ◌&&◌, List, [], ◌∷◌, Some, None, unwrap_or, is_some, refl, sym, ap, ◌∙◌, arith, true≢false, nat_tests, eqb-false, count, IsIn, IsApart, head_or, canonical, rotate_to, rest, upto, onward, between, beyond, successor, IsRing, HalfEdge, code, mate, edge_of, is_first, plus, Table, tables, same_table, Model, loop_of, cycle_of, LoopContent, lone, cycle, FaceRow, LoopRow, tail_in, items_of, holds, tail, face_of, outer, solid_of, point_of, no_loop, content, is_ring_of, Sound, Has, HasHalf, IsCycle, has_rings, is_empty, is_lone, lone_vertex, where_held, edge_row, cycle_or_lone, count-canonical, count-rotate_to, canonical_nil, rotate_to-rotates, successor_at, successor_same, upto-onward, ring_split, count-append, tick_same, tick_other, count-before, edge_of-code, edge_of-mate, is_first-mate, plus_row, all_where_none, none_all_where, map_one, put-remove, face_row, row_of, other_loop, in-holds, cycle_there}
use Rattle.euler_operators.specs.Table as table
use Rattle.euler_laws.proofs.shared.Loops.{IsLoop, canonical_cycle, canonical_ring}

-- a rewriting where a half-edge stands leaves a loop without it alone
pub where_held_none : (g : ℕ) (new : List ℕ → LoopContent) (l : ℕ) (row : LoopRow) → holds g row.content ≡ false → where_held g new l row ≡ row
where_held_none g new l row e = ap (λ b. cond b (record row { content = new (items_of row.content) }) row) e

pub where_held_there : (g : ℕ) (new : List ℕ → LoopContent) (l : ℕ) (row : LoopRow) → holds g row.content ≡ true → where_held g new l row ≡ record row { content = new (items_of row.content) }
where_held_there g new l row e = ap (λ b. cond b (record row { content = new (items_of row.content) }) row) e

-- it rewrites the loop of the half-edge alone
pub held_row : (M : Model) → Sound M → (h : ℕ) → HasHalf M h → (new : List ℕ → LoopContent) →
    table.map_rows (where_held h new) M.loops ≡ table.put M.loops (loop_of M h) (record { face = face_of M (loop_of M h); content = new (cycle_of M h) })
held_row M sound h there new =
    map_one (where_held h new) M.loops (loop_of M h) _ (row_of M sound h there) (λ q row ne at. where_held_none h new q row (other_loop M sound h q row ne at))
    ∙ ap (table.put M.loops (loop_of M h)) (where_held_there h new (loop_of M h) _ (in-holds h (cycle (cycle_of M h)) (cycle_there M sound h there)))

pub no_items : (xs : List ℕ) → ((x : ℕ) → count x xs ≡ 0) → xs ≡ []
no_items [] e = refl
no_items (x ∷ xs) e = absurd (omega (arith, e x, tick_same x))

-- a row taken away and put again
pub put_again : {X : Type 0} (t : Table X) (n : ℕ) (x y : X) → table.get t n ≡ Some x → y ≡ x → table.put (table.remove t n) n y ≡ t
put_again t n x y at e = ap (table.put (table.remove t n) n) e ∙ put-remove t n x at

-- a row put and another taken away, and both put as they were
pub both_back : {X : Type 0} (t : Table X) (r s : ℕ) (x a b : X) → r ≢ s → table.get t r ≡ Some a → table.get t s ≡ Some b → table.put (table.put (table.remove (table.put t r x) s) r a) s b ≡ t
both_back t r s x a b ne at bt = same_table _ _ (λ q. grind (arith, nat_tests, tables))

-- the row of a solid that is there
pub solid_row : (M : Model) (s : ℕ) → Has M.solids s → table.get M.solids s ≡ Some tt
solid_row M s there = grind arith

-- a loop that isn't there holds nothing
pub content_none : (M : Model) (q : ℕ) → table.get M.loops q ≡ None → content M q ≡ cycle []
unfolding content
content_none M q none = ap (λ o. (unwrap_or o no_loop).content) none

-- the row of a loop, from what the readers answer
pub loop_row : (M : Model) (q : ℕ) → Has M.loops q → table.get M.loops q ≡ Some (record { face = face_of M q; content = content M q })
unfolding content face_of
loop_row M q there = grind arith

-- how often an item stands in the two loops of mef
pub count-halves : (x c e : ℕ) (hs : List ℕ) → count x (upto c e hs) + count x (onward c e hs) ≡ count x hs
count-halves x c e hs = sym (count-append x (upto c e hs) (onward c e hs)) ∙ ap (count x) (upto-onward c e hs) ∙ count-rotate_to x c hs

-- the tails of an edge row
pub tail_first : (h a b : ℕ) → tail_in (edge_row h a b) (is_first h) ≡ a
tail_first h a b = elim (is_first h) as (λ c. tail_in (cond c (record { plus_tail = a; minus_tail = b }) (record { plus_tail = b; minus_tail = a })) c ≡ a) [ true ↦ refl | false ↦ refl ]

pub tail_second : (h a b : ℕ) → tail_in (edge_row h a b) (is_first (mate h)) ≡ b
tail_second h a b = grind (arith, is_first-mate)

pub items_or_lone : (xs : List ℕ) (v : ℕ) → items_of (cycle_or_lone xs v) ≡ canonical xs
items_or_lone [] v = sym canonical_nil
items_or_lone (x ∷ xs) v = refl

pub count_or_lone : (x : ℕ) (xs : List ℕ) (v : ℕ) → count x (items_of (cycle_or_lone xs v)) ≡ count x xs
count_or_lone x xs v = ap (count x) (items_or_lone xs v) ∙ count-canonical x xs

pub loop_or_lone : (next : ℕ → ℕ) (xs : List ℕ) (v : ℕ) → IsApart xs → IsRing next xs → IsLoop next (cycle_or_lone xs v)
loop_or_lone next [] v d r = tt
loop_or_lone next (x ∷ xs) v d r = (canonical_cycle (x ∷ xs) d x (omega (arith, tick_same x)), canonical_ring next (x ∷ xs) r)

-- a list that became lone was empty
pub was_empty : (xs : List ℕ) (v w : ℕ) → cycle_or_lone xs v ≡ lone w → (xs ≡ []) × (w ≡ v)
was_empty [] v w e = (refl, cc)
was_empty (x ∷ xs) v w e = grind arith

-- the point of a vertex that is there
pub point_row : (M : Model) (w : ℕ) → Has M.vertices w → table.get M.vertices w ≡ Some (point_of M w)
unfolding point_of
point_row M w there = grind arith

pub face_there : (M : Model) (f : ℕ) → Has M.faces f → table.get M.faces f ≡ Some (record { solid = solid_of M f; outer = outer M f })
unfolding solid_of outer
face_there M f there = grind arith

-- an edge's row, from the tails of its two halves
pub edge_there : (M : Model) (h : ℕ) → HasHalf M h → table.get M.edges (edge_of h) ≡ Some (edge_row h (tail M h) (tail M (mate h)))
unfolding tail
edge_there M h there = grind (arith, edge_of-mate, is_first-mate)

pub half_of : (M : Model) (g : HalfEdge) → table.has M.edges g.edge ≡ true → HasHalf M (code g)
half_of M g t = ap (λ x. is_some (table.get M.edges x)) (edge_of-code g) ∙ t

pub of_half : (M : Model) (g : HalfEdge) → HasHalf M (code g) → table.has M.edges g.edge ≡ true
of_half M g t = ap (λ x. is_some (table.get M.edges x)) (sym (edge_of-code g)) ∙ t

pub empty_is : (xs : List ℕ) → not (is_empty xs) ≡ false → xs ≡ []
empty_is [] e = refl
empty_is (x ∷ xs) e = absurd (true≢false e)

pub ring_none : (a f o l : ℕ) → (nat_eq a f && not (nat_eq o l)) ≡ false → a ≡ f → o ≡ l
ring_none a f o l e p = grind (arith, nat_tests)

-- a face without a ring has its outer loop only
pub no_rings_means : (M : Model) (f : ℕ) → has_rings M f ≡ false → (q : ℕ) → Has M.loops q → face_of M q ≡ f → outer M f ≡ q
unfolding has_rings
no_rings_means M f e q there p = grind (arith, none_all_where, face_row)

pub means_no_rings : (M : Model) (f : ℕ) → ((q : ℕ) → Has M.loops q → face_of M q ≡ f → outer M f ≡ q) → has_rings M f ≡ false
unfolding has_rings
means_no_rings M f n = grind (arith, all_where_none, face_row)

pub lone_is : (c : LoopContent) → is_lone c ≡ true → c ≡ lone (lone_vertex c)
lone_is (lone v) e = refl
lone_is (cycle hs) e = absurd (true≢false (sym e))

pub is_lone_of : (c : LoopContent) (u : ℕ) → c ≡ lone u → is_lone c ≡ true
is_lone_of c u e = ap is_lone e

-- a ring is the outer loop of no face
pub never_outer : (M : Model) → Sound M → (l : ℕ) → outer M (face_of M l) ≢ l → (p : ℕ) → Has M.faces p → outer M p ≢ l
never_outer M sound l a p there e = a (ap (outer M) (sym (ap (face_of M) e) ∙ (sound.outers_there p there).1) ∙ e)

pub ring_test : (a b c : Bool) → (a && b && not c) ≡ true → c ≡ false
ring_test true true false e = refl
ring_test true true true e = sym e
ring_test true false true e = sym e
ring_test true false false e = refl
ring_test false b true e = sym e
ring_test false b false e = refl

pub is_ring : (M : Model) (l : ℕ) → is_ring_of M (face_of M l) l ≡ true → outer M (face_of M l) ≢ l
is_ring M l e = eqb-false _ _ (ring_test (table.has M.loops l) (nat_eq (face_of M l) (face_of M l)) (nat_eq (outer M (face_of M l)) l) e)

pub test_ring : (a b c : Bool) → a ≡ true → b ≡ true → c ≡ false → (a && b && not c) ≡ true
test_ring a b c x y z = (λ i. x i && y i && not (z i))

-- what follows m in the ring h X m Y
pub after_second : (hs : List ℕ) → IsCycle hs → (h m : ℕ) → h ≢ m → IsIn h hs → IsIn m hs → successor hs m ≡ head_or h (beyond h m hs)
after_second hs cy h m hm i j =
    let one = successor_same m hs (rotate_to h hs) (rotate_to-rotates h hs) cy.apart j in
    let two = successor_at m (h ∷ between h m hs) (beyond h m hs) in
    grind (arith, one, rotate_to-rotates h hs, ring_split h m hs i j hm, two, tick_other m h, count-before m (rest h hs))

pub not_lone_cycle : (c : LoopContent) → is_lone c ≡ false → c ≡ cycle (items_of c)
not_lone_cycle (lone v) e = absurd (true≢false e)
not_lone_cycle (cycle hs) e = refl

-- the row of an edge that the plus half-edge brings
pub edge_row_plus : (e a b : ℕ) → edge_row (plus e) a b ≡ record { plus_tail = a; minus_tail = b }
edge_row_plus e a b = ap (λ t. cond t (record { plus_tail = a; minus_tail = b }) (record { plus_tail = b; minus_tail = a })) (plus_row e).1

pub cycle_filled : (ys : List ℕ) (v : ℕ) → ys ≢ [] → cycle_or_lone ys v ≡ cycle (canonical ys)
cycle_filled [] v e = absurd (e refl)
cycle_filled (y ∷ ys) v e = refl

pub solid_either : (b : Bool) (row : FaceRow) (s : ℕ) → (cond b (record row { solid = s }) row).solid ≡ cond b s row.solid
solid_either true row s = refl
solid_either false row s = refl

pub content_either : (b : Bool) (row : LoopRow) (f : ℕ) → (cond b (record row { face = f }) row).content ≡ row.content
content_either true row f = refl
content_either false row f = refl
