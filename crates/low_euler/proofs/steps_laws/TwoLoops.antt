-- Stores that differ in the contents of two loops only: what the readers answer there, and what the steps make of them.
use Rattle.low_euler.proofs.Prelude.{◌≡◌, ◌≢◌, ℕ, ◌+◌, ◌≤◌, true, cond, List, [], ◌∷◌, Some, is_some, unwrap_or, sym, ap, ◌∙◌, subst, arith, ◌⊎◌, inl, inr, ne_eqb, nat_tests, eqb_tells, count, IsIn, IsApart, rest, predecessor, cut_left, cut_right, joined, put_ring, Table, tables, same_table, Model, LoopContent, LoopRow, cycle, holds, items_of, content, face_of, has_half, loop_of, cycle_of, before, tail, no_loop, HasHalf, StandsIn, cycle_or_lone, IsIn_predecessor, put-put, put_turned, put_same, content_row, face_row, same_content, in-holds, holds_in, loop_at, Store, Extents, join, join_loose, join_loops, cut_to, IsStanding, put_before, take_out}
use Rattle.euler_operators.specs.Table as table
use Rattle.low_euler.proofs.steps_laws.LooseRings.{AreSingles, key_is}

-- two loops of a model, which get the faces fr and fl, and half-edges that stand in no other loop
pub record TwoLoops (N : Model) (r l fr fl : ℕ) (all : List ℕ) : Type 0 where
  pub apart : r ≢ l
  pub first_real : r ≢ 0
  pub second_real : l ≢ 0
  pub once : IsApart all
  pub there : (x : ℕ) → IsIn x all → HasHalf N x
  pub others : (x q : ℕ) → IsIn x all → q ≢ r → q ≢ l → count x (items_of (content N q)) ≡ 0

-- c and d hold some of the half-edges, each once
pub record Fits (all : List ℕ) (c d : LoopContent) : Type 0 where
  pub some : (x : ℕ) → count x (items_of c) + count x (items_of d) ≤ count x all

-- the loops of a and b can be joined
abbrev pub CanJoin : Store → ℕ → ℕ → Type 0
CanJoin s a b = record {
  a_there : has_half s.model a ≡ true;
  b_there : has_half s.model b ≡ true;
  looped : loop_of s.model a ≢ 0;
  apart : loop_of s.model b ≢ loop_of s.model a;
}

-- a loop can be cut at a and b, and what stands from b on goes to loop l
abbrev pub CanCut : Store → ℕ → ℕ → ℕ → Type 0
CanCut s a b l = record {
  a_there : has_half s.model a ≡ true;
  b_there : has_half s.model b ≡ true;
  looped : loop_of s.model a ≢ 0;
  together : loop_of s.model b ≡ loop_of s.model a;
  apart : a ≢ b;
  free : l ≢ 0 → (table.has s.model.loops l ≡ true) × (items_of (content s.model l) ≡ []);
}

module _ {N : Model} {r l fr fl : ℕ} {all : List ℕ} (loops : TwoLoops N r l fr fl all) where
  abbrev pub row_r : LoopContent → LoopRow
  row_r c = record { face = fr; content = c }

  abbrev pub row_l : LoopContent → LoopRow
  row_l d = record { face = fl; content = d }

  -- the model whose loops r and l hold c and d
  abbrev pub holding : LoopContent → LoopContent → Model
  holding c d = record N { loops = table.put (table.put N.loops r (row_r c)) l (row_l d) }

  pub get_r : (t : Table LoopRow) (x y : LoopRow) → table.get (table.put (table.put t r x) l y) r ≡ Some x
  get_r t x y = let a = loops.apart in grind (arith, nat_tests, tables, a)

  pub get_l : (t : Table LoopRow) (x y : LoopRow) → table.get (table.put (table.put t r x) l y) l ≡ Some y
  get_l t x y = grind (arith, nat_tests, tables)

  get_else : (t : Table LoopRow) (x y : LoopRow) (q : ℕ) → q ≢ r → q ≢ l → table.get (table.put (table.put t r x) l y) q ≡ table.get t q
  get_else t x y q a b = grind (arith, nat_tests, tables)

  pub content_r : (c d : LoopContent) → content (holding c d) r ≡ c
  content_r c d = content_row (holding c d) r (row_r c) (get_r N.loops (row_r c) (row_l d))

  pub content_l : (c d : LoopContent) → content (holding c d) l ≡ d
  content_l c d = content_row (holding c d) l (row_l d) (get_l N.loops (row_r c) (row_l d))

  pub face_r : (c d : LoopContent) → face_of (holding c d) r ≡ fr
  face_r c d = face_row (holding c d) r (row_r c) (get_r N.loops (row_r c) (row_l d))

  pub face_l : (c d : LoopContent) → face_of (holding c d) l ≡ fl
  face_l c d = face_row (holding c d) l (row_l d) (get_l N.loops (row_r c) (row_l d))

  pub put_r : (c d e : LoopContent) → table.put (holding c d).loops r (row_r e) ≡ (holding e d).loops
  put_r c d e = put_turned (table.put N.loops r (row_r c)) l r (row_l d) (row_r e) (λ q. loops.apart (sym q)) ∙ ap (λ t. table.put t l (row_l d)) (put-put N.loops r (row_r c) (row_r e))

  pub put_l : (c d e : LoopContent) → table.put (holding c d).loops l (row_l e) ≡ (holding c e).loops
  put_l c d e = put-put (table.put N.loops r (row_r c)) l (row_l d) (row_l e)

  -- rows that are there already
  pub held_before : (c d : LoopContent) → table.get N.loops r ≡ Some (row_r c) → table.get N.loops l ≡ Some (row_l d) → (holding c d).loops ≡ N.loops
  held_before c d a b = ap (λ t. table.put t l (row_l d)) (put_same N.loops r (row_r c) a) ∙ put_same N.loops l (row_l d) b

  -- the second loop taken away
  pub gone_l : (c d : LoopContent) → table.remove (holding c d).loops l ≡ table.remove (table.put N.loops r (row_r c)) l
  gone_l c d = same_table _ _ (λ q. grind (arith, nat_tests, tables))

  -- the second loop, once it holds none
  pub emptied_l : (c : LoopContent) (P : Model) (n : ℕ) → n ≡ l → P.loops ≡ (holding c (cycle [])).loops → (table.has P.loops n ≡ true) × (items_of (content P n) ≡ [])
  unfolding content
  emptied_l c P n en e = (
    ap (table.has P.loops) en ∙ ap (λ t. table.has t l) e ∙ ap is_some (get_l N.loops (row_r c) (row_l (cycle []))),
    ap (λ q. items_of (content P q)) en ∙ ap (λ t. items_of (unwrap_or (table.get t l) no_loop).content) e ∙ ap items_of (content_l c (cycle [])),
  )

  module _ {c d : LoopContent} (fits : Fits all c d) where
    abbrev P : Model
    P = holding c d

    content_else : (q : ℕ) → q ≢ r → q ≢ l → content P q ≡ content N q
    content_else q a b = same_content N P q (get_else N.loops (row_r c) (row_l d) q a b)

    count_else : (x q : ℕ) → IsIn x all → q ≢ r → q ≢ l → count x (items_of (content P q)) ≡ 0
    count_else x q i a b = ap (λ k. count x (items_of k)) (content_else q a b) ∙ loops.others x q i a b

    -- a half-edge of the two stands in one of them
    found : (x q : ℕ) → IsIn x all → StandsIn P x q → ((q ≡ r) × IsIn x (items_of c)) ⊎ ((q ≡ l) × IsIn x (items_of d))
    found x q i t =
        let j : IsIn x (items_of (content P q)) = holds_in x (content P q) t in
        elim (eqb_tells q r) [
          | inl a ↦ inl (a.1, subst (λ k. IsIn x (items_of k)) (ap (content P) a.1 ∙ content_r c d) j)
          | inr a ↦ elim (eqb_tells q l) [
            | inl b ↦ inr (b.1, subst (λ k. IsIn x (items_of k)) (ap (content P) b.1 ∙ content_l c d) j)
            | inr b ↦ absurd (omega (arith, j, count_else x q i a.1 b.1))
          ]
        ]

    pub loop_r : (x : ℕ) → IsIn x (items_of c) → loop_of P x ≡ r
    loop_r x i = loop_at P x r (ap (holds x) (content_r c d) ∙ in-holds x c i)
        (λ q t. elim (found x q (omega (arith, fits.some x, i)) t) [ inl a ↦ a.0 | inr b ↦ absurd (omega (arith, fits.some x, loops.once x, i, b.1)) ])

    pub loop_l : (x : ℕ) → IsIn x (items_of d) → loop_of P x ≡ l
    loop_l x i = loop_at P x l (ap (holds x) (content_l c d) ∙ in-holds x d i)
        (λ q t. elim (found x q (omega (arith, fits.some x, i)) t) [ inl a ↦ absurd (omega (arith, fits.some x, loops.once x, i, a.1)) | inr b ↦ b.0 ])

    pub cycle_r : (x : ℕ) → IsIn x (items_of c) → cycle_of P x ≡ items_of c
    cycle_r x i = ap (λ q. items_of (content P q)) (loop_r x i) ∙ ap items_of (content_r c d)

    pub cycle_l : (x : ℕ) → IsIn x (items_of d) → cycle_of P x ≡ items_of d
    cycle_l x i = ap (λ q. items_of (content P q)) (loop_l x i) ∙ ap items_of (content_l c d)

    pub before_r : (x : ℕ) → IsIn x (items_of c) → before P x ≡ predecessor (items_of c) x
    unfolding before
    before_r x i = ap (λ q. predecessor q x) (cycle_r x i)

    -- a half-edge of loop k, which holds some of them
    standing_in : (k : ℕ) (e : LoopContent) → content P k ≡ e → k ≢ 0 → ((x : ℕ) → count x (items_of e) ≤ count x all) → ((x : ℕ) → IsIn x (items_of e) → loop_of P x ≡ k) → (x : ℕ) → IsIn x (items_of e) → IsStanding P x
    unfolding before
    standing_in k e at real some in_k x i =
        let ring : cycle_of P x ≡ items_of e = ap (λ q. items_of (content P q)) (in_k x i) ∙ ap items_of at in
        let last : IsIn (before P x) (items_of e) = subst (λ q. IsIn (predecessor q x) (items_of e)) (sym ring) (IsIn_predecessor x (items_of e) i) in
        record {
          there = loops.there x (omega (arith, some x, i));
          stands = ap (λ q. holds x (content P q)) (in_k x i) ∙ ap (holds x) at ∙ in-holds x e i;
          looped = λ z. real (sym (in_k x i) ∙ z);
          apart = λ y. omega (arith, ap (count y) ring, some y, loops.once y);
          before_there = loops.there (before P x) (omega (arith, some (before P x), last));
          before_near = in_k (before P x) last ∙ sym (in_k x i);
        }

    pub standing_r : (x : ℕ) → IsIn x (items_of c) → IsStanding P x
    standing_r = standing_in r c (content_r c d) loops.first_real (λ x. omega (arith, fits.some x)) loop_r

    pub standing_l : (x : ℕ) → IsIn x (items_of d) → IsStanding P x
    standing_l = standing_in l d (content_l c d) loops.second_real (λ x. omega (arith, fits.some x)) loop_l

  -- ---- the steps

  module _ (R : Extents) where
    -- the store whose loops r and l hold c and d, with loose rings z
    abbrev pub state : LoopContent → LoopContent → Table (List ℕ) → Store
    state c d z = record { model = holding c d; loose = z; room = R }

    abbrev state_r : LoopContent → LoopContent → ℕ → ℕ → LoopContent → Table (List ℕ) → Store
    state_r c d q f e z = record { model = record N { loops = table.put (holding c d).loops q (record { face = f; content = e }) }; loose = z; room = R }

    -- a new content of the first loop, or of the second
    pub new_r : (c d e : LoopContent) (z : Table (List ℕ)) (q : ℕ) → q ≡ r → state_r c d q (face_of (holding c d) q) e z ≡ state e d z
    new_r c d e z q a = ap (λ k. state_r c d k (face_of (holding c d) k) e z) a ∙ ap (λ f. state_r c d r f e z) (face_r c d)
        ∙ ap (λ t. record { model = record N { loops = t }; loose = z; room = R }) (put_r c d e)

    pub new_l : (c d e : LoopContent) (z : Table (List ℕ)) (q : ℕ) → q ≡ l → state_r c d q (face_of (holding c d) q) e z ≡ state c e z
    new_l c d e z q a = ap (λ k. state_r c d k (face_of (holding c d) k) e z) a ∙ ap (λ f. state_r c d l f e z) (face_l c d)
        ∙ ap (λ t. record { model = record N { loops = t }; loose = z; room = R }) (put_l c d e)

    module _ {c d : LoopContent} (z : Table (List ℕ)) (fits : Fits all c d) where
      -- h, which is loose alone, put before g
      pub put_before_r : (g h : ℕ) → IsIn g (items_of c) → AreSingles z → table.get z h ≡ Some (h ∷ []) →
          put_before (state c d z) g h ≡ state (cycle (put_ring h g (items_of c))) d (table.remove z h)
      unfolding put_before
      put_before_r g h i each at =
          (λ k. state_r c d (loop_of (holding c d) g) (face_of (holding c d) (loop_of (holding c d) g)) (cycle (put_ring h g (cycle_r fits g i k)))
          (table.remove z (key_is (state c d z) h each at k)))
          ∙ new_r c d (cycle (put_ring h g (items_of c))) (table.remove z h) (loop_of (holding c d) g) (loop_r fits g i)

      -- h taken out, which qs follow in its ring
      taken : (h : ℕ) {hs qs : List ℕ} → cycle_of (holding c d) h ≡ hs → rest h hs ≡ qs →
          take_out (state c d z) h ≡ state_r c d (loop_of (holding c d) h) (face_of (holding c d) (loop_of (holding c d) h)) (cycle_or_lone qs (tail N h)) (table.put z h (h ∷ []))
      unfolding take_out tail
      taken h e f = ap (λ ring. state_r c d (loop_of (holding c d) h) (face_of (holding c d) (loop_of (holding c d) h)) (cycle_or_lone ring (tail N h)) (table.put z h (h ∷ []))) (ap (rest h) e ∙ f)

      pub take_out_r : (h : ℕ) {qs : List ℕ} → IsIn h (items_of c) → rest h (items_of c) ≡ qs → take_out (state c d z) h ≡ state (cycle_or_lone qs (tail N h)) d (table.put z h (h ∷ []))
      take_out_r h {qs} i e = taken h (cycle_r fits h i) e ∙ new_r c d (cycle_or_lone qs (tail N h)) (table.put z h (h ∷ [])) (loop_of (holding c d) h) (loop_r fits h i)

      pub take_out_l : (h : ℕ) {qs : List ℕ} → IsIn h (items_of d) → rest h (items_of d) ≡ qs → take_out (state c d z) h ≡ state c (cycle_or_lone qs (tail N h)) (table.put z h (h ∷ []))
      take_out_l h {qs} i e = taken h (cycle_l fits h i) e ∙ new_l c d (cycle_or_lone qs (tail N h)) (table.put z h (h ∷ [])) (loop_of (holding c d) h) (loop_l fits h i)

    abbrev state_2 : LoopContent → LoopContent → ℕ → LoopRow → ℕ → LoopRow → Table (List ℕ) → Store
    state_2 c d q x k y z = record { model = record N { loops = table.put (table.put (holding c d).loops q x) k y }; loose = z; room = R }

    both : (c d e k : LoopContent) (z : Table (List ℕ)) → state_2 c d r (row_r e) l (row_l k) z ≡ state e k z
    both c d e k z = ap (λ t. record { model = record N { loops = table.put t l (row_l k) }; loose = z; room = R }) (put_r c d e)
        ∙ ap (λ t. record { model = record N { loops = t }; loose = z; room = R }) (put_l e d k)

    -- the first loop is cut at two half-edges, and the part from the second on goes to the second loop
    pub cut_parts : {xs : List ℕ} {d : LoopContent} (z : Table (List ℕ)) → Fits all (cycle xs) d → (a b : ℕ) → IsIn a xs →
        cut_to (state (cycle xs) d z) a b l ≡ state (cycle (cut_left a b xs)) (cycle (cut_right a b xs)) z
    unfolding cut_to
    cut_parts {xs} {d} z fits a b i =
        let P : Model = holding (cycle xs) d in
        let at = loop_r fits a i in
        let hs = cycle_r fits a i in
        (λ k. state_2 (cycle xs) d (at k) (record { face = face_of P (at k); content = cycle (cut_left a b (hs k)) }) l (record { face = face_of P l; content = cycle (cut_right a b (hs k)) }) z)
        ∙ (λ k. state_2 (cycle xs) d r (record { face = face_r (cycle xs) d k; content = cycle (cut_left a b xs) }) l (record { face = face_l (cycle xs) d k; content = cycle (cut_right a b xs) }) z)
        ∙ both (cycle xs) d (cycle (cut_left a b xs)) (cycle (cut_right a b xs)) z

    -- what the cut asks, where the second loop is empty
    pub cut_asks : {xs : List ℕ} (z : Table (List ℕ)) → Fits all (cycle xs) (cycle []) → (a b : ℕ) → IsIn a xs → IsIn b xs → a ≢ b →
        (p : Store) (n : ℕ) → p ≡ state (cycle xs) (cycle []) z → n ≡ b → CanCut p a n l
    cut_asks {xs} z fits a b i j ne p n e en = subst (λ k. CanCut p a k l) (sym en) (subst (λ t. CanCut t a b l) (sym e) (record {
      a_there = (standing_r fits a i).there;
      b_there = (standing_r fits b j).there;
      looped = (standing_r fits a i).looped;
      together = loop_r fits b j ∙ sym (loop_r fits a i);
      apart = ne;
      free = λ _. (ap is_some (get_l N.loops (row_r (cycle xs)) (row_l (cycle []))), ap items_of (content_l (cycle xs) (cycle [])));
    }))

    -- what the join asks
    pub join_asks : {xs ys : List ℕ} (z : Table (List ℕ)) → Fits all (cycle xs) (cycle ys) → (a b : ℕ) → IsIn a xs → IsIn b ys →
        (p : Store) (n : ℕ) → p ≡ state (cycle xs) (cycle ys) z → n ≡ b → CanJoin p a n
    join_asks z fits a b i j p n e en = subst (λ k. CanJoin p a k) (sym en) (subst (λ t. CanJoin t a b) (sym e) (record {
      a_there = (standing_r fits a i).there;
      b_there = (standing_l fits b j).there;
      looped = (standing_r fits a i).looped;
      apart = λ same. loops.apart (sym (loop_r fits a i) ∙ sym same ∙ loop_l fits b j);
    }))

    -- the two loops become one, and the second is empty
    pub join_parts : {xs ys : List ℕ} (z : Table (List ℕ)) → Fits all (cycle xs) (cycle ys) → (a b : ℕ) → IsIn a xs → IsIn b ys →
        join (state (cycle xs) (cycle ys) z) a b ≡ state (cycle (joined a b xs ys)) (cycle []) z
    unfolding join_loops
    join_parts {xs} {ys} z fits a b i j =
        let P : Model = holding (cycle xs) (cycle ys) in
        let s : Store = state (cycle xs) (cycle ys) z in
        let la = loop_r fits a i in
        let lb = loop_l fits b j in
        let ha = cycle_r fits a i in
        let hb = cycle_l fits b j in
        ap (λ t. cond t (join_loose s a b) (join_loops s a b)) (ne_eqb (loop_of P b) 0 (λ e. loops.second_real (sym lb ∙ e)))
        ∙ (λ k. state_2 (cycle xs) (cycle ys) (lb k) (record { face = face_of P (lb k); content = cycle [] }) (la k) (record { face = face_of P (la k); content = cycle (joined a b (ha k) (hb k)) }) z)
        ∙ (λ k. state_2 (cycle xs) (cycle ys) l (record { face = face_l (cycle xs) (cycle ys) k; content = cycle [] }) r (record { face = face_r (cycle xs) (cycle ys) k; content = cycle (joined a b xs ys) }) z)
        ∙ ap (λ t. record { model = record N { loops = t }; loose = z; room = R })
        (ap (λ t. table.put t r (row_r (cycle (joined a b xs ys)))) (put_l (cycle xs) (cycle ys) (cycle [])) ∙ put_r (cycle xs) (cycle []) (cycle (joined a b xs ys)))
