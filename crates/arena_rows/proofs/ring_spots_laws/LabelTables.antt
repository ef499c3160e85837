-- The table of labels, where one is handed out, taken back or stands for another loop.
use Rattle.arena_rows.proofs.Prelude.{◌≡◌, ◌≢◌, ℕ, zero, suc, ◌+◌, ◌<◌, ◌≤◌, List, [], ◌∷◌, ◌++◌, length, refl, sym, ap, subst, ◌∙◌, arith, ◌⊎◌, inl, inr, get_or-set_same, get_or-set_other, length-set, length-append, cases_eq, count, IsIn, tick_same, tick_other, tick_le, IsIn_head, Labels, loop_at, IsChain, IsTable, StandsFor, IsReused, IsNew, IsHandedOut, IsTakenBack, HaveMoreRoom}
use Rattle.std.proofs.lemmas.List.{get_or_past, get_or_push}

-- the free labels stay chained where none of them is written
chain_kept : (rows new : List ℕ) (f : ℕ) (ns : List ℕ) → ((n : ℕ) → IsIn n ns → loop_at new n ≡ loop_at rows n) → IsChain rows f ns → IsChain new f ns
chain_kept rows new f [] same c = c
chain_kept rows new f (n ∷ ns) same c = (c.0, subst (λ g. IsChain new g ns) (sym (same n (IsIn_head n ns))) (chain_kept rows new (loop_at rows n) ns (λ m i. same m (omega (arith, i))) c.1))

-- the same labels are used, told in another way; of label 0 nothing is said
pub table_as : (t : Labels) (used other : ℕ → Type 0) → IsTable t used → ((n : ℕ) → n ≢ 0 → used n → other n) → ((n : ℕ) → n ≢ 0 → other n → used n) → IsTable t other
table_as t used other T to from = record {
  none = T.none;
  frees = T.frees;
  chain = T.chain;
  apart = T.apart;
  within = T.within;
  there = λ n z u. T.there n z (from n z u);
  taken = λ n z b f. to n z (T.taken n z b f);
}

-- the label that stands for another loop, and each other one
pub stands_here : (t new : Labels) (m l : ℕ) → StandsFor t new m l → m < length t.loops.items → loop_at new.loops.items m ≡ l
stands_here t new m l h below = ap (λ xs. loop_at xs m) h.rows ∙ get_or-set_same t.loops.items m l 0 below

pub stands_other : (t new : Labels) (m l : ℕ) → StandsFor t new m l → (n : ℕ) → n ≢ m → loop_at new.loops.items n ≡ loop_at t.loops.items n
stands_other t new m l h n ne = ap (λ xs. loop_at xs n) h.rows ∙ get_or-set_other t.loops.items m n l 0 ne

-- no row comes or goes
pub len_stands : (t new : Labels) (m l : ℕ) → StandsFor t new m l → length new.loops.items ≡ length t.loops.items
len_stands t new m l h = ap length h.rows ∙ length-set t.loops.items m l

-- label m is used now, beside those that were, and stands for loop l
pub record IsGiven (t new : Labels) (used : ℕ → Type 0) (m l : ℕ) : Type 0 where
  pub table : IsTable new (λ n. used n ⊎ (n ≡ m))
  pub named : m ≢ 0
  pub fresh : used m → ⊥
  pub here : loop_at new.loops.items m ≡ l
  pub other : (n : ℕ) → n ≢ m → loop_at new.loops.items n ≡ loop_at t.loops.items n
  pub longer : length t.loops.items ≤ length new.loops.items

module _ (t new : Labels) (used : ℕ → Type 0) (T : IsTable t used) (m l : ℕ) where
  -- the first free label is handed out
  reused : (fs : List ℕ) → T.frees ≡ fs → IsReused t new m l → IsGiven t new used m l
  reused [] e h = absurd (h.label.0 (h.label.1 ∙ subst (IsChain t.loops.items t.free) e T.chain))
  reused (n ∷ ns) e h =
      let chain : IsChain t.loops.items t.free (n ∷ ns) = subst (IsChain t.loops.items t.free) e T.chain in
      let is : m ≡ n = h.label.1 ∙ chain.0 in
      let below : m < length t.loops.items = (T.within m (subst (IsIn m) (sym e) (subst (λ k. IsIn k (n ∷ ns)) (sym is) (IsIn_head n ns)))).1 in
      let len : length new.loops.items ≡ length t.loops.items = ap length h.rows ∙ length-set t.loops.items m l in
      let other : (k : ℕ) → k ≢ m → loop_at new.loops.items k ≡ loop_at t.loops.items k = λ k ne. ap (λ xs. loop_at xs k) h.rows ∙ get_or-set_other t.loops.items m k l 0 ne in
      let apart : (x : ℕ) → count x (n ∷ ns) ≤ 1 = λ x. subst (λ xs. count x xs ≤ 1) e (T.apart x) in
      let left : (k : ℕ) → IsIn k ns → k ≢ m = λ k i q. absurd (let a = apart n in let j : IsIn n ns = subst (λ z. IsIn z ns) (q ∙ is) i in omega (arith, a, j, tick_same n)) in
      record {
        table = record {
          none = other 0 (λ q. h.label.0 (sym q)) ∙ T.none;
          frees = ns;
          chain = chain_kept t.loops.items new.loops.items new.free ns (λ k i. other k (left k i)) (subst (λ f. IsChain t.loops.items f ns) (sym (h.free ∙ ap (loop_at t.loops.items) is)) chain.1);
          apart = λ x. omega (arith, apart x);
          within = λ k i. let w = T.within k (subst (IsIn k) (sym e) (omega (arith, i))) in (w.0, omega (arith, w.1, len));
          there = λ k z u. elim u [
            | inl v ↦ let w = T.there k z v in let c : count k (n ∷ ns) ≡ 0 = subst (λ xs. count k xs ≡ 0) e w.1 in (omega (arith, w.0, len), omega (arith, c))
            | inr q ↦ (omega (arith, q, below, len), subst (λ x. count x ns ≡ 0) (sym (q ∙ is)) (omega (arith, apart n, tick_same n)))
          ];
          taken = λ k z b f. elim (cases_eq k m) [
            | inl q ↦ inr q
            | inr ne ↦ inl (T.taken k z (omega (arith, b, len)) (subst (λ xs. count k xs ≡ 0) (sym e) (omega (arith, f, tick_other k n (λ q. ne (q ∙ sym is))))))
          ];
        };
        named = h.label.0;
        fresh = λ u. let c : count m (n ∷ ns) ≡ 0 = subst (λ xs. count m xs ≡ 0) e (T.there m h.label.0 u).1 in let d : count n (n ∷ ns) ≡ 0 = subst (λ x. count x (n ∷ ns) ≡ 0) is c in absurd (omega (arith, d, tick_same n));
        here = ap (λ xs. loop_at xs m) h.rows ∙ get_or-set_same t.loops.items m l 0 below;
        other = other;
        longer = omega (arith, len);
      }

  -- none is free, and a new label is handed out
  renewed : (fs : List ℕ) → T.frees ≡ fs → 0 < length t.loops.items → IsNew t new m l → IsGiven t new used m l
  renewed (n ∷ ns) e some h =
      let chain : IsChain t.loops.items t.free (n ∷ ns) = subst (IsChain t.loops.items t.free) e T.chain in
      absurd ((T.within n (subst (IsIn n) (sym e) (IsIn_head n ns))).0 (sym chain.0 ∙ h.free.0))
  renewed [] e some h =
      let len : length new.loops.items ≡ length t.loops.items + 1 = ap length h.rows ∙ length-append t.loops.items (l ∷ []) in
      let named : m ≢ 0 = λ q. absurd (omega (arith, q, h.label, some)) in
      let other : (k : ℕ) → k ≢ m → loop_at new.loops.items k ≡ loop_at t.loops.items k = λ k ne. ap (λ xs. loop_at xs k) h.rows ∙ pushed t.loops.items k (λ q. ne (q ∙ sym h.label)) in
      record {
        table = record {
          none = other 0 (λ q. named (sym q)) ∙ T.none;
          frees = [];
          chain = h.free.1;
          apart = λ x. omega arith;
          within = λ k i. absurd (omega (arith, i));
          there = λ k z u. elim u [ inl v ↦ (omega (arith, (T.there k z v).0, len), refl) | inr q ↦ (omega (arith, q, h.label, len), refl) ];
          taken = λ k z b f. elim (cases_eq k m) [
            | inl q ↦ inr q
            | inr ne ↦ let below : k < length t.loops.items = omega (arith, b, len, h.label) in inl (T.taken k z below (subst (λ xs. count k xs ≡ 0) (sym e) refl))
          ];
        };
        named = named;
        fresh = λ u. absurd (omega (arith, (T.there m named u).0, h.label));
        here = ap (λ xs. loop_at xs m) h.rows ∙ get_or_push t.loops.items l 0 m (sym h.label);
        other = other;
        longer = omega (arith, len);
      }
    where
      pushed : (rows : List ℕ) (k : ℕ) → k ≢ length rows → loop_at (rows ++ l ∷ []) k ≡ loop_at rows k
      pushed [] zero ne = absurd (ne refl)
      pushed [] (suc k) ne = get_or_past (l ∷ []) (suc k) 0 (omega arith) ∙ sym (get_or_past [] (suc k) 0 (omega arith))
      pushed (x ∷ rows) zero ne = refl
      pushed (x ∷ rows) (suc k) ne = pushed rows k (λ q. ne (ap suc q))

  -- a label is handed out
  pub given : 0 < length t.loops.items → IsHandedOut t new m l → IsGiven t new used m l
  given some h = elim h.either [ inl r ↦ reused T.frees refl r | inr n ↦ renewed T.frees refl some n ]

  -- label m stands for another loop
  pub stands : StandsFor t new m l → m ≢ 0 → used m → IsTable new used
  stands h named is =
      let len = len_stands t new m l h in
      let other = stands_other t new m l h in
      record {
        none = other 0 (λ q. named (sym q)) ∙ T.none;
        frees = T.frees;
        chain = chain_kept t.loops.items new.loops.items new.free T.frees (λ k i. other k (λ q. absurd (let j : IsIn m T.frees = subst (λ z. IsIn z T.frees) q i in omega (arith, j, (T.there m named is).1))))
            (subst (λ f. IsChain t.loops.items f T.frees) (sym h.free) T.chain);
        apart = T.apart;
        within = λ k i. let w = T.within k i in (w.0, omega (arith, w.1, len));
        there = λ k z u. let w = T.there k z u in (omega (arith, w.0, len), w.1);
        taken = λ k z b f. T.taken k z (omega (arith, b, len)) f;
      }

-- where label 0 is taken back nothing changes
pub none_taken_back : (t : Labels) (m : ℕ) → m ≡ 0 → IsTakenBack t t m
none_taken_back t m e = record { none = λ _. refl; rows = λ z. absurd (z e); free = λ z. absurd (z e); room = refl }

-- no row comes or goes where a label is taken back
pub len_taken_back : (t new : Labels) (m : ℕ) → IsTakenBack t new m → length new.loops.items ≡ length t.loops.items
len_taken_back t new m h = elim (cases_eq m 0) [
  | inl q ↦ ap (λ (s : Labels). length s.loops.items) (h.none q)
  | inr named ↦ ap length (h.rows named) ∙ length-set t.loops.items m t.free
]

-- label m is used no longer
pub record IsFreed (t new : Labels) (used : ℕ → Type 0) (m : ℕ) : Type 0 where
  pub table : IsTable new (λ n. used n × (n ≢ m))
  pub other : (n : ℕ) → n ≢ m → loop_at new.loops.items n ≡ loop_at t.loops.items n
  pub len : length new.loops.items ≡ length t.loops.items

-- a label is taken back
pub freed : (t new : Labels) (used : ℕ → Type 0) → IsTable t used → (m : ℕ) → (m ≢ 0 → used m) → IsTakenBack t new m → IsFreed t new used m
freed t new used T m is h = elim (cases_eq m 0) [
  | inl q ↦ subst (λ s. IsFreed t s used m) (sym (h.none q)) (record {
    table = table_as t used (λ n. used n × (n ≢ m)) T (λ n z u. (u, λ r. z (r ∙ q))) (λ n z u. u.0);
    other = λ n ne. refl;
    len = refl;
  })
  | inr named ↦
      let there = T.there m named (is named) in
      let rows = h.rows named in
      let len = len_taken_back t new m h in
      let other : (k : ℕ) → k ≢ m → loop_at new.loops.items k ≡ loop_at t.loops.items k = λ k ne. ap (λ xs. loop_at xs k) rows ∙ get_or-set_other t.loops.items m k t.free 0 ne in
      let here : loop_at new.loops.items m ≡ t.free = ap (λ xs. loop_at xs m) rows ∙ get_or-set_same t.loops.items m t.free 0 there.0 in
      record {
        table = record {
          none = other 0 (λ q. named (sym q)) ∙ T.none;
          frees = m ∷ T.frees;
          chain = (
            h.free named,
            chain_kept t.loops.items new.loops.items (loop_at new.loops.items m) T.frees (λ k i. other k (λ q. absurd (let j : IsIn m T.frees = subst (λ z. IsIn z T.frees) q i in omega (arith, j, there.1))))
                (subst (λ f. IsChain t.loops.items f T.frees) (sym here) T.chain),
          );
          apart = λ x. elim (cases_eq x m) [
            | inl q ↦ subst (λ z. count z (m ∷ T.frees) ≤ 1) (sym q) (omega (arith, there.1, tick_le m m))
            | inr ne ↦ omega (arith, T.apart x, tick_other x m ne)
          ];
          within = λ k i. elim (cases_eq k m) [
            | inl q ↦ (λ z. named (sym q ∙ z), omega (arith, q, there.0, len))
            | inr ne ↦ let w = T.within k (omega (arith, i, tick_other k m ne)) in (w.0, omega (arith, w.1, len))
          ];
          there = λ k z u. let w = T.there k z u.0 in (omega (arith, w.0, len), omega (arith, w.1, tick_other k m u.1));
          taken = λ k z b f.
              let ne : k ≢ m = λ q. absurd (let g : count m (m ∷ T.frees) ≡ 0 = subst (λ x. count x (m ∷ T.frees) ≡ 0) q f in omega (arith, g, tick_same m)) in
              (T.taken k z (omega (arith, b, len)) (omega (arith, f)), ne);
        };
        other = other;
        len = len;
      }
]

-- the room is the same
pub same_room : (t : Labels) → HaveMoreRoom t t
same_room t = record { rows = inl refl; free = refl; room = omega arith; some = λ h. h }

-- there is room for more labels
module _ (t new : Labels) where
  -- the labels that have rows stand for the loops for which they stood
  pub rows_more : HaveMoreRoom t new → (n : ℕ) → n < length t.loops.items → loop_at new.loops.items n ≡ loop_at t.loops.items n
  rows_more M n below = elim M.rows [ inl e ↦ ap (λ xs. loop_at xs n) e | inr e ↦ absurd (omega (arith, below, ap length e.0)) ]

  -- the same labels are used and free
  pub table_more : (used : ℕ → Type 0) → IsTable t used → HaveMoreRoom t new → IsTable new used
  table_more used T M = elim M.rows [
    | inl e ↦ let len : length new.loops.items ≡ length t.loops.items = ap length e in record {
      none = ap (λ xs. loop_at xs 0) e ∙ T.none;
      frees = T.frees;
      chain = chain T M;
      apart = T.apart;
      within = λ n i. let w = T.within n i in (w.0, omega (arith, w.1, len));
      there = λ n z u. let w = T.there n z u in (omega (arith, w.0, len), w.1);
      taken = λ n z b f. T.taken n z (omega (arith, b, len)) f;
    }
    | inr e ↦ let none : length t.loops.items ≡ 0 = ap length e.0 in record {
      none = ap (λ xs. loop_at xs 0) e.1;
      frees = T.frees;
      chain = chain T M;
      apart = T.apart;
      within = λ n i. absurd (omega (arith, (T.within n i).1, none));
      there = λ n z u. absurd (omega (arith, (T.there n z u).0, none));
      taken = λ n z b f. absurd (z (omega (arith, b, ap length e.1)));
    }
  ] where
    chain : (T : IsTable t used) → HaveMoreRoom t new → IsChain new.loops.items new.free T.frees
    chain T M = chain_kept t.loops.items new.loops.items new.free T.frees (λ n i. rows_more M n (T.within n i).1) (subst (λ f. IsChain t.loops.items f T.frees) (sym M.free) T.chain)
