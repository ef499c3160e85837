-- Places put one by one into a map under their points stand there in the order of `sorted`.
use Rattle.split_checks.proofs.Prelude.{◌≡◌, ℕ, Bool, true, false, cond, ◌&&◌, ◌||◌, int_cmp, Ordering, Less, Equal, Greater, List, [], ◌∷◌, ◌++◌, is_some, Option, refl, sym, ap, ◌∙◌, arith, true≢false, subst, append_assoc, is_eq, is_gt, insert_entry, list_any, or_parts, Point, Plane, same_point, lex_less, IsIn, HalfEdge, half, Model, count-append, tick_same, after_greater, after_equal, turned_greater, turned_equal, equal_is, place_point, some_meet, sorted_in, sorted, key}
use Rattle.std.specs.Ordering.{ordering_then, match_ordering}
use Rattle.std.specs.Map.{lookup}
use Rattle.split_checks.specs.place_order.Order.{Key, entries_of}

-- the order of keys
abbrev pub key_cmp : Key → Key → Ordering
key_cmp a b = ordering_then (ordering_then (int_cmp a.0 b.0) (int_cmp a.1 b.1)) (int_cmp a.2 b.2)

-- equal keys are those of equal points, and a greater key is that of a point that comes later
pub key_equal : (p q : Point) → is_eq (key_cmp (key p) (key q)) ≡ same_point p q
key_equal p q = after_equal (int_cmp p.x q.x) (int_cmp p.y q.y) (int_cmp p.z q.z) ∙ (λ i. equal_is p.x q.x i && equal_is p.y q.y i && equal_is p.z q.z i)

pub key_greater : (p q : Point) → is_gt (key_cmp (key p) (key q)) ≡ lex_less q p
key_greater p q = after_greater (int_cmp p.x q.x) (int_cmp p.y q.y) (int_cmp p.z q.z)
    ∙ (λ i. turned_greater p.x q.x i || (turned_equal p.x q.x i && (turned_greater p.y q.y i || (turned_equal p.y q.y i && turned_greater p.z q.z i))))

swapped : (a b c : Bool) → a || (b || c) ≡ b || (a || c)
swapped a b c = grind arith

module _ (M : Model) (p : Plane) where
  abbrev at : ℕ → Point
  at h = place_point M p h

  abbrev entry : ℕ → Key × HalfEdge
  entry h = (key (at h), half h)

  -- whether a place has the point of another
  abbrev pub meets : ℕ → ℕ → Bool
  meets h k = same_point (at h) (at k)

  inserted_by : (h k : ℕ) (ks : List ℕ) → insert_entry key_cmp (entries_of M p ks) (key (at h)) (half h) ≡ entries_of M p (sorted_in M p h ks)
      → (o : Ordering) → is_eq o ≡ false → is_gt o ≡ lex_less (at k) (at h)
      → match_ordering o (entry h ∷ entries_of M p (k ∷ ks)) ((key (at k), half h) ∷ entries_of M p ks) (entry k ∷ insert_entry key_cmp (entries_of M p ks) (key (at h)) (half h))
      ≡ entries_of M p (cond (lex_less (at k) (at h)) (k ∷ sorted_in M p h ks) (h ∷ k ∷ ks))
  inserted_by h k ks rest Less e g = ap (λ b. entries_of M p (cond b (k ∷ sorted_in M p h ks) (h ∷ k ∷ ks))) g
  inserted_by h k ks rest Equal e g = absurd (true≢false e)
  inserted_by h k ks rest Greater e g = ap (λ (es : List (Key × HalfEdge)). entry k ∷ es) rest ∙ ap (λ b. entries_of M p (cond b (k ∷ sorted_in M p h ks) (h ∷ k ∷ ks))) g

  -- a place whose point is new comes where it belongs
  pub inserted : (h : ℕ) (ks : List ℕ) → list_any (meets h) ks ≡ false → insert_entry key_cmp (entries_of M p ks) (key (at h)) (half h) ≡ entries_of M p (sorted_in M p h ks)
  inserted h [] new = refl
  inserted h (k ∷ ks) new =
      let apart = or_parts (meets h k) (list_any (meets h) ks) new in
      inserted_by h k ks (inserted h ks apart.1) (key_cmp (key (at h)) (key (at k))) (key_equal (at h) (at k) ∙ apart.0) (key_greater (at h) (at k))

  -- the map has a point where one of its places has
  pub found_meets : (h : ℕ) (ks : List ℕ) → is_some (lookup (λ k. is_eq (key_cmp (key (at h)) k)) (entries_of M p ks)) ≡ list_any (meets h) ks
  found_meets h [] = refl
  found_meets h (k ∷ ks) = grind (arith, key_equal, found_meets h ks)

  -- sorting keeps what a test finds
  any_sorted_in : (q : ℕ → Bool) (h : ℕ) (ks : List ℕ) → list_any q (sorted_in M p h ks) ≡ list_any q (h ∷ ks)
  any_sorted_in q h [] = refl
  any_sorted_in q h (k ∷ ks) = grind (arith, swapped, any_sorted_in q h ks)

  pub any_sorted : (q : ℕ → Bool) (ks : List ℕ) → list_any q (sorted M p ks) ≡ list_any q ks
  any_sorted q [] = refl
  any_sorted q (k ∷ ks) = any_sorted_in q k (sorted M p ks) ∙ ap (λ b. q k || b) (any_sorted q ks)

  -- two of some places that meet are two of more
  pub still_meet : (hs ks : List ℕ) → some_meet M p ks ≡ true → some_meet M p (hs ++ ks) ≡ true
  still_meet [] ks e = e
  still_meet (h ∷ hs) ks e = grind (arith, still_meet hs ks e)

  -- of all places some are left, and the others are in the map
  pub record Sorting (left all : List ℕ) (es : List (Key × HalfEdge)) : Type 0 where
    pub done : List ℕ
    pub whole : left ++ done ≡ all
    pub apart : some_meet M p done ≡ false
    pub placed : es ≡ entries_of M p (sorted M p done)

  module _ (left all : List ℕ) (es : List (Key × HalfEdge)) (s : Sorting left all es) where
    module _ (h : ℕ) (fewer : List ℕ) (last : left ≡ fewer ++ h ∷ []) where
      whole_still : fewer ++ (h ∷ s.done) ≡ all
      whole_still = sym (append_assoc fewer (h ∷ []) s.done) ∙ sym (ap (λ (hs : List ℕ). hs ++ s.done) last) ∙ s.whole

      -- the next place is one of all
      pub place_in : IsIn h all
      place_in = subst (IsIn h) whole_still (omega (arith, count-append h fewer (h ∷ s.done), tick_same h))

      -- it meets one of the others
      pub one_met : list_any (meets h) (sorted M p s.done) ≡ true → some_meet M p all ≡ true
      one_met met = sym (ap (some_meet M p) whole_still) ∙ still_meet fewer (h ∷ s.done) (ap (λ b. b || some_meet M p s.done) (sym (any_sorted (meets h) s.done) ∙ met))

      -- or comes into the map
      pub one_more : list_any (meets h) (sorted M p s.done) ≡ false → (more : List (Key × HalfEdge)) → more ≡ insert_entry key_cmp es (key (at h)) (half h) → Sorting fewer all more
      one_more new more is = grind (arith, whole_still, any_sorted, inserted)

  -- what the code makes of a place that comes
  module _ (h : ℕ) (ks : List ℕ) (es : List (Key × HalfEdge)) (k : Key) (met : Option HalfEdge) (placed : es ≡ entries_of M p ks) (keyed : k ≡ key (at h)) (old : met ≡ lookup (λ q. is_eq (key_cmp k q)) es) where
    pub met_is : is_some met ≡ list_any (meets h) ks
    met_is = ap is_some old ∙ (λ i. is_some (lookup (λ q. is_eq (key_cmp (keyed i) q)) (placed i))) ∙ found_meets h ks
