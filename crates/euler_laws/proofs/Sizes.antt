-- How many rows tables have after a change, and how many rings a sound model has.
use Rattle.euler_laws.proofs.Prelude.{◌≡◌, ◌≢◌, ℕ, suc, ◌+◌, ◌≤◌, ◌<◌, Bool, true, cond, not, nat_eq, nat_lt, List, [], ◌∷◌, length, Some, None, is_some, refl, sym, ap, ◌∙◌, arith, true≢false, option_map, nat_cmp, eq-eqb, eqb-true, and_parts, Table, put, remove, get, map_rows, map_entries, get-map_rows, all_where, all_in, Model, LoopRow, face_of, outer, Sound, Has, lists, strictly_rises, IsIn, face_row, row_some, size, all_rings}
use Rattle.std.specs.Cmp.{nat_cmp_total}
use Rattle.std.specs.FinMap.Entries as entries
use Rattle.euler_laws.proofs.shared.Listed.{listed_passes, passes_listed, all_where-rises, first_listed, rest_listed, listed-from_in}

-- ---- rows put, taken away and rewritten

module _ {X : Type 0} where
  pub size-put_new : (t : Table X) (n : ℕ) (x : X) → get t n ≡ None → size (put t n x) ≡ size t + 1
  unfolding put get
  size-put_new t n x free = entries.length-put nat_cmp nat_cmp_total n x t.rows t.rising ∙ ap (λ o. cond (is_some o) (length t.rows) (length t.rows + 1)) free

  pub size-put_old : (t : Table X) (n : ℕ) (x y : X) → get t n ≡ Some y → size (put t n x) ≡ size t
  unfolding put get
  size-put_old t n x y there = entries.length-put nat_cmp nat_cmp_total n x t.rows t.rising ∙ ap (λ o. cond (is_some o) (length t.rows) (length t.rows + 1)) there

  pub size-remove : (t : Table X) (n : ℕ) (y : X) → get t n ≡ Some y → size (remove t n) + 1 ≡ size t
  unfolding remove get
  size-remove t n y there =
      let e = entries.length_without nat_cmp nat_cmp_total n t.rows t.rising in
      omega (arith, sym (ap (λ o. cond (is_some o) 1 0 + length (remove t n).rows) there) ∙ e)

  size_entries : (f : ℕ → X → X) (es : List (ℕ × X)) → length (map_entries f es) ≡ length es
  size_entries f [] = refl
  size_entries f (e ∷ es) = ap suc (size_entries f es)

  pub size-map_rows : (f : ℕ → X → X) (t : Table X) → size (map_rows f t) ≡ size t
  unfolding map_rows
  size-map_rows f t = size_entries f t.rows

  -- a rewriting makes no row
  pub mapped_none : (f : ℕ → X → X) (t : Table X) (n : ℕ) → get t n ≡ None → get (map_rows f t) n ≡ None
  mapped_none f t n free = get-map_rows f t n ∙ ap (option_map (f n)) free

  -- rows that pass a test and rows that don't
  parts_in : (p : ℕ → X → Bool) (es : List (ℕ × X)) → length (all_in p es) + length (all_in (λ n x. not (p n x)) es) ≡ length es
  parts_in p [] = refl
  parts_in p (e ∷ es) = grind (arith, parts_in p es)

  pub size_parts : (p : ℕ → X → Bool) (t : Table X) → length (all_where p t) + length (all_where (λ n x. not (p n x)) t) ≡ size t
  unfolding all_where
  size_parts p t = parts_in p t.rows

  all_of : (es : List (ℕ × X)) → length (all_in (λ _ _. true) es) ≡ length es
  all_of [] = refl
  all_of (e ∷ es) = ap suc (all_of es)

  pub size_all : (t : Table X) → length (all_where (λ _ _. true) t) ≡ size t
  unfolding all_where
  size_all t = all_of t.rows

-- ---- a list whose items go to different items of another is no longer than it

-- the list without the first n
abbrev less : ℕ → List ℕ → List ℕ
less n [] = []
less n (m ∷ ns) = cond (nat_eq m n) ns (m ∷ less n ns)

less_length : (n : ℕ) (ns : List ℕ) → lists ns n ≡ true → length ns ≡ suc (length (less n ns))
less_length n [] l = absurd (true≢false (sym l))
less_length n (m ∷ ns) l = grind (arith, less_length n ns)

less_listed : (n q : ℕ) (ns : List ℕ) → q ≢ n → lists ns q ≡ true → lists (less n ns) q ≡ true
less_listed n q [] a l = l
less_listed n q (m ∷ ns) a l = grind (arith, less_listed n q ns a)

-- what stands after the first item of a rising list is greater
pub rises_apart : (n q : ℕ) (ns : List ℕ) → strictly_rises (n ∷ ns) ≡ true → lists ns q ≡ true → n < q
rises_apart n q [] r l = absurd (true≢false (sym l))
rises_apart n q (m ∷ ns) r l = grind (arith, rises_apart m q ns)

pub rises_on : (n : ℕ) (ns : List ℕ) → strictly_rises (n ∷ ns) ≡ true → strictly_rises ns ≡ true
rises_on n [] r = refl
rises_on n (m ∷ ns) r = (and_parts (nat_lt n m) (strictly_rises (m ∷ ns)) r).1

pub rises_over : (n k : ℕ) (ns : List ℕ) → strictly_rises (n ∷ ns) ≡ true → IsIn k ns → n < k
rises_over n k ns r i = rises_apart n k ns r (listed-from_in k ns i)

no_longer : (f : ℕ → ℕ) (xs ys : List ℕ) → strictly_rises xs ≡ true → ((x : ℕ) → lists xs x ≡ true → lists ys (f x) ≡ true) →
    ((x y : ℕ) → lists xs x ≡ true → lists xs y ≡ true → f x ≡ f y → x ≡ y) → length xs ≤ length ys
no_longer f [] ys r goes one = omega arith
no_longer f (x ∷ xs) ys r goes one =
    let k = less_length (f x) ys (goes x (first_listed x xs)) in
    let h : length xs ≤ length (less (f x) ys) = no_longer f xs (less (f x) ys) (rises_on x xs r)
    (λ y l. less_listed (f x) (f y) ys (λ e. apart x y (rises_apart x y xs r l) (one y x (rest_listed x y xs l) (first_listed x xs) e)) (goes y (rest_listed x y xs l)))
    (λ y z a b e. one y z (rest_listed x y xs a) (rest_listed x z xs b) e) in
    omega arith where
      apart : (a b : ℕ) → a < b → b ≡ a → ⊥
      apart a b l e = absurd (omega arith)

-- ---- rings

module _ (M : Model) (sound : Sound M) where
  abbrev is_outer : ℕ → LoopRow → Bool
  is_outer l row = nat_eq (outer M row.face) l

  abbrev outers : List ℕ
  outers = all_where (λ l row. nat_eq (outer M row.face) l) M.loops

  abbrev all_faces : List ℕ
  all_faces = all_where (λ _ _. true) M.faces

  face_listed : (f : ℕ) → Has M.faces f → lists all_faces f ≡ true
  face_listed f there = let w = row_some (get M.faces f) there in passes_listed (λ _ _. true) M.faces f w.0 w.1 refl

  listed_face : (f : ℕ) → lists all_faces f ≡ true → Has M.faces f
  listed_face f l = ap is_some (listed_passes (λ _ _. true) M.faces f l).1

  outer_there : (l : ℕ) → lists outers l ≡ true → Has M.loops l × (outer M (face_of M l) ≡ l)
  outer_there l k = let x = listed_passes is_outer M.loops l k in
      (ap is_some x.1, ap (outer M) (face_row M l x.0 x.1) ∙ eqb-true _ _ x.2)

  there_outer : (l : ℕ) → Has M.loops l → outer M (face_of M l) ≡ l → lists outers l ≡ true
  there_outer l there e = let w = row_some (get M.loops l) there in
      passes_listed is_outer M.loops l w.0 w.1 (eq-eqb _ _ (sym (ap (outer M) (face_row M l w.0 w.1)) ∙ e))

  -- as many loops are outer loops as there are faces
  outers_as_faces : length outers ≡ length all_faces
  outers_as_faces =
      let rising = all_where-rises is_outer M.loops in
      let a : length outers ≤ length all_faces =
      grind (arith, no_longer (face_of M) outers all_faces rising, rising, face_listed, sound.loops_of_faces, outer_there) in
      grind (arith, no_longer (outer M) all_faces outers, all_where-rises, sound.outers_there, listed_face, there_outer)

  -- each loop is the outer loop of its face or a ring, and each face has one outer loop
  pub loops_are : size M.loops ≡ size M.faces + length (all_rings M)
  loops_are = omega (arith, size_parts is_outer M.loops, outers_as_faces, size_all M.faces)
