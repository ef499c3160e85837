-- Half-edges with the vertices at which they start, and the vertices at which several of them do.
use Rattle.split_sections.proofs.Prelude.{◌≡◌, ◌≢◌, ℕ, zero, suc, ◌≤◌, ◌<◌, ◌⊎◌, Bool, true, false, cond, nat_eq, nat_lt, List, [], ◌∷◌, ◌++◌, map, length, get_or, slice_index_or, Option, Some, None, is_some, drop, refl, sym, ap, ◌∙◌, arith, inl, inr, true≢false, lt-ltb, le-ltb, eqb_tells, nat_tests, append_assoc, append-nil, eq-eqb, ne_eqb, IsPermutation, IsPermutation-map, SameItems-from_permutation, All-permutation, All-from_recursion, recursion_from_All, count, tick, IsIn, IsApart, SameItems, HalfEdge, code, Model, Sound, tail, tick_same, tick_other, IsIn_or_not, from_map, number_real, IsLeast, no_half, others, parts, AreStarts, start_at, start_vertices, starting}
use Rattle.std.specs.Prelude.{IfSome}
use Rattle.std.specs.List.{AllByRecursion}
use Rattle.std.specs.List.Sorted.{IsNonDecreasingBy, IsPartitionPoint}
use Rattle.split_sections.specs.Common.{AreThere, IsPlaceOf}
use Rattle.split_sections.specs.declared.section_cycles.starts.Start.{Start}

-- more than one of these half-edges start at the vertex
abbrev pub several : Model → List ℕ → ℕ → Bool
several M hs v = nat_lt 1 (count v (map (tail M) hs))

many : (n : ℕ) → 2 ≤ n → nat_lt 1 n ≡ true
many n l = lt-ltb 1 n (omega (arith, l))

few : (n : ℕ) → n ≤ 1 → nat_lt 1 n ≡ false
few n l = le-ltb 1 n (omega (arith, l))

-- if a vertex is told, it stands there twice, and each less one at most once
abbrev pub IsLeastShared : List ℕ → Option ℕ → Type 0
IsLeastShared vs o = IfSome o (λ v. (2 ≤ count v vs) × ((u : ℕ) → u < v → count u vs ≤ 1))

-- ---- one half-edge after the other

pub one_started : (M : Model) (hs rest : List HalfEdge) (d : HalfEdge) → 1 ≤ length rest → (old new : List Start) → old ++ map (start_at M) rest ≡ map (start_at M) hs → (t : ℕ) → t ≡ tail M (code (slice_index_or rest 0 d))
    → new ≡ old ++ record { vertex = t; half = slice_index_or rest 0 d } ∷ [] → new ++ map (start_at M) (others rest) ≡ map (start_at M) hs
one_started M hs rest d l old new e t is pushed =
    let h = slice_index_or rest 0 d in
    ap (λ ss. ss ++ map (start_at M) (others rest)) (pushed ∙ ap (λ v. old ++ record { vertex = v; half = h } ∷ []) is)
    ∙ append_assoc old (start_at M h ∷ []) (map (start_at M) (others rest)) ∙ ap (λ (ks : List HalfEdge). old ++ map (start_at M) ks) (sym (parts rest d l)) ∙ e

pub none_left : (M : Model) (hs rest : List HalfEdge) → length rest < 1 → (old : List Start) → old ++ map (start_at M) rest ≡ map (start_at M) hs → old ≡ map (start_at M) hs
none_left M hs [] l old e = sym (append-nil old) ∙ e
none_left M hs (h ∷ rest) l old e = absurd (omega (arith, l))

-- ---- all of them, sorted by their vertices

codes_are : (M : Model) (hs : List HalfEdge) → starting (map (start_at M) hs) ≡ map code hs
codes_are M [] = refl
codes_are M (h ∷ hs) = ap (λ ks. code h ∷ ks) (codes_are M hs)

tails_are : (M : Model) (hs : List HalfEdge) → start_vertices (map (start_at M) hs) ≡ map (tail M) (map code hs)
tails_are M [] = refl
tails_are M (h ∷ hs) = ap (λ ks. tail M (code h) ∷ ks) (tails_are M hs)

each_told : (M : Model) (hs : List HalfEdge) → AllByRecursion (λ (s : Start). s.vertex ≡ tail M (code s.half)) (map (start_at M) hs)
each_told M [] = tt
each_told M (h ∷ hs) = (refl, each_told M hs)

all_told : (M : Model) (ss : List Start) → AllByRecursion (λ (s : Start). s.vertex ≡ tail M (code s.half)) ss → start_vertices ss ≡ map (tail M) (starting ss)
all_told M [] a = refl
all_told M (s ∷ ss) a = λ i. a.0 i ∷ all_told M ss a.1 i

module _ (M : Model) (sound : Sound M) (hs : List HalfEdge) (there : AreThere M (map code hs)) (ts : List Start) (moved : IsPermutation (map (start_at M) hs) ts) where
  abbrev ss : List Start
  ss = map (start_at M) hs

  same_halves : SameItems (starting ts) (map code hs)
  same_halves x = omega (arith, SameItems-from_permutation (starting ss) (starting ts) (IsPermutation-map (λ s. code s.half) ss ts moved) x, ap (count x) (codes_are M hs))

  same_tails : SameItems (start_vertices ts) (map (tail M) (map code hs))
  same_tails x = omega (arith, SameItems-from_permutation (start_vertices ss) (start_vertices ts) (IsPermutation-map (λ s. s.vertex) ss ts moved) x, ap (count x) (tails_are M hs))

  none_at_zero : count 0 (map (tail M) (map code hs)) ≡ 0
  none_at_zero = elim (IsIn_or_not 0 (map (tail M) (map code hs))) [
    | inl i ↦ let r = from_map (tail M) 0 (map code hs) i in absurd (number_real (tail M r.0) (sound.vertices_fit (tail M r.0) (sound.tails_there r.0 (there r.0 r.1))) (sym r.2))
    | inr z ↦ z
  ]

  pub starts_real : count 0 (start_vertices ts) ≡ 0
  starts_real = omega (arith, same_tails 0, none_at_zero)

  pub are_starts : IsNonDecreasingBy (λ s. s.vertex) ts → IsApart (start_vertices ts) → AreStarts M (map code hs) ts
  are_starts up apart = record {
    halves = same_halves;
    tails = all_told M ts (recursion_from_All (λ (s : Start). s.vertex ≡ tail M (code s.half)) ts
        (All-permutation (λ (s : Start). s.vertex ≡ tail M (code s.half)) ss ts moved (All-from_recursion (λ (s : Start). s.vertex ≡ tail M (code s.half)) ss (each_told M hs))));
    rising = up;
    apart = apart;
  }

  pub least_several : (o : Option ℕ) → IsLeastShared (start_vertices ts) o → ((o ≡ None) → IsApart (start_vertices ts)) → IsLeast (several M (map code hs)) o
  least_several (Some v) shared apart = (many (count v (map (tail M) (map code hs))) (omega (arith, shared.0, same_tails v)), λ u l. few (count u (map (tail M) (map code hs))) (omega (arith, shared.1 u l, same_tails u)))
  least_several None shared apart = λ u. few (count u (map (tail M) (map code hs))) (omega (arith, apart refl u, same_tails u))

-- ---- vertices that don't fall, one after the other

-- the first that is the one before it
abbrev pub shared_after : ℕ → List ℕ → Option ℕ
shared_after b [] = None
shared_after b (v ∷ vs) = cond (nat_eq v b) (Some b) (shared_after v vs)

-- none of these is less than b or than the one before it
abbrev AreUp : ℕ → List ℕ → Type 0
AreUp b [] = Unit {0}
AreUp b (v ∷ vs) = (b ≤ v) × AreUp v vs

up_from : (b : ℕ) (ss : List Start) → ((s : Start) (i : ℕ) → i < length ss → b ≤ (slice_index_or ss i s).vertex) → IsNonDecreasingBy (λ s. s.vertex) ss → AreUp b (start_vertices ss)
up_from b [] low up = tt
up_from b (s ∷ ss) low up = (low s 0 (omega arith), up_from s.vertex ss (λ d i l. up 0 (suc i) d (omega arith) (omega (arith, l))) (λ i j d l m. up (suc i) (suc j) d (omega (arith, l)) (omega (arith, m))))

none_less : (b : ℕ) (vs : List ℕ) → AreUp b vs → (u : ℕ) → u < b → count u vs ≡ 0
none_less b [] up u l = refl
none_less b (v ∷ vs) up u l = omega (arith, l, up.0, none_less v vs up.1 u (omega (arith, l, up.0)), tick_other u v (λ e. omega (arith, e, l, up.0)))

below : (m n : ℕ) → m ≤ n → n ≢ m → m < n
below m n l ne = grind arith

some_same : (x y : ℕ) → ◌≡◌ {A = Option ℕ} (Some x) (Some y) → x ≡ y
some_same x y e = cc

once : (b w : ℕ) (vs : List ℕ) → AreUp b (w ∷ vs) → w ≢ b → (u : ℕ) → count u (w ∷ vs) ≤ 1 → count u (b ∷ w ∷ vs) ≤ 1
once b w vs up ne u one = elim (eqb_tells u b) [
  | inl x ↦ omega (arith, x.1, none_less w vs up.1 u (omega (arith, x.1, below b w up.0 ne)), tick_other u w (λ z. ne (sym z ∙ x.1)), ap (λ n. tick n b) x.1, tick_same b)
  | inr x ↦ omega (arith, one, tick_other u b x.1)
]

-- if one is found, it stands there twice, and each less one at most once
found_shared : (b : ℕ) (vs : List ℕ) → AreUp b vs → (v : ℕ) → shared_after b vs ≡ Some v → (2 ≤ count v (b ∷ vs)) × ((u : ℕ) → u < v → count u (b ∷ vs) ≤ 1)
found_shared b [] up v e = absurd (true≢false (sym (ap (λ (o : Option ℕ). is_some o) e)))
found_shared b (w ∷ vs) up v e = elim (eqb_tells w b) [
  | inl s ↦
      let is : b ≡ v = some_same b v (sym (ap (λ c. cond c (Some b) (shared_after w vs)) s.0) ∙ e) in (
        omega (arith, ap (λ x. count x (b ∷ w ∷ vs)) is, ap (λ x. tick b x) s.1, tick_same b),
        λ u l. omega (arith, is, l, none_less b (w ∷ vs) up u (omega (arith, is, l)), tick_other u b (λ x. omega (arith, x, is, l))),
      )
  | inr s ↦
      let more = found_shared w vs up.1 v (sym (ap (λ c. cond c (Some b) (shared_after w vs)) s.0) ∙ e) in
      (omega (arith, more.0), λ u l. once b w vs up s.1 u (more.1 u l))
]

none_shared : (b : ℕ) (vs : List ℕ) → AreUp b vs → shared_after b vs ≡ None → (u : ℕ) → count u (b ∷ vs) ≤ 1
none_shared b [] up e u = elim (eqb_tells u b) [ inl x ↦ omega (arith, ap (λ n. tick n b) x.1, tick_same b) | inr x ↦ omega (arith, tick_other u b x.1) ]
none_shared b (w ∷ vs) up e u = elim (eqb_tells w b) [
  | inl s ↦ absurd (true≢false (ap (λ (o : Option ℕ). is_some o) (sym (ap (λ c. cond c (Some b) (shared_after w vs)) s.0) ∙ e)))
  | inr s ↦ once b w vs up s.1 u (none_shared w vs up.1 (sym (ap (λ c. cond c (Some b) (shared_after w vs)) s.0) ∙ e) u)
]

module _ (ss : List Start) (up : IsNonDecreasingBy (λ s. s.vertex) ss) (real : count 0 (start_vertices ss) ≡ 0) where
  up_all : AreUp 0 (start_vertices ss)
  up_all = up_from 0 ss (λ s i l. omega arith) up

  pub told_shared : (v : ℕ) → shared_after 0 (start_vertices ss) ≡ Some v → (2 ≤ count v (start_vertices ss)) × ((u : ℕ) → u < v → count u (start_vertices ss) ≤ 1)
  told_shared v e =
      let f = found_shared 0 (start_vertices ss) up_all v e in (
        elim (eqb_tells v 0) [
          | inl x ↦ absurd (omega (arith, f.0, ap (λ n. count n (0 ∷ start_vertices ss)) x.1, tick_same 0, real))
          | inr x ↦ omega (arith, f.0, tick_other v 0 x.1)
        ],
        λ u l. omega (arith, f.1 u l),
      )

  pub told_apart : shared_after 0 (start_vertices ss) ≡ None → IsApart (start_vertices ss)
  told_apart e u = omega (arith, none_shared 0 (start_vertices ss) up_all e u)

-- the first left is that of a walk
pub first_vertex : (ss : List Start) (d : Start) → 1 ≤ length ss → start_vertices ss ≡ (slice_index_or ss 0 d).vertex ∷ start_vertices (others ss)
first_vertex ss d l = ap (λ (ts : List Start). start_vertices ts) (parts ss d l)

pub found_here : (ss : List Start) (d : Start) → 1 ≤ length ss → (b : ℕ) → (slice_index_or ss 0 d).vertex ≡ b → shared_after b (start_vertices ss) ≡ Some b
found_here ss d l b e = ap (shared_after b) (first_vertex ss d l) ∙ ap (λ c. cond c (Some b) (shared_after (slice_index_or ss 0 d).vertex (start_vertices (others ss)))) (eq-eqb (slice_index_or ss 0 d).vertex b e)

pub not_here : (ss : List Start) (d : Start) → 1 ≤ length ss → (b : ℕ) → (slice_index_or ss 0 d).vertex ≢ b → shared_after b (start_vertices ss) ≡ shared_after (slice_index_or ss 0 d).vertex (start_vertices (others ss))
not_here ss d l b ne = ap (shared_after b) (first_vertex ss d l) ∙ ap (λ c. cond c (Some b) (shared_after (slice_index_or ss 0 d).vertex (start_vertices (others ss)))) (ne_eqb (slice_index_or ss 0 d).vertex b ne)

pub no_vertex : (ss : List Start) → length ss < 1 → start_vertices ss ≡ []
no_vertex [] l = refl
no_vertex (s ∷ ss) l = absurd (omega (arith, l))

abbrev pub no_start : Start
no_start = record { vertex = 0; half = no_half }

-- ---- the place of a vertex

less_or_not : (m n : ℕ) → (m < n) ⊎ (n ≤ m)
less_or_not m n = grind arith

not_less : (m n : ℕ) → nat_lt m n ≡ false → n ≤ m
not_less m n e = grind (arith, nat_tests)

at_vertex : (ss : List Start) (v : ℕ) → IsIn v (start_vertices ss) → (k : ℕ) × (k < length ss) × ((d : Start) → (slice_index_or ss k d).vertex ≡ v)
at_vertex [] v i = absurd (omega (arith, i))
at_vertex (s ∷ ss) v i = elim (eqb_tells v s.vertex) [
  | inl x ↦ (0, omega arith, λ d. sym x.1)
  | inr x ↦ let r = at_vertex ss v (omega (arith, i, tick_other v s.vertex x.1)) in (suc r.0, omega (arith, r.1), λ d. r.2 d)
]

in_starting : (ss : List Start) (i : ℕ) (d : Start) → i < length ss → IsIn (code (slice_index_or ss i d).half) (starting ss)
in_starting [] i d l = absurd (omega (arith, l))
in_starting (s ∷ ss) zero d l = omega (arith, tick_same (code s.half))
in_starting (s ∷ ss) (suc i) d l = omega (arith, in_starting ss i d (omega (arith, l)))

tail_at : (M : Model) (ss : List Start) → start_vertices ss ≡ map (tail M) (starting ss) → (i : ℕ) (d : Start) → i < length ss → (slice_index_or ss i d).vertex ≡ tail M (code (slice_index_or ss i d).half)
tail_at M [] e i d l = absurd (omega (arith, l))
tail_at M (s ∷ ss) e zero d l = ap (λ ns. get_or ns 0 0) e
tail_at M (s ∷ ss) e (suc i) d l = tail_at M ss (ap (λ ns. drop 1 ns) e) i d (omega (arith, l))

pub is_place : (ss : List Start) (v : ℕ) → IsNonDecreasingBy (λ s. s.vertex) ss → IsIn v (start_vertices ss) → (r : ℕ) → IsPartitionPoint (λ s. nat_lt s.vertex v ≡ true) (λ s. nat_lt s.vertex v ≡ false) ss r → IsPlaceOf ss v r
is_place ss v up listed r parted = (there, λ d. omega (arith, low d, high d)) where
  k : (i : ℕ) × (i < length ss) × ((d : Start) → (slice_index_or ss i d).vertex ≡ v)
  k = at_vertex ss v listed

  from_place : (m n : ℕ) → m ≡ n → nat_lt m n ≡ true → ⊥
  from_place m n e l = grind (arith, nat_tests)

  before : r ≤ k.0
  before = elim (less_or_not k.0 r) [ inl l ↦ absurd (from_place (slice_index_or ss k.0 no_start).vertex v (k.2 no_start) (parted.0 k.0 no_start (omega arith) l)) | inr l ↦ l ]

  there : r < length ss
  there = omega (arith, before, k.1)

  low : (d : Start) → v ≤ (slice_index_or ss r d).vertex
  low d = not_less (slice_index_or ss r d).vertex v (parted.1 r d (omega arith) there)

  high : (d : Start) → (slice_index_or ss r d).vertex ≤ v
  high d = omega (arith, k.2 d, up r k.0 d before k.1)

pub place_half : (ss : List Start) (v r : ℕ) → IsPlaceOf ss v r → IsIn (code (slice_index_or ss r no_start).half) (starting ss)
place_half ss v r p = in_starting ss r no_start p.0

pub place_tail : (M : Model) (ss : List Start) → AreStarts M (starting ss) ss → (v r : ℕ) → IsPlaceOf ss v r → tail M (code (slice_index_or ss r no_start).half) ≡ v
place_tail M ss told v r p = sym (tail_at M ss told.tails r no_start p.0) ∙ p.1 no_start
