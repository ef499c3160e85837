-- Models that answer alike are equal; and lists that an operator and its inverse leave.
use Rattle.euler_laws.proofs.Prelude.{◌≡◌, ◌≢◌, ℕ, ◌+◌, Bool, true, false, not, nat_eq, ◌&&◌, ◌||◌, List, ◌∷◌, Option, Some, None, unwrap_or, is_some, IsTrue, refl, sym, ap, ◌∙◌, arith, true≢false, nat_tests, eqb_tells, count, IsIn, IsApart, head_or, canonical, rotate_to, rest, between, successor, IsRotation, insert_before, without, mev_ring, kev_ring, put_ring, take_ring, mate, edge_of, is_first, plus, minus, same_table, Model, LoopRow, no_loop, EdgeRow, no_edge, tail_in, tail, content, face_of, is_number, Has, HasHalf, parallel, count-append, tick_same, tick_other, canonical-rotates, canonical_same, rest_same, rotate_to_is, ring_split, apart_at, count-insert_before, insert_before-rotates, insert_before_same, mev_ring_is, without-rotates, kev_ring_is, plus_row, minus_row, mate_plus, mate_minus, first_where_zero, zero_first_where, row_some}
use Rattle.euler_operators.proofs.Cuts.{IsIn_rest}
use Rattle.euler_operators.specs.Table as table
use Rattle.euler_laws.proofs.shared.Loops.{apart_out}
use Rattle.euler_laws.proofs.shared.Arcs.{halves_of_edge}
use Rattle.euler_laws.proofs.shared.Goes.{no_zero}
use Rattle.euler_laws.proofs.shared.EdgeMore.{EdgeComes}
use Rattle.euler_laws.proofs.shared.EdgeLess.{EdgeGoes}

loop_alike : (a b : Option LoopRow) → is_some a ≡ is_some b → (is_some b ≡ true → (unwrap_or a no_loop).face ≡ (unwrap_or b no_loop).face) → (is_some b ≡ true → (unwrap_or a no_loop).content ≡ (unwrap_or b no_loop).content) → a ≡ b
loop_alike None None s f c = refl
loop_alike None (Some y) s f c = absurd (true≢false (sym s))
loop_alike (Some x) None s f c = absurd (true≢false s)
loop_alike (Some x) (Some y) s f c = let p = f refl in let q = c refl in λ i. Some (record { face = p i; content = q i })

edge_alike : (a b : Option EdgeRow) → is_some a ≡ is_some b → (is_some b ≡ true → (unwrap_or a no_edge).plus_tail ≡ (unwrap_or b no_edge).plus_tail) → (is_some b ≡ true → (unwrap_or a no_edge).minus_tail ≡ (unwrap_or b no_edge).minus_tail) → a ≡ b
edge_alike None None s f c = refl
edge_alike None (Some y) s f c = absurd (true≢false (sym s))
edge_alike (Some x) None s f c = absurd (true≢false s)
edge_alike (Some x) (Some y) s f c = let p = f refl in let q = c refl in λ i. Some (record { plus_tail = p i; minus_tail = q i })

-- loops that answer alike are equal
pub same_loops : (K M : Model) → ((q : ℕ) → table.has K.loops q ≡ table.has M.loops q) → ((q : ℕ) → Has M.loops q → face_of K q ≡ face_of M q) → ((q : ℕ) → Has M.loops q → content K q ≡ content M q) → K.loops ≡ M.loops
unfolding face_of content
same_loops K M s f c = same_table _ _ (λ q. loop_alike (table.get K.loops q) (table.get M.loops q) (s q) (f q) (c q))

plus_tail : (X : Model) (e : ℕ) → tail X (plus e) ≡ (unwrap_or (table.get X.edges e) no_edge).plus_tail
unfolding tail
plus_tail X e = ap (λ n. tail_in (unwrap_or (table.get X.edges n) no_edge) (is_first (plus e))) (plus_row e).0 ∙ ap (tail_in (unwrap_or (table.get X.edges e) no_edge)) (plus_row e).1

minus_tail : (X : Model) (e : ℕ) → tail X (minus e) ≡ (unwrap_or (table.get X.edges e) no_edge).minus_tail
unfolding tail
minus_tail X e = ap (λ n. tail_in (unwrap_or (table.get X.edges n) no_edge) (is_first (minus e))) (minus_row e).0 ∙ ap (tail_in (unwrap_or (table.get X.edges e) no_edge)) (minus_row e).1

-- and edges
pub same_edges : (K M : Model) → ((e : ℕ) → table.has K.edges e ≡ table.has M.edges e) → ((x : ℕ) → HasHalf M x → tail K x ≡ tail M x) → K.edges ≡ M.edges
same_edges K M s t = same_table _ _ (λ e. edge_alike (table.get K.edges e) (table.get M.edges e) (s e)
    (λ there. sym (plus_tail K e) ∙ t (plus e) (ap (λ n. is_some (table.get M.edges n)) (plus_row e).0 ∙ there) ∙ plus_tail M e)
    (λ there. sym (minus_tail K e) ∙ t (minus e) (ap (λ n. is_some (table.get M.edges n)) (minus_row e).0 ∙ there) ∙ minus_tail M e))

-- an edge that comes and goes, and one that goes and comes again
pub edge_back : {M N K : Model} {h u w : ℕ} → EdgeComes M N h u w → EdgeGoes N K h → (e : ℕ) → table.has K.edges e ≡ table.has M.edges e
edge_back {M = M} {K = K} {h = h} came went e = grind arith

pub edge_again : {M N K : Model} {h u w : ℕ} → EdgeGoes M N h → HasHalf M h → EdgeComes N K h u w → (e : ℕ) → table.has K.edges e ≡ table.has M.edges e
edge_again {M = M} {K = K} {h = h} went there came e = grind arith

pub same_model : (K M : Model) → K.solids ≡ M.solids → K.faces ≡ M.faces → K.loops ≡ M.loops → K.edges ≡ M.edges → K.vertices ≡ M.vertices → K ≡ M
same_model K M a b c d e = λ i. record { solids = a i; faces = b i; loops = c i; edges = d i; vertices = e i }

-- ---- lists

module _ (hs : List ℕ) (d : IsApart hs) where
  -- one taken out
  pub taken_out : (h : ℕ) → IsIn h hs → canonical (without h hs) ≡ take_ring h hs
  taken_out h i = canonical_same (without h hs) (rest h hs) (without-rotates h hs) (apart_out h hs d)

  -- two taken out
  pub both_out : (h m : ℕ) → IsIn h hs → IsIn m hs → h ≢ m → canonical (without m (without h hs)) ≡ kev_ring h m hs
  both_out h m i j ne =
      let xs : List ℕ = without h hs in
      let one = canonical_same (without m xs) (rest m xs) (without-rotates m xs) in let two = kev_ring_is h m hs d i j ne in
      let three = without-rotates h hs in let four = same_count xs (rest h hs) in let five = canonical-rotates (rest h hs) in
      let six = rest_same m (rest h hs) in let seven = without-rotates m xs in let eight = IsIn_rest h m hs i j ne in
      grind (arith, eight, three, apart_at h hs d i, four, one, seven, apart_out m xs, rest_same m xs (rest h hs), six, five, two) where
        same_count : (a b : List ℕ) → IsRotation a b → (x : ℕ) → count x a ≡ count x b
        same_count a b r x = ap (count x) r.here ∙ count-append x r.front r.back ∙ (let t : count x r.front + count x r.back ≡ count x r.back + count x r.front = omega arith in t) ∙ sym (ap (count x) r.there ∙ count-append x r.back r.front)

  pub put_apart : (g h : ℕ) → IsIn g hs → count h hs ≡ 0 → IsApart (insert_before g h hs)
  put_apart g h i n x = grind (arith, count-insert_before)

  -- one put in
  pub put_in : (g h : ℕ) → IsIn g hs → count h hs ≡ 0 → canonical (insert_before g h hs) ≡ put_ring h g hs
  put_in g h i n = canonical_same (insert_before g h hs) (h ∷ rotate_to g hs) (insert_before-rotates g h hs i) (put_apart g h i n)

  -- two put in
  pub both_in : (h m g k : ℕ) → IsIn g hs → IsIn k hs → h ≢ m → count h hs ≡ 0 → count m hs ≡ 0 → canonical (insert_before k m (canonical (insert_before g h hs))) ≡ mev_ring h m g k hs
  both_in h m g k i j ne nh nm =
      let xs : List ℕ = insert_before g h hs in
      let one = mev_ring_is h m g k hs d i j ne nh nm in let two = count-insert_before k g h hs i in
      let three = count-insert_before m g h hs i in let four = canonical_same (insert_before k m xs) in
      grind (arith, put_apart g h i nh, two, three, two_apart xs, four, insert_before_same k m xs, canonical-rotates xs, one) where
        two_apart : (xs : List ℕ) → IsApart xs → (k m : ℕ) → IsIn k xs → count m xs ≡ 0 → IsApart (insert_before k m xs)
        two_apart xs dx k m i n x = grind (arith, eqb_tells, count-insert_before, tick_same, tick_other)

  tail_of : {x y : ℕ} {xs ys : List ℕ} → x ∷ xs ≡ y ∷ ys → xs ≡ ys
  tail_of e = cc

  -- what follows h and m in the ring h X m Y
  pub after_first : (h m : ℕ) → IsIn h hs → IsIn m hs → h ≢ m → successor hs h ≡ head_or m (between h m hs)
  after_first h m i j ne = grind (arith, tail_of (sym (rotate_to_is h hs i) ∙ ring_split h m hs i j ne))

-- ---- parallel edges

module _ (M : Model) (h : ℕ) where
  abbrev meets : ℕ → EdgeRow → Bool
  meets e row = not (nat_eq e (edge_of h)) && ((nat_eq row.plus_tail (tail M h) && nat_eq row.minus_tail (tail M (mate h))) || (nat_eq row.plus_tail (tail M (mate h)) && nat_eq row.minus_tail (tail M h)))

  abbrev pub NoParallel : Type 0
  NoParallel = (x : ℕ) → HasHalf M x → edge_of x ≢ edge_of h → tail M x ≡ tail M h → tail M (mate x) ≢ tail M (mate h)

  no_meet : (e a b s t : ℕ) (row : EdgeRow) → e ≢ a → (not (nat_eq e a) && ((nat_eq row.plus_tail s && nat_eq row.minus_tail t) || (nat_eq row.plus_tail t && nat_eq row.minus_tail s))) ≡ false → row.plus_tail ≡ s → row.minus_tail ≢ t
  no_meet e a b s t row ne f p q = grind (arith, nat_tests)

  no_meet_back : (e a b s t : ℕ) (row : EdgeRow) → e ≢ a → (not (nat_eq e a) && ((nat_eq row.plus_tail s && nat_eq row.minus_tail t) || (nat_eq row.plus_tail t && nat_eq row.minus_tail s))) ≡ false → row.plus_tail ≡ t → row.minus_tail ≢ s
  no_meet_back e a b s t row ne f p q = grind (arith, nat_tests)

  never_meets : (e a s t : ℕ) (row : EdgeRow) → (e ≢ a → row.plus_tail ≡ s → row.minus_tail ≢ t) → (e ≢ a → row.plus_tail ≡ t → row.minus_tail ≢ s) → (not (nat_eq e a) && ((nat_eq row.plus_tail s && nat_eq row.minus_tail t) || (nat_eq row.plus_tail t && nat_eq row.minus_tail s))) ≡ false
  never_meets e a s t row x y = grind (arith, nat_tests)

  tails_in : (e : ℕ) (row : EdgeRow) → table.get M.edges e ≡ Some row → (tail M (plus e) ≡ row.plus_tail) × (tail M (minus e) ≡ row.minus_tail)
  tails_in e row at = (plus_tail M e ∙ ap (λ o. (unwrap_or o no_edge).plus_tail) at, minus_tail M e ∙ ap (λ o. (unwrap_or o no_edge).minus_tail) at)

  -- no other edge has the ends of h's
  pub parallel_none : NoParallel → parallel M h ≡ 0
  parallel_none n = first_where_zero meets M.edges (λ e row at.
      let t = tails_in e row at in
      grind (arith, never_meets, table.get, plus_row, mate_plus, minus_row, mate_minus))

  pub none_parallel : ((e : ℕ) → Has M.edges e → IsTrue (is_number e)) → parallel M h ≡ 0 → NoParallel
  none_parallel fit z x there ne a b =
      grind (arith, row_some, tails_in, zero_first_where, no_zero, halves_of_edge, no_meet, mate_plus, no_meet_back, mate_minus)
