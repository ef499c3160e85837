-- A listing tells all of a sound model.
use Rattle.solid_listing.proofs.Prelude.{◌≡◌, ℕ, Bool, true, false, cond, ◌&&◌, not, nat_eq, List, [], ◌∷◌, map, codes, Option, Some, None, is_some, refl, sym, ap, ◌∙◌, arith, true≢false, inl, inr, decimal, nat_tests, eqb_tells, decimal_injective, signed_decimal_injective, signed_decimal, Point, is_coordinate, is_in_range, Kind, Solid, Face, Loop, Edge, Vertex, plus, minus, edge_of, is_first, Table, get, has, numbers, same_table, Model, LoopContent, lone, cycle, solid_of, outer, face_of, content, tail, point_of, rings_of, Sound, Has, content_row, face_row, solid_row, outer_row, point_row, plus_tail_row, minus_tail_row, and_first, and_second, text_of, line, content_words, half_word, lines, numbers_of, or_empty, listing, member, member_rings}
use Rattle.solid_listing.proofs.Parsing.{Word, Line, is_good, are_good, parsed, parsed_text, parsed_one}
use Rattle.solid_listing.proofs.Words.{coordinate_small, half_told}
use Rattle.solid_listing.proofs.Lines.{is_used, lines_good, member_used, small, ring_there, item_there, plus_tail_small, minus_tail_small, point_in_range}
use Rattle.solid_listing.proofs.KindLines.{agree, maps_same, number_told, same_numbers}

-- from texts to lines
read : (ls : List Line) → are_good ls ≡ true → parsed (text_of (or_empty ls)) ≡ or_empty ls
read [] g = parsed_one (codes "empty") refl
read (l ∷ ls) g = parsed_text (l ∷ ls) g

bare_told : (l : Line) (ls : List Line) → are_good (l ∷ ls) ≡ true → (codes "empty" ∷ []) ∷ [] ≡ l ∷ ls → ⊥
bare_told l ls g e =
    let p : codes "empty" ∷ [] ≡ l = cc in
    true≢false (sym (ap is_good p ∙ and_first (is_good l) (are_good ls) g))

unbarred : (ls ms : List Line) → are_good ls ≡ true → are_good ms ≡ true → or_empty ls ≡ or_empty ms → ls ≡ ms
unbarred [] [] g h e = refl
unbarred [] (m ∷ ms) g h e = absurd (bare_told m ms h e)
unbarred (l ∷ ls) [] g h e = absurd (bare_told l ls g (sym e))
unbarred (l ∷ ls) (m ∷ ms) g h e = e

lines_told : (M N : Model) → Sound M → Sound N → listing M ≡ listing N → lines M ≡ lines N
unfolding listing
lines_told M N one two e = unbarred (lines M) (lines N) (lines_good M one) (lines_good N two)
    (sym (read (lines M) (lines_good M one)) ∙ ap parsed e ∙ read (lines N) (lines_good N two))

-- tables with the same numbers and rows
same_rows : {X : Type 0} (s t : Table X) → ((q : ℕ) → has s q ≡ has t q) → ((q : ℕ) (x y : X) → get s q ≡ Some x → get t q ≡ Some y → x ≡ y) → s ≡ t
same_rows {X = X} s t numbers rows = same_table s t (λ q. same_option (get s q) (get t q) (numbers q) (rows q)) where
  same_option : (o p : Option X) → is_some o ≡ is_some p → ((x y : X) → o ≡ Some x → p ≡ Some y → x ≡ y) → o ≡ p
  same_option None None e r = refl
  same_option None (Some y) e r = absurd (true≢false (sym e))
  same_option (Some x) None e r = absurd (true≢false e)
  same_option (Some x) (Some y) e r = ap Some (r x y refl refl)

-- a vertex of a lone loop is no half-edge
no_half : (v : ℕ) (hs : List ℕ) → content_words (lone v) ≡ map half_word hs → ⊥
no_half v [] e = cc
no_half v (h ∷ hs) e =
    let w : codes "at" ≡ half_word h = cc in
    no_sign (is_first h) (ap first_byte w) where
      first_byte : Word → ℕ
      first_byte [] = 0
      first_byte (b ∷ bs) = b

      no_sign : (b : Bool) → ◌≡◌ {A = ℕ} 97 (cond b 43 45) → ⊥
      no_sign true s = omega arith
      no_sign false s = omega arith

three : (a b c : Bool) → a && b && c ≡ true → b ≡ true
three true true c e = refl
three true false c e = e
three false b c e = absurd (true≢false (sym e))

module _ (M N : Model) (one : Sound M) (two : Sound N) (same : lines M ≡ lines N) where
  numbers_told : (k : Kind) → numbers_of M k ≡ numbers_of N k
  numbers_told k = same_numbers (line M k) (line N k) (numbers_of M k) (numbers_of N k)
      (λ n m a b e. decimal_injective n m (small M one k n (sym (member_used M k n) ∙ a)) (small N two k m (sym (member_used N k m) ∙ b)) (number_told M N k n m e))
      (maps_same M N same k)

  -- the numbers in use are the same
  used : (k : Kind) (n : ℕ) → is_used M k n ≡ is_used N k n
  used k n = sym (member_used M k n) ∙ ap (member n) (numbers_told k) ∙ member_used N k n

  -- and the line of each
  told : (k : Kind) (n : ℕ) → is_used M k n ≡ true → line M k n ≡ line N k n
  told k n there = agree (line M k) (line N k) (numbers_of M k) (maps_same M N same k ∙ ap (map (line N k)) (sym (numbers_told k))) n (member_used M k n ∙ there)

  solid_told : (f : ℕ) → Has M.faces f → solid_of M f ≡ solid_of N f
  solid_told f there = decimal_injective (solid_of M f) (solid_of N f)
      (small M one Solid (solid_of M f) (one.faces_of_solids f there))
      (small N two Solid (solid_of N f) (two.faces_of_solids f (sym (used Face f) ∙ there)))
      (cc (told Face f there))

  outer_told : (f : ℕ) → Has M.faces f → outer M f ≡ outer N f
  outer_told f there = decimal_injective (outer M f) (outer N f)
      (small M one Loop (outer M f) (one.outers_there f there).0)
      (small N two Loop (outer N f) (two.outers_there f (sym (used Face f) ∙ there)).0)
      (cc (told Face f there))

  rings_told : (f : ℕ) → Has M.faces f → rings_of M f ≡ rings_of N f
  rings_told f there = same_numbers decimal decimal (rings_of M f) (rings_of N f)
      (λ n m a b e. decimal_injective n m (small M one Loop n (ring_there M one f n a)) (small N two Loop m (ring_there N two f m b)) e)
      (cc (told Face f there))

  -- the face of a loop is the one whose line names it
  face_told : (l : ℕ) → Has M.loops l → face_of M l ≡ face_of N l
  face_told l there =
      let f = face_of M l in
      let at = one.loops_of_faces l there in
      elim (eqb_tells (outer M f) l) [
        | inl is ↦ sym (two.outers_there f (sym (used Face f) ∙ at)).1 ∙ ap (face_of N) (sym (outer_told f at) ∙ is.1)
        | inr not_outer ↦
            let itself : nat_eq (face_of M l) f ≡ true = grind (arith, nat_tests) in
            let ring : member l (rings_of M f) ≡ true = member_rings M f l ∙ ap (λ b. b && nat_eq (face_of M l) f && not (nat_eq (outer M f) l)) there ∙ ap (λ b. b && not (nat_eq (outer M f) l)) itself ∙ ap not not_outer.0 in
            let other = three (has N.loops l) (nat_eq (face_of N l) f) (not (nat_eq (outer N f) l)) (sym (member_rings N f l) ∙ ap (member l) (sym (rings_told f at)) ∙ ring) in
            grind (arith, nat_tests)
      ]

  contents_told : (l : ℕ) (c d : LoopContent) → content M l ≡ c → content N l ≡ d → content_words c ≡ content_words d → c ≡ d
  contents_told l (lone v) (lone w) p q e = ap lone (decimal_injective v w (small M one Vertex v (one.lone_at_vertex l v p)) (small N two Vertex w (two.lone_at_vertex l w q)) (cc e))
  contents_told l (lone v) (cycle hs) p q e = absurd (no_half v hs e)
  contents_told l (cycle hs) (lone v) p q e = absurd (no_half v hs (sym e))
  contents_told l (cycle hs) (cycle gs) p q e = ap cycle (same_numbers half_word half_word hs gs
      (λ h g a b s. half_told h g (small M one Edge (edge_of h) (item_there M one l hs p h a)) (small N two Edge (edge_of g) (item_there N two l gs q g b)) s) e)

  plus_told : (e : ℕ) → Has M.edges e → tail M (plus e) ≡ tail N (plus e)
  plus_told e there = decimal_injective (tail M (plus e)) (tail N (plus e)) (plus_tail_small M one e there) (plus_tail_small N two e (sym (used Edge e) ∙ there))
      (cc (told Edge e there))

  minus_told : (e : ℕ) → Has M.edges e → tail M (minus e) ≡ tail N (minus e)
  minus_told e there = decimal_injective (tail M (minus e)) (tail N (minus e)) (minus_tail_small M one e there) (minus_tail_small N two e (sym (used Edge e) ∙ there))
      (cc (told Edge e there))

  points_told : (p q : Point) → is_in_range p ≡ true → is_in_range q ≡ true → signed_decimal p.x ≡ signed_decimal q.x → signed_decimal p.y ≡ signed_decimal q.y → signed_decimal p.z ≡ signed_decimal q.z → p ≡ q
  points_told p q r s x y z =
      let left : (p : Point) → is_in_range p ≡ true → is_coordinate p.x ≡ true = λ p r. and_first (is_coordinate p.x) (is_coordinate p.y && is_coordinate p.z) r in
      let right : (p : Point) → is_in_range p ≡ true → is_coordinate p.y && is_coordinate p.z ≡ true = λ p r. and_second (is_coordinate p.x) (is_coordinate p.y && is_coordinate p.z) r in
      let xs = signed_decimal_injective p.x q.x (coordinate_small p.x (left p r)) (coordinate_small q.x (left q s)) x in
      let ys = signed_decimal_injective p.y q.y (coordinate_small p.y (and_first (is_coordinate p.y) (is_coordinate p.z) (right p r))) (coordinate_small q.y (and_first (is_coordinate q.y) (is_coordinate q.z) (right q s))) y in
      let zs = signed_decimal_injective p.z q.z (coordinate_small p.z (and_second (is_coordinate p.y) (is_coordinate p.z) (right p r))) (coordinate_small q.z (and_second (is_coordinate q.y) (is_coordinate q.z) (right q s))) z in
      λ i. record { x = xs i; y = ys i; z = zs i }

  point_told : (v : ℕ) → Has M.vertices v → point_of M v ≡ point_of N v
  point_told v there =
      let e = told Vertex v there in
      points_told (point_of M v) (point_of N v) (point_in_range M one v there) (point_in_range N two v (sym (used Vertex v) ∙ there))
      (cc e) (cc e) (cc e)

  same_solids : M.solids ≡ N.solids
  same_solids = same_rows M.solids N.solids (used Solid) (λ q x y at bt. refl)

  same_faces : M.faces ≡ N.faces
  same_faces = same_rows M.faces N.faces (used Face) (λ q x y at bt.
      let s = sym (solid_row M q x at) ∙ solid_told q (ap is_some at) ∙ solid_row N q y bt in
      let o = sym (outer_row M q x at) ∙ outer_told q (ap is_some at) ∙ outer_row N q y bt in
      λ i. record { solid = s i; outer = o i })

  same_loops : M.loops ≡ N.loops
  same_loops = same_rows M.loops N.loops (used Loop) (λ q x y at bt.
      let f = sym (face_row M q x at) ∙ face_told q (ap is_some at) ∙ face_row N q y bt in
      let c = sym (content_row M q x at) ∙ (contents_told q (content M q) (content N q) refl refl (cc (told Loop q (ap is_some at)))) ∙ content_row N q y bt in
      λ i. record { face = f i; content = c i })

  same_edges : M.edges ≡ N.edges
  same_edges = same_rows M.edges N.edges (used Edge) (λ q x y at bt.
      let p = sym (plus_tail_row M q x at) ∙ plus_told q (ap is_some at) ∙ plus_tail_row N q y bt in
      let m = sym (minus_tail_row M q x at) ∙ minus_told q (ap is_some at) ∙ minus_tail_row N q y bt in
      λ i. record { plus_tail = p i; minus_tail = m i })

  same_vertices : M.vertices ≡ N.vertices
  same_vertices = same_rows M.vertices N.vertices (used Vertex) (λ q x y at bt. sym (point_row M q x at) ∙ point_told q (ap is_some at) ∙ point_row N q y bt)

  pub same_models : M ≡ N
  same_models = λ i. record { solids = same_solids i; faces = same_faces i; loops = same_loops i; edges = same_edges i; vertices = same_vertices i }

pub listing_told : (M N : Model) → Sound M → Sound N → listing M ≡ listing N → M ≡ N
listing_told M N one two e = same_models M N one two (lines_told M N one two e)
