-- The lines of a sound model can be read back.
use Rattle.solid_listing.proofs.Prelude.{◌≡◌, ℕ, ◌+◌, ◌^◌, ◌<◌, ◌≤◌, Bool, true, false, cond, ◌&&◌, ◌||◌, not, nat_eq, List, [], ◌∷◌, ◌++◌, map, Option, Some, None, is_some, unwrap_or, refl, sym, ap, ◌∙◌, arith, true≢false, decimal, nat_tests, and_from, Point, is_coordinate, is_in_range, count, IsIn, Kind, Solid, Face, Loop, Edge, Vertex, plus, minus, edge_of, get, has, Model, LoopContent, lone, cycle, no_point, items_of, solid_of, outer, face_of, content, tail, point_of, rings_of, Sound, Has, HasHalf, plus_row, minus_row, in-holds, and_first, and_second, point_words, numbers_of, member, member_numbers, member_rings}
use Rattle.solid_listing.specs.Listing.{line, content_words, half_word, kind_lines, lines}
use Rattle.solid_listing.proofs.Parsing.{Word, Line, is_clean, are_clean, is_good, are_good}
use Rattle.solid_listing.proofs.Words.{number_small, coordinate_small, clean_decimal, clean_signed, clean_half}

pub member_in : (x : ℕ) (xs : List ℕ) → member x xs ≡ true → IsIn x xs
member_in x [] e = absurd (true≢false (sym e))
member_in x (y ∷ ys) e = elim (nat_eq x y) as (λ b. nat_eq x y ≡ b → b || member x ys ≡ true → 1 ≤ cond b 1 0 + count x ys) [
  | true ↦ λ _ _. omega arith
  | false ↦ λ _ m. let i = member_in x ys m in omega arith
] refl e

pub here : (k : ℕ) (ks : List ℕ) → member k (k ∷ ks) ≡ true
here k ks = grind (arith, nat_tests)

pub later : (k x : ℕ) (ks : List ℕ) → member k ks ≡ true → member k (x ∷ ks) ≡ true
later k x ks m = elim (nat_eq k x) as (λ b. b || member k ks ≡ true) [ true ↦ refl | false ↦ m ]

pub clean_map : (f : ℕ → Word) (ns : List ℕ) → ((n : ℕ) → member n ns ≡ true → is_clean (f n) ≡ true) → are_clean (map f ns) ≡ true
clean_map f [] h = refl
clean_map f (n ∷ ns) h = and_from (is_clean (f n)) (are_clean (map f ns)) (h n (here n ns)) (clean_map f ns (λ k m. h k (later k n ns m)))

pub good_map : (f : ℕ → Line) (ns : List ℕ) → ((n : ℕ) → member n ns ≡ true → is_good (f n) ≡ true) → are_good (map f ns) ≡ true
good_map f [] h = refl
good_map f (n ∷ ns) h = and_from (is_good (f n)) (are_good (map f ns)) (h n (here n ns)) (good_map f ns (λ k m. h k (later k n ns m)))

good_append : (ls ms : List Line) → are_good ls ≡ true → are_good ms ≡ true → are_good (ls ++ ms) ≡ true
good_append [] ms p q = q
good_append (l ∷ ls) ms p q = and_from (is_good l) (are_good (ls ++ ms)) (and_first (is_good l) (are_good ls) p) (good_append ls ms (and_second (is_good l) (are_good ls) p) q)

and_one : (a b c : Bool) → a && b && c ≡ true → a ≡ true
and_one true b c e = refl
and_one false b c e = e

-- whether a number of a kind is in use
abbrev pub is_used : Model → Kind → ℕ → Bool
is_used M Solid n = has M.solids n
is_used M Face n = has M.faces n
is_used M Loop n = has M.loops n
is_used M Edge n = has M.edges n
is_used M Vertex n = has M.vertices n

pub member_used : (M : Model) (kind : Kind) (n : ℕ) → member n (numbers_of M kind) ≡ is_used M kind n
member_used M Solid n = member_numbers _ n
member_used M kind n = member_numbers _ n

module _ (M : Model) (sound : Sound M) where
  pub small : (kind : Kind) (n : ℕ) → is_used M kind n ≡ true → n < 2 ^ 64
  small Solid n there = number_small n (sound.solids_fit n there)
  small Face n there = number_small n (sound.faces_fit n there)
  small Loop n there = number_small n (sound.loops_fit n there)
  small Edge n there = number_small n (sound.edges_fit n there)
  small Vertex n there = number_small n (sound.vertices_fit n there)

  pub ring_there : (f n : ℕ) → member n (rings_of M f) ≡ true → Has M.loops n
  ring_there f n m = and_one (has M.loops n) (nat_eq (face_of M n) f) (not (nat_eq (outer M f) n)) (sym (member_rings M f n) ∙ m)

  pub item_there : (l : ℕ) (hs : List ℕ) → content M l ≡ cycle hs → (h : ℕ) → member h hs ≡ true → HasHalf M h
  item_there l hs e h m = sound.only_edges h l (in-holds h (content M l) (stands (content M l) hs e h (member_in h hs m))) where
    stands : (c : LoopContent) (hs : List ℕ) → c ≡ cycle hs → (h : ℕ) → IsIn h hs → IsIn h (items_of c)
    stands c hs e h i = rw e i

  pub plus_tail_small : (e : ℕ) → Has M.edges e → tail M (plus e) < 2 ^ 64
  plus_tail_small e there = small Vertex (tail M (plus e)) (sound.tails_there (plus e) (ap (has M.edges) (plus_row e).0 ∙ there))

  pub minus_tail_small : (e : ℕ) → Has M.edges e → tail M (minus e) < 2 ^ 64
  minus_tail_small e there = small Vertex (tail M (minus e)) (sound.tails_there (minus e) (ap (has M.edges) (minus_row e).0 ∙ there))

  pub point_in_range : (v : ℕ) → Has M.vertices v → is_in_range (point_of M v) ≡ true
  unfolding point_of
  point_in_range v there = row_in_range (get M.vertices v) refl there where
    row_in_range : (o : Option Point) → get M.vertices v ≡ o → is_some o ≡ true → is_in_range (unwrap_or o no_point) ≡ true
    row_in_range None e t = absurd (true≢false (sym t))
    row_in_range (Some p) e t = sound.points_fit v p e

  clean_content : (l : ℕ) → Has M.loops l → (c : LoopContent) → content M l ≡ c → are_clean (content_words c) ≡ true
  clean_content l there (lone v) e = and_from (is_clean (decimal v)) true (clean_decimal v (small Vertex v (sound.lone_at_vertex l v e))) refl
  clean_content l there (cycle hs) e = clean_map half_word hs (λ h m. clean_half h (small Edge (edge_of h) (item_there l hs e h m)))

  clean_point : (p : Point) → is_in_range p ≡ true → are_clean (point_words p) ≡ true
  clean_point p r =
      let xyz = and_second (is_coordinate p.x) (is_coordinate p.y && is_coordinate p.z) r in
      let x = coordinate_small p.x (and_first (is_coordinate p.x) (is_coordinate p.y && is_coordinate p.z) r) in
      let y = coordinate_small p.y (and_first (is_coordinate p.y) (is_coordinate p.z) xyz) in
      let z = coordinate_small p.z (and_second (is_coordinate p.y) (is_coordinate p.z) xyz) in
      and_from _ _ (clean_signed p.x x) (and_from _ _ (clean_signed p.y y) (and_from _ true (clean_signed p.z z) refl))

  pub line_good : (kind : Kind) (n : ℕ) → member n (numbers_of M kind) ≡ true → is_good (line M kind n) ≡ true
  line_good Solid s m = and_from (is_clean (decimal s)) true (clean_decimal s (small Solid s (sym (member_numbers M.solids s) ∙ m))) refl
  line_good Face f m =
      let there = sym (member_numbers M.faces f) ∙ m in
      and_from _ _ (clean_decimal f (small Face f there))
      (and_from _ _ (clean_decimal (solid_of M f) (small Solid (solid_of M f) (sound.faces_of_solids f there)))
      (and_from _ _ (clean_decimal (outer M f) (small Loop (outer M f) (sound.outers_there f there).0))
      (clean_map decimal (rings_of M f) (λ n r. clean_decimal n (small Loop n (ring_there f n r))))))
  line_good Loop l m =
      let there = sym (member_numbers M.loops l) ∙ m in
      and_from _ _ (clean_decimal l (small Loop l there)) (clean_content l there (content M l) refl)
  line_good Edge e m =
      let there = sym (member_numbers M.edges e) ∙ m in
      and_from _ _ (clean_decimal e (small Edge e there))
      (and_from _ _ (clean_decimal (tail M (plus e)) (plus_tail_small e there)) (and_from _ true (clean_decimal (tail M (minus e)) (minus_tail_small e there)) refl))
  line_good Vertex v m =
      let there = sym (member_numbers M.vertices v) ∙ m in
      and_from _ _ (clean_decimal v (small Vertex v there)) (clean_point (point_of M v) (point_in_range v there))

  kind_good : (kind : Kind) → are_good (kind_lines M kind) ≡ true
  kind_good kind = good_map (line M kind) (numbers_of M kind) (line_good kind)

  pub lines_good : are_good (lines M) ≡ true
  unfolding lines
  lines_good = good_append (kind_lines M Solid) _ (kind_good Solid) (good_append (kind_lines M Face) _ (kind_good Face) (good_append (kind_lines M Loop) _ (kind_good Loop) (good_append (kind_lines M Edge) _ (kind_good Edge) (good_append (kind_lines M Vertex) [] (kind_good Vertex) refl))))
