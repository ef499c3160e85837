-- The lines of a model tell the numbers of each kind and the line of each number.
use Rattle.solid_listing.proofs.Prelude.{◌≡◌, ℕ, Bool, true, false, cond, ◌||◌, nat_eq, List, [], ◌∷◌, ◌++◌, map, refl, sym, ap, ◌∙◌, true≢false, inl, inr, append-nil, decimal, eqb_tells, Kind, Solid, Face, Loop, Edge, Vertex, Model, numbers_of, member}
use Rattle.solid_listing.specs.Listing.{line, kind_lines, lines}
use Rattle.solid_listing.proofs.Parsing.{Line}
use Rattle.solid_listing.proofs.Lines.{here, later}

-- the letter with which the lines of a kind begin
abbrev letter : Kind → ℕ
letter Solid = 115
letter Face = 102
letter Loop = 108
letter Edge = 101
letter Vertex = 118

abbrev first_letter : Line → ℕ
first_letter ((b ∷ w) ∷ ws) = b
first_letter l = 0

-- the lines that begin with a letter
abbrev select : ℕ → List Line → List Line
select b [] = []
select b (l ∷ ls) = cond (nat_eq (first_letter l) b) (l ∷ select b ls) (select b ls)

select-append : (b : ℕ) (ls ms : List Line) → select b (ls ++ ms) ≡ select b ls ++ select b ms
select-append b [] ms = refl
select-append b (l ∷ ls) ms = selected_first (nat_eq (first_letter l) b) (select-append b ls ms) where
  selected_first : (c : Bool) → select b (ls ++ ms) ≡ select b ls ++ select b ms → cond c (l ∷ select b (ls ++ ms)) (select b (ls ++ ms)) ≡ cond c (l ∷ select b ls) (select b ls) ++ select b ms
  selected_first true e = ap (λ (ks : List Line). l ∷ ks) e
  selected_first false e = e

both : (b : ℕ) (ls ms ps qs : List Line) → select b ls ≡ ps → select b ms ≡ qs → select b (ls ++ ms) ≡ ps ++ qs
both b ls ms ps qs e f = select-append b ls ms ∙ (λ i. e i ++ f i)

first_is : (M : Model) (k : Kind) (n : ℕ) → first_letter (line M k n) ≡ letter k
first_is M Solid n = refl
first_is M k n = refl

select_map : (M : Model) (b : ℕ) (k : Kind) (ns : List ℕ) → select b (map (line M k) ns) ≡ cond (nat_eq (letter k) b) (map (line M k) ns) []
select_map M b k [] = nothing_either_way (nat_eq (letter k) b) where
  nothing_either_way : (c : Bool) → ◌≡◌ {A = List Line} [] (cond c [] [])
  nothing_either_way true = refl
  nothing_either_way false = refl
select_map M b k (n ∷ ns) =
    ap (λ x. cond (nat_eq x b) (line M k n ∷ select b (map (line M k) ns)) (select b (map (line M k) ns))) (first_is M k n)
    ∙ all_or_none (nat_eq (letter k) b) (select_map M b k ns) where
      all_or_none : (c : Bool) → select b (map (line M k) ns) ≡ cond c (map (line M k) ns) [] → cond c (line M k n ∷ select b (map (line M k) ns)) (select b (map (line M k) ns)) ≡ cond c (line M k n ∷ map (line M k) ns) []
      all_or_none true e = ap (λ (ls : List Line). line M k n ∷ ls) e
      all_or_none false e = e

part : Model → ℕ → Kind → List Line
part M b k = cond (nat_eq (letter k) b) (kind_lines M k) []

select_kind : (M : Model) (b : ℕ) (k : Kind) → select b (kind_lines M k) ≡ part M b k
unfolding part
select_kind M b k = select_map M b k (numbers_of M k)

select_lines : (M : Model) (b : ℕ) → select b (lines M) ≡ part M b Solid ++ (part M b Face ++ (part M b Loop ++ (part M b Edge ++ (part M b Vertex ++ []))))
unfolding lines
select_lines M b = both b _ _ _ _ (select_kind M b Solid) (both b _ _ _ _ (select_kind M b Face) (both b _ _ _ _ (select_kind M b Loop) (both b _ _ _ _ (select_kind M b Edge) (both b _ [] _ [] (select_kind M b Vertex) refl))))

kind_told : (M : Model) (k : Kind) → select (letter k) (lines M) ≡ kind_lines M k
unfolding part
kind_told M Solid = select_lines M (letter Solid) ∙ append-nil (kind_lines M Solid)
kind_told M k = select_lines M (letter k) ∙ append-nil (kind_lines M k)

pub maps_same : (M N : Model) → lines M ≡ lines N → (k : Kind) → map (line M k) (numbers_of M k) ≡ map (line N k) (numbers_of N k)
maps_same M N same k = sym (kind_told M k) ∙ ap (select (letter k)) same ∙ kind_told N k

-- a line tells its number
pub number_told : (M N : Model) (k : Kind) (n m : ℕ) → line M k n ≡ line N k m → decimal n ≡ decimal m
number_told M N Solid n m e = cc e
number_told M N k n m e = cc e

-- lists of numbers are told by what is made of each number
pub same_numbers : {A : Type 0} (f g : ℕ → A) (ns ms : List ℕ) → ((n m : ℕ) → member n ns ≡ true → member m ms ≡ true → f n ≡ g m → n ≡ m) → map f ns ≡ map g ms → ns ≡ ms
same_numbers f g [] [] key e = refl
same_numbers f g (n ∷ ns) (m ∷ ms) key e =
    let p : f n ≡ g m = cc in
    let q : map f ns ≡ map g ms = cc in
    let first = key n m (here n ns) (here m ms) p in
    let rest = same_numbers f g ns ms (λ k j a b s. key k j (later k n ns a) (later j m ms b) s) q in
    λ i. first i ∷ rest i
same_numbers f g ns ms key e = cc

pub agree : {A : Type 0} (f g : ℕ → A) (ns : List ℕ) → map f ns ≡ map g ns → (n : ℕ) → member n ns ≡ true → f n ≡ g n
agree f g [] e n m = absurd (true≢false (sym m))
agree f g (k ∷ ks) e n m =
    let p : f k ≡ g k = cc in
    let q : map f ks ≡ map g ks = cc in
    elim (eqb_tells n k) [
      | inl same ↦ ap f same.1 ∙ p ∙ ap g (sym same.1)
      | inr other ↦ agree f g ks q n (sym (ap (λ b. b || member n ks) other.0) ∙ m)
    ]
