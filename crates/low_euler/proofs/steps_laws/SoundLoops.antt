-- Two loops of a model whose loops stand apart, also with a new edge whose half-edges are loose.
use Rattle.low_euler.proofs.Prelude.{◌≡◌, ◌≢◌, ℕ, ◌+◌, true, List, ◌∷◌, ◌++◌, append-nil, None, is_some, refl, sym, ap, ◌∙◌, subst, arith, inl, inr, eqb_tells, count, IsIn, IsApart, mate, edge_of, Model, EdgeRow, items_of, content, is_number, HasHalf, count-append, tick_other, IsIn_or_not, apart_front, mate_other, get-put_here, number_real, mate_there, in-holds, content_none, LoopsStandApart}
use Rattle.euler_operators.specs.Table as table
use Rattle.low_euler.proofs.steps_laws.TwoLoops.{TwoLoops}
use Rattle.low_euler.proofs.steps_laws.LoopsApart.{placed-same, half-put}

-- a loop that isn't there adds nothing to another
pub with_none : (M : Model) (r l : ℕ) → table.get M.loops l ≡ None → items_of (content M r) ++ items_of (content M l) ≡ items_of (content M r)
with_none M r l none = ap (λ c. items_of (content M r) ++ items_of c) (content_none M l none) ∙ append-nil (items_of (content M r))

-- one half-edge more, which stands nowhere
with_loose : {N : Model} {r l fr fl : ℕ} {all : List ℕ} → TwoLoops N r l fr fl all →
    (h : ℕ) → HasHalf N h → ((q : ℕ) → count h (items_of (content N q)) ≡ 0) → count h all ≡ 0 → TwoLoops N r l fr fl (h ∷ all)
with_loose {N} {all} loops h there nowhere none = record {
  apart = loops.apart;
  first_real = loops.first_real;
  second_real = loops.second_real;
  once = apart_front h all none loops.once;
  there = λ x i. elim (eqb_tells x h) [ inl e ↦ subst (HasHalf N) (sym e.1) there | inr e ↦ loops.there x (omega (arith, i, tick_other x h e.1)) ];
  others = λ x q i a b. grind (arith, eqb_tells x h, tick_other x h, nowhere q, loops.others x q);
}

-- two loops
module _ (M : Model) (placed : LoopsStandApart M) where
  abbrev hs : ℕ → List ℕ
  hs q = items_of (content M q)

  half_there : (x q : ℕ) → IsIn x (hs q) → HasHalf M x
  half_there x q i = placed.only x q (in-holds x (content M q) i)

  in_one : (x p q : ℕ) → IsIn x (hs p) → IsIn x (hs q) → p ≡ q
  in_one x p q i j = sym (placed.one_loop x p (in-holds x (content M p) i)) ∙ placed.one_loop x q (in-holds x (content M q) j)

  module _ (r l : ℕ) (apart : r ≢ l) (first : is_number r ≡ true) (second : is_number l ≡ true) where
    count_shared : (x : ℕ) → count x (hs r ++ hs l) ≡ count x (hs r) + count x (hs l)
    count_shared x = count-append x (hs r) (hs l)

    once_shared : IsApart (hs r ++ hs l)
    once_shared x = grind (arith, IsIn_or_not x (hs r), IsIn_or_not x (hs l), in_one x r l, count_shared x, placed.apart r x, placed.apart l x)

    pub two_loops : {fr fl : ℕ} → TwoLoops M r l fr fl (hs r ++ hs l)
    two_loops = record {
      apart = apart;
      first_real = number_real r first;
      second_real = number_real l second;
      once = once_shared;
      there = λ x i. elim (IsIn_or_not x (hs r)) [ inl k ↦ half_there x r k | inr n ↦ half_there x l (omega (arith, count_shared x, n, i)) ];
      others = λ x q i a b. grind (arith, IsIn_or_not x (hs q), IsIn_or_not x (hs r), in_one x q r, in_one x q l, count_shared x);
    }

-- two loops, with a new edge whose half-edges stood nowhere
module _ (M : Model) (placed : LoopsStandApart M) (r l : ℕ) (apart : r ≢ l) (first : is_number r ≡ true) (second : is_number l ≡ true)
    (h : ℕ) (row : EdgeRow) (none_h : (q : ℕ) → count h (items_of (content M q)) ≡ 0)
    (none_m : (q : ℕ) → count (mate h) (items_of (content M q)) ≡ 0) where
  abbrev N : Model
  N = record M { edges = table.put M.edges (edge_of h) row }

  half_h : HasHalf N h
  half_h = ap is_some (get-put_here M.edges (edge_of h) row)

  pub edged_loops : {fr fl : ℕ} → TwoLoops N r l fr fl (h ∷ mate h ∷ (items_of (content M r) ++ items_of (content M l)))
  unfolding content
  edged_loops = with_loose
      (with_loose (two_loops N (placed-same M N refl (half-put M (edge_of h) row) placed) r l apart first second) (mate h) (mate_there N h half_h) none_m
      (omega (arith, count-append (mate h) (items_of (content M r)) (items_of (content M l)), none_m r, none_m l)))
      h half_h none_h
      (omega (arith, tick_other h (mate h) (mate_other h), count-append h (items_of (content M r)) (items_of (content M l)), none_h r, none_h l))
