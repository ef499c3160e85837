-- Points as keys of an ordered set.
use Rattle.gluing.proofs.Prelude.{◌≡◌, ℤ, ◌-◌, ◌≤◌, List, [], ◌∷◌, length, sym, Bool, true, false, cond, not, ◌&&◌, ◌||◌, int_cmp, Ordering, BTreeSet, refl, ap, ◌∙◌, arith, is_eq, take, drop, slice_index_or, list_any, take_rest, has_repeats, Point, same_point, after_equal, equal_is}
use Rattle.std.specs.Ordering.{ordering_then}
use Rattle.std.specs.BTreeSet as sorted
use Rattle.gluing.proofs.glue_checks_laws.Points.{new_point, old_point}

abbrev pub Key : Type 0
Key = ℤ × ℤ × ℤ

abbrev pub key : Point → Key
key p = (p.x, p.y, p.z)

abbrev pub key_cmp : Key → Key → Ordering
key_cmp a b = ordering_then (ordering_then (int_cmp a.0 b.0) (int_cmp a.1 b.1)) (int_cmp a.2 b.2)

-- whether a point is in the set
abbrev pub is_met : BTreeSet Key → Point → Bool
is_met set p = sorted.contains key_cmp set (key p)

-- equal keys are those of equal points
pub key_tied : (p q : Point) → is_eq (key_cmp (key p) (key q)) ≡ same_point p q
key_tied p q = after_equal (int_cmp p.x q.x) (int_cmp p.y q.y) (int_cmp p.z q.z) ∙ (λ i. equal_is p.x q.x i && equal_is p.y q.y i && equal_is p.z q.z i)

-- the set with one point more
pub met_more : (p q : Point) (k : Key) (old new : Bool) → k ≡ key p → new ≡ cond (is_eq (key_cmp k (key q))) true old → new ≡ same_point p q || old
met_more p q k old new is e = e ∙ ap (λ i. cond (is_eq (key_cmp i (key q))) true old) is ∙ ap (λ b. cond b true old) (key_tied p q) ∙ or_is (same_point p q) old where
  or_is : (a b : Bool) → cond a true b ≡ a || b
  or_is true b = refl
  or_is false b = refl

-- whether a point was in the set before
pub was_met : (set : BTreeSet Key) (p : Point) (k : Key) (added : Bool) → k ≡ key p → added ≡ not (sorted.contains key_cmp set k) → is_met set p ≡ not added
was_met set p k added is e = ap (sorted.contains key_cmp set) (sym is) ∙ sym (ap not e ∙ twice (sorted.contains key_cmp set k)) where
  twice : (b : Bool) → not (not b) ≡ b
  twice true = refl
  twice false = refl

-- nothing is in an empty set
pub none_in : (set : BTreeSet Key) (ps : List Point) → sorted.IsEmpty set → has_repeats ps ≡ list_any (is_met set) ps || has_repeats ps
none_in set ps e = ap (λ b. b || has_repeats ps) (sym (none_listed ps)) where
  none_met : (p : Point) → is_met set p ≡ false
  none_met p = ap (list_any (λ k. is_eq (key_cmp (key p) k))) e

  none_listed : (qs : List Point) → list_any (is_met set) qs ≡ false
  none_listed [] = refl
  none_listed (q ∷ qs) = λ i. none_met q i || none_listed qs i

-- the first of a list, and the others
abbrev pub others : List Point → List Point
others ps = take (length ps - 1) (drop 1 ps)

parts : (ps : List Point) (d : Point) → 1 ≤ length ps → ps ≡ slice_index_or ps 0 d ∷ others ps
parts [] d l = absurd (omega arith)
parts (p ∷ ps) d l = ap (λ (qs : List Point). p ∷ qs) (sym (take_rest (p ∷ ps) 1))

pub first_met : (ps : List Point) (d : Point) (old : Point → Bool) (b : Bool) → 1 ≤ length ps → old (slice_index_or ps 0 d) ≡ true → b ≡ list_any old ps || has_repeats ps → true ≡ b
first_met ps d old b l met e = old_point (slice_index_or ps 0 d) (others ps) old met ∙ ap (λ qs. list_any old qs || has_repeats qs) (sym (parts ps d l)) ∙ sym e

pub first_new : (ps : List Point) (d : Point) (old new : Point → Bool) (b : Bool) → 1 ≤ length ps → old (slice_index_or ps 0 d) ≡ false → ((q : Point) → new q ≡ same_point (slice_index_or ps 0 d) q || old q)
    → b ≡ list_any old ps || has_repeats ps → b ≡ list_any new (others ps) || has_repeats (others ps)
first_new ps d old new b l absent more e = e ∙ ap (λ qs. list_any old qs || has_repeats qs) (parts ps d l) ∙ sym (new_point (slice_index_or ps 0 d) (others ps) old new absent more)
