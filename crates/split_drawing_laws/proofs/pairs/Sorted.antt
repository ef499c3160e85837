-- Places sorted by their points: what holds of them and of their pairs.
use Rattle.split_drawing_laws.proofs.Prelude.{◌≡◌, ℕ, ◌+◌, true, false, cond, List, [], ◌∷◌, length, refl, ap, ◌∙◌, arith, ◌≢◌, ◌*◌, Bool, sym, subst, true≢false, map, eq-eqb, Plane, count, tick, IsApart, IsIn, Model, loop_of, tick_same, place_point, sorted_in, sorted, goes_up, in_pairs, up_first, places, sorted_pairs, place_pairs, is_crossed, from_place, drawn_pairs, count-sorted, length-sorted, Fits, AllFit, LoneInOneLoop, ends}
use Rattle.split_drawing_laws.proofs.pairs.LoopPlaces.{IsEven, two_less}
use Rattle.split_drawing_laws.proofs.crossings.Premises.{two_meet}

module _ (M : Model) (p : Plane) where
  pub sorted_apart : (hs : List ℕ) → IsApart hs → IsApart (sorted M p hs)
  sorted_apart hs apart x = omega (arith, apart x, count-sorted M p x hs)

-- ---- the pairs of a list of places fit where any two of these places do

-- an even number of places are all in pairs
pub all_paired : (hs : List ℕ) → IsEven (length hs) → length hs ≡ 2 * length (in_pairs hs)
all_paired [] even = refl
all_paired (h ∷ []) even = absurd (omega (arith, even.1))
all_paired (h ∷ k ∷ ks) even = omega (arith, all_paired ks (two_less (length ks) even))

module _ (M N : Model) (p : Plane) where
  -- the half-edges that start at two places, in either order
  abbrev pub between : ℕ × ℕ → ℕ × ℕ
  between q = (from_place N p q.0, from_place N p q.1)

  -- between these edges are drawn, where the places are listed in order
  abbrev pub drawn : List ℕ → List (ℕ × ℕ)
  drawn hs = map between (map (up_first M p) (in_pairs hs))

  either_fits : (f : ℕ) (b : Bool) (h k : ℕ) → Fits N f (between (h, k)) → Fits N f (between (k, h)) → Fits N f (between (cond b (h, k) (k, h)))
  either_fits f b h k e g = grind arith

  pub all_fit : (f : ℕ) (hs : List ℕ) → IsApart hs → ((x y : ℕ) → IsIn x hs → IsIn y hs → x ≢ y → Fits N f (between (x, y))) → AllFit N f (drawn hs)
  all_fit f [] apart fits = tt
  all_fit f (h ∷ []) apart fits = tt
  all_fit f (h ∷ k ∷ ks) apart fits =
      let h_in : IsIn h (h ∷ k ∷ ks) = omega (arith, tick_same h) in
      let k_in : IsIn k (h ∷ k ∷ ks) = omega (arith, tick_same k) in
      let other : h ≢ k = λ e. omega (arith, apart h, tick_same h, ap (tick h) e) in (
        either_fits f (goes_up M p h) h k (fits h k h_in k_in other) (fits k h k_in h_in (λ e. other (sym e))),
        all_fit f ks (λ x. omega (arith, apart x)) (λ x y i j. fits x y (omega (arith, i)) (omega (arith, j))),
      )

  -- an even number of places, where two alone are those of one loop
  pub lone_in_loop : (l : ℕ) (hs : List ℕ) → IsEven (length hs) → (length hs ≡ 2 → (x : ℕ) → IsIn x hs → loop_of N (from_place N p x) ≡ l) → LoneInOneLoop N (drawn hs)
  lone_in_loop l hs even two = grind (arith, eq-eqb)

-- ---- the pairs of an even number of places hold each of these places, as often as it stands among them

module _ (M N : Model) (p : Plane) (x : ℕ) where
  either_counted : (b : Bool) (h k m n : ℕ) → m ≡ n →
      tick x (between M N p (cond b (h, k) (k, h))).0 + (tick x (between M N p (cond b (h, k) (k, h))).1 + m) ≡ tick x (from_place N p h) + (tick x (from_place N p k) + n)
  either_counted true h k m n e = omega (arith, e)
  either_counted false h k m n e = omega (arith, e)

  ends_drawn : (hs : List ℕ) → IsEven (length hs) → count x (ends (drawn M N p hs)) ≡ count x (map (from_place N p) hs)
  ends_drawn [] even = refl
  ends_drawn (h ∷ []) even = absurd (omega (arith, even.1))
  ends_drawn (h ∷ k ∷ ks) even = either_counted (goes_up M p h) h k (count x (ends (drawn M N p ks))) (count x (map (from_place N p) ks)) (ends_drawn ks (two_less (length ks) even))

  started-sorted_in : (h : ℕ) (ks : List ℕ) → count x (map (from_place N p) (sorted_in M p h ks)) ≡ tick x (from_place N p h) + count x (map (from_place N p) ks)
  started-sorted_in h [] = refl
  started-sorted_in h (k ∷ ks) = grind (arith, started-sorted_in h ks)

  started-sorted : (hs : List ℕ) → count x (map (from_place N p) (sorted M p hs)) ≡ count x (map (from_place N p) hs)
  started-sorted [] = refl
  started-sorted (h ∷ hs) = started-sorted_in h (sorted M p hs) ∙ ap (λ n. tick x (from_place N p h) + n) (started-sorted hs)

  -- what starts at the cut places of a face, in the pairs between which edges are drawn
  pub all_places_drawn : (f : ℕ) → IsEven (length (places M p f)) → count x (ends (drawn_pairs M N p f)) ≡ count x (map (from_place N p) (places M p f))
  unfolding drawn_pairs place_pairs sorted_pairs
  all_places_drawn f even = ends_drawn (sorted M p (places M p f)) (subst IsEven (sym (length-sorted M p (places M p f))) even) ∙ started-sorted (places M p f)

-- ---- the cut places of a face that isn't crossed have different points

module _ (M : Model) (p : Plane) where
  pub points_apart : (f : ℕ) → is_crossed M p f ≡ false → (x y : ℕ) → IsIn x (places M p f) → IsIn y (places M p f) → x ≢ y → place_point M p x ≢ place_point M p y
  unfolding is_crossed
  points_apart f uncrossed x y i j ne e = grind (arith, true≢false, two_meet)
