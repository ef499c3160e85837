-- The sides of half-edges through the two passes over the pairs of a face.
use Rattle.split_drawing_laws.proofs.Prelude.{◌≡◌, ◌≢◌, ℕ, ◌≤◌, Bool, true, cond, List, [], ◌∷◌, refl, arith, ◌⊎◌, inl, inr, ◌∙◌, fold, eqb_tells, Plane, count, Model, loop_of, HasHalf, Drawing, in_one_loop, join_next, draw_next, stuck_at, FacePairs, next_drawn, faces_drawn, undrawn, start, Growing, Parted, Crosses, Open, LiesOn, CanBeDrawn, TakeSides}
use Rattle.split_drawing_laws.proofs.drawings.Passes.{stuck_now, cut_off}
use Rattle.split_drawing_laws.proofs.loop_sides.Between.{Closes, IsKept, faces_kept}
use Rattle.split_drawing_laws.proofs.loop_sides.Parting.{Opposed, parted_drawn, parted_joined, parted_moved, corners_on_one_side}
use Rattle.split_drawing_laws.proofs.drawings.Whole.{drawable, drawing_sound}

-- the half-edges of a pair in the other order
pub crosses_back : (B : Model) (p : Plane) (first : ℕ → Bool) (c d : ℕ) → Crosses B p first (c, d) → Crosses B p first (d, c)
crosses_back B p first c d w = grind arith

-- fewer places are open too
pub fewer : (B : Model) (places rest : List ℕ) → ((x : ℕ) → count x rest ≤ count x places) → Open B places → Open B rest
fewer B places rest less o = grind arith

opposed : (B : Model) (p : Plane) (first : ℕ → Bool) (c d : ℕ) (places rest : List ℕ) → Crosses B p first (c, d) → Open B places → Closes c d places rest → Opposed B p first c d places rest
opposed B p first c d places rest w o closes = grind arith

-- ---- the sides of half-edges once a whole face is drawn, where the drawing isn't stuck

module _ (B : Model) (p : Plane) (first : ℕ → Bool) (S : ℕ → Type 0) where
  abbrev pub AreSided : ℕ → Model → List ℕ → Type 0
  AreSided n N places = (n ≢ 0) ⊎ (Open B places × Parted B N p first S places)

  or_stuck : {n : ℕ} {Y Z : Type 0} → (Y → Z) → (n ≢ 0) ⊎ Y → (n ≢ 0) ⊎ Z
  or_stuck on (inl is) = inl is
  or_stuck on (inr a) = inr (on a)

  sides_kept : IsKept (Crosses B p first) AreSided
  sides_kept = record {
    turned = crosses_back B p first;
    join = λ n N c d e places rest can cross closes. or_stuck (λ a. (
      fewer B places rest (λ x. omega (arith, closes x)) a.0,
      parted_joined B N p first S c d e places rest can (opposed B p first c d places rest cross a.0 closes) a.1,
    ));
    draw = λ n N c d e f l places rest can cross closes. or_stuck (λ a. (
      fewer B places rest (λ x. omega (arith, closes x)) a.0,
      parted_drawn B N p first S c d e f l places rest can (opposed B p first c d places rest cross a.0 closes) a.1,
    ));
    stop = λ f d places rest some less a. inl (stuck_now f d some);
    move = λ n M f k N l places drawn ring newer. or_stuck (λ a. (a.0, parted_moved M B N p first S f l k places drawn ring newer a.1));
  }

-- ---- what a drawing keeps, whatever is drawn

-- D is d with something drawn: it takes no vertex, and where d is stuck D is
pub record GoesOn (d D : Drawing) : Type 0 where
  pub vertex : D.taken.vertex ≡ d.taken.vertex
  pub stuck : d.stuck ≢ 0 → D.stuck ≢ 0

goes_through : (d D E : Drawing) → GoesOn d D → GoesOn D E → GoesOn d E
goes_through d D E a b = record { vertex = b.vertex ∙ a.vertex; stuck = λ is. b.stuck (a.stuck is) }

goes_either : (b : Bool) (d D E : Drawing) → GoesOn d D → GoesOn d E → GoesOn d (cond b D E)
goes_either b d D E e f = grind arith

goes_all : {X : Type 0} (step : Drawing → X → Drawing) → ((d : Drawing) (x : X) → GoesOn d (step d x)) → (d : Drawing) (xs : List X) → GoesOn d (fold step d xs)
goes_all step each d [] = record { vertex = refl; stuck = λ is. is }
goes_all step each d (x ∷ xs) = goes_through d (step d x) (fold step (step d x) xs) (each d x) (goes_all step each (step d x) xs)

goes_stuck : (f : ℕ) (d : Drawing) → GoesOn d (stuck_at f d)
goes_stuck f d = grind arith

join_goes : (d : Drawing) (q : ℕ × ℕ) → GoesOn d (join_next d q)
unfolding join_next
join_goes d q = grind (arith, goes_either)

draw_goes : (f : ℕ) (d : Drawing) (q : ℕ × ℕ) → GoesOn d (draw_next f d q)
unfolding draw_next
draw_goes f d q = goes_either (in_one_loop d.model q) d (cut_off d q) (stuck_at f d) (record { vertex = refl; stuck = λ is. is }) (goes_stuck f d)

pub draws_go_on : (f : ℕ) (d : Drawing) (qs : List (ℕ × ℕ)) → GoesOn d (fold (draw_next f) d qs)
draws_go_on f d qs = goes_all (draw_next f) (draw_goes f) d qs

pub faces_go_on : (p : Plane) (d : Drawing) (fs : List FacePairs) → GoesOn d (fold (next_drawn p) d fs)
unfolding next_drawn
faces_go_on p d fs = goes_all (next_drawn p) (λ d f. grind (arith, goes_all, join_goes, goes_through, goes_either, goes_stuck, draws_go_on)) d fs

pub not_stuck : (p : Plane) (d : Drawing) (fs : List FacePairs) → (fold (next_drawn p) d fs).stuck ≡ 0 → d.stuck ≡ 0
not_stuck p d fs free = elim (eqb_tells d.stuck 0) [ inl e ↦ e.1 | inr e ↦ absurd ((faces_go_on p d fs).stuck e.1 free) ]

-- ---- all faces: each loop lies on one closed side

module _ (p : Plane) (g : Growing) (fs : List FacePairs) (first mine : ℕ → Bool) (can : CanBeDrawn g fs) (sides : TakeSides p g fs first mine) (free : (faces_drawn p (undrawn g) fs).stuck ≡ 0) where
  pub all_drawn_parted : Parted g.model (faces_drawn p (undrawn g) fs).model p first (λ h. mine h ≡ true) []
  all_drawn_parted =
      elim (faces_kept p (Crosses g.model p first) (AreSided g.model p first (λ h. mine h ≡ true)) (sides_kept g.model p first (λ h. mine h ≡ true)) (undrawn g) fs 0 (drawable g fs can) sides.some sides.cross
      (inr (sides.fine, grind arith))) [ inl is ↦ absurd (is free) | inr a ↦ a.1 ]

  pub loops_on_one_side : (x y : ℕ) → HasHalf (faces_drawn p (undrawn g) fs).model x → HasHalf (faces_drawn p (undrawn g) fs).model y →
      loop_of (faces_drawn p (undrawn g) fs).model x ≡ loop_of (faces_drawn p (undrawn g) fs).model y → mine x ≡ true → mine y ≡ true →
      (b : Bool) × LiesOn p b (start (faces_drawn p (undrawn g) fs).model x) × LiesOn p b (start (faces_drawn p (undrawn g) fs).model y)
  loops_on_one_side x y xt yt same mx my = corners_on_one_side g.model (faces_drawn p (undrawn g) fs).model p first (λ h. mine h ≡ true) (drawing_sound p g fs can) all_drawn_parted x y xt yt same mx my
