-- Sides that are noted, and the side that corners reach.
use Rattle.split_checks.proofs.Prelude.{◌≡◌, ◌≢◌, ℕ, zero, suc, Bool, true, false, List, [], ◌∷◌, slice_index_or, slice_set, sym, ap, ◌∙◌, true≢false, arith, Plane, Sign, Below, Above, height, sign_of, Model, LoopContent, lone, cycle, is_number, point_of, Sound, Has, Lone, or_false, Tells, vertices_on, Noted, IsSide, AreNoted}
use Rattle.euler_operators.specs.Table as table
use Rattle.split_checks.specs.Common.{same_sign, side_reached, some_lie}
use Rattle.split_checks.proofs.cut_places_laws.Signs.{sign_lies}

-- ---- what is noted

module _ (M : Model) (p : Plane) where
  -- at each place, and nothing past the last
  pub noted_at : (ns : List Noted) (i : ℕ) (d : Noted) → d.vertex ≡ 0 → AreNoted M p ns → (slice_index_or ns i d).vertex ≢ 0 → IsSide M p (slice_index_or ns i d)
  noted_at [] i d none are ne = absurd (ne none)
  noted_at (n ∷ ns) zero d none are ne = are.0 ne
  noted_at (n ∷ ns) (suc i) d none are ne = noted_at ns i d none are.1 ne

  pub one_noted : (ns : List Noted) (i : ℕ) (n : Noted) → AreNoted M p ns → IsSide M p n → AreNoted M p (slice_set ns i n)
  one_noted [] i n are is = tt
  one_noted (m ∷ ns) zero n are is = (λ ne. is, are.1)
  one_noted (m ∷ ns) (suc i) n are is = (are.0, one_noted ns i n are.1 is)

  -- a vertex that is there is told by its number
  pub told_of : Sound M → (n : Noted) (v : ℕ) → (n.vertex ≢ 0 → IsSide M p n) → n.vertex ≡ v → Has M.vertices v → n.side ≡ sign_of (height p (point_of M v))
  told_of sound n v right e there = (right (λ z. true≢false (sym (sound.vertices_fit v there) ∙ ap is_number (sym e ∙ z)))).side ∙ ap (λ u. sign_of (height p (point_of M u))) e

-- vertices whose rows stay keep their sides
pub noted_still : (M N : Model) (p : Plane) → ((v : ℕ) → Has M.vertices v → table.get N.vertices v ≡ table.get M.vertices v) → (ns : List Noted) → AreNoted M p ns → AreNoted N p ns
unfolding point_of
noted_still M N p stay [] are = tt
noted_still M N p stay (n ∷ ns) are = grind (arith, noted_still M N p stay ns are.1)

-- ---- what is reached

pub is_up : (s : Sign) → same_sign s Above ≡ true → s ≡ Above
is_up s e = grind (arith, true≢false)

-- what a side that is reached tells
pub told_up : (s : Sign) (a b : Bool) → s ≡ side_reached a b → same_sign s Above ≡ a
told_up s a b e = grind arith

pub told_down : (s : Sign) (a b : Bool) → s ≡ side_reached a b → a ≡ false → same_sign s Below ≡ b
told_down s a b e low = grind arith

-- a lone vertex
one_reached : (s : Sign) → s ≡ side_reached (same_sign s Above) (same_sign s Below)
one_reached s = grind arith

pub lone_side : (M : Model) (p : Plane) (l : LoopContent) (v : ℕ) (s : Sign) → Tells l (Lone v) → s ≡ sign_of (height p (point_of M v))
    → s ≡ side_reached (some_lie Above M p (vertices_on M l)) (some_lie Below M p (vertices_on M l))
lone_side M p (cycle hs) v s tells is = absurd tells
lone_side M p (lone w) v s tells is = one_reached s ∙ (λ i. side_reached (lies_there Above i) (lies_there Below i)) where
  lies_there : (side : Sign) → same_sign s side ≡ some_lie side M p (w ∷ [])
  lies_there side = ap (λ t. same_sign t side) (is ∙ ap (λ u. sign_of (height p (point_of M u))) tells) ∙ sign_lies side p (point_of M w) ∙ sym (or_false _)
