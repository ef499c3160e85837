-- The caps of a strictly convex solid look along the plane.
use Rattle.convex_laws.proofs.Prelude.{◌≡◌, ℕ, zero, suc, ◌<◌, ℤ, pos, ◌+ℤ◌, ◌*ℤ◌, neg_ℤ, int_lt, false, List, [], ◌∷◌, map, length, get_or, sym, ap, subst, ◌∙◌, arith, length-map, Plane, direction, dot, moved, Model, Sound, dif-parts, difs, neg-dif, none_moved, same_dif, is_hole, negated, normal, with_drawings, AreSectionCycles, IsSectionCycle, Machine, held, IsSplit, area_below, cap, caps_of, cycles_of, sum_of, caps_have_normals, IsStrictlyConvex, stages}
use Rattle.split_laws.proofs.Flags.{flags_are}
use Rattle.command_laws.proofs.splits_laws.Whole as whole
use Rattle.convex_laws.proofs.Planes.{turned_over}
use Rattle.convex_laws.proofs.Turns.{IsHigh}
use Rattle.convex_laws.proofs.Caps.{cycle_high, none_of}
use Rattle.convex_laws.proofs.Drawn.{drawn_through}

module _ (before after_it : Machine) (s : ℕ) (p : Plane) (t : ℕ) (sound : Sound (held before)) (made : IsSplit before after_it s p t) (convex : IsStrictlyConvex (held before) s) where
  abbrev M : Model
  M = held before

  open stages M s p t use {drawn as D, above}
  open drawn_through M s p t sound made.0 use {begun, unstuck}

  abbrev over : Plane
  over = turned_over p

  cycle_at : (cs : List (List ℕ)) → AreSectionCycles D above s cs → (i : ℕ) → i < length cs → IsSectionCycle D above s (get_or cs i [])
  cycle_at [] each i l = absurd (omega (arith, l))
  cycle_at (bs ∷ cs) each zero l = each.0
  cycle_at (bs ∷ cs) each (suc i) l = cycle_at cs each.1 i (omega (arith, l))

  pub cycles : AreSectionCycles D above s (cycles_of M s p)
  cycles = (whole.can before after_it s p t sound made).opens.cycles.cycles

  as_many : length (caps_of M s p) ≡ length (cycles_of M s p)
  as_many = sym (length-map (caps_of M s p) (λ k. k.hole)) ∙ ap length (flags_are above s p (record { model = D; taken = (with_drawings M s p).taken; caps = [] }) (cycles_of M s p) (whole.can before after_it s p t sound made).opens) ∙ length-map (cycles_of M s p) (is_hole D p)

  -- the cap below looks along the plane's direction, and the one above against it
  pub cap_looks : (i : ℕ) → i < length (caps_of (held before) s p) → (cap (held before) s p i).hole ≡ false →
      IsHigh (dot (direction p) (normal (held after_it) (cap (held before) s p i).lower)) × IsHigh (dot (direction (turned_over p)) (normal (held after_it) (cap (held before) s p i).upper))
  cap_looks i l outer =
      let told = caps_have_normals before after_it s p t i sound made l outer in
      let bs = get_or (cycles_of M s p) i [] in
      let low : normal (held after_it) (cap M s p i).lower ≡ area_below D bs = told.1 ∙ ap (λ hs. moved (sum_of (map (area_below D) hs)) (area_below D bs)) (none_of M s p t sound begun unstuck convex (cycles_of M s p) cycles) ∙ none_moved (area_below D bs) in
      let high : IsHigh (dot (direction p) (area_below D bs)) = cycle_high M s p t sound begun unstuck convex bs (cycle_at (cycles_of M s p) cycles i (subst (λ k. i < k) as_many l)) in
      let a = area_below D bs in (
        ap (λ v. int_lt (pos 0) (dot (direction p) v)) low ∙ high,
        ap (λ v. int_lt (pos 0) (dot (direction over) v)) (told.2 ∙ ap negated low) ∙ ap (int_lt (pos 0)) (twice_over p.a p.b p.c a.x a.y a.z) ∙ high,
      ) where
        twice_over : (a b c x y z : ℤ) → neg_ℤ a *ℤ neg_ℤ x +ℤ neg_ℤ b *ℤ neg_ℤ y +ℤ neg_ℤ c *ℤ neg_ℤ z ≡ a *ℤ x +ℤ b *ℤ y +ℤ c *ℤ z
        twice_over a b c x y z = rw (dif-parts a, dif-parts b, dif-parts c, dif-parts x, dif-parts y, dif-parts z) (simp (difs, neg-dif) (same_dif _ _ _ _ (omega arith)))
