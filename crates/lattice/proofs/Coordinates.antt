-- The point where a segment meets a plane, put together from its coordinates.
use Rattle.lattice.proofs.Prelude.{◌≡◌, Bool, true, false, cond, ℤ, pos, Some, None, refl, sym, ◌∙◌, arith, ◌-ℤ◌, ◌*ℤ◌, ◌&&◌, Option, int_div, int_rem, int_eq, Point, Plane, is_coordinate, IsInRange, IsWithin, height, opposite, whole_quotient, cut_multiple, cut_point}
use Rattle.std.specs.Cmp.Derive.{both_true}
use Rattle.lattice.proofs.Magnitudes.{fits, held, held_short, held_is, held_within, coordinate_is, coordinate_held}

-- two heights that the code told, and a coordinate of each end
module _ {m n h k : ℤ} (start : record { is : m ≡ h; within : IsWithin 6000000000000000000 m }) (end : record { is : n ≡ k; within : IsWithin 6000000000000000000 n })
    (a b : ℤ) (ka : is_coordinate a ≡ true) (kb : is_coordinate b ≡ true) where
  pub can_cut : opposite h k ≡ true → record {
    from : is_coordinate (held_short a) ≡ true;
    to : is_coordinate (held_short b) ≡ true;
    start : IsWithin 6000000000000000000 (held m);
    end : IsWithin 6000000000000000000 (held n);
    opposite : opposite (held m) (held n) ≡ true;
  }
  can_cut o = record {
    from = coordinate_held a ka;
    to = coordinate_held b kb;
    start = held_within _ m start.within (omega arith);
    end = held_within _ n end.within (omega arith);
    opposite = (λ i. opposite ((held_is m (fits _ _ start.within (omega arith)) ∙ start.is) i) ((held_is n (fits _ _ end.within (omega arith)) ∙ end.is) i)) ∙ o;
  }

  -- a coordinate that the code asked for
  pub coordinate_told : (r : Option ℤ) → r ≡ whole_quotient (held_short b *ℤ held m -ℤ held_short a *ℤ held n) (held m -ℤ held n) → r ≡ whole_quotient (b *ℤ h -ℤ a *ℤ k) (h -ℤ k)
  coordinate_told r e = let wm = start.within in let wn = end.within in let em = start.is in let en = end.is in grind (arith, held m, held_is m, fits, held n, held_is n, coordinate_is b kb, coordinate_is a ka)

pub range_told : (x y z : ℤ) → is_coordinate x ≡ true → is_coordinate y ≡ true → is_coordinate z ≡ true → IsInRange (record { x = held_short x; y = held_short y; z = held_short z })
range_told x y z kx ky kz = both_true (coordinate_held x kx) (both_true (coordinate_held y ky) (coordinate_held z kz))

abbrev part : Bool → ℤ → Option ℤ
part e a = cond e (Some a) None

abbrev whole : Bool → Bool → Bool → ℤ → ℤ → ℤ → Option Point
whole d e f a b c = cond (d && e && f) (Some (record { x = a; y = b; z = c })) None

none_first : (d e f : Bool) (a b c : ℤ) → part d a ≡ None → None ≡ whole d e f a b c
none_first true e f a b c n = cc
none_first false e f a b c n = refl

none_second : (d e f : Bool) (a b c : ℤ) → part e b ≡ None → None ≡ whole d e f a b c
none_second true true f a b c n = cc
none_second true false f a b c n = refl
none_second false e f a b c n = refl

none_third : (d e f : Bool) (a b c : ℤ) → part f c ≡ None → None ≡ whole d e f a b c
none_third true true true a b c n = cc
none_third true true false a b c n = refl
none_third true false f a b c n = refl
none_third false e f a b c n = refl

some_all : (d e f : Bool) (a b c x y z : ℤ) → part d a ≡ Some x → part e b ≡ Some y → part f c ≡ Some z → Some (record { x = x; y = y; z = z }) ≡ whole d e f a b c
some_all true true true a b c x y z p q r = let h : a ≡ x = cc in let k : b ≡ y = cc in let l : c ≡ z = cc in λ i. Some (record { x = sym h i; y = sym k i; z = sym l i })
some_all true true false a b c x y z p q r = cc
some_all true false f a b c x y z p q r = cc
some_all false e f a b c x y z p q r = cc

module _ (s : Plane) (p q : Point) where
  abbrev quotient : ℤ → ℤ → Option ℤ
  quotient from to = whole_quotient (cut_multiple s p q from to) (height s p -ℤ height s q)

  abbrev is_whole : ℤ → ℤ → Bool
  is_whole from to = int_eq (int_rem (cut_multiple s p q from to) (height s p -ℤ height s q)) (pos 0)

  abbrev number : ℤ → ℤ → ℤ
  number from to = int_div (cut_multiple s p q from to) (height s p -ℤ height s q)

  pub off_x : (r : Option ℤ) → r ≡ quotient p.x q.x → r ≡ None → None ≡ cut_point s p q
  off_x r e n = none_first (is_whole p.x q.x) (is_whole p.y q.y) (is_whole p.z q.z) (number p.x q.x) (number p.y q.y) (number p.z q.z) (sym e ∙ n)

  pub off_y : (r : Option ℤ) → r ≡ quotient p.y q.y → r ≡ None → None ≡ cut_point s p q
  off_y r e n = none_second (is_whole p.x q.x) (is_whole p.y q.y) (is_whole p.z q.z) (number p.x q.x) (number p.y q.y) (number p.z q.z) (sym e ∙ n)

  pub off_z : (r : Option ℤ) → r ≡ quotient p.z q.z → r ≡ None → None ≡ cut_point s p q
  off_z r e n = none_third (is_whole p.x q.x) (is_whole p.y q.y) (is_whole p.z q.z) (number p.x q.x) (number p.y q.y) (number p.z q.z) (sym e ∙ n)

  pub on_all : (t u v : Option ℤ) (x y z : ℤ) → t ≡ quotient p.x q.x → u ≡ quotient p.y q.y → v ≡ quotient p.z q.z → t ≡ Some x → u ≡ Some y → v ≡ Some z →
      is_coordinate x ≡ true → is_coordinate y ≡ true → is_coordinate z ≡ true → Some (record { x = held_short x; y = held_short y; z = held_short z }) ≡ cut_point s p q
  on_all t u v x y z a b c d e f kx ky kz = grind (arith, coordinate_is, some_all, p.x, q.x, p.y, q.y, p.z, q.z)
