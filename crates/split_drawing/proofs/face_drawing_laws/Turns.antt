-- One pair more in each of the two passes, the next of a list as the code opens it.
use Rattle.split_drawing.proofs.Prelude.{◌≡◌, ℕ, ◌+◌, ◌≤◌, Bool, true, false, cond, List, [], ◌∷◌, ◌++◌, length, map, slice_index_or, None, sym, ap, ◌∙◌, subst, fold, Model, first_false, effect, Drawing, in_one_loop, join_next, draw_next, join_pair, draw_pair, others, parts, Pair, Counters, Progress, codes, stuck_at, taken_of, drawing_of, CanJoin, CanDraw, join_ops, draw_ops, Joining, Going, draw_accepted as can_accepted, join_next_one, join_next_two, join_one, draw_next_one, draw_next_two, draw_one, can_now, edge_free, edge_fits_now}
use Rattle.split_drawing_laws.proofs.drawings.Pairs.{pair_leads}

-- the first of some pairs
abbrev pub first_pair : List Pair → Pair
first_pair qs = slice_index_or qs 0 (record { up = record { edge = 0; first = false }; down = record { edge = 0; first = false } })

-- what an arena of the model tells of a pair
pub told : (X M : Model) (q : ℕ × ℕ) (r b : Bool) → r ≡ in_one_loop X q → X ≡ M → r ≡ b → in_one_loop M q ≡ b
told X M q r b e m i = sym (e ∙ ap (λ Y. in_one_loop Y q) m) ∙ i

opened_codes : (qs : List Pair) → 1 ≤ length qs → map codes qs ≡ codes (first_pair qs) ∷ map codes (others qs)
opened_codes qs l = ap (map codes) (parts qs _ l)

module _ (f : ℕ) (c : Progress) (N : Model) (L : List (ℕ × ℕ)) (rest : List Pair) (l : 1 ≤ length rest) where
  abbrev q : ℕ × ℕ
  q = codes (first_pair rest)

  abbrev qs : List (ℕ × ℕ)
  qs = map codes (others rest)

  abbrev d : Drawing
  d = drawing_of c N L

  -- ---- the first pass

  module _ (w : CanJoin f (drawing_of c N L) (map codes rest)) where
    can_join : CanJoin f d (q ∷ qs)
    can_join = subst (CanJoin f d) (opened_codes rest l) w

    -- whatever becomes of the pair, the others can be joined then, and take the operators that are left
    join_on : (X : Drawing) (b : Bool) → in_one_loop N q ≡ b → join_next d q ≡ X → CanJoin f X qs × (fold join_next X qs ≡ fold join_next d (map codes rest))
        × (cond b [] (join_pair N q (c.taken.edges + 1) ∷ []) ++ join_ops X qs ≡ join_ops d (map codes rest))
    join_on X b e is = (
      record { before = can_join.before; fit = can_join.fit.1; joining = subst (λ x. Joining can_join.before f x qs 0) is (join_one can_join.before f d q qs 0 can_join.fit.0 can_join.joining).1 },
      ap (λ x. fold join_next x qs) (sym is) ∙ ap (fold join_next d) (sym (opened_codes rest l)),
      (λ i. cond (sym e i) [] (join_pair N q (c.taken.edges + 1) ∷ []) ++ join_ops (sym is i) qs) ∙ ap (join_ops d) (sym (opened_codes rest l)),
    )

    pub join_accepted : in_one_loop N (codes (first_pair rest)) ≡ false → first_false N (join_pair N (codes (first_pair rest)) (c.taken.edges + 1)) ≡ None
    join_accepted e = let B = can_join.before in
        (pair_leads B N f q (c.taken.edges + 1) can_join.joining.joined can_join.fit.0 e (edge_free B f d q qs 0 can_join.fit.0 can_join.joining) (edge_fits_now B f d q qs 0 can_join.fit.0 can_join.joining)).accepted.0

    pub joined : in_one_loop N (codes (first_pair rest)) ≡ false → (K : Model) → K ≡ effect N (join_pair N (codes (first_pair rest)) (c.taken.edges + 1)) → (t : Counters) → t ≡ record c.taken { edges = c.taken.edges + 1 }
        → CanJoin f (drawing_of (record c { taken = t }) K L) (map codes (others rest)) × (fold join_next (drawing_of (record c { taken = t }) K L) (map codes (others rest)) ≡ fold join_next (drawing_of c N L) (map codes rest))
        × (join_pair N (codes (first_pair rest)) (c.taken.edges + 1) ∷ join_ops (drawing_of (record c { taken = t }) K L) (map codes (others rest)) ≡ join_ops (drawing_of c N L) (map codes rest))
    joined e K is t counted = join_on (drawing_of (record c { taken = t }) K L) false e (join_next_two d q e ∙ (λ i. drawing_of (record c { taken = sym counted i }) (sym is i) L))

    pub left_over : in_one_loop N (codes (first_pair rest)) ≡ true → (P : List (ℕ × ℕ)) → P ≡ L ++ codes (first_pair rest) ∷ []
        → CanJoin f (drawing_of c N P) (map codes (others rest)) × (fold join_next (drawing_of c N P) (map codes (others rest)) ≡ fold join_next (drawing_of c N L) (map codes rest))
        × (join_ops (drawing_of c N P) (map codes (others rest)) ≡ join_ops (drawing_of c N L) (map codes rest))
    left_over e P is = join_on (drawing_of c N P) true e (join_next_one d q e ∙ (λ i. drawing_of c N (sym is i)))

  -- ---- the second pass

  module _ (w : CanDraw f (drawing_of c N L) (map codes rest)) where
    can_draw : CanDraw f d (q ∷ qs)
    can_draw = subst (CanDraw f d) (opened_codes rest l) w

    -- and then the others can be drawn, and take the operators that are left
    draw_on : (X : Drawing) (b : Bool) → in_one_loop N q ≡ b → draw_next f d q ≡ X → CanDraw f X qs × (fold (draw_next f) X qs ≡ fold (draw_next f) d (map codes rest))
        × (cond b (draw_pair (taken_of c.taken) q ∷ []) [] ++ draw_ops f X qs ≡ draw_ops f d (map codes rest))
    draw_on X b e is = (
      record {
        before = can_draw.before;
        sound = can_draw.sound;
        fit = can_draw.fit.1;
        going = subst (λ x. Going can_draw.before f x qs 0) is (draw_one can_draw.before f can_draw.sound d q qs 0 can_draw.fit.0 can_draw.going).1;
      },
      ap (λ x. fold (draw_next f) x qs) (sym is) ∙ ap (fold (draw_next f) d) (sym (opened_codes rest l)),
      (λ i. cond (sym e i) (draw_pair (taken_of c.taken) q ∷ []) [] ++ draw_ops f (sym is i) qs) ∙ ap (draw_ops f d) (sym (opened_codes rest l)),
    )

    pub draw_accepted : in_one_loop N (codes (first_pair rest)) ≡ true → first_false N (draw_pair (taken_of c.taken) (codes (first_pair rest))) ≡ None
    draw_accepted e = can_accepted N q.0 q.1 (c.taken.edges + 1) (c.taken.faces + 1) (c.taken.loops + 1) (can_now can_draw.before f can_draw.sound d q qs 0 can_draw.fit.0 can_draw.going e)

    pub drew : in_one_loop N (codes (first_pair rest)) ≡ true → (K : Model) → K ≡ effect N (draw_pair (taken_of c.taken) (codes (first_pair rest)))
        → (t : Counters) → t ≡ record c.taken { faces = c.taken.faces + 1; loops = c.taken.loops + 1; edges = c.taken.edges + 1 }
        → CanDraw f (drawing_of (record c { taken = t }) K L) (map codes (others rest)) × (fold (draw_next f) (drawing_of (record c { taken = t }) K L) (map codes (others rest)) ≡ fold (draw_next f) (drawing_of c N L) (map codes rest))
        × (draw_pair (taken_of c.taken) (codes (first_pair rest)) ∷ draw_ops f (drawing_of (record c { taken = t }) K L) (map codes (others rest)) ≡ draw_ops f (drawing_of c N L) (map codes rest))
    drew e K is t counted = draw_on (drawing_of (record c { taken = t }) K L) true e (draw_next_one f d q e ∙ (λ i. drawing_of (record c { taken = sym counted i }) (sym is i) L))

    pub got_stuck : in_one_loop N (codes (first_pair rest)) ≡ false → (t : Progress) → t ≡ stuck_at c f
        → CanDraw f (drawing_of t N L) (map codes (others rest)) × (fold (draw_next f) (drawing_of t N L) (map codes (others rest)) ≡ fold (draw_next f) (drawing_of c N L) (map codes rest))
        × (draw_ops f (drawing_of t N L) (map codes (others rest)) ≡ draw_ops f (drawing_of c N L) (map codes rest))
    got_stuck e t is = draw_on (drawing_of t N L) false e (draw_next_two f d q e ∙ (λ i. drawing_of (sym is i) N L))
