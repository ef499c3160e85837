-- The sum of cross products that a walk round a loop makes.
use Rattle.solid_measure.proofs.Prelude.{◌≡◌, ◌≢◌, ℕ, ◌+◌, [], ◌∷◌, ◌++◌, sym, ap, subst, ◌∙◌, arith, Point, IsVectorWithin, normal_limit, moved, cross, IsIn, Content, Model, LoopContent, lone, cycle, items_of, content, point_of, after, Sound, HasHalf, Tells, steps, Round, round_start, round_more, round_closed, round_ended, half_in, met_once, items_apart, start, finish, area, area_limit, AreHalves, moved_none, moved_twice}
use Rattle.solid_measure.proofs.Areas.{area_turned, area_push, area_limited, moved_within}

-- a lone loop adds nothing
pub lone_adds : (M : Model) (c : LoopContent) (v : ℕ) (n : Point) → Tells c (Content.Lone v) → n ≡ moved n (area M (items_of c))
lone_adds M (lone w) v n t = sym (moved_none n)
lone_adds M (cycle hs) v n t = absurd t

-- a half-edge ends where the one after it starts
pub crossed_is : (M : Model) (h k : ℕ) (now next p q : Point) → Sound M → HasHalf M h → k ≡ after M h → p ≡ start M h → q ≡ start M k → next ≡ moved now (cross p q) → next ≡ moved now (cross (start M h) (finish M h))
crossed_is M h k now next p q sound there goes starts ends adds = adds ∙ (λ i. moved now (cross (starts i) ((ends ∙ ap (start M) goes ∙ ap (point_of M) (sound.ends_meet h there)) i)))

-- the walk has come to h, and the sum is now that of what was met
pub record AreaRound (M : Model) (l first h n : ℕ) (from now : Point) : Type 0 where
  pub round : Round M l first h n
  pub summed : now ≡ moved from (area M round.met)

module _ (M : Model) (sound : Sound M) (l first : ℕ) (item : IsIn first (items_of (content M l))) (from : Point) where
  pub area_start : AreaRound M l first first steps from from
  area_start = record { round = round_start M sound l first item; summed = sym (moved_none from) }

  module _ (h n : ℕ) (now : Point) (w : AreaRound M l first h n from now) where
    met_halves : AreHalves M w.round.met
    met_halves = record {
      apart = λ x. omega (arith, met_once M sound l first item h n w.round x, items_apart M sound l first item x);
      there = λ x i. half_in M sound l first item x (omega (arith, met_once M sound l first item h n w.round x));
    }

    pub area_room : IsVectorWithin area_limit from → IsVectorWithin normal_limit now
    area_room b =
        let m = area_limited M sound w.round.met met_halves in
        let s = moved_within from (area M w.round.met) _ _ 10000000000000000000000000 b m (omega arith) in
        subst (IsVectorWithin normal_limit) (sym w.summed) s

    pub area_ended : n ≡ 0 → now ≡ moved from (area M (items_of (content M l)))
    area_ended z = w.summed ∙ ap (moved from) (sym (area_turned M (items_of (content M l)) w.round.met (round_ended M sound l first item h n w.round z)))

    module _ (k : ℕ) (more : n ≡ k + 1) (next : Point) (adds : next ≡ moved now (cross (start M h) (finish M h))) where
      summed_more : next ≡ moved from (area M (w.round.met ++ h ∷ []))
      summed_more = adds ∙ ap (λ p. moved p (cross (start M h) (finish M h))) w.summed ∙ moved_twice from (area M w.round.met) (cross (start M h) (finish M h)) ∙ ap (moved from) (sym (area_push M w.round.met h))

      pub area_closed : after M h ≡ first → next ≡ moved from (area M (items_of (content M l)))
      area_closed e = summed_more ∙ ap (moved from) (sym (area_turned M (items_of (content M l)) (w.round.met ++ h ∷ []) (round_closed M sound l first item h n k w.round more e)))

      pub area_more : after M h ≢ first → AreaRound M l first (after M h) k from next
      area_more ne = record { round = round_more M sound l first item h n k w.round more ne; summed = summed_more }
