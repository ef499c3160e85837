-- A walk round a loop whose last items are summed in 64 bits.
use Rattle.solid_measure.proofs.Prelude.{◌≡◌, ◌≢◌, ℕ, ◌+◌, ◌%◌, sym, ap, subst, ◌∙◌, arith, Point, IsInRange, IsVectorWithin, normal_limit, moved, cross, origin, IsIn, Model, items_of, content, after, Sound, vector_within, moved_none, moved_twice, steps, start, finish, area, area_limit, read}
use Rattle.solid_measure.specs.declared.Vector.{Vector}
use Rattle.solid_measure.specs.declared.short.Swept.{Swept}
use Rattle.solid_measure.specs.Short.{IsOfItems, all_of}
use Rattle.solid_measure.proofs.Areas.{cross_within, moved_within}
use Rattle.solid_measure.proofs.AreaRounds.{AreaRound, crossed_is, area_start, area_room, area_closed, area_more}

-- the walk has come to h; the sum stands in two parts, of which the last is that of the items since a multiple of four
pub record SweptRound (M : Model) (l first h n count : ℕ) (from : Point) (now : Swept) : Type 0 where
  pub area : AreaRound M l first h n from (all_of now)
  pub whole : IsVectorWithin normal_limit (read now.whole)
  pub last : IsOfItems (count % 4) now.last

module _ (M : Model) (sound : Sound M) (l first : ℕ) (item : IsIn first (items_of (content M l))) (from : Point) (limited : IsVectorWithin area_limit from) where
  pub swept_start : (v : Vector) → read v ≡ from → SweptRound M l first first steps 0 from (record { whole = v; last = origin })
  swept_start v e = record {
    area = subst (AreaRound M l first first steps from) (sym (moved_none (read v) ∙ e)) (area_start M sound l first item from);
    whole = subst (IsVectorWithin normal_limit) (sym e) (vector_within from area_limit normal_limit limited (omega arith));
    last = (omega arith, omega arith, omega arith);
  }

  module _ (h n count : ℕ) (now : Swept) (w : SweptRound M l first h n count from now) where
    pub swept_fits : IsOfItems 3 now.last
    swept_fits = vector_within now.last _ _ w.last (omega arith)

    pub swept_few : IsOfItems 4 now.last
    swept_few = vector_within now.last _ _ w.last (omega arith)

    -- with what the next item sweeps
    module _ (k code : ℕ) (more : n ≡ k + 1) (p q r : Point) (adds : r ≡ moved now.last (cross p q)) where
      abbrev next : Swept
      next = record { whole = now.whole; last = r }

      module _ (in_p : IsInRange p) (in_q : IsInRange q) where
        pub swept_items : IsOfItems (count % 4 + 1) r
        swept_items = subst (IsOfItems (count % 4 + 1)) (sym adds) (moved_within now.last (cross p q) _ _ _ w.last (cross_within p q in_p in_q) (omega arith))

        pub swept_next : IsOfItems 4 r
        swept_next = vector_within r _ _ swept_items (omega arith)

      module _ (goes : code ≡ after M h) (starts : p ≡ start M h) (ends : q ≡ start M code) where
        summed : all_of next ≡ moved (all_of now) (cross (start M h) (finish M h))
        summed = crossed_is M h code (all_of now) (all_of next) p q sound w.area.round.there goes starts ends (ap (moved (read now.whole)) adds ∙ sym (moved_twice (read now.whole) now.last (cross p q)))

        pub swept_closed : code ≡ first → all_of next ≡ moved from (area M (items_of (content M l)))
        swept_closed e = area_closed M sound l first item from h n (all_of now) w.area k more (all_of next) summed (sym goes ∙ e)

        swept_more : code ≢ first → AreaRound M l first code k from (all_of next)
        swept_more ne = subst (λ x. AreaRound M l first x k from (all_of next)) (sym goes) (area_more M sound l first item from h n (all_of now) w.area k more (all_of next) summed (λ e. ne (goes ∙ e)))

        pub swept_room : code ≢ first → IsVectorWithin normal_limit (all_of next)
        swept_room ne = area_room M sound l first item from code k (all_of next) (swept_more ne) limited

        pub swept_on : code ≢ first → (then : Swept) → all_of then ≡ all_of next → IsVectorWithin normal_limit (read then.whole) → IsOfItems ((count + 1) % 4) then.last → SweptRound M l first code k (count + 1) from then
        swept_on ne then same whole last = record { area = subst (AreaRound M l first code k from) (sym same) (swept_more ne); whole = whole; last = last }
