-- The sum of cross products over the loops of a face.
use Rattle.solid_measure.proofs.Prelude.{◌≡◌, ℕ, [], ◌∷◌, ◌++◌, Some, None, sym, ap, ◌∙◌, append-nil, Model, items_of, content, outer, Sound, Point, IsVectorWithin, origin, moved, IsNextRing, items_in, boundary, loops_to, items_joined, different_items, loops_apart, loops_none, area, area_limit, normal, none_moved}
use Rattle.solid_walks.proofs.NextRing.{loops_more, loops_all}
use Rattle.solid_measure.proofs.Areas.{area-append, area_limited}

-- the sum over the loops of a face that don't pass n
unfoldable pub area_to : Model → ℕ → ℕ → Point
area_to M f n = area M (items_in M (loops_to M f n))

module _ (M : Model) (sound : Sound M) where
  module _ (f : ℕ) where
    pub area_to_limited : (n : ℕ) → IsVectorWithin area_limit (area_to M f n)
    unfolding area_to
    area_to_limited n = area_limited M sound (items_in M (loops_to M f n)) (different_items M sound (loops_to M f n) (loops_apart M sound f n))

    pub area_to_start : moved origin (area M (items_of (content M (outer M f)))) ≡ area_to M f 0
    unfolding area_to
    area_to_start = none_moved (area M (items_of (content M (outer M f)))) ∙ sym (ap (λ ls. area M (items_in M ls)) (loops_none M sound f) ∙ ap (area M) (append-nil (items_of (content M (outer M f)))))

    pub area_to_next : (last ring : ℕ) → IsNextRing M f last (Some ring) → moved (area_to M f last) (area M (items_of (content M ring))) ≡ area_to M f ring
    unfolding area_to
    area_to_next last ring next =
        sym (ap (λ ls. area M (items_in M ls)) (loops_more M sound f last ring next) ∙ ap (area M) (items_joined M (loops_to M f last) (ring ∷ []))
        ∙ area-append M (items_in M (loops_to M f last)) (items_of (content M ring) ++ []) ∙ ap (λ xs. moved (area M (items_in M (loops_to M f last))) (area M xs)) (append-nil (items_of (content M ring))))

    pub area_to_end : (last : ℕ) → IsNextRing M f last None → area_to M f last ≡ normal M f
    unfolding area_to normal boundary
    area_to_end last none = ap (λ ls. area M (items_in M ls)) (loops_all M sound f last none)
