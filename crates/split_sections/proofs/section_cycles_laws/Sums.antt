-- Sums of cross products over the mates of some below halves.
use Rattle.split_sections.proofs.Prelude.{◌≡◌, ℕ, List, [], ◌∷◌, ◌++◌, map, sym, ap, subst, ◌∙◌, arith, append_assoc, map-append, Point, IsVectorWithin, normal_limit, moved, cross, count, IsApart, mate, Model, Sound, HasHalf, count-append, IsApart-map, from_map, mate-mate, mate_there, start, finish, area, area_limit, area_push, area_limited, AreHalves, AreThere}

-- of all halves these are left, and the sum is now that over the mates of the others
pub record Summed (M : Model) (all left : List ℕ) (now : Point) : Type 0 where
  pub done : List ℕ
  pub parts : all ≡ done ++ left
  pub summed : now ≡ area M (map mate done)

pub more_summed : (M : Model) (all left : List ℕ) (now : Point) → Summed M all left now → (b : ℕ) (rest : List ℕ) (next : Point) → left ≡ b ∷ rest → next ≡ moved now (cross (start M (mate b)) (finish M (mate b))) → Summed M all rest next
more_summed M all left now s b rest next e adds = record {
  done = s.done ++ b ∷ [];
  parts = s.parts ∙ ap (λ ks. s.done ++ ks) e ∙ sym (append_assoc s.done (b ∷ []) rest);
  summed = adds ∙ ap (λ p. moved p (cross (start M (mate b)) (finish M (mate b)))) s.summed ∙ sym (area_push M (map mate s.done) (mate b)) ∙ ap (area M) (sym (map-append mate s.done (b ∷ [])));
}

module _ (M : Model) (sound : Sound M) (all : List ℕ) (there : AreThere M all) (apart : IsApart all) (left : List ℕ) (now : Point) (s : Summed M all left now) where
  mates : AreHalves M (map mate s.done)
  mates = record {
    apart = IsApart-map mate s.done (λ x i y j e. sym (mate-mate x) ∙ ap mate e ∙ mate-mate y) (λ x. omega (arith, apart x, ap (count x) s.parts, count-append x s.done left));
    there = λ x i. let r = from_map mate x s.done i in subst (HasHalf M) (sym r.2) (mate_there M r.0 (there r.0 (omega (arith, r.1, ap (count r.0) s.parts, count-append r.0 s.done left))));
  }

  pub sum_limited : IsVectorWithin area_limit now
  sum_limited = subst (IsVectorWithin area_limit) (sym s.summed) (area_limited M sound (map mate s.done) mates)

  pub sum_room : IsVectorWithin normal_limit now
  sum_room = let w = sum_limited in (omega (arith, w.0), omega (arith, w.1), omega (arith, w.2))
