-- A walk round a loop whose half-edges have their mates in some faces.
use Rattle.euler_conditions.proofs.Prelude.{◌≡◌, ◌≢◌, ℕ, ◌+◌, true, List, [], ◌∷◌, ◌++◌, ap, ◌∙◌, arith, inl, inr, eqb_tells, IsIn, IsRotation, mate, Model, items_of, content, after, Sound, lists, face_at, count-append, tick_other, IsRotation-same, steps, Round, StaysIn}
use Rattle.euler_laws.proofs.shared.Rounds as rounds

-- the walk round loop l from its item first on has come to h, and all before stay in
pub record HalfRound (M : Model) (fs : List ℕ) (l first h n : ℕ) : Type 0 where
  pub round : Round M l first h n
  pub stay : (x : ℕ) → IsIn x round.met → lists fs (face_at M (mate x)) ≡ true

module _ (M : Model) (sound : Sound M) (fs : List ℕ) (l first : ℕ) (item : IsIn first (items_of (content M l))) where
  pub round_start : HalfRound M fs l first first steps
  round_start = record { round = rounds.round_start M sound l first item; stay = λ x i. absurd (omega arith) }

  stay_more : (h : ℕ) (met : List ℕ) → ((x : ℕ) → IsIn x met → lists fs (face_at M (mate x)) ≡ true) → lists fs (face_at M (mate h)) ≡ true → (x : ℕ) → IsIn x (met ++ h ∷ []) → lists fs (face_at M (mate x)) ≡ true
  stay_more h met old new x i = elim (eqb_tells x h) [
    | inl e ↦ ap (λ y. lists fs (face_at M (mate y))) e.1 ∙ new
    | inr e ↦ old x (omega (arith, i, count-append x met (h ∷ []), tick_other x h e.1))
  ]

  -- once all are met the loop stays in
  all_met : (ys : List ℕ) → IsRotation (items_of (content M l)) ys → ((x : ℕ) → IsIn x ys → lists fs (face_at M (mate x)) ≡ true) → StaysIn M fs l
  all_met ys turned stay x i = stay x (omega (arith, i, IsRotation-same (items_of (content M l)) ys turned x))

  module _ (h n k : ℕ) (w : HalfRound M fs l first h n) (more : n ≡ k + 1) (stays : lists fs (face_at M (mate h)) ≡ true) where
    pub round_closed : after M h ≡ first → StaysIn M fs l
    round_closed e = all_met (w.round.met ++ h ∷ []) (rounds.round_closed M sound l first item h n k w.round more e) (stay_more h w.round.met w.stay stays)

    pub round_more : after M h ≢ first → HalfRound M fs l first (after M h) k
    round_more ne = record { round = rounds.round_more M sound l first item h n k w.round more ne; stay = stay_more h w.round.met w.stay stays }

  pub round_ended : (h n : ℕ) → HalfRound M fs l first h n → n ≡ 0 → StaysIn M fs l
  round_ended h n w z = all_met w.round.met (rounds.round_ended M sound l first item h n w.round z) w.stay
