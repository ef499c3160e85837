use Rattle.sweeps.proofs.Prelude.{ℕ, ◌≡◌, ◌+◌, [], ◌∷◌, ap, ◌∙◌, arith, plus}
use Rattle.solid_walks.proofs.face_walks_laws.HalfCodes.{coded}
use Rattle.sweeps.proofs.blocks.base_items.Goals as goal

-- numbers counted on one by one
on_two : (e : ℕ) → e + 2 ≡ (e + 1) + 1
on_two e = omega arith

on_three : (e : ℕ) → e + 3 ≡ ((e + 1) + 1) + 1
on_three e = omega arith

on_four : (e : ℕ) → e + 4 ≡ (((e + 1) + 1) + 1) + 1
on_four e = omega arith

pub returns : goal.returns
returns c =
    let e = c.args.taken.now.edges in
    λ i. coded _ _ c.plus-first.ensures i ∷ (coded _ _ c.plus-second.ensures ∙ ap plus (on_two e)) i ∷ (coded _ _ c.plus-third.ensures ∙ ap plus (on_three e)) i ∷ (coded _ _ c.plus-fourth.ensures ∙ ap plus (on_four e)) i ∷ []
