-- The model that has nothing is sound.
use Rattle.euler_laws.proofs.Prelude.{◌≡◌, ℕ, [], unwrap_or, is_some, sym, ap, ◌∙◌, arith, true≢false, edge_of, get-empty, cycle, no_loop, empty_model, holds, content, Sound, Has, HasHalf, StandsIn, holds_in, never_lone}
use Rattle.euler_operators.specs.Table as table

has_nothing : (X : Type 0) (n : ℕ) → Has (table.empty {X = X}) n → ⊥
has_nothing X n t = true≢false (sym t ∙ ap is_some (get-empty {X = X} n))

no_half : (h : ℕ) → HasHalf empty_model h → ⊥
unfolding empty_model
no_half h t = has_nothing _ (edge_of h) t

no_content : (l : ℕ) → content empty_model l ≡ cycle []
unfolding empty_model content
no_content l = ap (λ o. (unwrap_or o no_loop).content) (get-empty l)

none_stands : (h l : ℕ) → StandsIn empty_model h l → ⊥
none_stands h l s = absurd (omega (arith, holds_in h (cycle []) (sym (ap (holds h) (no_content l)) ∙ s)))

-- the model that has nothing is sound
pub empty_sound : Sound empty_model
unfolding empty_model
empty_sound = grind (arith, has_nothing, no_half, none_stands, no_content, never_lone [], get-empty)
