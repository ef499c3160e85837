-- The laws of splits for the models that a session holds before one and after it.
use Rattle.plane_split.proofs.Prelude.{◌≡◌, ◌≢◌, ℕ, ◌+ℤ◌, false, sym, ap, subst, ◌∙◌, Plane, Sound, Has, Machine, held, vertices_of, six_volume, some_above, some_below, split_model, split_sound}
use Rattle.split_laws.proofs.measures.Parts.{parts_there, volumes_shared, others_kept, vertices_sided}
use Rattle.plane_split.specs.SplitModels.{IsSplit}

module _ (before after : Machine) (s : ℕ) (p : Plane) (t : ℕ) (sound : Sound (held before)) (done : IsSplit before after s p t) where
  pub held_is : held after ≡ split_model (held before) s p t
  held_is = ap held done.1

  pub held_sound : Sound (held after)
  held_sound = subst Sound (sym held_is) (split_sound (held before) s p t sound done.0)

  pub parts_held : Has (held after).solids s × Has (held after).solids t
  parts_held = subst (λ M. Has M.solids s × Has M.solids t) (sym held_is) (parts_there (held before) s p t sound done.0)

  pub held_share : six_volume (held before) s ≡ six_volume (held after) s +ℤ six_volume (held after) t
  held_share = volumes_shared (held before) s p t sound done.0 ∙ ap (λ M. six_volume M s +ℤ six_volume M t) (sym held_is)

  pub held_sided : (some_above (held after) p (vertices_of (held after) s) ≡ false) × (some_below (held after) p (vertices_of (held after) t) ≡ false)
  held_sided = subst (λ M. (some_above M p (vertices_of M s) ≡ false) × (some_below M p (vertices_of M t) ≡ false)) (sym held_is) (vertices_sided (held before) s p t sound done.0)

pub others_held : (before after : Machine) (s : ℕ) (p : Plane) (t u : ℕ) → Sound (held before) → IsSplit before after s p t → u ≢ s → u ≢ t → six_volume (held after) u ≡ six_volume (held before) u
others_held before after s p t u sound done not_s not_t = ap (λ M. six_volume M u) (held_is before after s p t sound done) ∙ others_kept (held before) s p t u sound done.0 not_s not_t
