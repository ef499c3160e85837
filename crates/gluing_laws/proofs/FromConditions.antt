-- What the conditions of a glue say, and the laws.
use Rattle.gluing_laws.proofs.Prelude.{◌≡◌, ◌≢◌, ℕ, ◌+ℤ◌, None, ap, sym, ◌∙◌, map, reverse, Model, solid_of, Sound, count, count-canonical, count-reverse, six_volume, rim, glue_refusal, partner, glue_model, facing}
use Rattle.shapes.proofs.glue.Facts as facts
use Rattle.gluing_laws.proofs.glue.Ending.{glued_all, glued_along_is}
use Rattle.gluing_laws.proofs.Seams.{Seamed, Glued}
use Rattle.gluing_laws.proofs.Measures.{solids_add, others_stay}

pub seamed : (M : Model) (f g : ℕ) → Sound M → glue_refusal M f g ≡ None → Seamed M f g (partner M (rim M g)) (rim M f) (rim M g)
seamed M f g sound e = let w = facing M f g sound e in record {
  sound = sound;
  f_there = w.f_there;
  g_there = w.g_there;
  solids_apart = w.solids_apart;
  alone_f = facts.no_rings M sound f w.f_there (facts.glue_goes M f g e).ringless_f (facts.cycle_f M f g sound e);
  alone_g = facts.no_rings M sound g w.g_there (facts.glue_goes M f g e).ringless_g (facts.cycle_g M f g sound e);
  first = facts.cycle_f M f g sound e;
  second = facts.cycle_g M f g sound e;
  partners = λ k. ap (count k) (facts.opposite M f g sound e) ∙ count-canonical k (reverse (map (partner M (rim M g)) (rim M f))) ∙ count-reverse k (map (partner M (rim M g)) (rim M f));
  starts = facts.partner_start M f g sound e;
  ends = facts.partner_end M f g sound e;
  flat = facts.flat M f g sound e;
}

module _ (M : Model) (f g : ℕ) where
  glue_is : glue_model M f g ≡ glued_all M f g (partner M (rim M g)) (rim M f)
  unfolding glue_model
  glue_is = sym (glued_along_is M f g (rim M g) (rim M f))

  pub glued : Glued M (glue_model M f g) f g (partner M (rim M g)) (rim M f)
  glued = record { faces = ap (λ X. X.faces) glue_is; loops = ap (λ X. X.loops) glue_is; edges = ap (λ X. X.edges) glue_is; vertices = ap (λ X. X.vertices) glue_is }

-- the glued solid has the six volumes of both
pub glue_adds : (M : Model) (f g : ℕ) → Sound M → glue_refusal M f g ≡ None → six_volume (glue_model M f g) (solid_of M f) ≡ six_volume M (solid_of M f) +ℤ six_volume M (solid_of M g)
glue_adds M f g sound e = solids_add (seamed M f g sound e) (glued M f g)

-- and the others keep theirs
pub glue_keeps_others : (M : Model) (f g u : ℕ) → Sound M → glue_refusal M f g ≡ None → u ≢ solid_of M f → u ≢ solid_of M g → six_volume (glue_model M f g) u ≡ six_volume M u
glue_keeps_others M f g u sound e not_s not_t = others_stay (seamed M f g sound e) (glued M f g) u not_s not_t
