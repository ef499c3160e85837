-- All items glued, one after the other.
use Rattle.gluing_laws.proofs.Prelude.{◌≡◌, ℕ, List, [], ◌∷◌, ◌++◌, refl, sym, ap, ◌∙◌, subst, None, append_assoc, IsIn, last_or, head_or, Model, outer, Sound, last_or_push, IsIn_last, effects, AreAccepted, effects_keep_sound, Leads, leads_on, leads_sound, opening, closing, closings, fresh_edge, glue_ops, glued_part, rim, partner, glue_refusal, glue_model, Facing, facing, shape}
use Rattle.euler_operators.specs.declared.Op.{Op}
use Rattle.gluing_laws.proofs.glue.Stages.{Stage}
use Rattle.gluing_laws.proofs.glue.Turn.{turn_accepted, turn_is}
use Rattle.gluing_laws.proofs.glue.Ending.{glued_all, ending_ok, ending_is, glued_along_is}
use Rattle.gluing_laws.proofs.glue.Opening.{opened}

module _ (M : Model) (f g : ℕ) (partner_of : ℕ → ℕ) (hs : List ℕ) (x : ℕ) where
  -- the rest of the items, and then the solids are glued
  pub closings_go : (done : List ℕ) (h : ℕ) (more : List ℕ) → Stage M f g partner_of hs x (last_or h more) done (h ∷ more) →
      Leads (glued_part M f g partner_of (last_or h more) done (h ∷ more)) (glued_all M f g partner_of hs) (closings partner_of x g (outer M g) (h ∷ more))
  closings_go done h [] w = record { accepted = (ending_ok M f g partner_of hs x done h w, tt); made = ending_is M f g partner_of hs x done h w ∙ ap (glued_all M f g partner_of) (sym w.split) }
  closings_go done h (k ∷ ks) w =
      let last : ℕ = last_or k ks in
      let later : IsIn last (k ∷ ks) = IsIn_last k ks in
      let ops : List Op = closing (partner_of h) k x g (outer M g) in
      let then : List Op = closings partner_of x g (outer M g) (k ∷ ks) in
      let N : Model = glued_part M f g partner_of last done (h ∷ k ∷ ks) in
      let accepted : AreAccepted N ops = turn_accepted M f g partner_of hs x last done h k ks w later in
      let is : effects N ops ≡ glued_part M f g partner_of last (done ++ h ∷ []) (k ∷ ks) = turn_is M f g partner_of hs x last done h k ks w later in
      let next : Stage M f g partner_of hs x last (done ++ h ∷ []) (k ∷ ks) = record {
        facing = w.facing;
        split = w.split ∙ sym (append_assoc done (h ∷ []) (k ∷ ks));
        last_in = later;
        sound = subst Sound is (effects_keep_sound N ops w.sound accepted);
      } in
      leads_on N (glued_part M f g partner_of last (done ++ h ∷ []) (k ∷ ks)) (glued_all M f g partner_of hs) ops then (record { accepted = accepted; made = is }) (closings_go (done ++ h ∷ []) k ks next)

-- all operators of a glue
module _ (M : Model) (f g : ℕ) (partner_of : ℕ → ℕ) (h : ℕ) (mid : List ℕ) (last x : ℕ) (w : Facing M f g partner_of (h ∷ (mid ++ last ∷ [])) x) where
  abbrev hs : List ℕ
  hs = h ∷ (mid ++ last ∷ [])

  abbrev start_ops : List Op
  start_ops = opening M f g h (partner_of last) x

  abbrev other_ops : List Op
  other_ops = closings partner_of x g (outer M g) hs

  begins : Stage M f g partner_of hs x last [] hs
  begins = record {
    facing = w;
    split = refl;
    last_in = subst (λ n. IsIn n hs) (last_or_push h last mid) (IsIn_last h (mid ++ last ∷ []));
    sound = leads_sound M (glued_part M f g partner_of last [] hs) start_ops w.sound (opened M f g partner_of h mid last x w);
  }

  goes : Leads (glued_part M f g partner_of last [] hs) (glued_all M f g partner_of hs) other_ops
  goes = subst (λ n. Stage M f g partner_of hs x n [] hs → Leads (glued_part M f g partner_of n [] hs) (glued_all M f g partner_of hs) other_ops)
      (last_or_push h last mid) (closings_go M f g partner_of hs x [] h (mid ++ last ∷ [])) begins

  pub all_lead : Leads M (glued_all M f g partner_of hs) (start_ops ++ other_ops)
  all_lead = leads_on M (glued_part M f g partner_of last [] hs) (glued_all M f g partner_of hs) start_ops other_ops (opened M f g partner_of h mid last x w) goes

-- ---- a glue from its first operator to the glued solids

-- the operators along the items hs
abbrev ops_along : Model → ℕ → ℕ → (ℕ → ℕ) → List ℕ → List Op
ops_along M f g partner_of hs = opening M f g (head_or 0 hs) (partner_of (last_or 0 hs)) (fresh_edge M) ++ closings partner_of (fresh_edge M) g (outer M g) hs

module _ (M : Model) (f g : ℕ) (sound : Sound M) (accepted : glue_refusal M f g ≡ None) where
  abbrev partner_of : ℕ → ℕ
  partner_of = partner M (rim M g)

  along : (h : ℕ) (mid : List ℕ) (last : ℕ) → Facing M f g partner_of (h ∷ (mid ++ last ∷ [])) (fresh_edge M) →
      Leads M (glued_all M f g partner_of (h ∷ (mid ++ last ∷ []))) (ops_along M f g partner_of (h ∷ (mid ++ last ∷ [])))
  along h mid last w =
      subst (λ n. Leads M (glued_all M f g partner_of (h ∷ (mid ++ last ∷ []))) (opening M f g h (partner_of n) (fresh_edge M) ++ closings partner_of (fresh_edge M) g (outer M g) (h ∷ (mid ++ last ∷ []))))
      (sym (last_or_push h last mid)) (all_lead M f g partner_of h mid last (fresh_edge M) w)

  led : Leads M (glued_all M f g partner_of (rim M f)) (ops_along M f g partner_of (rim M f))
  led =
      let p = shape M f g sound accepted in
      subst (λ hs. Leads M (glued_all M f g partner_of hs) (ops_along M f g partner_of hs)) (sym p.3)
      (along p.0 p.1 p.2 (subst (λ hs. Facing M f g partner_of hs (fresh_edge M)) p.3 (facing M f g sound accepted)))

  -- no operator of a glue is refused
  pub glue_accepted : AreAccepted M (glue_ops M f g)
  unfolding glue_ops
  glue_accepted = led.accepted

  -- and they leave the solids glued
  pub glue_is_glued : effects M (glue_ops M f g) ≡ glue_model M f g
  unfolding glue_ops glue_model
  glue_is_glued = led.made ∙ glued_along_is M f g (rim M g) (rim M f)

  pub glued_sound : Sound (glue_model M f g)
  glued_sound = subst Sound glue_is_glued (effects_keep_sound M (glue_ops M f g) sound glue_accepted)
