-- A solid opened along its section and parted, once its faces are drawn.
use Rattle.plane_split.proofs.Prelude.{◌≡◌, ℕ, List, [], ◌∷◌, ◌++◌, None, sym, ap, ◌∙◌, subst, Plane, Model, Sound, Part, Leads, some_taken, faces_above, below_halves, section_cycles, Drawing, with_drawings, Opening, all_opened, opened_at, upper_left, split_refusal, split_model, CanBeOpenedInTurn, drawing_of, IsSection, cycles_of, put_aside, opened_section, unopened, openings_ops, hole_ops, upper_ops, ops_above, split_above, split_ops, split_accepted, split_made}
use Rattle.shapes.specs.Common.{Caps}
use Rattle.split_drawing_laws.specs.pairs.Laws.{rewriting_ops}
use Rattle.split_drawing_laws.proofs.pairs.Whole.{rewritings_made}
use Rattle.split_laws.proofs.drawn.Drawn.{begins, can_open_all}
use Rattle.split_drawing.specs.declared.Progress.{Progress}
use Rattle.split_sections.specs.declared.section_checks.section.Section.{Section}
use Rattle.split_laws.proofs.Openings.{openings_go}
use Rattle.plane_split.specs.Drawn.{IsDrawn}

module _ (M : Model) (s : ℕ) (p : Plane) (t : ℕ) (sound : Sound M) (accepted : split_refusal M s p t ≡ None) where
  abbrev D : Drawing
  D = with_drawings M s p

  abbrev above : List ℕ
  above = faces_above (with_drawings M s p).model p s

  whole : Leads M (split_above (with_drawings M s p) s p t) (rewriting_ops M s p ++ ops_above (with_drawings M s p) s p t)
  unfolding split_ops split_model
  whole = record { accepted = split_accepted M s p t sound accepted; made = split_made M s p t sound accepted }

  later : Leads (with_drawings M s p).model (split_above (with_drawings M s p) s p t) (ops_above (with_drawings M s p) s p t)
  later = some_taken M (rewriting_ops M s p) (ops_above D s p t) (split_above D s p t) D.model whole.accepted whole.made (sym (rewritings_made M s p t sound (begins M s p t sound accepted)))

  upper : Leads (opened_at (with_drawings M s p) (faces_above (with_drawings M s p).model p s) s p).model (split_above (with_drawings M s p) s p t)
      (upper_ops (opened_at (with_drawings M s p) (faces_above (with_drawings M s p).model p s) s p) (faces_above (with_drawings M s p).model p s) s t)
  upper = some_taken D.model (openings_ops above s p (record { model = D.model; taken = D.taken; caps = [] }) (section_cycles D.model (below_halves D.model above s)))
      (upper_ops (opened_at D above s p) above s t) (split_above D s p t) (opened_at D above s p).model later.accepted later.made
      (sym (openings_go above s p (record { model = D.model; taken = D.taken; caps = [] }) (section_cycles D.model (below_halves D.model above s)) (can_open_all M s p t sound accepted)).made)

-- ---- from a drawing

-- with those that draw it, these are all operators; the pairs left aren't read
pub split_ops_are : (M : Model) (s : ℕ) (p : Plane) (t : ℕ) (d : Drawing) → d ≡ put_aside (with_drawings M s p) → rewriting_ops M s p ++ ops_above d s p t ≡ split_ops M s p t
unfolding split_ops
split_ops_are M s p t d is = ap (λ x. rewriting_ops M s p ++ ops_above x s p t) is

-- the solid can be opened along its section
abbrev Opens : Drawing → ℕ → Plane → Type 0
Opens d s p = CanBeOpenedInTurn (faces_above d.model p s) s (record { model = d.model; taken = d.taken; caps = [] }) (section_cycles d.model (below_halves d.model (faces_above d.model p s) s))

-- and what is above is parted then
abbrev Parts : Drawing → ℕ → Plane → ℕ → Type 0
Parts d s p t = Leads (opened_at d (faces_above d.model p s) s p).model (split_above d s p t) (upper_ops (opened_at d (faces_above d.model p s) s p) (faces_above d.model p s) s t)

opens : (d : Drawing) (s : ℕ) (p : Plane) (t : ℕ) → IsDrawn d s p t → Opens d s p
opens d s p t w = subst (λ x. Opens x s p) (sym w.drawn) (can_open_all w.before s p t w.sound w.accepted)

parts : (d : Drawing) (s : ℕ) (p : Plane) (t : ℕ) → IsDrawn d s p t → Parts d s p t
parts d s p t w = subst (λ x. Parts x s p t) (sym w.drawn) (upper w.before s p t w.sound w.accepted)

-- ---- as the code has it

module _ (N : Model) (c : Progress) (s : ℕ) (p : Plane) (t : ℕ) (q : Section) (w : IsDrawn (drawing_of c N []) s p t) (is : IsSection N s p q) where
  pub section_opens : CanBeOpenedInTurn q.above.items s (unopened N c.taken) (cycles_of q)
  section_opens =
      subst (λ a. CanBeOpenedInTurn a s (unopened N c.taken) (cycles_of q)) (sym is.above)
      (subst (λ cs. CanBeOpenedInTurn (faces_above N p s) s (unopened N c.taken) cs) (sym is.cycles) (opens (drawing_of c N []) s p t w))

  opened_is : opened_section N c.taken s p q ≡ opened_at (drawing_of c N []) (faces_above N p s) s p
  opened_is = λ i. all_opened p (is.above i) s (unopened N c.taken) (is.cycles i)

  upper_is : Leads (opened_section N c.taken s p q).model (split_above (drawing_of c N []) s p t) (upper_ops (opened_section N c.taken s p q) q.above.items s t)
  upper_is = subst (λ a. Leads (opened_section N c.taken s p q).model (split_above (drawing_of c N []) s p t) (upper_ops (opened_section N c.taken s p q) a s t)) (sym is.above)
      (subst (λ o. Leads o.model (split_above (drawing_of c N []) s p t) (upper_ops o (faces_above N p s) s t)) (sym opened_is) (parts (drawing_of c N []) s p t w))

  -- from what the opening left, the operators of the upper part lead to the split
  pub upper_leads : (K : Model) (above : List ℕ) (ks : List Caps) → K ≡ (opened_section N c.taken s p q).model → above ≡ q.above.items → ks ≡ (opened_section N c.taken s p q).caps →
      Leads K (split_above (drawing_of c N []) s p t) (hole_ops ks ++ Part s t (upper_left above ks) ∷ [])
  upper_leads K above ks is_model is_above is_caps =
      subst (λ X. Leads X (split_above (drawing_of c N []) s p t) (hole_ops ks ++ Part s t (upper_left above ks) ∷ [])) (sym is_model)
      (subst (λ a. Leads (opened_section N c.taken s p q).model (split_above (drawing_of c N []) s p t) (hole_ops ks ++ Part s t (upper_left a ks) ∷ [])) (sym is_above)
      (subst (λ x. Leads (opened_section N c.taken s p q).model (split_above (drawing_of c N []) s p t) (hole_ops x ++ Part s t (upper_left q.above.items x) ∷ [])) (sym is_caps) upper_is))

  -- they follow those of the opening
  pub later_ops_are : (above : List ℕ) (ks : List Caps) → above ≡ q.above.items → ks ≡ (opened_section N c.taken s p q).caps →
      openings_ops q.above.items s p (unopened N c.taken) (cycles_of q) ++ (hole_ops ks ++ Part s t (upper_left above ks) ∷ []) ≡ ops_above (drawing_of c N []) s p t
  later_ops_are fs ks is_above is_caps =
      let faces = is_above ∙ is.above in
      let caps = is_caps ∙ ap (λ (o : Opening). o.caps) opened_is in
      λ i. openings_ops (is.above i) s p (unopened N c.taken) (is.cycles i) ++ (hole_ops (caps i) ++ Part s t (upper_left (faces i) (caps i)) ∷ [])
