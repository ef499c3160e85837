-- The faces of the two parts of a split: those of the solid, pieces of those that straddle the plane, and caps.
use Rattle.command_laws.proofs.Prelude.{◌≡◌, ◌⊎◌, ℕ, ◌+◌, List, [], ◌∷◌, ◌++◌, length, is_some, sym, ap, ◌∙◌, arith, inl, inr, true≢false, flat_map-append, Plane, IsIn, count, Model, solid_of, Sound, Has, kfmrh, part, count-append, get-remove_here, get-remove_other, row_some, same_solid, tick_same, mapped_some, below_halves, section_cycles, Caps, Opening, opened_along, get-put_cases, cap_faces, new_caps, opened_next, openings_carry, CanBeSplit, CanBegin, begins, can_be_split, closing_carries, Machine, held, IsSplit, IsOfEither, stages}
use Rattle.euler_operators.specs.Table as table
use Rattle.split_opening_laws.proofs.sections.OpenedRows as rows
use Rattle.split_laws.proofs.volumes.Split as split
use Rattle.command_laws.proofs.Owners.{neither, is_it}
use Rattle.command_laws.proofs.splits_laws.DrawnWithin.{drawings_within}
use Rattle.command_laws.proofs.Inner.{AgreeBut}
use Rattle.command_laws.proofs.splits_laws.Whole.{drawn_agree}

-- ---- which faces there are

-- face k of an opening was there, or is a cap
abbrev IsKnown : Model → ℕ → Opening → Type 0
IsKnown D k o = Has o.model.faces k → Has D.faces k ⊎ IsIn k (cap_faces o.caps)

module _ (D : Model) (above : List ℕ) (s k : ℕ) (p : Plane) (o : Opening) (bs : List ℕ) (a : IsKnown D k o) where
  abbrev low : ℕ
  low = o.taken.face + 1

  abbrev up : ℕ
  up = o.taken.face + length bs + 1

  caps_more : count k (cap_faces (o.caps ++ new_caps p o bs ∷ [])) ≡ count k (cap_faces o.caps) + count k (low ∷ up ∷ [])
  caps_more = ap (count k) (flat_map-append (λ (c : Caps). c.lower ∷ c.upper ∷ []) o.caps (new_caps p o bs ∷ [])) ∙ count-append k (cap_faces o.caps) (low ∷ up ∷ [])

  opened_known : IsKnown D k (opened_next p above s o bs)
  opened_known there =
      let r = row_some (table.get (opened_along o.model above s o.taken bs).faces k) there in
      elim (get-put_cases _ up _ k r.0 (sym (ap (λ t. table.get t k) (rows.faces_are o.model above s o.taken bs)) ∙ r.1)) [
        | inl q ↦ inr (omega (arith, caps_more, ap (λ x. count x (low ∷ up ∷ [])) q.0, tick_same up))
        | inr q ↦ elim (get-put_cases o.model.faces low _ k r.0 q.1) [
          | inl z ↦ inr (omega (arith, caps_more, ap (λ x. count x (low ∷ up ∷ [])) z.0, tick_same low))
          | inr z ↦ elim (a (ap is_some z.1)) [
            | inl was ↦ inl was
            | inr i ↦ inr (omega (arith, caps_more, i))
          ]
        ]
      ]

killed_had : (A : Model) (f g k : ℕ) → Has (kfmrh A f g).faces k → Has A.faces k
unfolding kfmrh
killed_had A f g k there = grind (arith, true≢false, get-remove_here, get-remove_other)

parted_had : (K : Model) (s t : ℕ) (us : List ℕ) (k : ℕ) → Has (part K s t us).faces k → Has K.faces k
parted_had K s t us k there = sym (mapped_some (split.to_new K s t us k) (table.get K.faces k)) ∙ ap is_some (sym (split.row_is K s t us k)) ∙ there

-- ---- a whole split

module _ (before after : Machine) (s : ℕ) (p : Plane) (t : ℕ) (sound : Sound (held before)) (made : IsSplit before after s p t) where
  abbrev M : Model
  M = held before

  open stages M s p t use {drawing as d, above, opened as X, parted as N}

  can : CanBeSplit d above s p t
  can = can_be_split M s p t sound made.0

  begun : CanBegin M s p t
  begun = begins M s p t sound made.0

  drawn : AgreeBut s M d.model
  drawn = drawings_within M s p t sound begun

  -- ---- each face of the parts

  module _ (k : ℕ) (there : Has N.faces k) (of : IsOfEither N s t k) where
    pub known : Has d.model.faces k ⊎ IsIn k (cap_faces X.caps)
    known = openings_carry above s p (λ x ds. IsKnown d.model k x) (λ x bs ds w a. opened_known d.model above s k p x bs a) (record { model = d.model; taken = d.taken; caps = [] })
        (section_cycles d.model (below_halves d.model above s)) can.opens (λ has. inl has)
        (closing_carries X.model s p X.caps (λ A. Has A.faces k → Has X.model.faces k) (λ A f g w h has. h (killed_had A f g k has)) (split.closes d above s p t can) (λ has. has) (parted_had _ s t _ k there))

    pub was_of : Has d.model.faces k → solid_of d.model k ≡ s
    was_of has = is_it s (solid_of d.model k) (λ e.
        let row = (drawn_agree before after s p t sound made).faces k has e in
        let out = neither s t (solid_of d.model k) row.1 in
        let same = same_solid d.model N k row.0 in
        elim of [ inl q ↦ out.0 (sym same ∙ q) | inr q ↦ out.1 (sym same ∙ q) ])
