-- RingOut and Outer, by which a ring becomes the outer loop of a face: they keep a sound model sound and take each other back.
use Rattle.euler_laws.proofs.Prelude.{◌≡◌, ◌≢◌, ℕ, None, refl, sym, ap, ◌∙◌, subst, inl, inr, arith, eqb_tells, Model, face_of, solid_of, outer, Sound, Has, first_false, conditions, effect, inverse, ring_out, take_outer, RingOut, Outer}
use Rattle.euler_laws.proofs.shared.Goes.{all_hold, none_refuses}
use Rattle.euler_laws.proofs.shared.Parts.{outer_other}
use Rattle.euler_laws.proofs.shared.Faces.{LoopMoves, faces_after, OuterSet, face_moved, face_kept, walks_same, old_outer, sound-moves, loop_home, outer_set, has_face_same, solid_same, outer_new, outer_home}
use Rattle.euler_laws.proofs.faces.RingIn.{ring_goes, ring_holds, RingGoes}
use Rattle.euler_laws.proofs.shared.Rows.{never_outer}
use Rattle.euler_laws.proofs.shared.Lawful.{IsLawful}

module _ {M : Model} (sound : Sound M) {l f : ℕ} (goes : RingGoes M l f) where
  abbrev g : ℕ
  g = face_of M l

  g_there : Has M.faces g
  g_there = sound.loops_of_faces l goes.l_there

  -- RingOut
  abbrev N : Model
  N = ring_out M l f

  abbrev o : ℕ
  o = outer M f

  o_l : o ≢ l
  o_l = never_outer M sound l goes.is_ring f goes.f_there

  moves : LoopMoves M N l f
  unfolding ring_out
  moves = record { there = goes.l_there; loops = refl; solids = refl; edges = refl; vertices = refl }

  swaps : OuterSet M N f l
  unfolding ring_out
  swaps = record { there = goes.f_there; faces = refl }

  pub sound-ring_out : Sound N
  sound-ring_out = sound-moves moves sound
      (faces_after sound (has_face_same swaps) (solid_same swaps) goes.f_there goes.one_solid (λ p t. elim (eqb_tells p f) [
        | inl e ↦ inl (ap (outer N) e.1 ∙ outer_new swaps, e.1)
        | inr e ↦ inr (old_outer moves sound p t (outer_other (outer_set swaps) p e.1) (never_outer M sound l goes.is_ring p t))
      ]))

  o_face : face_of N o ≡ f
  o_face = face_kept moves o o_l ∙ (sound.outers_there f goes.f_there).1

  pub out_back_goes : RingGoes N o g
  out_back_goes =
      let one = (walks_same moves).loops o in let two = (sound.outers_there f goes.f_there).0 in let three = has_face_same swaps g in
      grind (arith, one, two, three, g_there, o_face, solid_same swaps, goes.one_solid, o_l, outer_new swaps)

  pub take_outer-ring_out : take_outer N o g ≡ M
  unfolding take_outer ring_out
  take_outer-ring_out = grind (arith, o_face, outer_new, loop_home, outer_home)

  -- Outer
  abbrev P : Model
  P = take_outer M l f

  abbrev z : ℕ
  z = outer M g

  z_there : Has M.loops z × (face_of M z ≡ g)
  z_there = sound.outers_there g g_there

  takes : LoopMoves M P z f
  unfolding take_outer
  takes = record { there = z_there.0; loops = refl; solids = refl; edges = refl; vertices = refl }

  takes_over : OuterSet M P g l
  unfolding take_outer
  takes_over = record { there = g_there; faces = refl }

  -- no other face has that outer loop
  z_free : (p : ℕ) → Has M.faces p → p ≢ g → outer M p ≢ z
  z_free p t a e = a (sym (sound.outers_there p t).1 ∙ ap (face_of M) e ∙ z_there.1)

  pub sound-take_outer : Sound P
  sound-take_outer = sound-moves takes sound
      (faces_after sound (has_face_same takes_over) (solid_same takes_over) goes.f_there (ap (solid_of M) z_there.1 ∙ goes.one_solid) (λ p t. inr (elim (eqb_tells p g) [
        | inl e ↦ let y : outer P p ≡ l = ap (outer P) e.1 ∙ (outer_new takes_over) in
            (λ s. goes.is_ring (sym s ∙ y), subst (Has M.loops) (sym y) goes.l_there, ap (face_of M) y ∙ sym e.1)
        | inr e ↦ old_outer takes sound p t (outer_other (outer_set takes_over) p e.1) (z_free p t e.1)
      ])))

  pub outer_back_goes : RingGoes P z g
  outer_back_goes = record {
    l_there = (walks_same takes).loops z ∙ z_there.0;
    f_there = has_face_same takes_over g ∙ g_there;
    one_solid = ap (solid_of P) (face_moved takes) ∙ solid_same takes_over f ∙ sym goes.one_solid ∙ sym (solid_same takes_over g);
    is_ring =
        let one = outer_other (outer_set takes_over) f in let two = z_free f goes.f_there in
        grind (arith, eqb_tells f g, goes.is_ring, outer_new takes_over, takes_over, face_moved takes, two, goes.f_there, one, outer_set takes_over);
  }

  pub ring_out-take_outer : ring_out P z g ≡ M
  unfolding take_outer ring_out
  ring_out-take_outer = λ i. record M { loops = loop_home M z f g z_there.1 i; faces = outer_home M g l z refl i }

-- ---- the operators

pub ring_out_goes : (M : Model) (l f : ℕ) → first_false M (RingOut l f) ≡ None → RingGoes M l f
unfolding first_false conditions
ring_out_goes M l f e = ring_goes M l f (all_hold (conditions M (RingOut l f)) e)

pub outer_goes_so : (M : Model) (l f : ℕ) → first_false M (Outer l f) ≡ None → RingGoes M l f
unfolding first_false conditions
outer_goes_so M l f e = ring_goes M l f (all_hold (conditions M (Outer l f)) e)

pub ring_out_accepted : (N : Model) (l f : ℕ) → Sound N → RingGoes N l f → first_false N (RingOut l f) ≡ None
unfolding first_false conditions
ring_out_accepted N l f sound goes = none_refuses (conditions N (RingOut l f)) (ring_holds N l f sound goes)

pub outer_accepted : (N : Model) (l f : ℕ) → Sound N → RingGoes N l f → first_false N (Outer l f) ≡ None
unfolding first_false conditions
outer_accepted N l f sound goes = none_refuses (conditions N (Outer l f)) (ring_holds N l f sound goes)

pub ring_out_lawful : (l f : ℕ) → IsLawful (RingOut l f)
unfolding effect inverse
ring_out_lawful l f M sound e = grind (arith, ring_out_goes, sound-ring_out, outer_accepted, out_back_goes, take_outer-ring_out)

pub outer_lawful : (l f : ℕ) → IsLawful (Outer l f)
unfolding effect inverse
outer_lawful l f M sound e = grind (arith, outer_goes_so, sound-take_outer, ring_out_accepted, outer_back_goes, ring_out-take_outer)
