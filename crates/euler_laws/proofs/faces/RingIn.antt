-- RingIn, which takes a ring to another face of its solid: it keeps a sound model sound, and RingIn to the old face takes it back.
use Rattle.euler_laws.proofs.Prelude.{◌≡◌, ◌≢◌, ℕ, None, refl, inr, arith, ne_eqb, eqb-true, not-true, eqb-false, Model, face_of, solid_of, outer, Sound, Has, AllHold, ring_and_face, first_false, conditions, effect, inverse, ring_in, RingIn, same_outer, same_solid, nat_eq_itself}
use Rattle.euler_operators.specs.Table as table
use Rattle.euler_laws.proofs.shared.Goes.{all_hold, all_hold-append, all_hold-front, all_hold-back, none_refuses, not_false}
use Rattle.euler_laws.proofs.shared.Faces.{SameWalks, LoopMoves, faces_after, face_moved, face_kept, walks_same, old_outer, sound-moves, loop_home}
use Rattle.euler_laws.proofs.shared.Rows.{never_outer, is_ring}
use Rattle.euler_laws.proofs.shared.Lawful.{IsLawful}

-- loop l is a ring, and face f is of its solid
pub record RingGoes (M : Model) (l f : ℕ) : Type 0 where
  pub l_there : Has M.loops l
  pub f_there : Has M.faces f
  pub one_solid : solid_of M (face_of M l) ≡ solid_of M f
  pub is_ring : outer M (face_of M l) ≢ l

module _ (M : Model) (sound : Sound M) (l f : ℕ) (goes : RingGoes M l f) where
  abbrev pub N : Model
  N = ring_in M l f

  moves : LoopMoves M N l f
  unfolding ring_in
  moves = record { there = goes.l_there; loops = refl; solids = refl; edges = refl; vertices = refl }

  pub same : SameWalks M N
  same = walks_same moves

  pub outer_same : (p : ℕ) → outer N p ≡ outer M p
  unfolding ring_in
  outer_same p = same_outer M N p refl

  pub solid_same : (p : ℕ) → solid_of N p ≡ solid_of M p
  unfolding ring_in
  solid_same p = same_solid M N p refl

  pub face_l : face_of N l ≡ f
  face_l = face_moved moves

  pub face_else : (q : ℕ) → q ≢ l → face_of N q ≡ face_of M q
  face_else = face_kept moves

  pub sound-ring_in : Sound N
  unfolding ring_in
  sound-ring_in = sound-moves moves sound (faces_after sound (λ p. refl) solid_same goes.f_there goes.one_solid
      (λ p t. inr (old_outer moves sound p t (outer_same p) (never_outer M sound l goes.is_ring p t))))

  -- what the way back asks
  pub back_goes : RingGoes N l (face_of M l)
  unfolding ring_in
  back_goes =
      let one = sound.loops_of_faces in
      grind (arith, one, same.loops, goes.l_there, face_l, solid_same, goes.one_solid, never_outer, sound, goes.is_ring, goes.f_there, outer_same)

  pub ring_in-ring_in : ring_in N l (face_of M l) ≡ M
  unfolding ring_in
  ring_in-ring_in = λ i. record M { loops = loop_home M l f (face_of M l) refl i }

-- ---- the operator

-- what the conditions of a ring and a face say, and back
pub ring_goes : (M : Model) (l f : ℕ) → AllHold (ring_and_face M l f) → RingGoes M l f
ring_goes M l f (_, (_, (l_known, (f_known, (one_solid, (l_ring, _)))))) = grind (arith, eqb-true, one_solid, is_ring M l l_ring)

pub ring_holds : (N : Model) (l f : ℕ) → Sound N → RingGoes N l f → AllHold (ring_and_face N l f)
ring_holds N l f sound goes =
    grind (arith, sound.loops_fit, goes.l_there, sound.faces_fit, goes.f_there, goes.one_solid, table.has, nat_eq_itself, ne_eqb, goes.is_ring)

pub ring_in_goes : (M : Model) (l f : ℕ) → first_false M (RingIn l f) ≡ None → RingGoes M l f × (face_of M l ≢ f)
unfolding first_false conditions
ring_in_goes M l f e = grind (arith, all_hold, ring_goes, all_hold-front, eqb-false, not-true, all_hold-back)

pub ring_in_accepted : (N : Model) (l f : ℕ) → Sound N → RingGoes N l f → face_of N l ≢ f → first_false N (RingIn l f) ≡ None
unfolding first_false conditions
ring_in_accepted N l f sound goes apart = grind (arith, none_refuses, all_hold-append, ring_holds, not_false, ne_eqb)

pub ring_in_lawful : (l f : ℕ) → IsLawful (RingIn l f)
unfolding effect inverse
ring_in_lawful l f M sound e = grind (arith, ring_in_goes, sound-ring_in, ring_in_accepted, back_goes, face_l, ring_in-ring_in)
