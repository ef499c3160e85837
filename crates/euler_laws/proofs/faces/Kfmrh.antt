-- kfmrh makes a face a ring of another face, and mfkrh a ring a face: they keep a sound model sound and take each other back.
use Rattle.euler_laws.proofs.Prelude.{◌≡◌, ◌≢◌, ℕ, Some, None, is_some, IsTrue, refl, sym, ap, ◌∙◌, subst, inl, inr, arith, ne_eqb, eq-eqb, eqb-true, eqb_tells, not-true, eqb-false, map_rows, Model, face_of, solid_of, outer, is_number, Sound, Has, first_false, conditions, effect, inverse, kfmrh, mfkrh, loop_to_face, remove-put, no_row, row_elsewhere, solid_row, outer_row, nat_eq_itself, Kfmrh, Mfkrh}
use Rattle.euler_operators.specs.Table as table
use Rattle.euler_laws.proofs.shared.Goes.{all_hold, none_refuses, taken}
use Rattle.euler_laws.proofs.shared.Parts.{FaceSet, row_here, has_on, has_back, solid_other, outer_other, fit-put, fit-remove}
use Rattle.euler_laws.proofs.shared.Faces.{SameWalks, LoopMoves, face_moved, face_kept, walks_same, old_outer, sound-moves, loop_home}
use Rattle.euler_laws.proofs.shared.Rows.{put_again, face_there, no_rings_means, means_no_rings, never_outer, is_ring}
use Rattle.euler_laws.proofs.shared.Lawful.{IsLawful}

pub record KillGoes (M : Model) (f g : ℕ) : Type 0 where
  pub f_there : Has M.faces f
  pub g_there : Has M.faces g
  pub apart : f ≢ g
  pub one_solid : solid_of M f ≡ solid_of M g
  pub no_rings : (q : ℕ) → Has M.loops q → face_of M q ≡ g → outer M g ≡ q

pub record MakeGoes (M : Model) (l f : ℕ) : Type 0 where
  pub l_there : Has M.loops l
  pub face_free : table.get M.faces f ≡ None
  pub is_ring : outer M (face_of M l) ≢ l
  pub face_fits : IsTrue (is_number f)

-- ---- kfmrh

module _ (M : Model) (sound : Sound M) (f g : ℕ) (goes : KillGoes M f g) where
  abbrev pub N : Model
  N = kfmrh M f g

  abbrev pub l : ℕ
  l = outer M g

  pub l_face : face_of M l ≡ g
  l_face = (sound.outers_there g goes.g_there).1

  kill_moves : LoopMoves M N l f
  unfolding kfmrh
  kill_moves = record { there = (sound.outers_there g goes.g_there).0; loops = refl; solids = refl; edges = refl; vertices = refl }

  pub kill_same : SameWalks M N
  kill_same = walks_same kill_moves

  pub kill_face_l : face_of N l ≡ f
  kill_face_l = face_moved kill_moves

  pub kill_face_else : (q : ℕ) → q ≢ l → face_of N q ≡ face_of M q
  kill_face_else = face_kept kill_moves

  pub kill_set : FaceSet M N g None
  unfolding kfmrh
  kill_set = record { rows = record { are = refl } }

  pub g_gone : table.get N.faces g ≡ None
  g_gone = row_here kill_set.rows

  not_g : (p : ℕ) → Has N.faces p → p ≢ g
  not_g p t = row_elsewhere N.faces p g t g_gone

  face_back : (p : ℕ) → Has N.faces p → Has M.faces p
  face_back p t = has_back kill_set.rows p (not_g p t) t

  pub kill_solid : (p : ℕ) → p ≢ g → solid_of N p ≡ solid_of M p
  kill_solid = solid_other kill_set

  pub kill_outer : (p : ℕ) → p ≢ g → outer N p ≡ outer M p
  kill_outer = outer_other kill_set

  not_face_g : (q : ℕ) → Has M.loops q → q ≢ l → face_of M q ≢ g
  not_face_g q t a e = a (sym (goes.no_rings q t e))

  not_outer : (p : ℕ) → Has M.faces p → p ≢ g → outer M p ≢ l
  not_outer p t a e = a (sym (sound.outers_there p t).1 ∙ ap (face_of M) e ∙ l_face)

  f_solid : solid_of N f ≡ solid_of M g
  f_solid = kill_solid f goes.apart ∙ goes.one_solid

  pub sound-kfmrh : Sound N
  unfolding kfmrh
  sound-kfmrh = sound-moves kill_moves sound (record {
    home = has_on kill_set.rows f goes.apart goes.f_there;
    kept = λ q t a. has_on kill_set.rows (face_of M q) (not_face_g q t a) (sound.loops_of_faces q t);
    outers = λ p t. let a = not_g p t in let b = face_back p t in inr (old_outer kill_moves sound p b (kill_outer p a) (not_outer p b a));
    in_solid = λ p t. subst (Has M.solids) (sym (kill_solid p (not_g p t))) (sound.faces_of_solids p (face_back p t));
    has_face =
        let one = has_on kill_set.rows f goes.apart goes.f_there in
        grind (arith, sound.solid_has_face, eqb_tells, one, goes.f_there, f_solid, has_on kill_set.rows, kill_solid);
    solid_new = f_solid ∙ ap (solid_of M) (sym l_face);
    solid_kept = λ q t a. kill_solid (face_of M q) (not_face_g q t a);
    fit = fit-remove M.faces sound.faces_fit g;
  })

  pub make_goes : MakeGoes N l g
  make_goes =
      let two = sound.faces_fit in
      grind (arith, two, kill_same.loops, kill_moves.there, g_gone, not_outer, goes.f_there, goes.apart, kill_outer, kill_face_l, goes.g_there)

  -- mfkrh takes it back
  pub mfkrh-kfmrh : mfkrh N l g ≡ M
  unfolding mfkrh kfmrh
  mfkrh-kfmrh = grind (arith, loop_home, l_face, put_again, face_there, goes.g_there, kill_face_l, f_solid)

-- ---- mfkrh

module _ (M : Model) (sound : Sound M) (l f : ℕ) (goes : MakeGoes M l f) where
  abbrev pub P : Model
  P = mfkrh M l f

  make_moves : LoopMoves M P l f
  unfolding mfkrh
  make_moves = record { there = goes.l_there; loops = refl; solids = refl; edges = refl; vertices = refl }

  make_set : FaceSet M P f (Some (record { solid = solid_of M (face_of M l); outer = l }))
  unfolding mfkrh
  make_set = record { rows = record { are = refl } }

  pub not_f : (p : ℕ) → Has M.faces p → p ≢ f
  not_f p t = row_elsewhere M.faces p f t goes.face_free

  face_on : (p : ℕ) → Has M.faces p → Has P.faces p
  face_on p t = has_on make_set.rows p (not_f p t) t

  f_there : Has P.faces f
  f_there = ap is_some (row_here make_set.rows)

  pub home : Has M.faces (face_of M l)
  home = sound.loops_of_faces l goes.l_there

  pub sound-mfkrh : Sound P
  unfolding mfkrh
  sound-mfkrh = sound-moves make_moves sound (record {
    home = f_there;
    kept = λ q t a. face_on (face_of M q) (sound.loops_of_faces q t);
    outers = λ p t. elim (eqb_tells p f) [
      | inl e ↦ inl (ap (outer P) e.1 ∙ outer_row P f _ (row_here make_set.rows), e.1)
      | inr e ↦ let b = has_back make_set.rows p e.1 t in inr (old_outer make_moves sound p b (outer_other make_set p e.1) (never_outer M sound l goes.is_ring p b))
    ];
    in_solid = grind (arith, eqb_tells, solid_row P f, row_here make_set.rows, sound.faces_of_solids, home, solid_other make_set, has_back make_set.rows);
    has_face = λ s t. let x = sound.solid_has_face s t in (x.0, face_on x.0 x.1, solid_other make_set x.0 (not_f x.0 x.1) ∙ x.2);
    solid_new = solid_row P f _ (row_here make_set.rows);
    solid_kept = λ q t a. solid_other make_set (face_of M q) (not_f _ (sound.loops_of_faces q t));
    fit = fit-put M.faces sound.faces_fit f _ goes.face_fits;
  })

  pub kill_goes : KillGoes P (face_of M l) f
  kill_goes =
      let outer_is = outer_row P f _ (row_here make_set.rows) in let solid_is = solid_row P f _ (row_here make_set.rows) in
      let there = (walks_same make_moves).loops in let known = face_on _ home in let others = solid_other make_set in
      grind (arith, outer_is, solid_is, there, known, others, eqb_tells, f_there, not_f, home, sound.loops_of_faces, face_kept make_moves)

  -- kfmrh takes it back
  pub kfmrh-mfkrh : kfmrh P (face_of M l) f ≡ M
  unfolding mfkrh kfmrh
  kfmrh-mfkrh = λ i. record M {
    loops = (ap (λ y. map_rows (loop_to_face y (face_of M l)) P.loops) (outer_row P f _ (row_here make_set.rows)) ∙ loop_home M l f (face_of M l) refl) i;
    faces = remove-put M.faces f (record { solid = solid_of M (face_of M l); outer = l }) goes.face_free i;
  }

-- ---- the operators

pub kfmrh_goes : (M : Model) (f g : ℕ) → first_false M (Kfmrh f g) ≡ None → KillGoes M f g
unfolding first_false conditions
kfmrh_goes M f g e = grind (arith, all_hold (conditions M (Kfmrh f g)) e, eqb-false, eqb-true, not-true, no_rings_means)

pub kfmrh_accepted : (N : Model) (f g : ℕ) → Sound N → KillGoes N f g → first_false N (Kfmrh f g) ≡ None
unfolding first_false conditions
kfmrh_accepted N f g sound goes =
    grind (arith, none_refuses, sound.faces_fit, goes, ne_eqb, eq-eqb, means_no_rings)

pub mfkrh_goes : (M : Model) (l f : ℕ) → first_false M (Mfkrh l f) ≡ None → MakeGoes M l f
unfolding first_false conditions
mfkrh_goes M l f e = grind (arith, all_hold (conditions M (Mfkrh l f)) e, not-true, no_row, is_ring)

pub mfkrh_accepted : (N : Model) (l f : ℕ) → Sound N → MakeGoes N l f → first_false N (Mfkrh l f) ≡ None
unfolding first_false conditions
mfkrh_accepted N l f sound goes =
    grind (arith, none_refuses, sound.loops_fit, goes.l_there, goes.face_fits, taken, goes.face_free, table.has, nat_eq_itself, ne_eqb, goes.is_ring)

pub kfmrh_lawful : (f g : ℕ) → IsLawful (Kfmrh f g)
unfolding effect inverse
kfmrh_lawful f g M sound e = grind (arith, kfmrh_goes, sound-kfmrh, mfkrh_accepted, make_goes, mfkrh-kfmrh)

pub mfkrh_lawful : (l f : ℕ) → IsLawful (Mfkrh l f)
unfolding effect inverse
mfkrh_lawful l f M sound e = grind (arith, mfkrh_goes, sound-mfkrh, kfmrh_accepted, kill_goes, kfmrh-mfkrh)
