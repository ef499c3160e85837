-- kef as an operator: it keeps a model sound, and mef takes it back; and kef passes its conditions after mef and takes it back.
use Rattle.euler_laws.proofs.Prelude.{◌≡◌, ℕ, None, is_some, refl, sym, ap, ◌∙◌, arith, ne_eqb, eq-eqb, eqb_tells, not-true, eqb-false, mef_old, mef_new, kef_ring, HalfEdge, code, mate, edge_of, Model, cycle, items_of, loop_of, content, cycle_of, face_of, Sound, first_false, conditions, face_at, effect, inverse, mef, kef, kef-mef, edge_of-code, code-half, remove-put, two_undone, row_of, cycle_sound, Mef, Kef}
use Rattle.euler_operators.specs.Table as table
use Rattle.euler_laws.proofs.shared.Goes.{all_hold, none_refuses, not_false, taken}
use Rattle.euler_laws.proofs.shared.EdgeMore.{comes, half_h}
use Rattle.euler_laws.proofs.shared.TwoRows.{content_first, face_same, has_same}
use Rattle.euler_laws.proofs.mef.MefUndo.{loops-mef, no_h, no_m}
use Rattle.euler_laws.proofs.mef.MefSound as made
use Rattle.euler_laws.proofs.mef.Mef.{mef_goes}
use Rattle.euler_laws.proofs.mef.KefSound as gone
use Rattle.euler_laws.proofs.mef.KefSound.{KefGoes, sound-kef}
use Rattle.euler_laws.proofs.shared.Undo.{same_model}
use Rattle.euler_laws.proofs.shared.Rows.{half_of, of_half, no_rings_means, means_no_rings}
use Rattle.euler_laws.proofs.shared.Lawful.{IsLawful}

-- ---- conditions

pub kef_goes : (M : Model) (h : HalfEdge) → first_false M (Kef h) ≡ None → KefGoes M (code h)
unfolding first_false conditions
kef_goes M h e = grind (arith, all_hold (conditions M (Kef h)) e, half_of, not-true, eqb-false, no_rings_means)

pub kef_accepted : (N : Model) (h : HalfEdge) → Sound N → KefGoes N (code h) → first_false N (Kef h) ≡ None
unfolding first_false conditions
kef_accepted N h sound goes =
    grind (arith, none_refuses, edge_of-code, sound.edges_fit, goes.h_there, ne_eqb, goes.faces_apart, means_no_rings, goes.no_rings)

pub mef_accepted : (N : Model) (g k h : HalfEdge) (f l : ℕ) → Sound N → made.MefGoes N (code g) (code k) (code h) f l → first_false N (Mef g k h f l) ≡ None
unfolding first_false conditions
mef_accepted N g k h f l sound goes =
    grind (arith, none_refuses, edge_of-code, sound.edges_fit, goes, of_half, taken, not_false, ne_eqb, eq-eqb)

-- ---- kef

pub kef_lawful : (h : HalfEdge) → IsLawful (Kef h)
unfolding effect inverse
kef_lawful h M sound e =
    let one = gone.mef-after-kef M sound (code h) in
    grind (arith, kef_goes M h e, sound-kef M sound (code h), code-half, mef_accepted, gone.put_goes M sound (code h), one)

-- ---- mef

made_goes : (M : Model) (sound : Sound M) (g k h f l : ℕ) (goes : made.MefGoes M g k h f l) → KefGoes (mef M g k h f l) h
made_goes M sound g k h f l goes =
    let N : Model = mef M g k h f l in
    let set = made.set sound goes in
    let fm : face_at N (mate h) ≡ f = ap (face_of N) (made.loop_m sound goes) ∙ made.face_l sound goes in
    let fh : face_at N h ≡ face_of M (loop_of M g) = ap (face_of N) (made.loop_h sound goes) ∙ face_same set (loop_of M g) (made.not_l sound goes _ (ap is_some (row_of M sound g goes.g_there))) in
    record {
      h_there = half_h (comes (made.more sound goes));
      faces_apart = λ p. made.not_f sound goes (face_of M (loop_of M g)) (made.face_r sound goes) (sym fh ∙ p ∙ fm);
      no_rings = grind (arith, made.outer_new sound goes, eqb_tells, made.not_f sound goes, sound.loops_of_faces, has_same set, face_same set);
    }

module _ {M : Model} (sound : Sound M) {g k h f l : ℕ} (goes : made.MefGoes M g k h f l) where
  abbrev E : Model
  E = mef M g k h f l

  loop_h : loop_of E h ≡ loop_of M g
  loop_h = made.loop_h sound goes

  loop_m : loop_of E (mate h) ≡ l
  loop_m = made.loop_m sound goes

  -- the list of the kept loop, joined with that of the new one, is the old list
  whole : kef_ring h (mate h) (cycle_of E h) (cycle_of E (mate h)) ≡ cycle_of M g
  whole =
      let a : cycle_of E h ≡ mef_old h g k (cycle_of M g) = ap (λ q. items_of (content E q)) loop_h ∙ ap items_of (content_first (made.set sound goes)) in
      let b : cycle_of E (mate h) ≡ mef_new (mate h) g k (cycle_of M g) = ap (λ q. items_of (content E q)) loop_m ∙ ap items_of (made.content_l sound goes) in
      let cy = cycle_sound M sound g goes.g_there in
      (λ i. kef_ring h (mate h) (a i) (b i))
      ∙ kef-mef h (mate h) g k (cycle_of M g) cy.apart (no_h M sound g k h f l goes.g_there goes.edge_free goes.loop_free) (no_m M sound g k h f l goes.g_there goes.edge_free goes.loop_free) ∙ cy.from_least

  loops-made : (kef E h).loops ≡ M.loops
  loops-made =
      let c : face_of E (loop_of E h) ≡ face_of M (loop_of M g) = ap (face_of E) loop_h ∙ face_same (made.set sound goes) (loop_of M g) (made.set sound goes).apart in
      gone.loops_are E (made.sound-mef sound goes) h (made_goes M sound g k h f l goes)
      ∙ (λ i. table.remove (table.put E.loops (loop_h i) (record { face = c i; content = cycle (whole i) })) (loop_m i))
      ∙ ap (λ t. table.remove (table.put t (loop_of M g) (record { face = face_of M (loop_of M g); content = cycle (cycle_of M g) })) l) (loops-mef M sound g k h f l goes.g_there goes.edge_free goes.loop_free)
      ∙ two_undone M.loops (loop_of M g) l _ _ _ (made.set sound goes).apart (row_of M sound g goes.g_there) goes.loop_free

  faces-made : table.remove E.faces (face_at E (mate h)) ≡ M.faces
  unfolding mef
  faces-made = ap (table.remove E.faces) (ap (face_of E) loop_m ∙ made.face_l sound goes) ∙ remove-put M.faces f _ goes.face_free

  pub kef-after-mef : kef (mef M g k h f l) h ≡ M
  unfolding kef mef
  kef-after-mef = same_model (kef E h) M refl faces-made loops-made (remove-put M.edges (edge_of h) _ goes.edge_free) refl

pub mef_lawful : (g k h : HalfEdge) (f l : ℕ) → IsLawful (Mef g k h f l)
unfolding effect inverse
mef_lawful g k h f l M sound e = grind (arith, mef_goes, made.sound-mef, kef_accepted, made_goes, kef-after-mef)
