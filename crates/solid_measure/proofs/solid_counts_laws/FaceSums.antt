-- What is counted of the loops of a face, of the half-edges of a loop, and of a solid's rings, and how much that can be.
use Rattle.solid_measure.proofs.Prelude.{◌≡◌, ℕ, ◌≤◌, List, [], ◌∷◌, length, sym, ap, ◌∙◌, arith, length-append, Model, content, outer, rings_of, faces_of, Sound, Has, listed-from_in, loops_of, loops_in, loops_of_apart, loops_short, all_loops_apart, loop_in_solid, face_of_loop, Met, rings_in, together, nothing, IsFew, loop_met, loops_met}
use Rattle.solid_measure.proofs.solid_counts_laws.Sums.{together_more, together_nothing, loops_few}

-- a walk has counted so much, next comes this, and then what is left
module _ (sum met left total : Met) (counted : together sum (together met left) ≡ total) where
  pub parts_few : IsFew total → IsFew sum × IsFew met
  parts_few w =
      let v = ap (λ (m : Met). m.vertices) counted in let e = ap (λ (m : Met). m.edges) counted in
      ((omega (arith, v, w.0), omega (arith, e, w.1)), (omega (arith, v, w.0), omega (arith, e, w.1)))

  pub counted_more : (now : Met) → now ≡ together sum met → together now left ≡ total
  counted_more now e = ap (λ m. together m left) e ∙ together_more sum met left ∙ counted

pub all_counted : (sum left total : Met) → together sum left ≡ total → left ≡ nothing → sum ≡ total
all_counted sum left total e none = sym (together_nothing sum) ∙ ap (together sum) (sym none) ∙ e

-- a face without rings counts for what its outer loop does
pub bare_face : (M : Model) (f n : ℕ) → n ≡ length (rings_of M f) → n ≡ 0 → loop_met M (content M (outer M f)) ≡ loops_met M (loops_of M f)
unfolding loops_of
bare_face M f n e z = outer_loop_only (rings_of M f) (sym e ∙ z) where
  outer_loop_only : (rs : List ℕ) → length rs ≡ 0 → loop_met M (content M (outer M f)) ≡ loops_met M (outer M f ∷ rs)
  outer_loop_only [] l = sym (together_nothing (loop_met M (content M (outer M f))))
  outer_loop_only (r ∷ rs) l = absurd (omega (arith, l))

rings_fewer : (M : Model) (fs : List ℕ) → length (rings_in M fs) ≤ length (loops_in M fs)
unfolding loops_of
rings_fewer M [] = omega arith
rings_fewer M (f ∷ fs) = omega (arith, rings_fewer M fs, length-append (rings_of M f) (rings_in M fs), length-append (outer M f ∷ rings_of M f) (loops_in M fs))

module _ (M : Model) (sound : Sound M) where
  pub face_few : (f : ℕ) → Has M.faces f → IsFew (loops_met M (loops_of M f))
  face_few f t = loops_few M sound (loops_of M f) (loops_of_apart M sound f) (λ l i. (face_of_loop M sound f l t (listed-from_in l (loops_of M f) i)).0)

  pub rings_few : (s : ℕ) → length (rings_in M (faces_of M s)) ≤ 1000001
  rings_few s = omega (arith, rings_fewer M (faces_of M s), loops_short M sound (loops_in M (faces_of M s)) (all_loops_apart M sound s) (λ l i. (loop_in_solid M sound s l i).0))

  pub solid_few : (s : ℕ) → IsFew (loops_met M (loops_in M (faces_of M s)))
  solid_few s = loops_few M sound (loops_in M (faces_of M s)) (all_loops_apart M sound s) (λ l i. (loop_in_solid M sound s l i).0)
