-- What a sweep leaves as it was.
use Rattle.command_laws.proofs.Prelude.{◌≡◌, ◌≢◌, ℕ, None, inl, inr, Point, edge_of, Model, face_of, solid_of, rings_of, Sound, Has, IsIn_or_not, face_row, loops_of, growing, taken_in, prism_refusal, prism_model, at_most_greatest, AllBut, KeepsShapes}
use Rattle.euler_operators.specs.Table as table
use Rattle.sweeps_laws.proofs.prism.Accepted.{begins}
use Rattle.command_laws.proofs.Kept.{prism_keeps, prism_kept}
use Rattle.command_laws.proofs.OnFaces.{vertex_there}
use Rattle.command_laws.proofs.Standing.{stands}
use Rattle.command_laws.proofs.SweptLoops.{later_whole, sweep_ready}

-- ---- the prism

module _ (M : Model) (f : ℕ) (d : Point) where
  pub prism_keeps_loops : Sound M → prism_refusal M f d ≡ None → (l : ℕ) → Has M.loops l → face_of M l ≢ f → table.get (prism_model M f d).loops l ≡ table.get M.loops l
  unfolding prism_model taken_in
  prism_keeps_loops sound goes l there ne = (later_whole f (solid_of M f) d (loops_of M f) (growing M) (sweep_ready M f d sound goes)).loops l (at_most_greatest M.loops l there) (elim (IsIn_or_not l (loops_of M f)) [
    | inl i ↦ absurd (ne (face_row M l _ ((begins M f d sound goes).rows l i)))
    | inr z ↦ z
  ])

  pub prism_keeps_edges : (e : ℕ) → Has M.edges e → table.get (prism_model M f d).edges e ≡ table.get M.edges e
  unfolding taken_in
  prism_keeps_edges e there = (prism_keeps M f d).edges e (at_most_greatest M.edges e there)

  pub prism_keeps_points : (v : ℕ) → Has M.vertices v → table.get (prism_model M f d).vertices v ≡ table.get M.vertices v
  unfolding taken_in
  prism_keeps_points v there = (prism_keeps M f d).vertices v (at_most_greatest M.vertices v there)

module _ (M : Model) (f : ℕ) (d : Point) (sound : Sound M) (goes : prism_refusal M f d ≡ None) where
  -- no loop more is of a face that was there
  pub prism_keeps_rings : (k : ℕ) → Has M.faces k → rings_of (prism_model M f d) k ≡ rings_of M k
  unfolding prism_model taken_in
  prism_keeps_rings k there = (later_whole f (solid_of M f) d (loops_of M f) (growing M) (sweep_ready M f d sound goes)).rings k (at_most_greatest M.faces k there)

  pub prism_keeps_shapes : KeepsShapes (AllBut f) M (prism_model M f d)
  prism_keeps_shapes k there ne =
      stands M (prism_model M f d) (AllBut f) sound (prism_keeps_loops M f d sound goes) (λ h half other. prism_keeps_edges M f d (edge_of h) half)
      (λ l v i other. prism_keeps_points M f d v (vertex_there M sound l v i)) k there ne (prism_kept M f d k (at_most_greatest M.faces k there)) (prism_keeps_rings k there)
