-- What a lamina and a block leave as they were.
use Rattle.command_laws.proofs.Prelude.{◌≡◌, ◌≢◌, ℕ, ◌+◌, ◌-◌, ℤ, List, None, is_some, sym, ap, ◌∙◌, refl, arith, inl, inr, length, Point, edge_of, Model, face_of, rings_of, Sound, Has, row_some, get-put_other, face_row, same_face, same_solid, taken_in, lamina_refusal, lamina_model, lamina_face, with_points, with_path, base_of, block_refusal, block_model, at_most_greatest, get-put_cases, lamina_goes, lamina_is_sound, blocks_have_bases, bases_rise, held, up_by, Each, BlockKeepsOwners, BlockKeepsLoops, BlockKeepsEdges, BlockKeepsPoints, BlockKeepsShapes, zero, suc, ◌≤◌, ◌<◌, ◌⊎◌, Table}
use Rattle.euler_operators.specs.Table as table
use Rattle.command_laws.proofs.Kept.{old_kept, lamina_kept, block_keeps_faces}
use Rattle.command_laws.proofs.OnFaces.{vertex_there}
use Rattle.command_laws.proofs.SweptAlone.{prism_keeps_loops, prism_keeps_edges, prism_keeps_points, prism_keeps_rings}
use Rattle.command_laws.proofs.Standing.{rings_same, stands}

-- F n has rows put at a + 1, a + 2 and so on up to a + n
module _ {X : Type 0} (F : ℕ → Table X) (a : ℕ) (x : ℕ → X) (step : (n : ℕ) → F (suc n) ≡ table.put (F n) (a + suc n) (x n)) where
  -- all other rows are as they were
  others_stay : (n q : ℕ) → (q ≤ a) ⊎ (a + n < q) → table.get (F n) q ≡ table.get (F 0) q
  others_stay zero q o = refl
  others_stay (suc n) q o = grind (arith, others_stay n q (elim o [ inl l ↦ inl l | inr l ↦ inr (omega (arith, l)) ]), get-put_other)

-- ---- a lamina

module _ (M : Model) (s : ℕ) (ps : List Point) where
  pub lamina_keeps : (l : ℕ) → Has M.loops l → table.get (lamina_model M s ps).loops l ≡ table.get M.loops l
  unfolding lamina_model taken_in
  lamina_keeps l there = old_kept M.loops (table.greatest M.loops) _ _ l (at_most_greatest M.loops l there)

  pub lamina_keeps_rows : Sound M → lamina_refusal M s ps ≡ None → (e : ℕ) → Has M.edges e → table.get (lamina_model M s ps).edges e ≡ table.get M.edges e
  unfolding lamina_model taken_in
  lamina_keeps_rows sound goes e there = let g = table.greatest M.edges in let m = at_most_greatest M.edges e there in
      get-put_other (with_path M.edges g (table.greatest M.vertices) (length ps - 1)) (g + length ps) _ e (λ z. absurd (omega (arith, m, (lamina_goes M s ps sound goes).many, z)))
      ∙ others_stay (with_path M.edges g (table.greatest M.vertices)) g _ (λ n. refl) (length ps - 1) e (inl m)

  lamina_keeps_places : (v : ℕ) → Has M.vertices v → table.get (lamina_model M s ps).vertices v ≡ table.get M.vertices v
  unfolding lamina_model taken_in
  lamina_keeps_places v there = others_stay (with_points M.vertices (table.greatest M.vertices) ps) (table.greatest M.vertices) _ (λ n. refl) (length ps) v (inl (at_most_greatest M.vertices v there))

  -- no loop more is of a face that was there
  lamina_adds : (k : ℕ) → Has M.faces k → (l : ℕ) → Has (lamina_model M s ps).loops l → face_of (lamina_model M s ps) l ≡ k → table.get (lamina_model M s ps).loops l ≡ table.get M.loops l
  unfolding lamina_model taken_in
  lamina_adds k there l now of =
      let g = table.greatest M.loops in
      let e = table.greatest M.faces in
      let r = row_some (table.get (lamina_model M s ps).loops l) now in
      let face : r.0.face ≡ k = sym (face_row (lamina_model M s ps) l r.0 r.1) ∙ of in
      elim (get-put_cases (table.put M.loops (g + 1) _) (g + 2) _ l r.0 r.1) [
        | inl q ↦ absurd (omega (arith, sym face ∙ ap (λ x. x.face) q.1, at_most_greatest M.faces k there))
        | inr q ↦ grind (arith, get-put_cases M.loops (g + 1), at_most_greatest M.faces k there)
      ]

-- ---- a block

module _ (M : Model) (s : ℕ) (p : Point) (dx dy dz : ℤ) (sound : Sound M) (goes : block_refusal M s p dx dy dz ≡ None) where
  abbrev base : Model
  base = lamina_model M s (base_of p dx dy)

  based : lamina_refusal M s (base_of p dx dy) ≡ None
  based = blocks_have_bases M s p dx dy dz goes

  base_sound : Sound base
  base_sound = lamina_is_sound M s (base_of p dx dy) sound based

  old_face : (l : ℕ) → Has M.loops l → face_of base l ≢ lamina_face M
  unfolding taken_in
  old_face l there e = absurd (omega (arith, at_most_greatest M.faces (face_of M l) (sound.loops_of_faces l there), sym (same_face M base l (lamina_keeps M s (base_of p dx dy) l there)) ∙ e))

  block_keeps : (l : ℕ) → Has M.loops l → table.get (block_model M s p dx dy dz).loops l ≡ table.get M.loops l
  unfolding block_model
  block_keeps l there = grind (arith, lamina_keeps, prism_keeps_loops, base_sound, bases_rise, old_face) steps 400000

  block_keeps_rows : (e : ℕ) → Has M.edges e → table.get (block_model M s p dx dy dz).edges e ≡ table.get M.edges e
  unfolding block_model
  block_keeps_rows e there = grind (arith, lamina_keeps_rows, based, prism_keeps_edges)

  pub block_keeps_places : (v : ℕ) → Has M.vertices v → table.get (block_model M s p dx dy dz).vertices v ≡ table.get M.vertices v
  unfolding block_model
  block_keeps_places v there = grind (arith, lamina_keeps_places, prism_keeps_points)

  block_keeps_rings : (k : ℕ) → Has M.faces k → rings_of (block_model M s p dx dy dz) k ≡ rings_of M k
  unfolding block_model
  block_keeps_rings k there =
      let row = lamina_kept M s (base_of p dx dy) k (at_most_greatest M.faces k there) in
      prism_keeps_rings base (lamina_face M) (up_by dz) base_sound (bases_rise M s p dx dy dz sound goes) k (ap is_some row ∙ there)
      ∙ rings_same M base k row (λ l held of. lamina_keeps M s (base_of p dx dy) l held) (lamina_adds M s (base_of p dx dy) k there)

-- ---- the laws

pub block_keeps_owners : BlockKeepsOwners
block_keeps_owners before after s p dx dy dz made k there alone = same_solid (held before) (held after) k (block_keeps_faces before after s p dx dy dz made k (at_most_greatest (held before).faces k there))

pub block_keeps_loops : BlockKeepsLoops
block_keeps_loops before after s p dx dy dz sound made l there alone = ap (λ x. table.get (held x).loops l) made.1 ∙ block_keeps (held before) s p dx dy dz sound made.0 l there

pub block_keeps_edges : BlockKeepsEdges
block_keeps_edges before after s p dx dy dz sound made h there alone = ap (λ x. table.get (held x).edges (edge_of h)) made.1 ∙ block_keeps_rows (held before) s p dx dy dz sound made.0 (edge_of h) there

pub block_keeps_points : BlockKeepsPoints
block_keeps_points before after s p dx dy dz sound made l v i alone =
    ap (λ x. table.get (held x).vertices v) made.1 ∙ block_keeps_places (held before) s p dx dy dz sound made.0 v (vertex_there (held before) sound l v i)

pub block_keeps_shapes : BlockKeepsShapes
block_keeps_shapes before after s p dx dy dz sound made k there alone =
    stands (held before) (held after) Each sound (block_keeps_loops before after s p dx dy dz sound made) (block_keeps_edges before after s p dx dy dz sound made) (block_keeps_points before after s p dx dy dz sound made)
    k there alone (block_keeps_faces before after s p dx dy dz made k (at_most_greatest (held before).faces k there))
    (ap (λ x. rings_of (held x) k) made.1 ∙ block_keeps_rings (held before) s p dx dy dz sound made.0 k there)
