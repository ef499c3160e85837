-- Faces whose loops are rewritten: where what stands in the place of a half-edge starts and ends as that did, they keep their normals,
-- and what they add to the six volumes.
use Rattle.split_laws.proofs.Prelude.{◌≡◌, ℕ, Some, None, is_some, sym, ap, ◌∙◌, arith, true≢false, ◌⊎◌, inl, inr, map, dot, count, IsIn, Model, LoopRow, items_of, content, face_of, outer, solid_of, point_of, Sound, Has, HasHalf, content_row, face_row, item_there, same_outer, same_solid, loop_row, start, finish, rewritten, rewritten_row, normal, AgreeOn, IsReplaced, replaced_area, replaced_start, normal_agrees, volume_stays, volume_told, face_of_loop, TellsAlike}
use Rattle.euler_operators.specs.Table as table
use Rattle.shapes.proofs.Common.{volume_of}

-- N is M with the half-edges of its loops renumbered by swap, and with further loops of new faces
pub record Renumbered (M N : Model) (swap : ℕ → ℕ) : Type 0 where
  pub sound : Sound M
  pub faces : (k : ℕ) → Has M.faces k → table.get N.faces k ≡ table.get M.faces k
  pub loops : (l : ℕ) (row : LoopRow) → table.get M.loops l ≡ Some row → table.get N.loops l ≡ Some (rewritten_row (map swap) l row)
  pub others : (l : ℕ) (row : LoopRow) → table.get N.loops l ≡ Some row → Has M.loops l ⊎ (table.get M.faces row.face ≡ None)
  pub stays : (y : ℕ) → HasHalf M y → (start N (swap y) ≡ start M y) × (finish N (swap y) ≡ finish M y)
  pub points : (v : ℕ) → Has M.vertices v → point_of N v ≡ point_of M v

module _ (M N : Model) (swap : ℕ → ℕ) (w : Renumbered M N swap) where
  pub face_is : (l : ℕ) → Has M.loops l → face_of N l ≡ face_of M l
  face_is l there = face_row N l _ (w.loops l _ (loop_row M l there))

  -- in each loop half-edges are replaced
  pub replaced : (l : ℕ) → Has M.loops l → IsReplaced M N swap l
  replaced l there = record {
    content_is = content_row N l _ (w.loops l _ (loop_row M l there));
    good = λ hs is. w.sound.cycles l hs there is;
    halves = λ y i. w.stays y (item_there M w.sound l y i);
    lones = λ v is. w.points v (w.sound.lone_at_vertex l v is);
  }

  module _ (k : ℕ) (there : Has M.faces k) where
    pub solid_is : solid_of N k ≡ solid_of M k
    solid_is = same_solid M N k (w.faces k there)

    pub outer_there : Has M.loops (outer M k)
    outer_there = (w.sound.outers_there k there).0

    -- no further loop is of this face
    was_there : (l : ℕ) → Has N.loops l → face_of N l ≡ k → Has M.loops l
    was_there l has of = elim (w.others l _ (loop_row N l has)) [
      | inl was ↦ was
      | inr free ↦ absurd (true≢false (sym there ∙ ap is_some (ap (table.get M.faces) (sym of) ∙ free)))
    ]

    pub agree : AgreeOn M N k
    agree = record {
      outer_is = same_outer M N k (w.faces k there);
      stay = λ l has of. (ap is_some (w.loops l _ (loop_row M l has)), face_is l has ∙ of);
      back = λ l has of. let was = was_there l has of in (was, sym (face_is l was) ∙ of);
      areas = λ l i. replaced_area (replaced l (face_of_loop M w.sound k l there i).0);
    }

    pub normal_is : normal N k ≡ normal M k
    normal_is = normal_agrees agree

    -- a face that tells the same from each corner adds what it did
    pub volume_is : TellsAlike M k → volume_of N k ≡ volume_of M k
    volume_is = volume_told agree (replaced (outer M k) outer_there)

    -- and so does one in whose outer loop nothing is replaced
    pub volume_same : ((y : ℕ) → IsIn y (items_of (content M (outer M k))) → swap y ≡ y) → volume_of N k ≡ volume_of M k
    volume_same = volume_stays agree (replaced (outer M k) outer_there)

    pub outer_content : content N (outer N k) ≡ rewritten (map swap) (content M (outer M k))
    outer_content = ap (content N) agree.outer_is ∙ (replaced (outer M k) outer_there).content_is

    -- what stands in its outer loop starts where an item of that did
    pub corner_from : (h : ℕ) → IsIn h (items_of (content N (outer N k))) → (y : ℕ) × IsIn y (items_of (content M (outer M k))) × (start N h ≡ start M y)
    corner_from h i = replaced_start (replaced (outer M k) outer_there) h (omega (arith, i, ap (λ l. count h (items_of (content N l))) agree.outer_is))

    -- a face that tells the same from each corner still does
    pub still_alike : TellsAlike M k → TellsAlike N k
    still_alike alike h i = let r = corner_from h i in
        ap (dot (start N h)) normal_is ∙ ap (λ q. dot q (normal M k)) r.2 ∙ alike r.0 r.1 ∙ sym (volume_is alike)
