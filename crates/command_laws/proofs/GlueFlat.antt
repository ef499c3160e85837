-- The faces that a glue leaves keep their corners, and so they are as flat as they were.
use Rattle.command_laws.proofs.Prelude.{◌≡◌, ◌≢◌, ℕ, true, false, cond, nat_eq, List, ◌∷◌, None, unwrap_or, is_some, option_map, refl, sym, ap, subst, ◌∙◌, arith, true≢false, ◌⊎◌, map, eqb-true, nat_tests, eqb_tells, Model, LoopContent, lone, cycle, FaceRow, no_face, content, face_of, outer, solid_of, point_of, IsIn, Sound, Has, is_lone, tables, face_there, listed-from_in, mapped_some, solid_either, loops_of, vertices_on, rewritten, is_flat, glue_refusal, glue_model, face_of_loop, held, loop_points, AreTurned, IsClosedFlat, GluesLieFlat, GlueKeepsFlat, loop_in_face}
use Rattle.euler_operators.specs.Table as table
use Rattle.shapes.proofs.glue.Facts as facts
use Rattle.gluing_laws.proofs.Seams as seams
use Rattle.gluing_laws.proofs.Measures as measures
use Rattle.gluing_laws.proofs.FromConditions.{seamed, glued}
use Rattle.gluing_laws.proofs.glue.Glued.{glued_sound}
use Rattle.command_laws.proofs.Turned.{IsTurned, rewritten_turned, turned_over}

-- a loop whose half-edges are replaced is lone where it was
lone_still : (f : List ℕ → List ℕ) (c : LoopContent) → is_lone (rewritten f c) ≡ is_lone c
lone_still f (lone v) = refl
lone_still f (cycle hs) = refl

-- a face that is of s afterwards was of s or of t, and one of another solid was of that
was_either : (a s t : ℕ) → cond (nat_eq a t) s a ≡ s → (a ≡ s) ⊎ (a ≡ t)
was_either a s t e = grind (arith, eqb_tells, eqb-true)

was_other : (a s t u : ℕ) → u ≢ s → cond (nat_eq a t) s a ≡ u → a ≡ u
was_other a s t u ne e = grind (arith, eqb_tells, eqb-true)

module _ {M N : Model} {f g : ℕ} {partner_of : ℕ → ℕ} {hs gs : List ℕ} (w : seams.Seamed M f g partner_of hs gs) (n : seams.Glued M N f g partner_of hs) (sound : Sound N) where
  -- the solid of a face of this solid of M
  abbrev now_of : ℕ → ℕ
  now_of a = cond (nat_eq a (solid_of M g)) (solid_of M f) a

  -- face k of N was there, and is neither of the two
  module _ (k : ℕ) (has : Has N.faces k) where
    left : table.get (measures.faces_left w n) k ≢ None
    left e = true≢false (sym has ∙ ap is_some (measures.face_at_row w n k ∙ ap (option_map (measures.to_s w n k)) e))

    not_f : k ≢ f
    not_f e = left (grind (arith, nat_tests, tables))

    not_g : k ≢ g
    not_g e = left (grind (arith, nat_tests, tables))

    was : Has M.faces k
    was = sym (mapped_some (measures.to_s w n k) (table.get M.faces k)) ∙ ap is_some (sym (measures.other_face w n k not_f not_g)) ∙ has

    solid_now : solid_of N k ≡ now_of (solid_of M k)
    unfolding solid_of
    solid_now =
        let row : FaceRow = record { solid = solid_of M k; outer = outer M k } in
        ap (λ o. (unwrap_or o no_face).solid) (measures.other_face w n k not_f not_g ∙ ap (option_map (measures.to_s w n k)) (face_there M k was))
        ∙ solid_either (nat_eq (solid_of M k) (solid_of M g)) row (solid_of M f)

    loops_are : loops_of N k ≡ loops_of M k
    unfolding loops_of
    loops_are = λ i. measures.outer_is w n k was not_f not_g i ∷ measures.rings_are w n k was not_f not_g i

    -- a loop of it
    module _ (l : ℕ) (inside : IsIn l (loops_of M k)) where
      own : Has M.loops l × (face_of M l ≡ k)
      own = face_of_loop M w.sound k l was (listed-from_in l (loops_of M k) inside)

      content_now : content N l ≡ rewritten (map (seams.swap w n)) (content M l)
      content_now = let e = measures.loop_else w n k was not_f not_g l own.1 in measures.content_is w n l e.0 e.1

      points_turned : AreTurned (loop_points M l) (loop_points N l)
      points_turned =
          let e = measures.loop_else w n k was not_f not_g l own.1 in
          subst (λ c. AreTurned (loop_points M l) (map (point_of N) (vertices_on N c))) (sym content_now)
          (rewritten_turned M N (seams.swap w n) (content M l) (λ y i. (measures.each_swapped w n l e.1 y i).0)
          (λ v is. seams.point_kept w n v (λ h i q. w.sound.lone_is_no_tail l (partner_of h) (seams.half_g w (partner_of h) (seams.partner_in w h i)) (is ∙ ap lone (sym q)))))

    turned : IsTurned M N k
    turned = record { there = has; loops = loops_are; points = points_turned; normal = measures.normal_is w n k was not_f not_g }

  -- so the faces of a solid of N are flat and none has a lone loop, where those that come to it are so
  closed_still : (u : ℕ) → ((k : ℕ) → Has M.faces k → now_of (solid_of M k) ≡ u → is_flat M k ≡ true) →
      ((l : ℕ) → Has M.loops l → now_of (solid_of M (face_of M l)) ≡ u → is_lone (content M l) ≡ false) → IsClosedFlat N u
  closed_still u flat closed = record {
    flat = λ k has of. (turned_over M N k u sound (flat k (was k has) (sym (solid_now k has) ∙ of)) of (turned k has)).flat;
    closed = λ l has of.
        let k = face_of N l in
        let there = sound.loops_of_faces l has in
        let inside : IsIn l (loops_of M k) = subst (λ ls. IsIn l ls) (loops_are k there) (loop_in_face N l has) in
        let old = own k there l inside in
        ap is_lone (content_now k there l inside) ∙ lone_still (map (seams.swap w n)) (content M l)
        ∙ closed l old.0 (ap (λ q. now_of (solid_of M q)) old.1 ∙ sym (solid_now k there) ∙ of);
  }

module _ (M : Model) (f g : ℕ) (sound : Sound M) (accepted : glue_refusal M f g ≡ None) where
  abbrev s : ℕ
  s = solid_of M f

  abbrev t : ℕ
  t = solid_of M g

  still : (u : ℕ) → ((k : ℕ) → Has M.faces k → cond (nat_eq (solid_of M k) t) s (solid_of M k) ≡ u → is_flat M k ≡ true) →
      ((l : ℕ) → Has M.loops l → cond (nat_eq (solid_of M (face_of M l)) t) s (solid_of M (face_of M l)) ≡ u → is_lone (content M l) ≡ false) → IsClosedFlat (glue_model M f g) u
  still = closed_still (seamed M f g sound accepted) (glued M f g) (glued_sound M f g sound accepted)

  glued_flat : IsClosedFlat (glue_model M f g) s
  glued_flat = still s
      (λ k there of. facts.flat M f g sound accepted k there (was_either (solid_of M k) s t of))
      (λ l has of. facts.not_lone M f g sound accepted l has (was_either (solid_of M (face_of M l)) s t of))

  other_flat : (u : ℕ) → u ≢ s → IsClosedFlat M u → IsClosedFlat (glue_model M f g) u
  other_flat u ne before = still u
      (λ k there of. before.flat k there (was_other (solid_of M k) s t u ne of))
      (λ l has of. before.closed l has (was_other (solid_of M (face_of M l)) s t u ne of))

pub glues_lie_flat : GluesLieFlat
glues_lie_flat before after f g sound made = subst (λ m. IsClosedFlat (held m) (solid_of (held before) f)) (sym made.1) (glued_flat (held before) f g sound made.0)

pub glue_keeps_flat : GlueKeepsFlat
glue_keeps_flat before after f g u sound made ne was = subst (λ m. IsClosedFlat (held m) u) (sym made.1) (other_flat (held before) f g sound made.0 u ne was)
