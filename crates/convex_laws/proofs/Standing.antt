-- A face that the plane doesn't straddle keeps its corners while the other faces are drawn.
use Rattle.convex_laws.proofs.Prelude.{◌≡◌, ℕ, false, unwrap_or, ap, subst, ◌∙◌, Plane, IsIn, no_point, Model, face_at, point_of, solid_of, tail, Sound, Has, HasHalf, corners, straddles, straddling_pairs, with_crossings, with_drawings, split_begins, CanBegin, Stays, crossings_keep, drawing_stays, old_face, can_be_drawn, rewritings_sound, starts_in, stages, same_tail}
use Rattle.euler_operators.specs.Table as table
use Rattle.command_laws.proofs.splits_laws.Uncut.{uncut}
use Rattle.convex_laws.proofs.Filled.{corner_half}
use Rattle.convex_laws.proofs.Together.{whole_stays}
use Rattle.command_laws.proofs.splits_laws.DrawnWithin.{uncut_edge}

module _ (M : Model) (s : ℕ) (p : Plane) (t : ℕ) (sound : Sound M) (begun : CanBegin M s p t) (f : ℕ) (has : Has M.faces f) (of : solid_of M f ≡ s) (whole : straddles M p f ≡ false) where
  open stages M s p t use {cut as C, drawn as D}

  still_starts : (h : ℕ) → HasHalf M h → face_at M h ≡ f → tail C h ≡ tail M h
  still_starts h half at = same_tail M C h (uncut_edge M s p t sound begun h half (uncut M s p sound f whole h half at))

  stays : Stays C D
  unfolding with_drawings
  stays = drawing_stays p (with_crossings M s p) (straddling_pairs M s p) (can_be_drawn M s p t sound begun)

  pub corner_stays : (v : ℕ) → IsIn v (corners M f) → IsIn v (corners (with_drawings M s p).model f) × (point_of (with_drawings M s p).model v ≡ point_of M v)
  unfolding point_of
  corner_stays v i =
      let kept = crossings_keep M s p t sound begun in
      let h = corner_half M s sound (split_begins M s p t begun).none_lone f has of v i in
      let was = kept.halves h.0 h.1 in
      let old = old_face M s p t sound begun h.0 h.1 ∙ h.2 in
      let now = whole_stays M s p t sound begun h.0 was (ap (straddles M p) old ∙ whole) ∙ old in
      let starts = stays.tails h.0 was ∙ still_starts h.0 h.1 h.2 ∙ h.3 in (
        subst (λ k. IsIn v (corners D k)) now (subst (λ u. IsIn u (corners D (face_at D h.0))) starts (starts_in D (rewritings_sound M s p t sound begun) h.0 (stays.halves h.0 was))),
        ap (λ u. unwrap_or (table.get u v) no_point) stays.vertices ∙ ap (λ o. unwrap_or o no_point) (kept.points v (subst (Has M.vertices) h.3 (sound.tails_there h.0 h.1))),
      )
