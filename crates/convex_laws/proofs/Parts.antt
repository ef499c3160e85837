-- Both parts of a strictly convex solid are convex: its pieces look as their faces did, and the caps along the plane.
use Rattle.convex_laws.proofs.Prelude.{◌≡◌, ℕ, pos, int_lt, true, false, ◌&&◌, List, [], ◌∷◌, refl, sym, ap, subst, ◌∙◌, inl, inr, Plane, Point, IsIn, direction, dot, is_above, is_on, Model, after, LoopContent, lone, cycle, content, face_at, face_of, items_of, outer, point_of, solid_of, Sound, Has, HasHalf, lists, IsIn_head, in-holds, item_loop, IsIn-from_listed, first_listed, listed-from_in, rest_listed, corners, face_is_above, is_flat, normal, plane_of, are_on, none_lone, cap_faces, Machine, held, IsSplit, IsCapOf, cap, caps_of, IsOfEither, IsTurned, turned_lies, caps_stand, IsConvex, IsStrictlyConvex, LiesAbove, LiesBelow, stages}
use Rattle.command_laws.proofs.splits_laws.Whole as whole
use Rattle.convex_laws.proofs.Apart as apart
use Rattle.convex_laws.proofs.Beside as next
use Rattle.convex_laws.proofs.CapNormals.{cap_looks}
use Rattle.convex_laws.proofs.Drawn as drawn
use Rattle.convex_laws.proofs.Pieces.{piece_looks}
use Rattle.convex_laws.proofs.Planes.{above_facing, on_facing, turned_over}
use Rattle.convex_laws.proofs.Rounds.{lies_flat, under_face}
use Rattle.convex_laws.proofs.Turns.{IsHigh}
use Rattle.convex_laws.proofs.Within.{splits_stay_below}

all_level : (G : Model) (n : Plane) (vs : List ℕ) → ((v : ℕ) → lists vs v ≡ true → is_on n (point_of G v) ≡ true) → are_on G n vs ≡ true
all_level G n [] each = refl
all_level G n (v ∷ vs) each = λ i. each v (first_listed v vs) i && all_level G n vs (λ w l. each w (rest_listed v w vs l)) i

module _ (before after_it : Machine) (s : ℕ) (p : Plane) (t : ℕ) (sound : Sound (held before)) (made : IsSplit before after_it s p t) (convex : IsStrictlyConvex (held before) s) where
  abbrev M : Model
  M = held before

  open stages M s p t use {cut as C, drawn as D}
  open drawn.drawn_through M s p t sound made.0 use {begun, unstuck, D_sound}

  abbrev N : Model
  N = held after_it

  pub N_sound : Sound N
  N_sound = subst Sound (sym (whole.after_is before after_it s p t sound made)) (whole.after_sound before after_it s p t sound made)

  -- ---- each face of the drawn solid has a half-edge, and one that was there

  some_half : (k : ℕ) → Has D.faces k → solid_of D k ≡ s → (x : ℕ) × HasHalf D x × (face_at D x ≡ k)
  some_half k has of = from_content (content D (outer D k)) refl where
    own : face_of D (outer D k) ≡ k
    own = (D_sound.outers_there k has).1

    from_content : (c : LoopContent) → content D (outer D k) ≡ c → (x : ℕ) × HasHalf D x × (face_at D x ≡ k)
    from_content (lone v) e = absurd (none_lone M D s p t sound begun (unstuck, refl) (outer D k) v e (ap (solid_of D) own ∙ of))
    from_content (cycle []) e = absurd ((D_sound.cycles (outer D k) [] (D_sound.outers_there k has).0 e).some_item refl)
    from_content (cycle (x ∷ xs)) e =
        let i : IsIn x (items_of (content D (outer D k))) = subst (λ c. IsIn x (items_of c)) (sym e) (IsIn_head x xs) in
        (x, D_sound.only_edges x (outer D k) (in-holds x (content D (outer D k)) i), ap (face_of D) (item_loop D D_sound (outer D k) x i) ∙ own)

  pub record HasOld (k : ℕ) : Type 0 where
    pub old : ℕ
    pub was : HasHalf C old
    pub at : face_at D old ≡ k

  pub some_old : (k : ℕ) → Has D.faces k → solid_of D k ≡ s → HasOld k
  some_old k has of =
      let h = some_half k has of in elim ((drawn.linked M s p t sound begun unstuck convex).news h.0 h.1) [
        | inl was ↦ record { old = h.0; was = was; at = h.2 }
        | inr l ↦ record { old = after D h.0; was = l.pair.d_there; at = drawn.next_face D D_sound h.0 h.1 ∙ h.2 }
      ]

  -- ---- a face of the drawn solid

  module _ (k : ℕ) (has : Has D.faces k) (of : solid_of D k ≡ s) (y : ℕ) (y_was : HasHalf C y) (y_at : face_at D y ≡ k) where
    pub turned : IsTurned D N k
    turned = apart.turned before after_it s p t sound made k has of

    pub face_on : are_on N (plane_of M (face_at C y)) (corners N k) ≡ true
    face_on = turned_lies D N k (plane_of M (face_at C y)) turned (all_level D (plane_of M (face_at C y)) (corners D k)
        (λ v l. next.corner_level M s p t sound begun unstuck convex (face_is_above D p k) k has of refl y y_was y_at v (IsIn-from_listed v (corners D k) l)))

    pub face_looks : IsHigh (dot (direction (plane_of M (face_at C y))) (normal N k))
    face_looks = ap (λ v. int_lt (pos 0) (dot (direction (plane_of M (face_at C y))) v)) turned.normal ∙ piece_looks M s p t sound made.0 convex (face_is_above D p k) k has of refl y y_was y_at

    face_flat : is_flat N k ≡ true
    face_flat = lies_flat N N_sound k turned.there (plane_of M (face_at C y)) face_on face_looks

    both_below : LiesBelow N (plane_of M (face_at C y)) s × LiesBelow N (plane_of M (face_at C y)) t
    both_below = let f = drawn.came_face M s p t sound begun unstuck convex y y_was (ap (solid_of D) y_at ∙ of) in
        splits_stay_below before after_it s p t (plane_of M (face_at C y)) sound made (convex.convex.below (face_at C y) f.0 f.1)

    face_below : (q : Point) → is_above (plane_of M (face_at C y)) q ≡ false → is_above (plane_of N k) q ≡ false
    face_below = under_face N N_sound k turned.there (plane_of M (face_at C y)) face_on face_looks

  -- ---- a cap

  module _ (k : ℕ) (there : Has N.faces k) (c : apart.OuterCap before after_it s p t sound made k) where
    pub stand : IsCapOf N p s (cap M s p c.index).lower × IsCapOf N p t (cap M s p c.index).upper
    stand = caps_stand before after_it s p t c.index sound made c.within c.outer

    pub looks : IsHigh (dot (direction p) (normal N (cap M s p c.index).lower)) × IsHigh (dot (direction (turned_over p)) (normal N (cap M s p c.index).upper))
    looks = cap_looks before after_it s p t sound made convex c.index c.within c.outer

    pub lower_on : are_on N p (corners N (cap M s p c.index).lower) ≡ true
    lower_on = all_level N p (corners N (cap M s p c.index).lower) stand.0.on_plane

    pub upper_on : are_on N (turned_over p) (corners N (cap M s p c.index).upper) ≡ true
    upper_on = all_level N (turned_over p) (corners N (cap M s p c.index).upper) (λ v l. on_facing true p (point_of N v) (stand.1.on_plane v l))

    lie_apart : LiesBelow N p s × LiesAbove N p t
    lie_apart = apart.split_parts_lie_apart before after_it s p t sound made

  -- ---- both

  record IsGood (k u : ℕ) : Type 0 where
    flat : is_flat N k ≡ true
    below : LiesBelow N (plane_of N k) u

  piece_good : (k : ℕ) → Has D.faces k → solid_of D k ≡ s → IsGood k s × IsGood k t
  piece_good k has of =
      let o = some_old k has of in
      let b = both_below k has of o.old o.was o.at in
      let flat = face_flat k has of o.old o.was o.at in (
        record { flat = flat; below = λ v w. face_below k has of o.old o.was o.at (point_of N v) (b.0 v w) },
        record { flat = flat; below = λ v w. face_below k has of o.old o.was o.at (point_of N v) (b.1 v w) },
      )

  cap_good : (k : ℕ) → Has N.faces k → apart.OuterCap before after_it s p t sound made k → (solid_of N k ≡ s → IsGood k s) × (solid_of N k ≡ t → IsGood k t)
  cap_good k there c =
      let w = stand k there c in let l = looks k there c in let a = lie_apart k there c in elim c.which [
        | inl e ↦ (
          λ of. subst (λ j. IsGood j s) (sym e) (record {
            flat = lies_flat N N_sound (cap M s p c.index).lower w.0.there p (lower_on k there c) l.0;
            below = λ v x. under_face N N_sound (cap M s p c.index).lower w.0.there p (lower_on k there c) l.0 (point_of N v) (a.0 v x);
          }),
          λ of. absurd (whole.apart before after_it s p t sound made (sym w.0.solid ∙ ap (solid_of N) (sym e) ∙ of)),
        )
        | inr e ↦ (
          λ of. absurd (whole.apart before after_it s p t sound made (sym of ∙ ap (solid_of N) e ∙ w.1.solid)),
          λ of. subst (λ j. IsGood j t) (sym e) (record {
            flat = lies_flat N N_sound (cap M s p c.index).upper w.1.there (turned_over p) (upper_on k there c) l.1;
            below = λ v x. under_face N N_sound (cap M s p c.index).upper w.1.there (turned_over p) (upper_on k there c) l.1 (point_of N v) (above_facing true p (point_of N v) ∙ a.1 v x);
          }),
        )
      ]

  face_good : (k : ℕ) → Has N.faces k → IsOfEither N s t k → (solid_of N k ≡ s → IsGood k s) × (solid_of N k ≡ t → IsGood k t)
  face_good k there of = elim (apart.known_face before after_it s p t sound made k there of) [
    | inl has ↦ let g = piece_good k has (apart.drawn_of before after_it s p t sound made k there of has) in (λ e. g.0, λ e. g.1)
    | inr i ↦ cap_good k there (apart.outer_cap before after_it s p t sound made k there (listed-from_in k (cap_faces (caps_of M s p)) i))
  ]

  pub both_convex : IsConvex (held after_it) s × IsConvex (held after_it) t
  both_convex = (
    record { flat = λ k there of. ((face_good k there (inl of)).0 of).flat; below = λ k there of. ((face_good k there (inl of)).0 of).below },
    record { flat = λ k there of. ((face_good k there (inr of)).1 of).flat; below = λ k there of. ((face_good k there (inr of)).1 of).below },
  )
