-- The edges that are drawn in the faces that straddle a plane lie on the plane.
use Rattle.command_laws.proofs.Prelude.{◌≡◌, ◌⊎◌, ℕ, Bool, true, refl, sym, ap, ◌∙◌, inl, inr, Plane, is_on, plus, minus, Model, point_of, tail, ring_in, Sound, HasHalf, start, straddling_pairs, undrawn, with_crossings, with_drawings, CanBegin, DrawnIn, Stays, side_of, Crosses, face_drawn, loops_joined, Newer, RingOf, ring_back, ring_goes, ring_stays, draw_stays, draw_tails, join_stays, join_tails, start_stays, stays_on, drawable, take_sides, halves_drawn, halves_joined, can_be_drawn}
use Rattle.split_drawing_laws.proofs.loop_sides.Between.{IsKept, faces_kept}
use Rattle.split_drawing_laws.proofs.loop_sides.SidesWhole.{crosses_back}

-- N is B with edges drawn: each half-edge that is new starts on the plane
pub record IsDrawnOn (B : Model) (p : Plane) (N : Model) : Type 0 where
  pub stays : Stays B N
  pub news : (x : ℕ) → HasHalf N x → HasHalf B x ⊎ (is_on p (start N x) ≡ true)

module _ (B : Model) (p : Plane) (first : ℕ → Bool) where
  -- ---- one edge more, between c and d

  module _ (N K : Model) (c d e : ℕ) (c_there : HasHalf B c) (d_there : HasHalf B d) (c_on : is_on p (start B c) ≡ true) (d_on : is_on p (start B d) ≡ true) (w : IsDrawnOn B p N) (stays : Stays N K)
      (cases : (x : ℕ) → HasHalf K x → HasHalf N x ⊎ ((x ≡ plus e) ⊎ (x ≡ minus e))) (tails : (tail K (plus e) ≡ tail N c) × (tail K (minus e) ≡ tail N d)) where
    then_stays : Stays B K
    then_stays = stays_on B N K w.stays stays

    on_plane : (x y : ℕ) → HasHalf B y → tail K x ≡ tail N y → is_on p (start B y) ≡ true → is_on p (start K x) ≡ true
    on_plane x y there same on = ap (is_on p) (ap (point_of K) (same ∙ w.stays.tails y there ∙ sym (then_stays.tails y there)) ∙ start_stays B K then_stays y there) ∙ on

    new_starts : (x : ℕ) → HasHalf K x → HasHalf B x ⊎ (is_on p (start K x) ≡ true)
    new_starts x there = elim (cases x there) [
      | inl old ↦ elim (w.news x old) [
        | inl was ↦ inl was
        | inr on ↦ inr (ap (is_on p) (start_stays N K stays x old) ∙ on)
      ]
      | inr new ↦ elim new [
        | inl is ↦ inr (on_plane x c c_there (ap (tail K) is ∙ tails.0) c_on)
        | inr is ↦ inr (on_plane x d d_there (ap (tail K) is ∙ tails.1) d_on)
      ]
    ]

    one_more : IsDrawnOn B p K
    one_more = record { stays = then_stays; news = new_starts }

  ring_on : (M : Model) (f k : ℕ) (N : Model) (l : ℕ) → DrawnIn M N f → RingOf N f l → Newer M N f k → IsDrawnOn B p N → IsDrawnOn B p (ring_in N l k)
  ring_on M f k N l drawn ring newer w =
      let goes = ring_goes M N f l k drawn ring newer in
      let stays = ring_stays N l k drawn.sound goes in
      record {
        stays = stays_on B N (ring_in N l k) w.stays stays;
        news = λ x there. let old = ring_back N l k drawn.sound goes x there in elim (w.news x old) [
          | inl was ↦ inl was
          | inr on ↦ inr (ap (is_on p) (start_stays N (ring_in N l k) stays x old) ∙ on)
        ];
      }

  new_edges_kept : IsKept (Crosses B p first) (λ n N places. IsDrawnOn B p N)
  new_edges_kept = record {
    turned = crosses_back B p first;
    join = λ n N c d e places rest can cross closes w.
        one_more N (loops_joined N c d e) c d e cross.u_there cross.k_there cross.u_on cross.k_on w (join_stays N c d e can) (halves_joined N c d e can) (join_tails N c d e can);
    draw = λ n N c d e f l places rest can cross closes w.
        one_more N (face_drawn N c d e f l) c d e cross.u_there cross.k_there cross.u_on cross.k_on w (draw_stays N c d e f l can) (halves_drawn N c d e f l can) (draw_tails N c d e f l can);
    stop = λ f d places rest some less w. w;
    move = λ n M f k N l places drawn ring newer w. ring_on M f k N l drawn ring newer w;
  }

-- ---- the faces of a solid that straddle

pub drawings_on : (M : Model) (s : ℕ) (p : Plane) (t : ℕ) → Sound M → CanBegin M s p t → IsDrawnOn (with_crossings M s p).model p (with_drawings M s p).model
unfolding with_drawings
drawings_on M s p t sound begun =
    let C : Model = (with_crossings M s p).model in let sides = take_sides M s p t sound begun in
    faces_kept p (Crosses C p (side_of M s p)) (λ n N places. IsDrawnOn C p N) (new_edges_kept C p (side_of M s p)) (undrawn (with_crossings M s p)) (straddling_pairs M s p) 0
    (drawable (with_crossings M s p) (straddling_pairs M s p) (can_be_drawn M s p t sound begun)) sides.some sides.cross
    (record { stays = record { halves = λ h there. there; tails = λ h there. refl; vertices = refl; faces = λ g there. there }; news = λ x there. inl there })
