-- A pair joined, and a pair between which an edge is drawn.
use Rattle.split_drawing_laws.proofs.Prelude.{◌≡◌, ◌≢◌, ℕ, ◌<◌, Bool, true, false, cond, not, nat_eq, ◌&&◌, [], ◌∷◌, None, IsTrue, refl, sym, ap, ◌∙◌, arith, ◌⊎◌, inl, inr, true≢false, nat_tests, eqb_tells, eqb-false, Model, loop_of, face_of, is_number, is_ring_of, Sound, HasHalf, face_at, effect, row_of, no_row, row_elsewhere, Op, half_face, ring_is, Leads, leads_one, Taken, in_one_loop, join_pair, join_edge, draw_edge, JoinedIn, Stays, DrawnIn, AreFreeForPairs, Fits}
use Rattle.euler_operators.specs.Table as table
use Rattle.split_drawing_laws.proofs.drawings.Drawn.{CanDraw, draw_accepted, draw_sound, CanJoin, join_accepted, join_sound, face_drawn, loops_joined}
use Rattle.split_drawing_laws.proofs.drawings.Stays.{draw_stays, draw_beside, draw_within, draw_solid, draw_has, join_stays, join_beside, join_faces, join_free, stays_on}
use Rattle.split_drawing_laws.proofs.drawings.Rings.{Newer}

pub none_joined : (M : Model) (f : ℕ) → Sound M → JoinedIn M M f
none_joined M f sound = grind arith

ring_outer : (b : Bool) (f o k : ℕ) → b ≡ true → (b && nat_eq f f && not (nat_eq o k)) ≡ false → o ≡ k
ring_outer true f o k t e = grind (arith, nat_tests)
ring_outer false f o k t e = absurd (true≢false (sym t))

-- ---- a pair joined

module _ (M N : Model) (f : ℕ) (q : ℕ × ℕ) (e : ℕ) (joined : JoinedIn M N f) (fits : Fits M f q) (two : in_one_loop N q ≡ false)
    (edge_free : table.get N.edges e ≡ None) (edge_fits : IsTrue (is_number e)) where
  u_there : HasHalf N q.0
  u_there = joined.drawn.stays.halves q.0 fits.u_there

  k_there : HasHalf N q.1
  k_there = joined.drawn.stays.halves q.1 fits.k_there

  u_face : face_at N q.0 ≡ f
  u_face = joined.faces q.0 fits.u_there ∙ fits.u_face

  k_face : face_at N q.1 ≡ f
  k_face = joined.faces q.1 fits.k_there ∙ fits.k_face

  abbrev ringed : Bool
  ringed = is_ring_of N (face_at N q.0) (loop_of N q.0)

  pub can_back : is_ring_of N (face_at N q.0) (loop_of N q.0) ≡ true → CanJoin N q.1 q.0 e
  can_back r = grind (arith, k_there, u_there, k_face, u_face, ring_is, eqb-false)

  pub can_on : is_ring_of N (face_at N q.0) (loop_of N q.0) ≡ false → CanJoin N q.0 q.1 e
  can_on r = grind (arith, u_there, k_there, u_face, k_face, ring_outer, row_of, eqb-false)

  joined_on : (c d : ℕ) → CanJoin N c d e → face_at N c ≡ f → face_at N d ≡ f → JoinedIn M (loops_joined N c d e) f
  joined_on c d can at to =
      let faces : (h : ℕ) → HasHalf M h → face_at (loops_joined N c d e) h ≡ face_at M h = λ h there. join_faces N c d e can h (joined.drawn.stays.halves h there) ∙ joined.faces h there in
      let apart : (h x : ℕ) → HasHalf M h → face_at M h ≢ f → face_at N x ≡ f → loop_of N h ≢ loop_of N x = λ h x there ne of s. ne (sym (joined.faces h there) ∙ ap (face_of N) s ∙ of) in
      record {
        drawn = record {
          sound = join_sound N c d e can;
          stays = stays_on M N (loops_joined N c d e) joined.drawn.stays (join_stays N c d e can);
          beside = λ h there ne.
              ((join_beside N c d e can h (joined.drawn.stays.halves h there) (apart h c there ne at) (apart h d there ne to)).0 ∙ (joined.drawn.beside h there ne).0, faces h there);
          within = λ h there is. inl (faces h there ∙ is);
        };
        faces = faces;
      }

  -- what holds of the operator that joins two loops of f holds of the one that joins the pair
  pub joined_either : (P : Op → Type 0) → ((c d : ℕ) → CanJoin N c d e → face_at N c ≡ f → face_at N d ≡ f → P (join_edge c d e)) → P (join_pair N q e)
  joined_either P each = by_ring ringed refl where
    by_ring : (b : Bool) → ringed ≡ b → P (cond b (join_edge q.1 q.0 e) (join_edge q.0 q.1 e))
    by_ring true r = each q.1 q.0 (can_back r) k_face u_face
    by_ring false r = each q.0 q.1 (can_on r) u_face k_face

  pub pair_leads : Leads N (effect N (join_pair N q e)) (join_pair N q e ∷ [])
  pair_leads = joined_either (λ op. Leads N (effect N op) (op ∷ [])) (λ c d can at to. leads_one N (loops_joined N c d e) (join_edge c d e) (join_accepted N c d e can) refl)

  pub pair_joined : JoinedIn M (effect N (join_pair N q e)) f
  pair_joined = joined_either (λ op. JoinedIn M (effect N op) f) joined_on

  pub pair_fresh : (t : Taken) → t.edge < e → AreFreeForPairs N t → AreFreeForPairs (effect N (join_pair N q e)) (record t { edge = e })
  pair_fresh t next w = joined_either (λ op. AreFreeForPairs (effect N op) (record t { edge = e })) (λ c d can at to. join_free N c d e can t next w)

-- ---- an edge drawn between a pair

-- a face that isn't there then wasn't there before
pub was_free : (M N : Model) → Stays M N → (g : ℕ) → table.get N.faces g ≡ None → table.get M.faces g ≡ None
was_free M N stays g none = grind (arith, no_row)

module _ (N : Model) (u k e g l : ℕ) (can : CanDraw N u k e g l) where
  pub draw_leads : Leads N (face_drawn N u k e g l) (draw_edge u k e g l ∷ [])
  draw_leads = leads_one N (face_drawn N u k e g l) (draw_edge u k e g l) (draw_accepted N u k e g l can) refl

  -- the new face is one of the same solid
  pub drawn_newer : Newer N (face_drawn N u k e g l) (face_at N u) g
  drawn_newer = grind (arith, half_face, draw_has, draw_solid, can.face_free)

module _ (M N : Model) (f : ℕ) (q : ℕ × ℕ) (e g l : ℕ) (sound : Sound M) (drawn : DrawnIn M N f) (fits : Fits M f q) (can : CanDraw N q.0 q.1 e g l) where
  abbrev K : Model
  K = face_drawn N q.0 q.1 e g l

  -- what is of another face doesn't stand in u's loop
  not_there : (h : ℕ) → HasHalf M h → face_at M h ≢ f → loop_of N h ≢ loop_of N q.0
  not_there h there ne s = elim (drawn.within q.0 fits.u_there fits.u_face) [
    | inl a ↦ ne (sym (drawn.beside h there ne).1 ∙ ap (face_of N) s ∙ a)
    | inr a ↦ row_elsewhere M.faces (face_at M h) (face_at N q.0) (half_face M sound h there) a (sym (drawn.beside h there ne).1 ∙ ap (face_of N) s)
  ]

  in_face : (h : ℕ) → HasHalf M h → face_at M h ≡ f → face_at K h ≡ face_at N h → (face_at K h ≡ f) ⊎ (table.get M.faces (face_at K h) ≡ None)
  in_face h there is same = elim (drawn.within h there is) [
    | inl a ↦ inl (same ∙ a)
    | inr a ↦ inr (ap (table.get M.faces) same ∙ a)
  ]

  pub pair_drawn : DrawnIn M (face_drawn N q.0 q.1 e g l) f
  pair_drawn = record {
    sound = draw_sound N q.0 q.1 e g l can;
    stays = stays_on M N K drawn.stays (draw_stays N q.0 q.1 e g l can);
    beside = λ h there ne.
        let a = draw_beside N q.0 q.1 e g l can h (drawn.stays.halves h there) (not_there h there ne) in
        let b = drawn.beside h there ne in
        (a.0 ∙ b.0, a.1 ∙ b.1);
    within = λ h there is.
        let t : HasHalf N h = drawn.stays.halves h there in
        elim (eqb_tells (loop_of N h) (loop_of N q.0)) [
          | inl s ↦ elim (draw_within N q.0 q.1 e g l can h t s.1) [
            | inl a ↦ in_face h there is a
            | inr a ↦ inr (ap (table.get M.faces) a ∙ was_free M N drawn.stays g can.face_free)
          ]
          | inr s ↦ in_face h there is (draw_beside N q.0 q.1 e g l can h t s.1).1
        ];
  }
