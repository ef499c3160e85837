-- What a drawing keeps that speaks of the places still open: the half-edges of the pairs between which edges are still to be drawn.
use Rattle.split_drawing_laws.proofs.Prelude.{◌≡◌, ◌≢◌, ℕ, ◌+◌, ◌≤◌, Bool, true, false, cond, List, [], ◌∷◌, ◌++◌, length, None, IsTrue, refl, sym, subst, arith, nat_eq, nat_lt, ◌&&◌, fold, map, eqb-true, append_assoc, append-nil, Plane, count, tick, IsIn, Model, loop_of, is_number, is_ring_of, Sound, face_at, has_rings, effect, ring_in, count-append, tick_same, Drawing, in_one_loop, join_next, draw_next, stuck_at, all_joined, ring_free, all_drawn, rings_above, with_rings, drawn_between, FacePairs, next_drawn, join_edge, join_pair, Fits, AllFit, AllOf, ends, all_ends, DrawnIn, JoinedIn, Joining, Going, Ready, Drawable}
use Rattle.euler_operators.specs.Table as table
use Rattle.split_drawing_laws.proofs.drawings.Drawn.{CanDraw, CanJoin, face_drawn, loops_joined}
use Rattle.split_drawing_laws.proofs.drawings.Pairs.{can_back, can_on}
use Rattle.split_drawing_laws.proofs.drawings.Passes.{all_of_last, edge_free, edge_fits_now, joins_keep, can_now, draws_keep}
use Rattle.split_drawing_laws.proofs.drawings.Rings.{Newer, RingOf, rings_keep}
use Rattle.split_drawing_laws.proofs.drawings.Faces.{fitting, going_free, are_rings, above_apart, last, newer_face, begun_joining}
use Rattle.split_drawing_laws.proofs.drawings.Whole.{ready, drawable_on, next_is}

-- the open places without c and d
abbrev pub Closes : ℕ → ℕ → List ℕ → List ℕ → Type 0
Closes c d places rest = (x : ℕ) → count x places ≡ count x rest + tick x c + tick x d

-- P speaks of where a drawing is stuck, of its model and of the open places. It stays as loops are joined and edges drawn between good pairs, as the
-- drawing gets stuck, and as rings are moved
pub record IsKept (Good : ℕ × ℕ → Type 0) (P : ℕ → Model → List ℕ → Type 0) : Type 0 where
  pub turned : (c d : ℕ) → Good (c, d) → Good (d, c)
  pub join : (n : ℕ) (N : Model) (c d e : ℕ) (places rest : List ℕ) → CanJoin N c d e → Good (c, d) → Closes c d places rest → P n N places → P n (loops_joined N c d e) rest
  pub draw : (n : ℕ) (N : Model) (c d e f l : ℕ) (places rest : List ℕ) → CanDraw N c d e f l → Good (c, d) → Closes c d places rest → P n N places → P n (face_drawn N c d e f l) rest
  pub stop : (f : ℕ) (d : Drawing) (places rest : List ℕ) → f ≢ 0 → ((x : ℕ) → count x rest ≤ count x places) → P d.stuck d.model places → P (stuck_at f d).stuck d.model rest
  pub move : (n : ℕ) (M : Model) (f k : ℕ) (N : Model) (l : ℕ) (places : List ℕ) → DrawnIn M N f → RingOf N f l → Newer M N f k → P n N places → P n (ring_in N l k) places

count-ends : (x : ℕ) (as_ bs : List (ℕ × ℕ)) → count x (ends (as_ ++ bs)) ≡ count x (ends as_) + count x (ends bs)
count-ends x [] bs = omega arith
count-ends x (q ∷ qs) bs = let s : count x (ends (qs ++ bs)) ≡ count x (ends qs) + count x (ends bs) = count-ends x qs bs in omega (arith, s)

module _ (p : Plane) (Good : ℕ × ℕ → Type 0) (P : ℕ → Model → List ℕ → Type 0) (kept : IsKept Good P) where
  -- ---- the two passes over the pairs of a face

  module _ (others : List ℕ) (M : Model) (f : ℕ) where
    abbrev now : List (ℕ × ℕ) → List ℕ
    now qs = ends qs ++ others

    closed_between : (ls : List (ℕ × ℕ)) (q : ℕ × ℕ) (qs : List (ℕ × ℕ)) → Closes q.0 q.1 (now (ls ++ q ∷ qs)) (now (ls ++ qs))
    closed_between ls q qs x = omega (arith, count-append x (ends (ls ++ q ∷ qs)) others, count-append x (ends (ls ++ qs)) others, count-ends x ls (q ∷ qs), count-ends x ls qs)

    pair_kept : (n : ℕ) (N : Model) (q : ℕ × ℕ) (e : ℕ) (places rest : List ℕ) → JoinedIn M N f → Fits M f q → in_one_loop N q ≡ false → table.get N.edges e ≡ None → IsTrue (is_number e) →
        Good q → Closes q.0 q.1 places rest → P n N places → P n (effect N (join_pair N q e)) rest
    pair_kept n N q e places rest joined fits two free efits good closes a = by_ring (is_ring_of N (face_at N q.0) (loop_of N q.0)) refl where
      by_ring : (b : Bool) → is_ring_of N (face_at N q.0) (loop_of N q.0) ≡ b → P n (effect N (cond b (join_edge q.1 q.0 e) (join_edge q.0 q.1 e))) rest
      by_ring true r = kept.join n N q.1 q.0 e places rest (can_back M N f q e joined fits two free efits r) (kept.turned q.0 q.1 good) (λ x. omega (arith, closes x)) a
      by_ring false r = kept.join n N q.0 q.1 e places rest (can_on M N f q e joined fits two free efits r) good closes a

    abbrev AtJoin : Drawing → List (ℕ × ℕ) → Type 0
    AtJoin d qs = AllOf Good d.left × P d.stuck d.model (now (d.left ++ qs)) × AllOf Good qs

    joined_kept : (d : Drawing) (qs : List (ℕ × ℕ)) (n : ℕ) → AllFit M f qs → Joining M f d qs n → AtJoin d qs → AtJoin (fold join_next d qs) []
    joined_kept = joins_keep M f AtJoin
        (λ d q qs n fits w e a. (all_of_last Good d.left q a.0 a.2.0, subst (λ ps. P d.stuck d.model (now ps)) (sym (append_assoc d.left (q ∷ []) qs)) a.1, a.2.1))
        (λ d q qs n fits w e a. (
          a.0,
          pair_kept d.stuck d.model q (d.taken.edge + 1) (now (d.left ++ q ∷ qs)) (now (d.left ++ qs)) w.joined fits e (edge_free M f d q qs n fits w) (edge_fits_now M f d q qs n fits w) a.2.0 (closed_between d.left q qs) a.1,
          a.2.1,
        ))

    abbrev AtDraw : Drawing → List (ℕ × ℕ) → Type 0
    AtDraw d qs = P d.stuck d.model (now qs) × AllOf Good qs

    drawn_kept : f ≢ 0 → (d : Drawing) (qs : List (ℕ × ℕ)) (n : ℕ) → Sound M → AllFit M f qs → Going M f d qs n → AtDraw d qs → AtDraw (fold (draw_next f) d qs) []
    drawn_kept some d qs n sound fit w a = draws_keep M f AtDraw sound
        (λ d q qs n fits w e a. (kept.stop f d (now (q ∷ qs)) (now qs) some (λ x. omega (arith, closed_between [] q qs x)) a.0, a.1.1))
        (λ d q qs n fits w e a. (
          kept.draw d.stuck d.model q.0 q.1 (d.taken.edge + 1) (d.taken.face + 1) (d.taken.loop + 1) (now (q ∷ qs)) (now qs) (can_now M f sound d q qs n fits w e) a.1.0 (closed_between [] q qs) a.0,
          a.1.1,
        )) d qs n fit w a

  -- ---- a whole face

  module _ (others : List ℕ) (f : ℕ) (qs : List (ℕ × ℕ)) (d : Drawing) (n : ℕ) (w : Ready p f qs d n) (some : f ≢ 0) (good : AllOf Good qs) (begun : P d.stuck d.model (ends qs ++ others)) where
    abbrev J : Drawing
    J = all_joined qs d

    abbrev R : Drawing
    R = ring_free f qs J

    abbrev L : Drawing
    L = all_drawn f R

    at_joined : AtJoin others d.model f J []
    at_joined = joined_kept others d.model f (record d { left = [] }) qs n w.fit (begun_joining p f qs d n w) (tt, begun, good)

    abbrev Left : Drawing → Type 0
    Left x = AtDraw others d.model f x x.left

    at_left : Left (ring_free f qs (all_joined qs d))
    at_left = left_or_stuck (nat_lt 1 (length qs) && has_rings J.model f) (subst (λ ps. P J.stuck J.model (ends ps ++ others)) (append-nil J.left) at_joined.1, at_joined.0) where
      left_or_stuck : (b : Bool) → Left J → Left (cond b (stuck_at f J) J)
      left_or_stuck true a = (kept.stop f J (ends J.left ++ others) (ends J.left ++ others) some (λ x. omega arith) a.0, a.1)
      left_or_stuck false a = a

    at_drawn : P L.stuck L.model others
    at_drawn = (drawn_kept others d.model f some R R.left n w.sound (fitting p f qs d n w) (going_free p f qs d n w) at_left).0

    face_kept : P (drawn_between p f qs d).stuck (drawn_between p f qs d).model others
    face_kept = shared_or_not (nat_eq (length qs) 1) refl where
      shared_or_not : (b : Bool) → nat_eq (length qs) 1 ≡ b → let S = cond b (record L { model = with_rings L.model (rings_above L.model p f) L.taken.face }) L in P S.stuck S.model others
      shared_or_not true e = rings_keep d.model f L.taken.face (λ X. P L.stuck X others) (λ N l drawn ring newer. kept.move L.stuck d.model f L.taken.face N l others drawn ring newer)
          L.model (rings_above L.model p f) (last p f qs d n w).drawn (are_rings p f qs d n w) (above_apart p f qs d n w) (newer_face p f qs d n w (eqb-true (length qs) 1 e)) at_drawn
      shared_or_not false e = at_drawn

  -- ---- one face after the other

  pub faces_kept : (d : Drawing) (fs : List FacePairs) (n : ℕ) → Drawable d fs n → ((f : ℕ) → IsIn f (map (λ f. f.face) fs) → f ≢ 0) → AllOf (λ f. AllOf Good f.pairs) fs →
      P d.stuck d.model (all_ends fs) → P (fold (next_drawn p) d fs).stuck (fold (next_drawn p) d fs).model []
  faces_kept d [] n w some good a = a
  faces_kept d (f ∷ fs) n w some good a = faces_kept (next_drawn p d f) fs n (drawable_on p d f fs n w) (λ g i. some g (omega (arith, i))) good.1
      (subst (λ x. P x.stuck x.model (all_ends fs)) (sym (next_is p d f fs n w))
      (face_kept (all_ends fs) f.face f.pairs d _ (ready p d f fs n w) (some f.face (omega (arith, tick_same f.face))) good.0 a))
