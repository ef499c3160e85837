-- What stays beside a face in which edges are drawn: the rows of other faces and of their loops.
use Rattle.split_drawing_laws.proofs.Prelude.{◌≡◌, ◌≢◌, ℕ, true, false, cond, List, [], ◌∷◌, Option, Some, None, is_some, refl, sym, ap, ◌∙◌, subst, arith, ◌⊎◌, inl, inr, true≢false, ◌++◌, fold, option_map, eqb_tells, Table, Model, LoopRow, loop_of, face_of, content, tail, outer, cycle_of, Has, HasHalf, face_at, lists, loop_to_face, IsIn, rotate_to, upto, onward, mef_old, mef_new, plus, minus, face_row, same_face, content_row, cycle_there, outer_row, same_outer, loop_there, count-append, tick_same, from_is, rotate_to_is, count-rotate_to, count-canonical, row_elsewhere, content_either, half_face, with_rings, Stays}
use Rattle.euler_operators.specs.Table as table
use Rattle.euler_operators.specs.Common.{get-map_rows}
use Rattle.split_drawing_laws.proofs.drawings.Drawn.{CanDraw, CanJoin, face_drawn_else, loops_joined_faces, draw_sound, ring_rows, face_drawn_new, face_drawn, loops_joined}
use Rattle.split_drawing_laws.proofs.drawings.Stays.{second_in, row_old, row_new, row_else, row_joined, row_gone, row_other, stands_at, draw_beside}

-- N is M with edges drawn in face f: the faces of M keep their rows, and their loops theirs, but for those of f
pub record Beside (M N : Model) (f : ℕ) : Type 0 where
  pub faces : (g : ℕ) → Has M.faces g → table.get N.faces g ≡ table.get M.faces g
  pub loops : (q : ℕ) → Has N.loops q → face_of N q ≢ f → Has M.faces (face_of N q) → table.get N.loops q ≡ table.get M.loops q

-- face g is f, or a new one
abbrev pub ComesOf : Model → ℕ → ℕ → Type 0
ComesOf M f g = (g ≡ f) ⊎ (table.get M.faces g ≡ None)

pub nothing_beside : (M : Model) (f : ℕ) → Beside M M f
nothing_beside M f = record { faces = λ g there. refl; loops = λ q there ne old. refl }

-- a loop that keeps its row where it didn't change before
pub loop_beside : (M N K : Model) (f q : ℕ) → Beside M N f → table.get K.loops q ≡ table.get N.loops q → Has K.loops q → face_of K q ≢ f → Has M.faces (face_of K q) → table.get K.loops q ≡ table.get M.loops q
loop_beside M N K f q w same there ne old = let face = same_face N K q same in same ∙ w.loops q (ap is_some (sym same) ∙ there) (λ s. ne (face ∙ s)) (subst (Has M.faces) face old)

pub never_free : {X : Type 0} (t : Table X) (n : ℕ) → Has t n → table.get t n ≡ None → ⊥
never_free t n there free = true≢false (sym there ∙ ap is_some free)

-- ---- two loops of f joined

module _ (M N : Model) (f c d e : ℕ) (can : CanJoin N c d e) (at : face_at N c ≡ f) (w : Beside M N f) where
  abbrev J : Model
  J = loops_joined N c d e

  pub joined_beside : Beside M (loops_joined N c d e) f
  joined_beside = record {
    faces = λ g there. ap (λ t. table.get t g) (loops_joined_faces N c d e) ∙ w.faces g there;
    loops = λ q there ne old. elim (eqb_tells q (loop_of N c)) [
      | inl a ↦ absurd (ne (ap (face_of J) a.1 ∙ face_row J (loop_of N c) _ (row_joined N c d e can) ∙ at))
      | inr a ↦ elim (eqb_tells q (loop_of N d)) [
        | inl b ↦ absurd (never_free J.loops (loop_of N d) (subst (Has J.loops) b.1 there) (row_gone N c d e can))
        | inr b ↦ loop_beside M N J f q w (row_other N c d e can q a.1 b.1) there ne old
      ]
    ];
  }

-- ---- rings given to a face

-- the row of a loop then
abbrev pub given : List ℕ → ℕ → ℕ → LoopRow → LoopRow
given ls k q row = cond (lists ls q) (record row { face = k }) row

pub rows_given : (t : Table LoopRow) (ls : List ℕ) (k q : ℕ) → table.get (fold (λ t l. table.map_rows (loop_to_face l k) t) t ls) q ≡ option_map (given ls k q) (table.get t q)
rows_given t [] k q = grind arith
rows_given t (l ∷ ls) k q = rows_given (table.map_rows (loop_to_face l k) t) ls k q ∙ ap (option_map (given ls k q)) (get-map_rows (loop_to_face l k) t q) ∙ row_given (table.get t q) where
  row_given : (o : Option LoopRow) → option_map (given ls k q) (option_map (loop_to_face l k q) o) ≡ option_map (given (l ∷ ls) k q) o
  row_given None = refl
  row_given (Some row) = ap Some (grind arith)

module _ (N : Model) (ls : List ℕ) (k q : ℕ) where
  given_row : table.get (with_rings N ls k).loops q ≡ option_map (given ls k q) (table.get N.loops q)
  given_row = ap (λ X. table.get X.loops q) (ring_rows N ls k) ∙ rows_given N.loops ls k q

  pub given_content : content (with_rings N ls k) q ≡ content N q
  unfolding content
  given_content = grind (arith, given_row, content_either)

  pub given_has : table.has (with_rings N ls k).loops q ≡ table.has N.loops q
  given_has = grind (arith, given_row)

  -- another loop keeps its row
  pub given_else : lists ls q ≡ false → table.get (with_rings N ls k).loops q ≡ table.get N.loops q
  given_else e = grind (arith, given_row)

  pub given_face : lists ls q ≡ true → Has N.loops q → face_of (with_rings N ls k) q ≡ k
  unfolding face_of
  given_face e there = grind (arith, given_row)

-- ---- where a face has no ring, no face that is cut off it has one

-- loop q of N holds a half-edge of B
pub record HoldsOld (B N : Model) (q : ℕ) : Type 0 where
  pub half : ℕ
  pub old : HasHalf B half
  pub at : loop_of N half ≡ q

-- q is the outer loop of its face, and holds a half-edge of B
pub record Lone (B N : Model) (q : ℕ) : Type 0 where
  pub outer_is : outer N (face_of N q) ≡ q
  pub held : HoldsOld B N q

-- so is each loop of f, and of the faces that are new since M
abbrev pub Alone : Model → Model → Model → ℕ → Type 0
Alone B M N f = (q : ℕ) → Has N.loops q → ComesOf M f (face_of N q) → Lone B N q

in_upto : (u k : ℕ) (xs : List ℕ) → u ≢ k → IsIn u xs → IsIn u (upto u k xs)
in_upto u k xs ne i = grind (arith, rotate_to_is, tick_same)

in_onward : (u k : ℕ) (xs : List ℕ) → IsIn k xs → IsIn k (onward u k xs)
in_onward u k xs i = subst (IsIn k) (sym (from_is k (rotate_to u xs) (omega (arith, i, count-rotate_to k u xs)))) (omega (arith, tick_same k))

-- ---- an edge drawn in f, or in a face that is new since

module _ (N : Model) (u k e g l : ℕ) (can : CanDraw N u k e g l) where
  abbrev K : Model
  K = face_drawn N u k e g l

  pub old_loop_face : face_of (face_drawn N u k e g l) (loop_of N u) ≡ face_at N u
  old_loop_face = face_row K (loop_of N u) _ (row_old N u k e g l can)

  pub new_loop_face : face_of (face_drawn N u k e g l) l ≡ g
  new_loop_face = face_row K l _ (row_new N u k e g l can)

  module _ (M : Model) (f : ℕ) (drawn : ComesOf M f (face_at N u)) (new : table.get M.faces g ≡ None) (w : Beside M N f) where
    not_drawn : (h : ℕ) → h ≢ f → Has M.faces h → face_at N u ≢ h
    not_drawn h ne old s = grind (arith, never_free)

    pub drawn_beside : Beside M (face_drawn N u k e g l) f
    drawn_beside = record {
      faces = λ h there. face_drawn_else N u k e g l h (λ s. never_free M.faces h there (ap (table.get M.faces) s ∙ new)) ∙ w.faces h there;
      loops = λ q there ne old. elim (eqb_tells q (loop_of N u)) [
        | inl a ↦ absurd (not_drawn (face_of K q) ne old (sym (ap (face_of K) a.1 ∙ old_loop_face)))
        | inr a ↦ elim (eqb_tells q l) [
          | inl b ↦ absurd (never_free M.faces (face_of K q) old (ap (table.get M.faces) (ap (face_of K) b.1 ∙ new_loop_face) ∙ new))
          | inr b ↦ loop_beside M N K f q w (row_else N u k e g l can q a.1 b.1) there ne old
        ]
      ];
    }

  -- u's part of the loop is that of the new face, and k's stays
  pub u_goes : loop_of (face_drawn N u k e g l) u ≡ l
  u_goes = stands_at K (draw_sound N u k e g l can) u l (mef_new (minus e) u k (cycle_of N u)) (content_row K l _ (row_new N u k e g l can))
      (omega (arith, in_upto u k (cycle_of N u) (λ s. can.apart (ap (tail N) s)) (cycle_there N can.sound u can.u_there), count-canonical u (upto u k (cycle_of N u) ++ minus e ∷ []), count-append u (upto u k (cycle_of N u)) (minus e ∷ [])))

  pub k_stays : loop_of (face_drawn N u k e g l) k ≡ loop_of N u
  k_stays = stands_at K (draw_sound N u k e g l can) k (loop_of N u) (mef_old (plus e) u k (cycle_of N u)) (content_row K (loop_of N u) _ (row_old N u k e g l can))
      (omega (arith, in_onward u k (cycle_of N u) (second_in N u k e g l can), count-canonical k (plus e ∷ onward u k (cycle_of N u))))

  -- a face of N keeps its outer loop
  pub outer_kept : (h : ℕ) → Has N.faces h → outer (face_drawn N u k e g l) h ≡ outer N h
  outer_kept h there = same_outer N K h (face_drawn_else N u k e g l h (row_elsewhere N.faces h g there can.face_free))

  module _ (B M : Model) (f : ℕ) (stays : Stays B N) (u_old : HasHalf B u) (k_old : HasHalf B k) (drawn : ComesOf M f (face_at N u)) (a : Alone B M N f) where
    at_new : Lone B K l
    at_new = record {
      outer_is = ap (outer K) new_loop_face ∙ outer_row K g _ (face_drawn_new N u k e g l);
      held = record { half = u; old = u_old; at = u_goes };
    }

    at_old : Lone B K (loop_of N u)
    at_old = record {
      outer_is = ap (outer K) old_loop_face ∙ outer_kept (face_at N u) (half_face N can.sound u can.u_there) ∙ (a (loop_of N u) (loop_there N can.sound u can.u_there) drawn).outer_is;
      held = record { half = k; old = k_old; at = k_stays };
    }

    at_other : (q : ℕ) → q ≢ loop_of N u → q ≢ l → Has K.loops q → ComesOf M f (face_of K q) → Lone B K q
    at_other q x y there d =
        let same : table.get K.loops q ≡ table.get N.loops q = row_else N u k e g l can q x y in
        let face : face_of K q ≡ face_of N q = same_face N K q same in
        let was : Has N.loops q = ap is_some (sym same) ∙ there in
        let r : Lone B N q = a q was (subst (ComesOf M f) face d) in
        record {
          outer_is = ap (outer K) face ∙ outer_kept (face_of N q) (can.sound.loops_of_faces q was) ∙ r.outer_is;
          held = record {
            half = r.held.half;
            old = r.held.old;
            at = (draw_beside N u k e g l can r.held.half (stays.halves r.held.half r.held.old) (λ s. x (sym r.held.at ∙ s))).0 ∙ r.held.at;
          };
        }

    pub draw_alone : Alone B M (face_drawn N u k e g l) f
    draw_alone q there d = elim (eqb_tells q (loop_of N u)) [
      | inl x ↦ subst (Lone B K) (sym x.1) at_old
      | inr x ↦ elim (eqb_tells q l) [
        | inl y ↦ subst (Lone B K) (sym y.1) at_new
        | inr y ↦ at_other q x.1 y.1 there d
      ]
    ]
