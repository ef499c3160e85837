-- The half-edges of the loops of a face, one loop after another.
use Rattle.session_slots.proofs.Prelude.{◌≡◌, ◌∙◌, ℕ, ◌+◌, ◌≤◌, true, false, List, [], ◌∷◌, ◌++◌, length, map, refl, sym, ap, subst, arith, append_assoc, cond, length-append, append-nil, length-map, map-append, IsRotation-length, items_of, content, rings_of, outer, halves_short, different_items, loops_of_apart, laid_over, laid_at, WritesOne, WritesFrom, AreRound, AreTold, AreRows, row_of}
use Rattle.euler_operators.specs.Table as table
use Rattle.euler_operators.specs.Common.{Model, Sound}
use Rattle.shapes.specs.Common.{items_in, loops_of}
use Rattle.session_slots.specs.declared.cycles.HalfEdgeRow.{HalfEdgeRow}
use Rattle.session_slots.proofs.Overlaid.{laid_none, laid_behind}

-- those of all loops but the ones given are written
pub record FaceRound (M : Model) (f : ℕ) (left : List ℕ) (old now : List HalfEdgeRow) (n : ℕ) : Type 0 where
  pub written : List ℕ
  pub goes : (rest : List ℕ) → AreRound M left rest → AreRound M (loops_of M f) (written ++ rest)
  pub few : length written + length (items_in M left) ≡ length (items_in M (loops_of M f))
  pub counted : n ≡ length written
  pub laid : now ≡ laid_over (map (row_of M) written) old

rows_there : (M : Model) (f : ℕ) → table.has M.faces f ≡ true → (hs : List ℕ) → AreRound M (loops_of M f) hs → AreRows f M (map (row_of M) hs)
rows_there M f there hs round = (hs, subst (λ b. AreRound M (cond b (loops_of M f) []) hs) (sym there) round, refl)

module _ (M : Model) (sound : Sound M) (f : ℕ) (old : List HalfEdgeRow) where
  pub face_start : FaceRound M f (loops_of M f) old old 0
  face_start = record { written = []; goes = λ rest r. r; few = omega arith; counted = refl; laid = sym (laid_none old) }

  module _ (left : List ℕ) (now : List HalfEdgeRow) (n : ℕ) (w : FaceRound M f left old now n) where
    pub rows_short : n ≤ 2000002
    rows_short = omega (arith, w.counted, w.few, halves_short M sound (items_in M (loops_of M f)) (different_items M sound (loops_of M f) (loops_of_apart M sound f)))

  pub face_more : (l : ℕ) (left : List ℕ) (now new : List HalfEdgeRow) (n m : ℕ) → FaceRound M f (l ∷ left) old now n → WritesFrom (AreTold row_of l M) n now new m → FaceRound M f left old new m
  face_more l left now new n m w (xs, (hs, round, told), counted, laid) =
      let rows = map (row_of M) w.written in record {
        written = w.written ++ hs;
        goes = λ rest r. subst (AreRound M (loops_of M f)) (sym (append_assoc w.written hs rest)) (w.goes (hs ++ rest) (hs, rest, round, r, refl));
        few = omega (arith, w.few, length-append w.written hs, length-append (items_of (content M l)) (items_in M left), IsRotation-length (items_of (content M l)) hs round);
        counted = omega (arith, counted, w.counted, length-append w.written hs, ap (λ (zs : List HalfEdgeRow). length zs) told, length-map hs (row_of M));
        laid = laid ∙ (λ i. laid_at ((w.counted ∙ sym (length-map w.written (row_of M))) i) (told i) (w.laid i)) ∙ laid_behind rows (map (row_of M) hs) old
            ∙ ap (λ (zs : List HalfEdgeRow). laid_over zs old) (sym (map-append (row_of M) w.written hs));
      }

  pub face_ended : table.has M.faces f ≡ true → (now : List HalfEdgeRow) (n : ℕ) → FaceRound M f [] old now n → WritesOne (AreRows f M) old now n
  face_ended there now n w =
      let all = subst (AreRound M (loops_of M f)) (append-nil w.written) (w.goes [] refl) in
      (map (row_of M) w.written, rows_there M f there w.written all, w.counted ∙ sym (length-map w.written (row_of M)), w.laid)

  -- a face that has no ring
  bare : (ls : List ℕ) → length ls ≡ 0 → ls ≡ []
  bare [] e = refl
  bare (l ∷ ls) e = absurd (omega (arith, e))

  pub face_outer : table.has M.faces f ≡ true → length (rings_of M f) ≡ 0 → (new : List HalfEdgeRow) (n : ℕ) → WritesFrom (AreTold row_of (outer M f) M) 0 old new n → WritesOne (AreRows f M) old new n
  unfolding loops_of
  face_outer there none new n (xs, (hs, round, told), counted, laid) =
      let all : AreRound M (outer M f ∷ []) hs = (hs, [], round, refl, sym (append-nil hs)) in
      let here = subst (λ (ls : List ℕ). AreRound M (outer M f ∷ ls) hs) (sym (bare (rings_of M f) none)) all in
      (map (row_of M) hs, rows_there M f there hs here, omega (arith, counted, ap (λ (zs : List HalfEdgeRow). length zs) told), laid ∙ ap (λ (zs : List HalfEdgeRow). laid_over zs old) told)

pub face_none : (M : Model) (f : ℕ) (old : List HalfEdgeRow) → table.has M.faces f ≡ false → WritesOne (AreRows f M) old old 0
face_none M f old none = ([], ([], subst (λ b. AreRound M (cond b (loops_of M f) []) []) (sym none) refl, refl), refl, sym (laid_none old))
