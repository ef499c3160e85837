-- The loops of a face swept one after the other: what is ready for each, and what stays from there on.
use Rattle.command_laws.proofs.Prelude.{◌≡◌, ◌≢◌, ℕ, zero, suc, ◌+◌, ◌≤◌, ◌<◌, List, [], ◌∷◌, ◌++◌, None, refl, sym, ap, subst, ◌∙◌, arith, length, length-append, append-nil, length-map, Point, count, IsIn, edge_of, Table, Model, FaceRow, items_of, tail, content, solid_of, rings_of, Sound, Has, tick_same, count-append, IsIn_rest, IsIn_head, content_row, start, loops_of, vertices_on, vertices_in, Taken, Growing, growing, taken_in, raised, prism_from, prism_refusal, greatest-put_last, filled, filled_greatest, side_face, faces_grown, start_kept, IsPathOf, swept, keeps_swept, face_old, loop_old, rings_old, there_after, solid_after, HasFree, faces_within, tail_within, taken_after}
use Rattle.euler_operators.specs.Table as table
use Rattle.sweeps_laws.proofs.prism.Accepted.{face_there, begins}
use Rattle.sweeps_laws.proofs.prism.Whole as stages
use Rattle.sweeps_laws.proofs.Whole as loops

-- the loops ls of face f are still to be swept along d
pub record Ready (f s : ℕ) (d : Point) (g : Growing) (ls : List ℕ) : Type 0 where
  pub going : stages.Going g.model g.model g.taken f d ls
  pub there : Has g.model.faces f
  pub solid : solid_of g.model f ≡ s
  pub last : table.greatest g.model.faces ≡ g.taken.face

-- Y is X with the loops ls swept: what the numbers up to those taken name is as it was, but for these loops
pub record Later (X Y : Model) (c : Taken) (ls : List ℕ) : Type 0 where
  pub faces : (k : ℕ) → k ≤ c.face → table.get Y.faces k ≡ table.get X.faces k
  pub rings : (k : ℕ) → k ≤ c.face → rings_of Y k ≡ rings_of X k
  pub loops : (q : ℕ) → q ≤ c.loop → count q ls ≡ 0 → table.get Y.loops q ≡ table.get X.loops q
  pub starts : (h : ℕ) → edge_of h ≤ c.edge → start Y h ≡ start X h

-- as many rows put after the greatest number make it as much greater
filled_last : (t : Table FaceRow) (a : ℕ) (x : ℕ → FaceRow) → table.greatest t ≤ a → (n : ℕ) → 0 < n → table.greatest (filled t a x n) ≡ a + n
filled_last t a x low zero l = absurd (omega arith)
filled_last t a x low (suc n) l = grind (arith, greatest-put_last, filled_greatest)

-- ---- one loop

module _ {f s : ℕ} (d : Point) {g : Growing} {l : ℕ} {ls : List ℕ} (w : Ready f s d g (l ∷ ls)) where
  abbrev pub items : List ℕ
  items = items_of (content g.model l)

  abbrev pub path : IsPathOf g.model f l (items_of (content g.model l))
  path = loops.path g.model f d w.going

  abbrev pub has_free : HasFree g.model g.taken
  has_free = loops.has_free g.model f d w.going

  abbrev pub swept_once : Model
  swept_once = swept g.model g.taken (solid_of g.model f) d (items_of (content g.model l)) f l

  abbrev pub next : Growing
  next = record { model = swept g.model g.taken (solid_of g.model f) d (items_of (content g.model l)) f l; taken = taken_after g.taken (length (items_of (content g.model l))) }

  pub raised_is : raised f d g l ≡ record { model = swept g.model g.taken (solid_of g.model f) d (items_of (content g.model l)) f l; taken = taken_after g.taken (length (items_of (content g.model l))) }
  unfolding raised
  raised_is = refl

  pub after_ready : Ready f s d (record { model = swept g.model g.taken (solid_of g.model f) d (items_of (content g.model l)) f l; taken = taken_after g.taken (length (items_of (content g.model l))) }) ls
  after_ready = record {
    going = stages.rebased g.model swept_once (taken_after g.taken (length items)) f d ls (stages.next g.model g.model g.taken f l d ls w.going);
    there = there_after g.model g.taken (solid_of g.model f) d items f l has_free path w.there;
    solid = solid_after g.model g.taken (solid_of g.model f) d items f l has_free path w.there ∙ w.solid;
    last = ap table.greatest (faces_grown g.model g.taken (solid_of g.model f) d items (length items))
        ∙ filled_last g.model.faces g.taken.face (side_face g.model g.taken (solid_of g.model f) d items) (faces_within has_free) (length items) path.some_item;
  }

  pub after_later : Later g.model (swept g.model g.taken (solid_of g.model f) d (items_of (content g.model l)) f l) g.taken (l ∷ [])
  after_later = record {
    faces = λ k m. face_old g.model g.taken (solid_of g.model f) d items f l k m;
    rings = λ k m. rings_old g.model g.taken (solid_of g.model f) d items f l has_free path k m;
    loops = λ q m z. loop_old g.model g.taken (solid_of g.model f) d items f l q (apart_from q z) m;
    starts = λ h m. start_kept (keeps_swept g.model g.taken (solid_of g.model f) d items f l) (tail_within has_free) h m;
  } where
    apart_from : (q : ℕ) → count q (l ∷ []) ≡ 0 → q ≢ l
    apart_from q z e = absurd (omega (arith, z, tick_same l, ap (λ x. count x (l ∷ [])) e))

-- ---- all of them

later_on : (X Y Z : Model) (c : Taken) (n l : ℕ) (ls : List ℕ) → Later X Y c (l ∷ []) → Later Y Z (taken_after c n) ls → Later X Z c (l ∷ ls)
later_on X Y Z c n l ls a b = grind (arith, a.faces, b.faces, a.rings, b.rings, a.loops, b.loops, a.starts, b.starts)

module _ (f s : ℕ) (d : Point) where
  pub later_all : (ls ms : List ℕ) (g : Growing) → Ready f s d g (ls ++ ms) → Later g.model (prism_from f d g ls).model g.taken ls
  later_all [] ms g w = record { faces = λ k m. refl; rings = λ k m. refl; loops = λ q m z. refl; starts = λ h m. refl }
  later_all (l ∷ ls) ms g w = subst (λ x. Later g.model (prism_from f d x ls).model g.taken (l ∷ ls)) (sym (raised_is d w))
      (later_on g.model (swept_once d w) (prism_from f d (next d w) ls).model g.taken (length (items d w)) l ls
      (after_later d w) (later_all ls ms (next d w) (after_ready d w)))

  pub later_whole : (ls : List ℕ) (g : Growing) → Ready f s d g ls → Later g.model (prism_from f d g ls).model g.taken ls
  later_whole ls g w = later_all ls [] g (subst (Ready f s d g) (sym (append-nil ls)) w)

  pub ready_all : (ls ms : List ℕ) (g : Growing) → Ready f s d g (ls ++ ms) → Ready f s d (prism_from f d g ls) ms
  ready_all [] ms g w = w
  ready_all (l ∷ ls) ms g w = subst (λ x. Ready f s d (prism_from f d x ls) ms) (sym (raised_is d w)) (ready_all ls ms (next d w) (after_ready d w))

  pub from_append : (ls ms : List ℕ) (g : Growing) → prism_from f d g (ls ++ ms) ≡ prism_from f d (prism_from f d g ls) ms
  from_append [] ms g = refl
  from_append (l ∷ ls) ms g = from_append ls ms (raised f d g l)

  -- a face more for each corner
  pub taken_all : (M : Model) (ls ms : List ℕ) (g : Growing) → Ready f s d g (ls ++ ms) → ((q : ℕ) → IsIn q ls → content g.model q ≡ content M q) → (prism_from f d g ls).taken.face ≡ g.taken.face + length (vertices_in M ls)
  taken_all M [] ms g w same = grind (arith)
  taken_all M (l ∷ ls) ms g w same =
      let n = length (items d w) in
      ap (λ x. (prism_from f d x ls).taken.face) (raised_is d w)
      ∙ taken_all M ls ms (next d w) (after_ready d w) (λ q i. still q i ∙ same q (IsIn_rest q l ls i))
      ∙ sum g.taken.face n (length (vertices_in M ls)) (length (vertices_in M (l ∷ ls)))
      (length-append (vertices_on M (content M l)) (vertices_in M ls) ∙ ap (λ k. k + length (vertices_in M ls)) corner_many) where
        still : (q : ℕ) → IsIn q ls → content (swept_once d w) q ≡ content g.model q
        still q i =
            let at : IsIn q (ls ++ ms) = omega (arith, i, count-append q ls ms) in
            content_row (swept_once d w) q _ ((stages.next g.model g.model g.taken f l d (ls ++ ms) w.going).rows q at) ∙ sym (w.going.contents q (IsIn_rest q l (ls ++ ms) at))

        corner_many : length (vertices_on M (content M l)) ≡ length (items d w)
        corner_many = ap (λ x. length (vertices_on M x)) (sym (same l (IsIn_head l ls)) ∙ (path d w).content) ∙ length-map (items d w) (tail M)

        sum : (a n m k : ℕ) → k ≡ n + m → (a + n) + m ≡ a + k
        sum a n m k e = omega (arith, e)

-- a sweep that isn't refused begins so
pub sweep_ready : (M : Model) (f : ℕ) (d : Point) → Sound M → prism_refusal M f d ≡ None → Ready f (solid_of M f) d (growing M) (loops_of M f)
unfolding taken_in
sweep_ready M f d sound goes = record {
  going = begins M f d sound goes;
  there = face_there M f d sound goes;
  solid = refl;
  last = refl;
}

pub face_counted : (M : Model) → (taken_in M).face ≡ table.greatest M.faces
unfolding taken_in
face_counted M = refl
