-- A sound model stays sound under mef.
use Rattle.euler_laws.proofs.Prelude.{◌≡◌, ◌≢◌, ℕ, ◌+◌, ◌≤◌, List, [], ◌∷◌, ◌++◌, Some, None, is_some, IsTrue, refl, sym, ap, ◌∙◌, subst, arith, inl, inr, eqb_tells, count, tick, IsIn, IsApart, upto, onward, IsRing, mef_old, mef_new, after_mef, mate, edge_of, Model, lone, cycle, FaceRow, LoopRow, items_of, holds, tail, loop_of, content, face_of, cycle_of, after, outer, solid_of, is_number, Sound, Has, HasHalf, mef, count-append, tick_same, tick_other, count-canonical, IsRing-mef, mate_other, in-holds, holds_in, cycle_there, cycle_sound, content_cycle, content_row, face_row, row_of, solid_row, outer_row, row_elsewhere}
use Rattle.euler_operators.specs.Table as table
use Rattle.euler_laws.proofs.shared.Loops.{IsLoop, canonical_cycle, light, Walks}
use Rattle.euler_laws.proofs.shared.Rows.{count-halves, content_none}
use Rattle.euler_laws.proofs.shared.Same.{solid_at}
use Rattle.euler_laws.proofs.shared.Parts.{VerticesHold, FacesHold, RangesHold, sound_of, fit-put, fit-map, FaceSet, row_here, has_on, has_back, solid_other, outer_other}
use Rattle.euler_laws.proofs.shared.EdgeMore.{OneMore, comes, PutBefore, not_h, not_m, ring_mef-other, fans-more, fan_first, fan_second, fan_other, vertices_hold-more}
use Rattle.euler_laws.proofs.shared.EdgeLess.{ticks_apart}
use Rattle.euler_laws.proofs.shared.TwoRows.{RowsSet, row_second, row_else, content_first, face_same, has_same, OneOf, TwoRows, lone_else, lone_still, in_both, loop_both, Elsewhere, none_elsewhere, walks-rows, one_solid-rows, two_rows-more}
use Rattle.euler_laws.proofs.mef.MefUndo.{loops-mef, no_h, no_m, count-mef_old, count-mef_new}

-- what the conditions of mef say
pub record MefGoes (M : Model) (g k h f l : ℕ) : Type 0 where
  pub g_there : HasHalf M g
  pub k_there : HasHalf M k
  pub edge_free : table.get M.edges (edge_of h) ≡ None
  pub face_free : table.get M.faces f ≡ None
  pub loop_free : table.get M.loops l ≡ None
  pub one_loop : loop_of M k ≡ loop_of M g
  pub ends_apart : tail M g ≢ tail M k
  pub edge_fits : IsTrue (is_number (edge_of h))
  pub face_fits : IsTrue (is_number f)
  pub loop_fits : IsTrue (is_number l)

module _ {M : Model} (sound : Sound M) {g k h f l : ℕ} (goes : MefGoes M g k h f l) where
  abbrev pub N : Model
  N = mef M g k h f l

  abbrev pub m : ℕ
  m = mate h

  abbrev pub r : ℕ
  r = loop_of M g

  abbrev pub xs : List ℕ
  xs = cycle_of M g

  abbrev pub F : ℕ → ℕ
  F = after_mef (after M) h m g k

  pub more : OneMore M N h (tail M g) (tail M k)
  unfolding mef
  more = record { edges = refl; free = goes.edge_free; ends_apart = goes.ends_apart }

  g_in : IsIn g xs
  g_in = cycle_there M sound g goes.g_there

  k_in : IsIn k xs
  k_in = subst (λ q. IsIn k (items_of (content M q))) goes.one_loop (cycle_there M sound k goes.k_there)

  h_not_listed : count h xs ≡ 0
  h_not_listed = no_h M sound g k h f l goes.g_there goes.edge_free goes.loop_free

  mate_not_listed : count m xs ≡ 0
  mate_not_listed = no_m M sound g k h f l goes.g_there goes.edge_free goes.loop_free

  apart_xs : IsApart xs
  apart_xs = (cycle_sound M sound g goes.g_there).apart

  -- the two lists have the items of the old one, and h and its mate
  counted : (x : ℕ) → count x (mef_old h g k xs) + count x (mef_new m g k xs) ≡ tick x h + tick x m + count x xs
  counted x = omega (arith, count-mef_old x h g k xs, count-mef_new x m g k xs, count-halves x g k xs)

  apart_two : (x : ℕ) → count x (mef_old h g k xs) + count x (mef_new m g k xs) ≤ 1
  apart_two x = grind (arith, counted x, h_not_listed, tick_same h, mate_other h, mate_not_listed, tick_other x h, tick_other x m, apart_xs x)

  -- ---- loops

  abbrev kept : LoopRow
  kept = record { face = face_of M r; content = cycle (mef_old h g k xs) }

  abbrev new : LoopRow
  new = record { face = f; content = cycle (mef_new m g k xs) }

  has_r : Has M.loops r
  has_r = ap is_some (row_of M sound g goes.g_there)

  pub set : RowsSet M N r l kept (Some new)
  set = grind (arith, loops-mef, sound, goes.g_there, goes.edge_free, goes.loop_free, row_elsewhere, has_r)

  pub content_l : content N l ≡ cycle (mef_new m g k xs)
  content_l = content_row N l new (row_second set)

  content_free : content M l ≡ cycle []
  content_free = content_none M l goes.loop_free

  pub face_l : face_of N l ≡ f
  face_l = face_row N l new (row_second set)

  pub not_l : (q : ℕ) → Has M.loops q → q ≢ l
  not_l q there = row_elsewhere M.loops q l there goes.loop_free

  -- ---- walks

  count_now : (x : ℕ) → in_both N r l x ≡ count x (mef_old h g k xs) + count x (mef_new m g k xs)
  count_now x = λ i. count x (items_of (content_first set i)) + count x (items_of (content_l i))

  rows : TwoRows M N (edge_of h) r l
  rows = two_rows-more more (record {
    other_row = row_else set;
    others = λ x a. omega (arith, count_now x, counted x, ticks_apart x h a, ap (λ c. count x xs + count x (items_of c)) content_free);
    once = λ x t u. absurd (omega (arith, holds_in x (content N r) t, holds_in x (content N l) u, count_now x, apart_two x));
  }) (omega (arith, count_now h, counted h, tick_same h)) (omega (arith, count_now m, counted m, tick_same m))

  pub loop_h : loop_of N h ≡ r
  loop_h = loop_both sound rows h r (inl refl) (ap (holds h) (content_first set) ∙ in-holds h (cycle (mef_old h g k xs)) (omega (arith, count-mef_old h h g k xs, tick_same h)))

  pub loop_m : loop_of N m ≡ l
  loop_m = loop_both sound rows m l (inr refl) (ap (holds m) content_l ∙ in-holds m (cycle (mef_new m g k xs)) (omega (arith, count-mef_new m m g k xs, tick_same m)))

  two_rings : IsRing F (mef_old h g k xs) × IsRing F (mef_new m g k xs)
  two_rings = IsRing-mef h m g k xs apart_xs (mate_other h) h_not_listed mate_not_listed (after M) g_in k_in (light M sound r).1

  two_loops : (q : ℕ) → OneOf r l q → Has N.loops q → IsLoop F (content N q)
  two_loops q o there =
      let one = canonical_cycle (h ∷ onward g k xs) (λ x. omega (arith, apart_two x, count-canonical x (h ∷ onward g k xs))) h in
      let two = canonical_cycle (upto g k xs ++ m ∷ []) (λ x. omega (arith, apart_two x, count-canonical x (upto g k xs ++ m ∷ []))) m in
      grind (arith, o, content_first set, one, content_l, two, two_rings, tick_same h, tick_same m, count-append m (upto g k xs) (m ∷ []))

  other_ring : (hs : List ℕ) → Elsewhere sound rows hs → IsRing (after M) hs → IsRing F hs
  other_ring hs each t =
      let none = none_elsewhere sound rows hs each in
      ring_mef-other (after M) h m g k hs (none h (λ o. absurd (not_h (comes more) h o refl))) (none m (λ o. absurd (not_m (comes more) m o refl))) (none g (λ o. inl refl)) (none k (λ o. inl goes.one_loop)) t

  put : PutBefore M h (tail M g) (tail M k) g k
  put = record { sound = sound; first = λ o. refl; second = λ o. refl; apart = λ e. not_h (comes more) k goes.k_there (sym e) }

  walks : Walks N F
  walks = walks-rows sound rows F two_loops other_ring (fans-more more F (fan_first more put goes.g_there) (fan_second more put goes.k_there) (fan_other more put))

  -- ---- vertices

  vertices : VerticesHold N
  unfolding mef
  vertices = vertices_hold-more sound more (record {
    first_there = sound.tails_there g goes.g_there;
    second_there = sound.tails_there k goes.k_there;
    on = λ v t. t;
    back = λ v t a. t;
    lone_back = λ q v e. let o = (lone_else sound rows (content_first set) content_l q v e).0 in
        (o, λ a. sound.lone_is_no_tail q g goes.g_there (o ∙ ap lone a), λ a. sound.lone_is_no_tail q k goes.k_there (o ∙ ap lone a));
    lone_on = λ q v e a b. lone_still sound rows (content_cycle M sound g goes.g_there) content_free q v e;
  })

  -- ---- faces

  abbrev row : FaceRow
  row = record { solid = solid_of M (face_of M r); outer = l }

  face_set : FaceSet M N f (Some row)
  unfolding mef
  face_set = record { rows = record { are = refl } }

  pub not_f : (p : ℕ) → Has M.faces p → p ≢ f
  not_f p there = row_elsewhere M.faces p f there goes.face_free

  face_on : (p : ℕ) → Has M.faces p → Has N.faces p
  face_on p there = has_on face_set.rows p (not_f p there) there

  solid_new : solid_of N f ≡ solid_of M (face_of M r)
  solid_new = solid_row N f row (row_here face_set.rows)

  pub outer_new : outer N f ≡ l
  outer_new = outer_row N f row (row_here face_set.rows)

  pub face_r : Has M.faces (face_of M r)
  face_r = sound.loops_of_faces r has_r

  solid_kept : (q : ℕ) → Has M.loops q → solid_at N q ≡ solid_at M q
  solid_kept q there = ap (solid_of N) (face_same set q (not_l q there)) ∙ solid_other face_set (face_of M q) (not_f _ (sound.loops_of_faces q there))

  faces : FacesHold N
  unfolding mef
  faces = record {
    loops_of_faces = grind (arith, eqb_tells, face_l, row_here face_set.rows, face_same set, face_on, sound.loops_of_faces, has_same set);
    outers_there =
        let one = has_back face_set.rows in let two = outer_other face_set in
        grind (arith, eqb_tells, outer_new, row_second set, face_l, two, face_set, sound.outers_there, one, has_same set, not_l, face_same set);
    faces_of_solids = grind (arith, eqb_tells, solid_new, sound.faces_of_solids, face_r, solid_other face_set, face_set, has_back face_set.rows);
    solid_has_face = λ s there. let x = sound.solid_has_face s there in (x.0, face_on x.0 x.1, solid_other face_set x.0 (not_f x.0 x.1) ∙ x.2);
    one_solid = one_solid-rows sound rows (solid_at M r)
        (λ q o there. elim o [ inl e ↦ ap (solid_at N) e ∙ solid_kept r has_r | inr e ↦ ap (solid_at N) e ∙ ap (solid_of N) face_l ∙ solid_new ])
        (λ q o there. elim o [ inl e ↦ ap (solid_at M) e | inr e ↦ absurd (not_l q there e) ]) (λ q n there. solid_kept q there);
  }

  ranges : RangesHold N
  unfolding mef
  ranges = grind (arith, sound, fit-put, fit-map, goes)

  -- a sound model stays sound under mef
  pub sound-mef : Sound N
  sound-mef = sound_of N F walks vertices faces ranges
