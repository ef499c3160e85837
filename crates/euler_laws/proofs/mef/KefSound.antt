-- A sound model stays sound under kef.
use Rattle.euler_laws.proofs.Prelude.{◌≡◌, ◌≢◌, ℕ, ◌+◌, List, [], ◌++◌, None, is_some, refl, sym, ap, ◌∙◌, subst, arith, ◌⊎◌, inl, inr, count, tick, IsIn, IsApart, canonical, rest, IsRing, after_kef, kef_ring, mef_old, mef_new, mate, edge_of, Model, LoopContent, cycle, LoopRow, items_of, loop_of, content, face_of, cycle_of, after, outer, solid_of, tail, Sound, Has, HasHalf, face_at, kef, mef, edge_row, count-append, tick_same, IsIn_or_not, count-canonical, count_at, IsRing-kef, mate_other, mate-mate, row_elsewhere, in-holds, holds_in, cycle_there, cycle_sound, content_cycle, row_of, mate_there, mef-kef}
use Rattle.euler_operators.specs.Table as table
use Rattle.euler_laws.proofs.shared.Fans.{half_after, loop_after}
use Rattle.euler_laws.proofs.shared.Loops.{IsLoop, canonical_cycle, light}
use Rattle.euler_laws.proofs.shared.Same.{solid_at}
use Rattle.euler_laws.proofs.shared.Rows.{held_row, content_none, face_there, edge_there, both_back, put_again}
use Rattle.euler_laws.proofs.shared.Parts.{VerticesHold, FacesHold, RangesHold, sound_of, fit-remove, fit-map, FaceSet, row_here, has_on, has_back, solid_other, outer_other}
use Rattle.euler_laws.proofs.shared.EdgeLess.{OneLess, ticks_apart, next_other, ring_kef-other, fans-less, vertices_hold-less, other_edge, half_old, tail_old, edge_gone}
use Rattle.euler_laws.proofs.shared.TwoRows.{RowsSet, row_second, row_else, content_first, face_same, has_same, OneOf, TwoRows, lone_else, lone_still, in_both, loop_both, Elsewhere, none_elsewhere, walks-rows, one_solid-rows, two_rows-less}
use Rattle.euler_laws.proofs.mef.MefUndo.{loops-mef}
use Rattle.euler_laws.proofs.mef.MefSound.{MefGoes}
use Rattle.euler_laws.proofs.shared.Undo.{same_model}

-- what the conditions of kef say
pub record KefGoes (M : Model) (h : ℕ) : Type 0 where
  pub h_there : HasHalf M h
  pub faces_apart : face_at M h ≢ face_at M (mate h)
  pub no_rings : (q : ℕ) → Has M.loops q → face_of M q ≡ face_at M (mate h) → outer M (face_at M (mate h)) ≡ q

module _ (M : Model) (sound : Sound M) (h : ℕ) (goes : KefGoes M h) where
  abbrev pub N : Model
  N = kef M h

  abbrev pub m : ℕ
  m = mate h

  abbrev pub r : ℕ
  r = loop_of M h

  abbrev pub s : ℕ
  s = loop_of M m

  abbrev pub f : ℕ
  f = face_of M s

  abbrev pub xs : List ℕ
  xs = cycle_of M h

  abbrev pub ys : List ℕ
  ys = cycle_of M m

  abbrev pub zs : List ℕ
  zs = kef_ring h m xs ys

  abbrev pub F : ℕ → ℕ
  F = after_kef (after M) h m

  pub m_there : HasHalf M m
  m_there = mate_there M h goes.h_there

  pub r_s : r ≢ s
  r_s e = goes.faces_apart (ap (face_of M) e)

  pub h_in : IsIn h xs
  h_in = cycle_there M sound h goes.h_there

  pub m_in : IsIn m ys
  m_in = cycle_there M sound m m_there

  pub apart_both : IsApart (xs ++ ys)
  apart_both x =
      let one_r = sound.one_loop x r in let one_s = sound.one_loop x s in let holds_r = in-holds x (content M r) in let holds_s = in-holds x (content M s) in
      let first = (cycle_sound M sound h goes.h_there).apart x in let second = (cycle_sound M sound m m_there).apart x in
      grind (arith, IsIn_or_not x xs, IsIn_or_not x ys, r_s, one_r, one_s, holds_r, holds_s, first, second, count-append x xs ys)

  pub count_zs : (x : ℕ) → count x zs + tick x h + tick x m ≡ count x xs + count x ys
  count_zs x = omega (arith, count-canonical x (rest m ys ++ rest h xs), count-append x (rest m ys) (rest h xs), count_at x h xs h_in, count_at x m ys m_in)

  pub apart_zs : IsApart (rest m ys ++ rest h xs)
  apart_zs x = omega (arith, count-append x (rest m ys) (rest h xs), count_at x h xs h_in, count_at x m ys m_in, apart_both x, count-append x xs ys)

  -- after(h) isn't the mate, nor after(m) h, since the loops differ; nor is either itself
  pub after_h : after M h ≢ m
  after_h e = r_s (sym (loop_after M sound h goes.h_there) ∙ ap (loop_of M) e)

  pub after_m : after M m ≢ h
  after_m e = r_s (sym (sym (loop_after M sound m m_there) ∙ ap (loop_of M) e))

  pub h_on : after M h ≢ h
  h_on = next_other M sound h goes.h_there

  pub m_on : after M m ≢ m
  m_on = next_other M sound m m_there

  pub less : OneLess M N h
  unfolding kef
  less = record { edges = refl; there = goes.h_there }

  -- ---- loops

  abbrev pub kept : LoopRow
  kept = record { face = face_of M r; content = cycle zs }

  rejoin : List ℕ → LoopContent
  rejoin hs = cycle (canonical (rest m ys ++ rest h hs))

  pub loops_are : N.loops ≡ table.remove (table.put M.loops r kept) s
  unfolding kef rejoin
  loops_are = ap (λ t. table.remove t s) (held_row M sound h goes.h_there rejoin)

  pub has_r : Has M.loops r
  has_r = ap is_some (row_of M sound h goes.h_there)

  pub set : RowsSet M N r s kept None
  set = record { are = loops_are; apart = r_s; there = has_r; face = refl }

  content_s : content N s ≡ cycle []
  content_s = content_none N s (row_second set)

  not_s : (q : ℕ) → Has N.loops q → q ≢ s
  not_s q there = row_elsewhere N.loops q s there (row_second set)

  -- ---- walks

  count_now : (x : ℕ) → in_both N r s x ≡ count x zs + 0
  count_now x = λ i. count x (items_of (content_first set i)) + count x (items_of (content_s i))

  gone : (x : ℕ) → (x ≡ h) ⊎ (x ≡ m) → in_both N r s x ≡ 0
  gone x o = grind (arith, count_now x, count_zs x, tick_same x, apart_both x, count-append x xs ys)

  rows : TwoRows M N (edge_of h) r s
  rows = two_rows-less less (record {
    other_row = row_else set;
    others = λ x a. omega (arith, count_now x, count_zs x, ticks_apart x h a);
    once = λ x t u. let i : IsIn x [] = subst (λ c. IsIn x (items_of c)) content_s (holds_in x (content N s) u) in absurd (omega (arith, i));
  }) (omega (arith, h_in)) (omega (arith, m_in)) (gone h (inl refl)) (gone m (inr refl))

  pub loop_joined : (x : ℕ) → edge_of x ≢ edge_of h → IsIn x xs ⊎ IsIn x ys → loop_of N x ≡ r
  loop_joined x a i = grind (arith, loop_both sound rows x r, in-holds x (content N r), content_first set, count_zs x, ticks_apart x h a)

  zs_item : (x : ℕ) × IsIn x (rest m ys ++ rest h xs)
  unfolding after
  zs_item = grind (arith, goes.h_there, half_after M sound h goes.h_there, count-append (after M h) (rest m ys) (rest h xs), h_in, h_on)

  two_loops : (q : ℕ) → OneOf r s q → Has N.loops q → IsLoop F (content N q)
  two_loops q o there =
      let one = canonical_cycle (rest m ys ++ rest h xs) apart_zs zs_item.0 zs_item.1 in
      let two = IsRing-kef (after M) h m xs ys apart_both h_in m_in (mate_other h) (light M sound r).1 (light M sound s).1 in
      grind (arith, o, content_first set, one, two, not_s q there)

  other_ring : (hs : List ℕ) → Elsewhere sound rows hs → IsRing (after M) hs → IsRing F hs
  other_ring hs each t = let none = none_elsewhere sound rows hs each in ring_kef-other (after M) h m hs (none h (λ o. inl refl)) (none m (λ o. inr refl)) t

  -- ---- vertices

  vertices : VerticesHold N
  unfolding kef
  vertices = vertices_hold-less sound less {q = r} {k = s} (record {
    vertices = refl;
    lone_back = λ p v e. inl (lone_else sound rows (content_first set) content_s p v e).0;
    lone_on = lone_still sound rows (content_cycle M sound h goes.h_there) (content_cycle M sound m m_there);
    first_lone = λ e. absurd (after_m e);
    second_lone = λ e. absurd (after_h e);
  })

  -- ---- faces

  pub face_set : FaceSet M N f None
  unfolding kef
  face_set = record { rows = record { are = refl } }

  not_f : (p : ℕ) → Has N.faces p → p ≢ f
  not_f p there = row_elsewhere N.faces p f there (row_here face_set.rows)

  face_back : (p : ℕ) → Has N.faces p → Has M.faces p
  face_back p there = has_back face_set.rows p (not_f p there) there

  -- the face that goes has one loop
  pub face_f : Has M.faces f
  face_f = sound.loops_of_faces s (ap is_some (row_of M sound m m_there))

  pub outer_f : outer M f ≡ s
  outer_f = goes.no_rings s (ap is_some (row_of M sound m m_there)) refl

  face_not_f : (q : ℕ) → Has M.loops q → q ≢ s → face_of M q ≢ f
  face_not_f q there a e = a (sym (goes.no_rings q there e) ∙ outer_f)

  pub one_side : solid_of M (face_of M r) ≡ solid_of M f
  one_side = sound.one_solid h goes.h_there

  pub solid_loop : (q : ℕ) → Has M.loops q → q ≢ s → solid_at N q ≡ solid_at M q
  solid_loop q there a = ap (solid_of N) (face_same set q a) ∙ solid_other face_set (face_of M q) (face_not_f q there a)

  faces : FacesHold N
  unfolding kef
  faces = record {
    loops_of_faces = grind (arith, not_s, has_same set, face_same set, has_on face_set.rows, face_not_f, sound.loops_of_faces);
    outers_there = grind (arith, not_f, sound.outers_there, face_back, outer_other face_set, face_set, has_same set, face_same set);
    faces_of_solids = λ p there. subst (Has M.solids) (sym (solid_other face_set p (not_f p there))) (sound.faces_of_solids p (face_back p there));
    solid_has_face =
        grind (arith, sound.solid_has_face, has_on face_set.rows, goes.faces_apart, sound.loops_of_faces r has_r, solid_other face_set, one_side);
    one_solid = one_solid-rows sound rows (solid_at M r)
        (λ q o there. elim o [ inl e ↦ ap (solid_at N) e ∙ solid_loop r has_r r_s | inr e ↦ absurd (not_s q there e) ])
        (λ q o there. elim o [ inl e ↦ ap (solid_at M) e | inr e ↦ ap (solid_at M) e ∙ sym one_side ]) (λ q n there. solid_loop q there n.1);
  }

  ranges : RangesHold N
  unfolding kef
  ranges =
      grind (arith, sound.solids_fit, fit-remove, sound.faces_fit, fit-map, sound.loops_fit, sound.edges_fit, sound.vertices_fit, sound.points_fit)

  -- a sound model stays sound under kef
  pub sound-kef : Sound N
  sound-kef = sound_of N F (walks-rows sound rows F two_loops other_ring (fans-less sound less)) vertices faces ranges

  -- ---- mef takes it back

  abbrev g : ℕ
  g = after M m

  abbrev k : ℕ
  k = after M h

  g_in : IsIn g (cycle_of M m)
  g_in = subst (λ q. IsIn g (items_of (content M q))) (loop_after M sound m m_there) (cycle_there M sound g (half_after M sound m m_there))

  k_in : IsIn k (cycle_of M h)
  k_in = subst (λ q. IsIn k (items_of (content M q))) (loop_after M sound h goes.h_there) (cycle_there M sound k (half_after M sound h goes.h_there))

  loop_g : loop_of N g ≡ r
  loop_g = loop_joined g (other_edge g h after_m m_on) (inr g_in)

  tail_g : tail N g ≡ tail M h
  tail_g = tail_old less g (other_edge g h after_m m_on) ∙ sound.ends_meet m m_there ∙ ap (tail M) (mate-mate h)

  tail_k : tail N k ≡ tail M m
  tail_k = tail_old less k (other_edge k h h_on after_h) ∙ sound.ends_meet h goes.h_there

  pub put_goes : MefGoes N g k h f s
  put_goes =
      let g_other = other_edge g h after_m m_on in let k_other = other_edge k h h_on after_h in
      let g_old = half_old less g (half_after M sound m m_there) g_other in let k_old = half_old less k (half_after M sound h goes.h_there) k_other in
      let k_loop = loop_joined k k_other (inl k_in) in let ends = sound.ends_differ h goes.h_there in
      let edge = sound.edges_fit (edge_of h) goes.h_there in let face = sound.faces_fit f face_f in let row = sound.loops_fit s (ap is_some (row_of M sound m m_there)) in
      grind (arith, g_old, k_old, k_loop, ends, edge, face, row, edge_gone less, row_here face_set.rows, row_second set, loop_g, tail_g, tail_k)

  abbrev K : Model
  K = mef N g k h f s

  cycle_g : cycle_of N g ≡ kef_ring h m (cycle_of M h) (cycle_of M m)
  cycle_g = ap (λ q. items_of (content N q)) loop_g ∙ ap items_of (content_first set)

  lists_back : (mef_old h g k (kef_ring h m (cycle_of M h) (cycle_of M m)) ≡ cycle_of M h) × (mef_new m g k (kef_ring h m (cycle_of M h) (cycle_of M m)) ≡ cycle_of M m)
  unfolding after
  lists_back =
      let t = mef-kef h m (cycle_of M h) (cycle_of M m) apart_both h_in m_in m_on h_on in
      (t.0 ∙ (cycle_sound M sound h goes.h_there).from_least, t.1 ∙ (cycle_sound M sound m m_there).from_least)

  loops-back : K.loops ≡ M.loops
  loops-back =
      let a : mef_old h g k (cycle_of N g) ≡ cycle_of M h = ap (mef_old h g k) cycle_g ∙ lists_back.0 in
      let b : mef_new m g k (cycle_of N g) ≡ cycle_of M m = ap (mef_new m g k) cycle_g ∙ lists_back.1 in
      let c : face_of N (loop_of N g) ≡ face_of M r = ap (face_of N) loop_g ∙ face_same set r r_s in
      loops-mef N sound-kef g k h f s put_goes.g_there put_goes.edge_free put_goes.loop_free
      ∙ (λ i. table.put (table.put N.loops (loop_g i) (record { face = c i; content = cycle (a i) })) s (record { face = f; content = cycle (b i) }))
      ∙ ap (λ t. table.put (table.put t r (record { face = face_of M r; content = cycle (cycle_of M h) })) s (record { face = f; content = cycle (cycle_of M m) })) loops_are
      ∙ both_back M.loops r s _ _ _ r_s (row_of M sound h goes.h_there) (row_of M sound m m_there)

  faces-back : K.faces ≡ M.faces
  unfolding mef kef
  faces-back = put_again M.faces f (record { solid = solid_of M f; outer = outer M f }) (record { solid = solid_of N (face_at N g); outer = s }) (face_there M f face_f)
      (λ i. record { solid = (ap (λ q. solid_of N (face_of N q)) loop_g ∙ solid_loop r has_r r_s ∙ one_side) i; outer = sym outer_f i })

  edges-back : K.edges ≡ M.edges
  unfolding mef kef
  edges-back = put_again M.edges (edge_of h) (edge_row h (tail M h) (tail M m)) (edge_row h (tail N g) (tail N k)) (edge_there M h goes.h_there) (λ i. edge_row h (tail_g i) (tail_k i))

  pub mef-after-kef : mef (kef M h) g k h f s ≡ M
  unfolding mef kef
  mef-after-kef = same_model K M refl faces-back loops-back edges-back refl
