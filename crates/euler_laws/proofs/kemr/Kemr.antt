-- kemr as an operator: it keeps a model sound, and mekr passes its conditions after it and takes it back.
use Rattle.euler_laws.proofs.Prelude.{◌≡◌, ◌≢◌, ℕ, ◌≤◌, true, List, [], ◌∷◌, ◌++◌, Some, None, is_some, IsTrue, refl, sym, ap, ◌∙◌, subst, arith, ne_eqb, eq-eqb, eqb-true, not-true, count, IsIn, IsApart, head_or, canonical, rotate_to, between, beyond, HalfEdge, Corner, code, half, mate, edge_of, Model, cycle, LoopRow, items_of, tail, loop_of, content, cycle_of, face_of, outer, is_number, Sound, Has, HasHalf, first_false, conditions, corner_tail, corner_loop, corner_list, corner_known, corner_lone, corner_number, is_lone, effect, inverse, kemr, mekr, corner_of, cycle_or_lone, edge_row, tick_same, rotate_to_canonical, canonical-rotate_to, ring_split, nat_eq_itself, edge_of-code, code-half, mate-mate, mate_other, two_undone, no_row, row_of, Kemr, Mekr}
use Rattle.euler_operators.specs.Table as table
use Rattle.euler_laws.proofs.shared.Goes.{all_hold, none_refuses, not_false, taken}
use Rattle.euler_laws.proofs.shared.Parts.{outer_stays}
use Rattle.euler_laws.proofs.shared.EdgeLess.{edge_gone, half_cases, tail_old}
use Rattle.euler_laws.proofs.shared.TwoRows.{RowsSet, row_first, row_second, content_first, face_same}
use Rattle.euler_laws.proofs.kemr.KemrSound as parted
use Rattle.euler_laws.proofs.kemr.KemrSound.{KemrGoes, sound-kemr}
use Rattle.euler_laws.proofs.shared.Undo.{same_model}
use Rattle.euler_laws.proofs.shared.Rows.{put_again, edge_there, half_of, of_half}
use Rattle.euler_laws.proofs.shared.Lawful.{IsLawful}

-- a corner of loop q at vertex v, from which the loop reads zs
pub record CornerAt (N : Model) (c : Corner) (q v : ℕ) (zs : List ℕ) : Type 0 where
  pub loop : corner_loop N c ≡ q
  pub vertex : corner_tail N c ≡ v
  pub list : corner_list N c ≡ zs
  pub known : (corner_known N c).holds ≡ true
  pub bare : (corner_lone N c).holds ≡ true
  pub fits : is_number (corner_number c) ≡ true

-- the corner before the first item of a loop, or of the loop where it is lone
pub corner_here : (N : Model) → Sound N → (zs : List ℕ) (q v : ℕ) → content N q ≡ cycle_or_lone zs v → Has N.loops q → IsApart zs → ((y : ℕ) → IsIn y zs → (loop_of N y ≡ q) × HasHalf N y) → ((y : ℕ) (ys : List ℕ) → zs ≡ y ∷ ys → tail N y ≡ v) →
    CornerAt N (corner_of zs q) q v zs
corner_here N sound [] q v e there d each first = grind (arith, there, is_lone, sound.loops_fit)
corner_here N sound (y ∷ ys) q v e there d each first =
    let o = each y (omega (arith, tick_same y)) in
    let t : HasHalf N (code (half y)) = subst (HasHalf N) (sym (code-half y)) o.1 in
    record {
      loop = ap (loop_of N) (code-half y) ∙ o.0;
      vertex = ap (tail N) (code-half y) ∙ first y ys refl;
      list = ap (λ z. rotate_to z (cycle_of N z)) (code-half y) ∙ ap (λ l. rotate_to y (items_of (content N l))) o.0 ∙ ap (λ c. rotate_to y (items_of c)) e ∙ rotate_to_canonical y ys d;
      known = of_half N (half y) t;
      bare = refl;
      fits = ap is_number (sym (edge_of-code (half y))) ∙ sound.edges_fit (edge_of (code (half y))) t;
    }

-- what the conditions of mekr ask
pub record MekrGoes (N : Model) (c d : Corner) (h q l u w : ℕ) (ys xs : List ℕ) : Type 0 where
  pub first : CornerAt N c q u ys
  pub second : CornerAt N d l w xs
  pub edge_free : table.get N.edges (edge_of h) ≡ None
  pub edge_fits : IsTrue (is_number (edge_of h))
  pub loops_apart : q ≢ l
  pub one_face : face_of N q ≡ face_of N l
  pub ring_there : Has N.loops l
  pub no_outer : outer N (face_of N l) ≢ l
  pub ends_apart : u ≢ w

pub mekr_accepted : (N : Model) (c d : Corner) (h : HalfEdge) (q l u w : ℕ) (ys xs : List ℕ) → MekrGoes N c d (code h) q l u w ys xs → first_false N (Mekr c d h) ≡ None
unfolding first_false conditions
mekr_accepted N c d h q l u w ys xs goes =
    grind (arith, none_refuses, edge_of-code, goes, goes.first, goes.second, taken, not_false, ne_eqb, eq-eqb, nat_eq_itself)

pub kemr_goes : (M : Model) (h : HalfEdge) (l : ℕ) → first_false M (Kemr h l) ≡ None → KemrGoes M (code h) l
unfolding first_false conditions
kemr_goes M h l e = grind (arith, all_hold (conditions M (Kemr h l)) e, half_of, not-true, no_row, eqb-true)

module _ {M : Model} (sound : Sound M) {h l : ℕ} (goes : KemrGoes M h l) where
  abbrev pub N : Model
  N = kemr M h l

  abbrev pub m : ℕ
  m = mate h

  abbrev pub r : ℕ
  r = loop_of M h

  abbrev pub Y : List ℕ
  Y = beyond h m (cycle_of M h)

  abbrev pub X : List ℕ
  X = between h m (cycle_of M h)

  sound-N : Sound N
  sound-N = sound-kemr M sound h l goes

  abbrev set : RowsSet M N r l (parted.kept M sound h l goes) (Some (parted.new M sound h l goes))
  set = parted.set M sound h l goes

  part_apart : (x : ℕ) → (count x X ≤ 1) × (count x Y ≤ 1)
  part_apart x = (omega (arith, parted.count_xs M sound h l goes x, (parted.cyc M sound h l goes).apart x), omega (arith, parted.count_xs M sound h l goes x, (parted.cyc M sound h l goes).apart x))

  old_tail : (y k : ℕ) → HasHalf N y → tail M y ≡ k → tail N y ≡ k
  old_tail y k t e = tail_old (parted.less M sound h l goes) y (half_cases (parted.less M sound h l goes) y t).1 ∙ e

  each_Y : (y : ℕ) → IsIn y Y → (loop_of N y ≡ r) × HasHalf N y
  each_Y y i = let p = parted.in_Y M sound h l goes y i in (sound-N.one_loop y r p, sound-N.only_edges y r p)

  each_X : (y : ℕ) → IsIn y X → (loop_of N y ≡ l) × HasHalf N y
  each_X y i = let p = parted.in_X M sound h l goes y i in (sound-N.one_loop y l p, sound-N.only_edges y l p)

  first_Y : (y : ℕ) (ys : List ℕ) → Y ≡ y ∷ ys → tail N y ≡ tail M h
  first_Y y ys e = old_tail y (tail M h) (each_Y y (subst (IsIn y) (sym e) (omega (arith, tick_same y)))).1
      (ap (tail M) (sym (parted.after_m M sound h l goes ∙ ap (head_or h) e)) ∙ sound.ends_meet m (parted.m_there M sound h l goes) ∙ ap (tail M) (mate-mate h))

  first_X : (y : ℕ) (ys : List ℕ) → X ≡ y ∷ ys → tail N y ≡ tail M m
  first_X y ys e = old_tail y (tail M m) (each_X y (subst (IsIn y) (sym e) (omega (arith, tick_same y)))).1
      (ap (tail M) (sym (parted.after_h M sound h l goes ∙ ap (head_or m) e)) ∙ sound.ends_meet h goes.h_there)

  pub put_goes : MekrGoes N (corner_of Y r) (corner_of X l) h r l (tail M h) (tail M m) Y X
  put_goes = record {
    first = corner_here N sound-N Y r (tail M h) (content_first set) (ap is_some (row_first set)) (λ x. (part_apart x).1) each_Y first_Y;
    second = corner_here N sound-N X l (tail M m) (parted.content_l M sound h l goes) (ap is_some (row_second set)) (λ x. (part_apart x).0) each_X first_X;
    edge_free = edge_gone (parted.less M sound h l goes);
    edge_fits = sound.edges_fit (edge_of h) goes.h_there;
    loops_apart = parted.r_l M sound h l goes;
    one_face = face_same set r (parted.r_l M sound h l goes) ∙ sym (parted.face_l M sound h l goes);
    ring_there = ap is_some (row_second set);
    no_outer = λ e. parted.not_l M sound h l goes (outer M (face_of M r)) (sound.outers_there (face_of M r) (sound.loops_of_faces r (parted.has_r M sound h l goes))).0
        (sym (outer_stays sound (parted.faces_stay M sound h l goes) (face_of M r)) ∙ ap (outer N) (sym (parted.face_l M sound h l goes)) ∙ e);
    ends_apart = sound.ends_differ h goes.h_there;
  }

  abbrev C : Corner
  C = corner_of Y r

  abbrev D : Corner
  D = corner_of X l

  abbrev K : Model
  K = mekr N C D h

  whole : canonical ((h ∷ X) ++ m ∷ Y) ≡ cycle_of M h
  whole = ap canonical (sym (ring_split h m (cycle_of M h) (parted.h_in M sound h l goes) (parted.m_in M sound h l goes) (mate_other h)))
      ∙ canonical-rotate_to h (cycle_of M h) (parted.cyc M sound h l goes).apart ∙ (parted.cyc M sound h l goes).from_least

  joined : canonical ((h ∷ corner_list N D) ++ m ∷ corner_list N C) ≡ cycle_of M h
  joined = (λ i. canonical ((h ∷ put_goes.second.list i) ++ m ∷ put_goes.first.list i)) ∙ whole

  loops_put : (q : ℕ) (k : ℕ) (row : LoopRow) → corner_loop N C ≡ q → corner_loop N D ≡ k → (record { face = face_of N q; content = cycle (canonical ((h ∷ corner_list N D) ++ m ∷ corner_list N C)) }) ≡ row → K.loops ≡ table.remove (table.put N.loops q row) k
  unfolding mekr
  loops_put q k row a b e = grind arith

  loops-back : K.loops ≡ M.loops
  loops-back =
      let f : face_of N r ≡ face_of M r = face_same set r (parted.r_l M sound h l goes) in
      loops_put r l (record { face = face_of M r; content = cycle (cycle_of M h) }) put_goes.first.loop put_goes.second.loop (λ i. record { face = f i; content = cycle (joined i) })
      ∙ ap (λ t. table.remove (table.put t r (record { face = face_of M r; content = cycle (cycle_of M h) })) l) (parted.loops_are M sound h l goes)
      ∙ two_undone M.loops r l _ _ _ (parted.r_l M sound h l goes) (row_of M sound h goes.h_there) goes.loop_free

  edges-back : K.edges ≡ M.edges
  unfolding mekr kemr
  edges-back = put_again M.edges (edge_of h) (edge_row h (tail M h) (tail M m)) (edge_row h (corner_tail N C) (corner_tail N D)) (edge_there M h goes.h_there) (λ i. edge_row h (put_goes.first.vertex i) (put_goes.second.vertex i))

  pub mekr-kemr_back : mekr (kemr M h l) (corner_of Y r) (corner_of X l) h ≡ M
  unfolding mekr kemr
  mekr-kemr_back = same_model K M refl refl loops-back edges-back refl

-- ---- kemr

pub kemr_lawful : (h : HalfEdge) (l : ℕ) → IsLawful (Kemr h l)
unfolding effect inverse
kemr_lawful h l M sound e = let w = kemr_goes M h l e in record {
  sound = sound-kemr M sound (code h) l w;
  goes = mekr_accepted (kemr M (code h) l) _ _ h _ _ _ _ _ _ (put_goes sound w);
  undone = mekr-kemr_back sound w;
}
