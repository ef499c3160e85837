-- An edge and the vertex at its far end killed by the writers of an arena.
use Rattle.low_euler.proofs.Prelude.{◌≡◌, ◌≢◌, ℕ, true, false, cond, nat_eq, nat_lt, List, [], ◌∷◌, ◌++◌, None, unwrap_or, refl, sym, ap, subst, ◌∙◌, arith, ◌⊎◌, inl, inr, nat_tests, eqb_tells, count, IsIn, IsApart, canonical, rest, rotate_to, successor, predecessor, without, HalfEdge, code, mate, edge_of, is_first, plus, minus, Model, LoopContent, cycle, no_edge, items_of, holds, tail, tail_in, loop_of, face_of, content, round, arc, HasHalf, effect, kev, cycle_or_lone, tick_other, IsIn_or_not, next_is_successor, IsIn_successor, predecessor-successor, count_at, count-canonical, IsApart-canonical, canonical-rotates, rest_same, without_none, count-without, upto_once, mate_other, mate-mate, get-remove_here, get-remove_other, in-holds, holds-none, cycle_there, mate_there as half_mate, Kev, Fan, half_after, none_in_fan, apart_out, arc_is, same_loops, same_edges, taken_out, KevGoes, fan_killed, m_in, touched, emptied, half_cases, tail_old, edge_gone, edge_mapped, not_m, cycle_filled, mapped_some, kev_goes, Store, take_edge, take_vertex, Accepts, after as after_op, LoopsStandApart, IsStanding, take_out, kill_edge, with_tails_at}
use Rattle.euler_operators.specs.Common.{after}
use Rattle.euler_operators.specs.Items.{before as before_item, after as after_item}
use Rattle.euler_operators.specs.Table as table
use Rattle.euler_laws.proofs.kev.KevSound as kill
use Rattle.low_euler.proofs.steps_laws.Spots.{spots}
use Rattle.low_euler.proofs.steps_laws.RingSteps.{upto_before}
use Rattle.low_euler.proofs.steps_laws.LooseRings.{edge_gone as both_gone}
use Rattle.low_euler.proofs.steps_laws.LoopsApart.{HasLoop, placed_of, placed-same, loop-same, content-same, face_of-same, never_zero, standing_of, same_or_lone, placed-taken, loop-taken, content-O, face-O, has-O}
use Rattle.low_euler.proofs.steps_laws.Tails.{cond_same, loops-tails, half-tails, edges-tails, tail-tails}

-- ---- items taken out of a list

out_here : (x z : ℕ) (zs : List ℕ) → x ≡ z → without x (z ∷ zs) ≡ zs
out_here x z zs e = let t : nat_eq x z ≡ true = grind (arith, nat_tests, e) in ap (λ b. cond b [] (z ∷ before_item x zs) ++ cond b zs (after_item x zs)) t

out_past : (x z : ℕ) (zs : List ℕ) → x ≢ z → without x (z ∷ zs) ≡ z ∷ without x zs
out_past x z zs e = let t : nat_eq x z ≡ false = grind (arith, nat_tests, e) in ap (λ b. cond b [] (z ∷ before_item x zs) ++ cond b zs (after_item x zs)) t

-- two are taken out in either order
out_turned : (x y : ℕ) (zs : List ℕ) → without x (without y zs) ≡ without y (without x zs)
out_turned x y [] = refl
out_turned x y (z ∷ zs) = grind (arith, eqb_tells x z, eqb_tells y z, out_here x z, out_here y z, out_past x z, out_past y z, out_turned x y zs)

-- ---- half-edges taken out of what a loop holds

-- what a loop holds once x is taken out, which started at v
abbrev less : ℕ → ℕ → LoopContent → LoopContent
less x v c = cond (holds x c) (cycle_or_lone (without x (items_of c)) v) c

less_in : (x v : ℕ) (c : LoopContent) → IsIn x (items_of c) → less x v c ≡ cycle_or_lone (without x (items_of c)) v
less_in x v c i = ap (λ b. cond b (cycle_or_lone (without x (items_of c)) v) c) (in-holds x c i)

less_none : (x v : ℕ) (c : LoopContent) → count x (items_of c) ≡ 0 → less x v c ≡ c
less_none x v c n = ap (λ b. cond b (cycle_or_lone (without x (items_of c)) v) c) (holds-none x c n)

canonical_less : (x : ℕ) (ws : List ℕ) → IsApart ws → IsIn x ws → canonical (without x (canonical ws)) ≡ canonical (without x ws)
canonical_less x ws d i =
    taken_out (canonical ws) (IsApart-canonical ws d) x (omega (arith, count-canonical x ws))
    ∙ ap canonical (sym (rest_same x ws (canonical ws) (canonical-rotates ws) d i)) ∙ sym (taken_out ws d x i)

-- m, which isn't alone in a loop, and then h
less_both : (h m u w : ℕ) (c : LoopContent) → IsApart (items_of c) → IsIn h (items_of c) ⊎ IsIn m (items_of c) → (IsIn m (items_of c) → without m (items_of c) ≢ []) →
    less h u (less m w c) ≡ cycle_or_lone (without m (without h (items_of c))) u
less_both h m u w c d i filled = elim (IsIn_or_not m (items_of c)) [
  | inl a ↦ ap (less h u) (less_in m w c a ∙ cycle_filled ws w (filled a)) ∙ second (filled a)
  | inr a ↦ ap (less h u) (less_none m w c a) ∙ elim i [
    | inl b ↦ less_in h u c b ∙ ap (λ q. cycle_or_lone (without h q) u) (sym (without_none m (items_of c) a))
    | inr b ↦ absurd (omega arith)
  ]
] ∙ ap (λ q. cycle_or_lone q u) (out_turned h m (items_of c)) where
  ws : List ℕ
  ws = without m (items_of c)

  second : ws ≢ [] → less h u (cycle (canonical ws)) ≡ cycle_or_lone (without h ws) u
  second some = elim (IsIn_or_not h ws) [
    | inl b ↦ less_in h u (cycle (canonical ws)) (omega (arith, count-canonical h ws))
        ∙ same_or_lone (without h (canonical ws)) (without h ws) u (canonical_less h ws (apart_out m (items_of c) d) b)
    | inr b ↦ less_none h u (cycle (canonical ws)) (count-canonical h ws ∙ b) ∙ sym (ap (λ q. cycle_or_lone q u) (without_none h ws b) ∙ cycle_filled ws u some)
  ]

less_neither : (h m u w : ℕ) (c : LoopContent) → count h (items_of c) ≡ 0 → count m (items_of c) ≡ 0 → less h u (less m w c) ≡ c
less_neither h m u w c a b = ap (less h u) (less_none m w c b) ∙ less_none h u c a

module _ (s : Store) (half : HalfEdge) (ok : Accepts s (Kev half)) where
  open s use {model as M}
  open ok.ready use {sound, bare}
  open spots s (code half) use {h, m, u, w}

  abbrev arc' : List ℕ
  arc' = arc s.model (after s.model (code half)) (mate (code half))

  pub goes : KevGoes s.model (code half)
  goes = kev_goes s.model half sound ok.holds

  placed_M : LoopsStandApart M
  placed_M = placed_of M sound

  -- what the readers and the walk ask
  pub mate_there : HasHalf s.model (mate (code half))
  mate_there = half_mate M h goes.h_there

  pub half_looped : loop_of s.model (code half) ≢ 0
  half_looped = never_zero M placed_M h (sound.stands h goes.h_there)

  pub following_there : HasHalf s.model (after s.model (code half))
  following_there = half_after M sound h goes.h_there

  pub one_tail : tail s.model (mate (code half)) ≡ tail s.model (after s.model (code half))
  one_tail = sym (sound.ends_meet h goes.h_there)

  -- the steps
  abbrev pub moved : Store
  moved = with_tails_at s arc' u

  abbrev first_out : Store
  first_out = take_out moved m

  abbrev pub edgeless : Store
  edgeless = kill_edge moved h

  abbrev G : Model
  G = edgeless.model

  -- what the edge that is killed asks
  loops_moved : moved.model.loops ≡ M.loops
  loops_moved = loops-tails s arc' u

  placed_moved : LoopsStandApart moved.model
  placed_moved = placed-same M moved.model loops_moved (half-tails s arc' u) placed_M

  mate_in : HasLoop moved.model m
  mate_in = loop-same M moved.model loops_moved m (sound.stands m mate_there)

  pub mate_stands : IsStanding moved.model m
  mate_stands = standing_of moved.model placed_moved m mate_in

  placed_first : LoopsStandApart first_out.model
  placed_first = placed-taken moved placed_moved m mate_in

  half_in : HasLoop first_out.model h
  half_in = loop-taken moved placed_moved m mate_in h (mate_other h) (loop-same M moved.model loops_moved h (sound.stands h goes.h_there))

  pub half_stands : IsStanding first_out.model h
  half_stands = standing_of first_out.model placed_first h half_in

  -- ---- edges

  abbrev vs : List ℕ
  vs = (fan_killed M sound h goes).items

  arc_rest : arc' ≡ rest m vs
  arc_rest =
      let f : Fan (after M) M w = fan_killed M sound h goes in
      let mi : IsIn m vs = m_in M sound h goes in
      let g : after M h ≡ successor vs m = ap (after M) (sym (mate-mate h)) ∙ next_is_successor (round M) vs m f.ring mi in
      let gi : IsIn (after M h) vs = subst (λ y. IsIn y vs) (sym g) (IsIn_successor m vs mi) in
      let p : predecessor vs (after M h) ≡ m = ap (predecessor vs) g ∙ predecessor-successor m vs f.apart mi in
      let r : rotate_to (after M h) vs ≡ rest m vs ++ m ∷ [] = upto_before vs f.apart (after M h) gi ∙ ap (λ b. rest b vs ++ b ∷ []) p in
      arc_is M vs (after M h) m f.apart f.ring (λ x i. (f.of_it x i).0) gi mi ∙ (upto_once (after M h) m vs (rest m vs) [] f.apart r).0

  test_same : (x : ℕ) → HasHalf M x → edge_of x ≢ edge_of h → nat_lt 0 (count x arc') ≡ nat_eq (tail M x) w
  test_same x there ne =
      let f : Fan (after M) M w = fan_killed M sound h goes in
      let n : count x arc' ≡ count x vs = ap (count x) arc_rest ∙ omega (arith, count_at x m vs (m_in M sound h goes), tick_other x m (not_m M sound h goes x ne)) in
      elim (eqb_tells (tail M x) w) [
        | inl e ↦ let i : IsIn x vs = f.all x there e.1 in let t : nat_lt 0 (count x arc') ≡ true = grind (arith, nat_tests, n, i) in t ∙ sym e.0
        | inr e ↦ let z : count x vs ≡ 0 = none_in_fan M f x e.1 in let t : nat_lt 0 (count x arc') ≡ false = grind (arith, nat_tests, n, z) in t ∙ sym e.0
      ]

  vertex_kept : table.has G.vertices w ≡ true
  unfolding take_edge take_out with_tails_at
  vertex_kept = sound.tails_there m mate_there

  pub vertex_there : (p : Store) (n : ℕ) → n ≡ w → p ≡ edgeless → table.has p.model.vertices n ≡ true
  vertex_there p n en e = ap (table.has p.model.vertices) en ∙ ap (λ (t : Store). table.has t.model.vertices w) e ∙ vertex_kept

  edge_other : (e : ℕ) → e ≢ edge_of h → table.get G.edges e ≡ table.get moved.model.edges e
  unfolding take_edge take_out
  edge_other e ne = get-remove_other moved.model.edges (edge_of h) e ne

  edge_none : table.get G.edges (edge_of h) ≡ None
  unfolding take_edge take_out
  edge_none = get-remove_here moved.model.edges (edge_of h)

  has_edge : (e : ℕ) → table.has G.edges e ≡ table.has (kev M h).edges e
  has_edge e = grind (arith, eqb_tells e (edge_of h), edge_none, edge_gone M sound h goes, edge_other e, edges-tails s arc' u e, edge_mapped M sound h goes e, mapped_some)

  tail_G : (x : ℕ) → edge_of x ≢ edge_of h → tail G x ≡ tail moved.model x
  unfolding tail
  tail_G x ne = ap (λ o. tail_in (unwrap_or o no_edge) (is_first x)) (edge_other (edge_of x) ne)

  tails_same : (x : ℕ) → HasHalf (kev M h) x → tail G x ≡ tail (kev M h) x
  tails_same x there =
      let o = half_cases M sound h goes x there in
      tail_G x o.1 ∙ tail-tails s arc' u x o.0 ∙ ap (λ b. cond b u (tail M x)) (test_same x o.0 o.1) ∙ sym (tail_old M sound h goes x o.0 o.1)

  edges_made : G.edges ≡ (kev M h).edges
  edges_made = same_edges G (kev M h) has_edge tails_same

  -- ---- loops

  -- h starts where it did
  tail_first : tail first_out.model h ≡ u
  unfolding take_out tail
  tail_first = tail-tails s arc' u h goes.h_there ∙ cond_same (nat_lt 0 (count h arc')) u

  loops_edgeless : G.loops ≡ (take_out first_out h).model.loops
  unfolding take_edge
  loops_edgeless = refl

  content_G : (q : ℕ) → content G q ≡ less h u (less m (tail moved.model m) (content M q))
  content_G q = content-same (take_out first_out h).model G loops_edgeless q ∙ content-O first_out placed_first h half_in q
      ∙ ap (λ v. less h v (content first_out.model q)) tail_first
      ∙ ap (less h u) (content-O moved placed_moved m mate_in q ∙ ap (less m (tail moved.model m)) (content-same M moved.model loops_moved q))

  face_G : (q : ℕ) → face_of G q ≡ face_of M q
  face_G q = face_of-same (take_out first_out h).model G loops_edgeless q ∙ face-O first_out placed_first h half_in q ∙ face-O moved placed_moved m mate_in q
      ∙ face_of-same M moved.model loops_moved q

  has_G : (q : ℕ) → table.has G.loops q ≡ table.has M.loops q
  has_G q = ap (λ t. table.has t q) loops_edgeless ∙ has-O first_out placed_first h half_in q ∙ has-O moved placed_moved m mate_in q ∙ ap (λ t. table.has t q) loops_moved

  -- the mate isn't alone in its loop
  not_alone : (q : ℕ) → IsIn m (items_of (content M q)) → without m (items_of (content M q)) ≢ []
  not_alone q a e =
      let y = emptied M sound h goes q (inr a) (sym (out_turned h m (items_of (content M q))) ∙ ap (without h) e) in
      let i : IsIn h (items_of (content M q)) = subst (λ l. IsIn h (items_of (content M l))) (sym y.0) (cycle_there M sound h goes.h_there) in
      omega (arith, i, count-without h m (items_of (content M q)) a, ap (count h) e, tick_other h m (mate_other h))

  content_made : (q : ℕ) → content G q ≡ content (kev M h) q
  content_made q = content_G q ∙ elim (touched M sound h goes (content M q)) [
    | inl t ↦ less_both h m u (tail moved.model m) (content M q) (placed_M.apart q) t.1 (not_alone q) ∙ sym t.0
    | inr t ↦ less_neither h m u (tail moved.model m) (content M q) t.1 t.2 ∙ sym t.0
  ] ∙ sym (kill.content-N M sound h goes q)

  loops_made : G.loops ≡ (kev M h).loops
  loops_made = same_loops G (kev M h) (λ q. has_G q ∙ sym ((kill.same M sound h goes).loop q)) (λ q _. face_G q ∙ sym ((kill.same M sound h goes).face q)) (λ q _. content_made q)

  loose_made : edgeless.loose ≡ s.loose
  unfolding take_edge take_out with_tails_at
  loose_made =
      ap (λ z. table.remove (table.remove (table.put (table.put z m (m ∷ [])) h (h ∷ [])) (plus (edge_of h))) (minus (edge_of h))) bare
      ∙ both_gone h (λ e. mate_other h (sym e)) ∙ sym bare

  -- together they are kev
  pub made_is : take_vertex edgeless w ≡ after_op s (Kev half)
  unfolding effect kev take_edge take_out with_tails_at
  made_is =
      let p : G.loops ≡ (kev M h).loops = loops_made in
      let q : G.edges ≡ (kev M h).edges = edges_made in
      let r : edgeless.loose ≡ s.loose = loose_made in
      λ i. record s { model = record M { loops = p i; edges = q i; vertices = table.remove M.vertices w }; loose = r i }
