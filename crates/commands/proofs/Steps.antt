-- How many operators the larger commands take.
use Rattle.commands.proofs.Prelude.{◌≡◌, ◌≢◌, ℕ, zero, suc, ◌+◌, ◌-◌, ◌*◌, ◌<◌, pos, None, List, [], ◌∷◌, ◌++◌, length, length-append, map, refl, ap, ◌∙◌, arith, Point, IsIn, plus, Model, items_of, content, outer, tail, Sound, IsIn_head, IsIn_rest, Op, Taken, taken_in, lamina_model, prism_refusal, glue_ops, closings, loops_of, corners, vertices_on, vertices_in, numbers_after, base_of, vector, rim, partner, fresh_edge, block_ops, LaminasTakeSteps, BlocksTakeSteps, SweepsTakeSteps, GluesTakeSteps}
use Rattle.std.proofs.lemmas.List.{length-map}
use Rattle.shapes.proofs.glue.Facts.{shape}
use Rattle.sweeps_laws.specs.lamina.Path.{further_points, last_edge, lamina_operators, next_point}
use Rattle.sweeps_laws.specs.prism.SweepOps.{raise, close, close_last, rounds, loop_ops, taken_after, ops_from, sweep_ops}
use Rattle.sweeps_laws.proofs.lamina.Walk.{lamina_goes}
use Rattle.sweeps_laws.proofs.lamina.Blocks.{blocks_have_bases}
use Rattle.sweeps_laws.proofs.prism.Accepted.{of_face, is_cycle}
use Rattle.sweeps.specs.Raising.{with_lamina}

-- ---- laminas

length-further : (c : Taken) (ps : List Point) (j : ℕ) → length (further_points c ps j) ≡ j
length-further c ps zero = refl
length-further c ps (suc j) = omega (arith, length-append (further_points c ps j) (next_point c ps j ∷ []), length-further c ps j)

pub laminas_take_steps : LaminasTakeSteps
unfolding lamina_operators
laminas_take_steps M s ps sound e =
    let c = taken_in M in let j = length ps - 1 in
    omega (arith, length-append (further_points c ps j) (last_edge c j ∷ []), length-further c ps j, (lamina_goes M s ps sound e).many)

-- ---- sweeps

length-rounds : (M : Model) (c : Taken) (d : Point) (hs : List ℕ) (i : ℕ) → length (rounds M c d hs i) ≡ 1 + 2 * i
length-rounds M c d hs zero = refl
length-rounds M c d hs (suc i) = omega (arith, length-append (rounds M c d hs i) (raise M c d hs (suc i) ∷ close c (length hs) i ∷ []), length-rounds M c d hs i)

length-loop : (M : Model) (c : Taken) (d : Point) (hs : List ℕ) → 0 < length hs → length (loop_ops M c d hs) ≡ 2 * length hs
length-loop M c d hs some =
    let i = length hs - 1 in omega (arith, length-append (rounds M c d hs i) (close_last c (length hs) i ∷ []), length-rounds M c d hs i, some)

some_of : (hs : List ℕ) → hs ≢ [] → 0 < length hs
some_of [] some = absurd (some refl)
some_of (h ∷ hs) some = omega arith

module _ (M : Model) (f : ℕ) (d : Point) (sound : Sound M) (e : prism_refusal M f d ≡ None) where
  length-from : (ls : List ℕ) → ((l : ℕ) → IsIn l ls → IsIn l (loops_of M f)) → (c : Taken) → length (ops_from M d c ls) ≡ 2 * length (vertices_in M ls)
  length-from [] within c = refl
  length-from (l ∷ ls) within c =
      let hs : List ℕ = items_of (content M l) in
      let i = within l (IsIn_head l ls) in
      let is = is_cycle M f d sound e l i in
      let some = some_of hs (sound.cycles l hs (of_face M f d sound e l i).0 is).some_item in
      let more : List Op = ops_from M d (taken_after c (length hs)) ls in
      let corners_are = ap (λ q. length (vertices_on M q ++ vertices_in M ls)) is ∙ length-append (map (tail M) hs) (vertices_in M ls) ∙ ap (λ n. n + length (vertices_in M ls)) (length-map hs (tail M)) in
      omega (arith, length-append (loop_ops M c d hs) more, length-loop M c d hs some, length-from ls (λ k at. within k (IsIn_rest k l ls at)) (taken_after c (length hs)), corners_are)

pub sweeps_take_steps : SweepsTakeSteps
unfolding sweep_ops corners
sweeps_take_steps M f d sound e = length-from M f d sound e (loops_of M f) (λ l i. i) (taken_in M)

-- ---- blocks

pub blocks_take_steps : BlocksTakeSteps
blocks_take_steps M s p dx dy dz sound e =
    let ps = base_of p dx dy in let N = lamina_model M s ps in let up = vector (pos 0) (pos 0) dz in
    let hs : List ℕ = map plus (numbers_after (taken_in M).edge 4) in
    let k = with_lamina (taken_in M) 4 in
    let are = ap length (block_ops M sound s p dx dy dz e ps refl N refl up refl hs refl k refl) in
    omega (arith, are, length-append (lamina_operators M s ps) (loop_ops N k up hs), laminas_take_steps M s ps sound (blocks_have_bases M s p dx dy dz e), length-loop N k up hs (omega arith))

-- ---- glues

length-closings : (partner_of : ℕ → ℕ) (x g r h : ℕ) (hs : List ℕ) → length (closings partner_of x g r (h ∷ hs)) ≡ 3 * length hs + 1
length-closings partner_of x g r h [] = refl
length-closings partner_of x g r h (k ∷ hs) = omega (arith, length-closings partner_of x g r k hs)

some_closings : (partner_of : ℕ → ℕ) (x g r : ℕ) (hs : List ℕ) → 0 < length hs → length (closings partner_of x g r hs) + 2 ≡ 3 * length hs
some_closings partner_of x g r [] some = absurd (omega (arith, some))
some_closings partner_of x g r (h ∷ hs) some = omega (arith, length-closings partner_of x g r h hs)

pub glues_take_steps : GluesTakeSteps
unfolding glue_ops
glues_take_steps M f g sound e =
    let is = ap length (shape M f g sound e).3 in
    omega (arith, some_closings (partner M (rim M g)) (fresh_edge M) g (outer M g) (rim M f) (omega (arith, is)))
