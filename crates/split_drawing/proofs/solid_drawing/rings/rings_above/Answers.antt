use Rattle.split_drawing.proofs.Prelude.{◌∙◌, ap, sym, ℕ, Bool, List, [], ◌∷◌, ◌++◌, cond, length, arith, append_assoc, filter, append-nil, Plane, Model, rings_of, content, vertices_on, some_above, above, told_up}
use Rattle.solid_walks.proofs.face_walks_laws.RingWalks.{next_ring, no_ring, rings_from_zero}
use Rattle.split_drawing.proofs.solid_drawing_laws.RingSteps.{ring_there}
use Rattle.split_drawing.proofs.solid_drawing.rings.rings_above.Goals as goal

-- a loop has a corner above the plane
abbrev reaches : Model → Plane → ℕ → Bool
reaches M p l = some_above M p (vertices_on M (content M l))

pub rings-init : goal.rings-init
rings-init c =
    let M = c.args.arena.now.model in
    record {
      sides = c.requires.sides;
      made = ap (λ (ls : List ℕ). ls ++ filter (reaches M c.args.plane) (above 0 (rings_of M c.args.f))) c.new-rings.ensures.items
          ∙ ap (filter (reaches M c.args.plane)) (rings_from_zero M c.args.f c.requires.ready.sound);
    }

pub loop_side-requires-clause-there : goal.loop_side-requires-clause-there
loop_side-requires-clause-there c = ring_there c.args.arena.now.model c.args.f c.rings.last c.in-Some.l c.in-Some.ensures

pub rings-smaller-in_ok-push : goal.rings-smaller-in_ok-push
rings-smaller-in_ok-push c = let next = next_ring c.args.arena.now.model c.args.f c.rings.last c.in-Some.l c.in-Some.ensures in omega (arith, ap length next)

pub rings-preserved-in_ok-push : goal.rings-preserved-in_ok-push
rings-preserved-in_ok-push c =
    let M = c.args.arena.now.model in let f = c.args.f in let l = c.in-Some.l in let test = reaches M c.args.plane in let rest = filter test (above l (rings_of M f)) in
    let told = c.same.ensures ∙ told_up c.loop_side.result _ _ c.loop_side.ensures.is in
    record {
      sides = c.loop_side.ensures.sides;
      made = ap (λ (ls : List ℕ). ls ++ rest) c.in_ok-push.ensures.items ∙ append_assoc c.rings.rings.items (l ∷ []) rest
          ∙ ap (λ (ls : List ℕ). c.rings.rings.items ++ ls) (sym (ap (filter test) (next_ring M f c.rings.last l c.in-Some.ensures) ∙ ap (λ b. cond b (l ∷ rest) rest) (sym told ∙ c.if-same.true))) ∙ c.rings.invariant.made;
    }

pub rings-smaller : goal.rings-smaller
rings-smaller c = let next = next_ring c.args.arena.now.model c.args.f c.rings.last c.in-Some.l c.in-Some.ensures in omega (arith, ap length next)

pub rings-preserved : goal.rings-preserved
rings-preserved c =
    let M = c.args.arena.now.model in let f = c.args.f in let l = c.in-Some.l in let test = reaches M c.args.plane in let rest = filter test (above l (rings_of M f)) in
    let told = c.same.ensures ∙ told_up c.loop_side.result _ _ c.loop_side.ensures.is in
    record {
      sides = c.loop_side.ensures.sides;
      made = ap (λ (ls : List ℕ). c.rings.rings.items ++ ls) (sym (ap (filter test) (next_ring M f c.rings.last l c.in-Some.ensures) ∙ ap (λ b. cond b (l ∷ rest) rest) (sym told ∙ c.if-same.false))) ∙ c.rings.invariant.made;
    }

pub returns-clause-rings : goal.returns-clause-rings
returns-clause-rings c =
    let M = c.args.arena.now.model in let f = c.args.f in
    sym (append-nil c.rings.rings.items) ∙ ap (λ (ls : List ℕ). c.rings.rings.items ++ filter (reaches M c.args.plane) ls) (sym (no_ring M f c.rings.last c.in_default.ensures)) ∙ c.rings.invariant.made
