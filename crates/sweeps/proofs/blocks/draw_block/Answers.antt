use Rattle.sweeps.proofs.Prelude.{◌≡◌, ℕ, List, ap, arith, length, map, subst, sym, refl, ◌∙◌, on_ok_weaker, Point, code, plus, Model, AreLeft, Taken, numbers_after, taken_in, lamina_model, lamina_operators, operators_make_blocks, DraftJournal, after_steps, steps_after, steps_make, Counters, taken_of, with_lamina}
use Rattle.sweeps.proofs.BlockSteps.{corner_fits, base_left, block_rises, block_ops}
use Rattle.sweeps.proofs.blocks.draw_block.Goals as goal

pub base-corners-requires : goal.base-corners-requires
base-corners-requires c =
    let fits = corner_fits _ c.stays_consistent.ensures.model c.args.solid c.args.corner c.args.size.x c.args.size.y c.args.size.z c.requires.accepted in
    record { second = fits 1 (omega arith); third = fits 2 (omega arith); fourth = fits 3 (omega arith) }

pub draw_lamina-requires-clause-few : goal.draw_lamina-requires-clause-few
draw_lamina-requires-clause-few c = let four = ap length (c.as_slice.ensures ∙ c.base-corners.ensures) in omega (arith, four)

left : (M : Model) (k : Counters) → taken_of k ≡ taken_in M → AreLeft (taken_in M) (record { faces = 2; loops = 2; edges = 4; vertices = 4 }) → AreLeft (taken_of k) (record { faces = 2; loops = 2; edges = 4; vertices = 4 })
left M k is w = subst (λ t. AreLeft t (record { faces = 2; loops = 2; edges = 4; vertices = 4 })) (sym is) w

pub counted_with_base-requires : goal.counted_with_base-requires
counted_with_base-requires c =
    let w = left _ c.args.taken.now c.requires.taken (base_left _ c.stays_consistent.ensures.model c.args.solid c.args.corner c.args.size.x c.args.size.y c.args.size.z c.requires.accepted) in
    record { faces = w.faces; loops = w.loops; edges = w.edges; vertices = w.vertices }

-- what is made of a draft is made of an equal one, by the same steps
lamina_made : {d e : DraftJournal} {N : Model} (s : ℕ) (ps : List Point) → e ≡ d → N ≡ lamina_model e.model s ps → N ≡ lamina_model d.model s ps
lamina_made s ps same made = made ∙ ap (λ (x : DraftJournal). lamina_model x.model s ps) same

drawn : {d e f : DraftJournal} (s : ℕ) (ps : List Point) → e ≡ d → f ≡ after_steps e (lamina_operators e.model s ps) → f ≡ after_steps d (lamina_operators d.model s ps)
drawn s ps same steps = steps ∙ ap (λ (x : DraftJournal). after_steps x (lamina_operators x.model s ps)) same

pub raise_items-requires : goal.raise_items-requires
raise_items-requires c = block_rises _ c.stays_consistent.ensures.model c.args.solid c.args.corner c.args.size.x c.args.size.y c.args.size.z c.requires.accepted c.as_slice.result.now (c.as_slice.ensures ∙ c.base-corners.ensures) _ (lamina_made c.args.solid c.as_slice.result.now c.reserve.ensures c.in_ok-draw_lamina.ensures.ok) _ refl _
    (ap (map code) c.as_slice-2.ensures ∙ c.base_items-items.ensures ∙ ap (λ (t : Taken). map plus (numbers_after t.edge 4)) c.requires.taken) _ (c.counted_with_base.ensures ∙ ap (λ t. with_lamina t 4) c.requires.taken)

pub returns-clause-steps : goal.returns-clause-steps
returns-clause-steps c = on_ok_weaker c.raise_items.result (λ steps.
    steps_after _ _ _ _ _ (drawn c.args.solid c.as_slice.result.now c.reserve.ensures c.in_ok-draw_lamina.ensures.steps) steps
    ∙ ap (after_steps c.args.draft.now) (block_ops _ c.stays_consistent.ensures.model c.args.solid c.args.corner c.args.size.x c.args.size.y c.args.size.z c.requires.accepted c.as_slice.result.now (c.as_slice.ensures ∙ c.base-corners.ensures) _ (lamina_made c.args.solid c.as_slice.result.now c.reserve.ensures c.in_ok-draw_lamina.ensures.ok) _ refl _
    (ap (map code) c.as_slice-2.ensures ∙ c.base_items-items.ensures ∙ ap (λ (t : Taken). map plus (numbers_after t.edge 4)) c.requires.taken) _ (c.counted_with_base.ensures ∙ ap (λ t. with_lamina t 4) c.requires.taken))) c.raise_items.ensures.steps

pub returns-clause-ok : goal.returns-clause-ok
returns-clause-ok c = on_ok_weaker c.raise_items.result (λ steps.
    steps_make _ _ _ steps ∙ operators_make_blocks _ c.args.solid c.args.corner c.args.size.x c.args.size.y c.args.size.z c.stays_consistent.ensures.model c.requires.accepted) (returns-clause-steps c)
