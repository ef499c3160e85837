use Rattle.block_machining.proofs.Prelude.{◌≡◌, ◌≢◌, ℕ, ℤ, pos, ◌+ℤ◌, refl, sym, ap, subst, ◌∙◌, arith, six_volume, held, Has, Model, solid_of, AreLeft, taken_in, bar, far_side, near_side}
use Rattle.gluing.specs.Machine.{glue, glue_refusal}
use Rattle.block_machining.proofs.Known.{for_no_reason}
use Rattle.block_machining.proofs.Computed.{bar_there, three_blocks_left}
use Rattle.block_machining.proofs.bar.Goals as goal

pub but_for_memory-requires : goal.but_for_memory-requires
but_for_memory-requires c refusal is =
    let m = c.in_ok-session.session.machine in
    let near = c.in_ok-session.ensures.near in
    let far = c.in_ok-session.ensures.far in
    let flat = c.in_ok-session.ensures.flat in
    let left = subst (λ n. AreLeft (taken_in (held n)) (record { faces = 0; loops = 0; edges = 1; vertices = 0 })) (sym c.in_ok-session.ensures.made) three_blocks_left in
    for_no_reason (glue_refusal m 10 18) refusal
    (c.glues_fit.ensures m 10 18 1 2 near_side far_side c.glue-session.ensures.sound near far (λ e. absurd (omega (arith, e))) flat.0 flat.1 refl refl refl left)
    (c.glue-session.ensures.refused refusal is)

pub returns-clause-made : goal.returns-clause-made
unfolding bar
returns-clause-made c = (rw c.in_ok-but_for_memory.ensures at c.glue-session.ensures.ok).1 ∙ ap (λ m. glue m 10 18) c.in_ok-session.ensures.made

pub returns-clause-there : goal.returns-clause-there
returns-clause-there c = subst (λ m. Has (held m).solids 1) (sym (returns-clause-made c)) bar_there

-- a sum of which both solids are known
sum_is : (before after : ℕ → ℤ) (a b s t : ℕ) → a ≡ s → b ≡ t → after a ≡ before a +ℤ before b → after s ≡ before s +ℤ before t
sum_is before after a b s t p q sum = ap after (sym p) ∙ sum ∙ ap (λ n. before n +ℤ before b) p ∙ ap (λ n. before s +ℤ before n) q

pub returns-clause-whole : goal.returns-clause-whole
returns-clause-whole c =
    let M : Model = held c.in_ok-session.session.machine in
    let N : Model = held c.glue-session.result.0.machine in
    let made = rw c.in_ok-but_for_memory.ensures at c.glue-session.ensures.ok in
    let sum = c.glue_measures.ensures.solid c.in_ok-session.session.machine c.glue-session.result.0.machine 10 18 c.glue-session.ensures.sound made.0 made.1 in
    sum_is (six_volume M) (six_volume N) (solid_of M 10) (solid_of M 18) 1 2 c.in_ok-session.ensures.near.solid c.in_ok-session.ensures.far.solid sum
    ∙ ap (λ v. v +ℤ six_volume M 2) c.in_ok-session.ensures.first
    ∙ ap (λ v. pos 144 +ℤ v) c.in_ok-session.ensures.second

another : (a b n : ℕ) → a ≡ b → n ≢ b → n ≢ a
another a b n e ne is = ne (is ∙ e)

pub returns-clause-third : goal.returns-clause-third
returns-clause-third c =
    let M : Model = held c.in_ok-session.session.machine in
    let made = rw c.in_ok-but_for_memory.ensures at c.glue-session.ensures.ok in
    c.glue_measures.ensures.others c.in_ok-session.session.machine c.glue-session.result.0.machine 10 18 3 c.glue-session.ensures.sound made.0 made.1
    (another (solid_of M 10) 1 3 c.in_ok-session.ensures.near.solid (λ e. omega (arith, e))) (another (solid_of M 18) 2 3 c.in_ok-session.ensures.far.solid (λ e. omega (arith, e)))
    ∙ c.in_ok-session.ensures.third
