use Rattle.gluing.proofs.Prelude.{◌≡◌, ◌∙◌, ap, sym, Bool, true, false, ◌&&◌, ◌-◌, ◌++◌, length, take, drop, take_rest, same_points}
use Rattle.gluing.proofs.glue_checks_laws.Turns.{two_parts}
use Rattle.gluing.proofs.glue_checks.outlines.is_turn.Goals as goal

first_holds : (a b c : Bool) → a ≡ true → a && b ≡ c → b ≡ c
first_holds a b c t e = sym (ap (λ x. x && b) t) ∙ e

first_fails : (a b c : Bool) → a ≡ false → a && b ≡ c → a ≡ c
first_fails a b c t e = t ∙ sym (ap (λ x. x && b) t) ∙ e

pub returns-then-same_points : goal.returns-then-same_points
returns-then-same_points c =
    let ps = c.args.points.now in let qs = c.args.others.now in let k = c.args.place in let n = length ps - k in
    c.same_points-then-same_points.ensures ∙ ap (λ xs. same_points xs (take k qs)) (take_rest ps n)
    ∙ first_holds (same_points (take n ps) (drop k qs)) (same_points (drop n ps) (take k qs)) (same_points ps (drop k qs ++ take k qs))
    (sym (c.same_points.ensures ∙ ap (same_points (take n ps)) (take_rest qs k)) ∙ c.if-same_points.true) (two_parts ps qs k c.requires.same_length)

pub returns-else-same_points : goal.returns-else-same_points
returns-else-same_points c =
    let ps = c.args.points.now in let qs = c.args.others.now in let k = c.args.place in let n = length ps - k in
    c.same_points.ensures ∙ ap (same_points (take n ps)) (take_rest qs k)
    ∙ first_fails (same_points (take n ps) (drop k qs)) (same_points (drop n ps) (take k qs)) (same_points ps (drop k qs ++ take k qs))
    (sym (c.same_points.ensures ∙ ap (same_points (take n ps)) (take_rest qs k)) ∙ c.if-same_points.false) (two_parts ps qs k c.requires.same_length)
