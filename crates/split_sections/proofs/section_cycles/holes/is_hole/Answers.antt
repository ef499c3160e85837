use Rattle.split_sections.proofs.Prelude.{◌∙◌, ap, map, arith, pos, int_lt, ℤ, Point, dot, code, mate, fits, held_is, area, is_hole}
use Rattle.split_sections.proofs.section_cycles.holes.is_hole.Goals as goal

pub returns : goal.returns
unfolding is_hole
returns c =
    ap (λ (d : ℤ). int_lt d (pos 0)) (held_is c.along.result (fits _ _ c.along.ensures.within (omega arith)) ∙ c.along.ensures.is ∙ ap (λ (n : Point). dot n c.direction.result) c.mates_area.ensures.is ∙ ap (dot (area c.args.arena.now.model (map mate (map code c.args.halves.now)))) c.direction.ensures.is)
