use Rattle.std.proofs.Common.{true, false, sym, ◌∙◌, eq-eqb, ne_eqb}
use Rattle.euler_conditions.proofs.Borders.{not_empty, bad_by_count}
use Rattle.euler_conditions.proofs.parts.is_bad_part.Goals as goal

pub is_torn-requires-clause-there : goal.is_torn-requires-clause-there
is_torn-requires-clause-there c = λ f l. (c.requires.faces f l).0

pub returns-then-len-face_count : goal.returns-then-len-face_count
returns-then-len-face_count c =
    let M = c.args.arena.now.model in let fs = c.args.faces.now in
    eq-eqb c.len-2.result c.face_count.result c.if-len-face_count.true
    ∙ bad_by_count M c.args.solid fs c.requires.faces (sym c.rises.ensures ∙ c.if-not-rises.false) (not_empty fs (λ e. c.if-len-eq0.false (c.len.ensures ∙ e)))
    true (eq-eqb _ _ (sym c.len-2.ensures ∙ c.if-len-face_count.true ∙ c.face_count.ensures))

pub returns-else-len-face_count : goal.returns-else-len-face_count
returns-else-len-face_count c =
    let M = c.args.arena.now.model in let fs = c.args.faces.now in
    c.is_torn.ensures
    ∙ bad_by_count M c.args.solid fs c.requires.faces (sym c.rises.ensures ∙ c.if-not-rises.false) (not_empty fs (λ e. c.if-len-eq0.false (c.len.ensures ∙ e)))
    false (ne_eqb _ _ (λ e. c.if-len-face_count.false (c.len-2.ensures ∙ e ∙ sym c.face_count.ensures)))
