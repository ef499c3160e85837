use Rattle.euler_conditions.proofs.Prelude.{◌≡◌, true, not, nat_eq, ◌&&◌, sym, ap, ◌∙◌, code, mate, after}
use Rattle.euler_conditions.proofs.ends.kept_end_bare.Goals as goal

pub returns-then-same : goal.returns-then-same
returns-then-same c =
    let M = c.args.arena.now.model in
    let bare : nat_eq (after M (mate (code c.args.h))) (code c.args.h) ≡ true = ap (λ g. nat_eq g (code c.args.h)) (sym (c.next.ensures.next ∙ ap (after M) c.mate-mate.ensures.mate)) ∙ sym c.same.ensures ∙ c.if-same.true in
    ap not (c.same-then-same.ensures ∙ (λ i. nat_eq (c.next-then-same.ensures.next i) (c.mate-mate.ensures.mate i)))
    ∙ sym (ap (λ b. b && not (nat_eq (after M (code c.args.h)) (mate (code c.args.h)))) bare)
