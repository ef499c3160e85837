use Rattle.arena_rows.proofs.Prelude.{◌≡◌, ◌≢◌, ℕ, ◌+◌, cond, nat_eq, eq-eqb, ne_eqb, sym, ap, ◌∙◌, Head, Link, gained}
use Rattle.arena_rows.proofs.owner_chains_laws.Tables.{head_written}
use Rattle.arena_rows.proofs.owner_chains.rows.gain.Goals as goal
use Rattle.arena_rows.proofs.owner_chains.rows.gain.Goals.{then-new-eq0, else-new-eq0}

first_new : (p n old first : ℕ) → p ≡ 0 → first ≡ n → first ≡ cond (nat_eq p 0) n old
first_new p n old first none is = is ∙ sym (ap (λ b. cond b n old) (eq-eqb p 0 none))

first_old : (p n old first : ℕ) → p ≢ 0 → first ≡ old → first ≡ cond (nat_eq p 0) n old
first_old p n old first some is = is ∙ sym (ap (λ b. cond b n old) (ne_eqb p 0 some))

gained_is : (n : ℕ) (new : Link) (old was : Head) (first : ℕ) → old ≡ was → first ≡ cond (nat_eq new.previous 0) n old.first → record { count = old.count + 1; first = first; finger = n } ≡ gained n new was
gained_is n new old was first is f = λ i. record { count = (is i).count + 1; first = (f ∙ ap (λ (h : Head). cond (nat_eq new.previous 0) n h.first) is) i; finger = n }

pub returns-then-old-eq0-clause-rows : goal.returns-then-old-eq0-clause-rows
returns-then-old-eq0-clause-rows c =
    let first : c.if-new-eq0.head ≡ cond (nat_eq c.args.new.previous 0) c.args.item c.args.old.first = elim c.if-new-eq0.branch [
      | then-new-eq0 w ↦ first_new _ _ _ _ w.if-new-eq0.true w.head-is
      | else-new-eq0 w ↦ first_old _ _ _ _ w.if-new-eq0.false w.head-is
    ] in
    head_written _ _ c.args.new.owner _ _ (gained_is c.args.item c.args.new c.args.old _ c.if-new-eq0.head c.requires.old first) c.put.ensures.rows

pub returns-else-old-eq0-clause-rows : goal.returns-else-old-eq0-clause-rows
returns-else-old-eq0-clause-rows c =
    let first : c.if-new-eq0.head ≡ cond (nat_eq c.args.new.previous 0) c.args.item c.args.old.first = elim c.if-new-eq0.branch [
      | then-new-eq0 w ↦ first_new _ _ _ _ w.if-new-eq0.true w.head-is
      | else-new-eq0 w ↦ first_old _ _ _ _ w.if-new-eq0.false w.head-is
    ] in
    head_written _ _ c.args.new.owner _ _ (gained_is c.args.item c.args.new c.args.old _ c.if-new-eq0.head c.requires.old first) c.set.ensures.rows
