use Rattle.arena_rows.proofs.Prelude.{◌≡◌, ℕ, ◌-◌, cond, nat_eq, List, Option, Some, None, ap, ◌∙◌, arith, slice_index_or, Head, Link, head_at, lost}
use Rattle.arena_rows.proofs.owner_chains_laws.Tables.{head_there, head_written}
use Rattle.arena_rows.proofs.owner_chains.rows.lose.Goals as goal

lost_written : (heads new : List (Option Head)) (old : Link) (head : Head) (first finger : ℕ) → ((q : ℕ) → slice_index_or new q None ≡ cond (nat_eq q old.owner) (Some (record { count = head.count - 1; first = first; finger = finger })) (slice_index_or heads q None)) → head ≡ head_at heads old.owner → first ≡ cond (nat_eq old.previous 0) old.next head.first → finger ≡ cond (nat_eq old.previous 0) old.next old.previous → (q : ℕ) →
    head_at new q ≡ cond (nat_eq q old.owner) (lost old (head_at heads old.owner)) (head_at heads q)
lost_written heads new old head first finger rows is f g = head_written heads new old.owner _ _ (λ i. record { count = (is i).count - 1; first = (f ∙ ap (λ (h : Head). cond (nat_eq old.previous 0) old.next h.first) is) i; finger = g i }) rows

pub set-requires : goal.set-requires
set-requires c = head_there _ c.requires

pub returns-clause-rows : goal.returns-clause-rows
returns-clause-rows c = lost_written _ _ c.args.old c.known_head-head.result _ _ c.set.ensures.rows c.known_head-head.ensures (grind arith) (grind arith)
