use Rattle.arena_rows.proofs.Prelude.{◌≡◌, ◌≢◌, true, refl, sym, ap, subst, ◌∙◌, Head, items, head_at}
use Rattle.arena_rows.proofs.owner_chains_laws.Tables.{row_free}
use Rattle.arena_rows.proofs.owner_chains_laws.Following.{item_there, last_above, ends_below}
use Rattle.arena_rows.proofs.owner_chains_laws.Going.{no_items}
use Rattle.arena_rows.proofs.owner_chains.chains.Chains.put.Goals as goal

pub chain_in-requires-clause-free : goal.chain_in-requires-clause-free
chain_in-requires-clause-free c = row_free _ _ (rw (← c.self.view_is) at c.requires.free)

pub chain_in-requires-clause-below : goal.chain_in-requires-clause-below
chain_in-requires-clause-below c =
    let none : (head_at c.self.inside.heads c.args.owner).count ≡ 0 = ap (λ (h : Head). h.count) (sym c.head_of-head.ensures) ∙ c.if-head-eq0.true in
    record { found = λ some. absurd (some refl); greatest = λ k low there. absurd (no_items _ _ c.self.invariant c.args.owner none k there) }

pub chain_in-requires-clause-next : goal.chain_in-requires-clause-next
chain_in-requires-clause-next c =
    let none : (head_at c.self.inside.heads c.args.owner).count ≡ 0 = ap (λ (h : Head). h.count) (sym c.head_of-head.ensures) ∙ c.if-head-eq0.true in
    record { found = λ some. absurd (some refl); least = λ k up there. absurd (no_items _ _ c.self.invariant c.args.owner none k there) }

pub comes_last-requires : goal.comes_last-requires
comes_last-requires c = λ some. item_there c.self.inside.links c.args.owner _
    (subst (λ (h : Head). h.finger ≢ 0 → items c.self.inside.links c.args.owner h.finger ≡ true) (sym c.head_of-head.ensures) (c.self.invariant.fingers c.args.owner) some)

pub chain_in-requires-then-comes_last-clause-free : goal.chain_in-requires-then-comes_last-clause-free
chain_in-requires-then-comes_last-clause-free c = row_free _ _ (rw (← c.self.view_is) at c.requires.free)

pub chain_in-requires-then-comes_last-clause-below : goal.chain_in-requires-then-comes_last-clause-below
chain_in-requires-then-comes_last-clause-below c =
    let there : c.head_of-head.result.finger ≢ 0 → items c.self.inside.links c.args.owner c.head_of-head.result.finger ≡ true =
    subst (λ (h : Head). h.finger ≢ 0 → items c.self.inside.links c.args.owner h.finger ≡ true) (sym c.head_of-head.ensures) (c.self.invariant.fingers c.args.owner) in
    let last = c.comes_last.ensures c.if-comes_last.true in
    ends_below _ _ _ _ last.1 there (last_above _ _ c.self.invariant c.args.owner _ last.0 there last.2) (λ some. absurd (some refl))

pub chain_in-requires-then-comes_last-clause-next : goal.chain_in-requires-then-comes_last-clause-next
chain_in-requires-then-comes_last-clause-next c =
    let there : c.head_of-head.result.finger ≢ 0 → items c.self.inside.links c.args.owner c.head_of-head.result.finger ≡ true =
    subst (λ (h : Head). h.finger ≢ 0 → items c.self.inside.links c.args.owner h.finger ≡ true) (sym c.head_of-head.ensures) (c.self.invariant.fingers c.args.owner) in
    let last = c.comes_last.ensures c.if-comes_last.true in
    last_above _ _ c.self.invariant c.args.owner _ last.0 there last.2

pub put_within-requires-clause-free : goal.put_within-requires-clause-free
put_within-requires-clause-free c = row_free _ _ (rw (← c.self.view_is) at c.requires.free)

pub returns-then-head-eq0 : goal.returns-then-head-eq0
returns-then-head-eq0 c = rw (← c.self.view_is) c.chain_in.ensures.put

pub returns-then-comes_last : goal.returns-then-comes_last
returns-then-comes_last c = rw (← c.self.view_is) c.chain_in-then-comes_last.ensures.put

pub returns-else-comes_last : goal.returns-else-comes_last
returns-else-comes_last c = rw (← c.self.view_is) c.put_within.ensures.put
