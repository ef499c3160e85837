use Rattle.sweeps.proofs.Prelude.{◌≡◌, ◌∙◌, ap, refl, ℕ, ◌+◌, ◌-◌, ◌<◌, ◌≤◌, arith, on_ok_weaker, first_false, DraftJournal, after_steps, close, close_last, two_items, taken_of, further_on, step_after, steps_make}
use Rattle.sweeps.proofs.RaisedItems as raised
use Rattle.sweeps.proofs.raising.raise_items.Goals as goal

pub item_at-requires : goal.item_at-requires
item_at-requires c = let n = raised.how_many _ _ _ _ _ _ c.requires.ready c.args.items.now refl in omega (arith, two_items _ _ _ _ _ _ c.requires.ready, n)

pub raise_item-requires : goal.raise_item-requires
raise_item-requires c = record {
  there = raised.there_first _ _ _ _ _ _ c.requires.ready c.args.items.now refl c.item_at.result c.item_at.ensures;
  edge_left = omega (arith, two_items _ _ _ _ _ _ c.requires.ready, c.requires.ready.left.edges);
  vertex_left = omega (arith, two_items _ _ _ _ _ _ c.requires.ready, c.requires.ready.left.vertices);
  range = raised.range_first _ _ _ _ _ _ c.requires.ready c.args.items.now refl c.item_at.result c.item_at.ensures;
  accepted = raised.accepted_first _ _ _ _ _ _ c.requires.ready c.args.items.now refl c.item_at.result c.item_at.ensures;
}

pub items-init : goal.items-init
items-init c = record {
  inside = omega (arith, two_items _ _ _ _ _ _ c.requires.ready);
  steps = c.in_ok-raise_item.ensures.ok ∙ ap (after_steps c.args.draft.now) (raised.first_is _ _ _ _ _ _ c.requires.ready c.args.items.now refl c.item_at.result c.item_at.ensures);
  further = c.in_ok-raise_item.ensures.further;
}

more : (n k : ℕ) → k ≡ n → (i : ℕ) → i + 1 < k → i + 1 < n
more n k e i lt = omega arith

pub raise_item-requires-in-items-clause-there : goal.raise_item-requires-in-items-clause-there
raise_item-requires-in-items-clause-there c = raised.there_next _ _ _ _ _ _ c.requires.ready c.args.items.now refl c.items.done c.items.draft.model (steps_make _ _ _ c.items.invariant.steps) (more _ _ (raised.how_many _ _ _ _ _ _ c.requires.ready c.args.items.now refl) c.items.done c.items-test.true) c.item_at-in-items.result c.item_at-in-items.ensures

pub raise_item-requires-in-items-clause-range : goal.raise_item-requires-in-items-clause-range
raise_item-requires-in-items-clause-range c = raised.range_next _ _ _ _ _ _ c.requires.ready c.args.items.now refl c.items.done c.items.draft.model (steps_make _ _ _ c.items.invariant.steps) (more _ _ (raised.how_many _ _ _ _ _ _ c.requires.ready c.args.items.now refl) c.items.done c.items-test.true) c.item_at-in-items.result c.item_at-in-items.ensures

pub raise_item-requires-in-items-clause-accepted : goal.raise_item-requires-in-items-clause-accepted
raise_item-requires-in-items-clause-accepted c = raised.accepted_next _ _ _ _ _ _ c.requires.ready c.args.items.now refl c.items.done c.items.draft.model (steps_make _ _ _ c.items.invariant.steps) (more _ _ (raised.how_many _ _ _ _ _ _ c.requires.ready c.args.items.now refl) c.items.done c.items-test.true) c.item_at-in-items.result c.item_at-in-items.ensures

pub close_side-requires-clause-accepted : goal.close_side-requires-clause-accepted
close_side-requires-clause-accepted c = ap (λ n. first_false c.raise_item-in-items.new.draft.model (close (taken_of c.args.taken.now) n c.items.done)) (raised.how_many _ _ _ _ _ _ c.requires.ready c.args.items.now refl)
    ∙ raised.closes_next _ _ _ _ _ _ c.requires.ready c.args.items.now refl c.items.done c.items.draft.model (steps_make _ _ _ c.items.invariant.steps) (more _ _ (raised.how_many _ _ _ _ _ _ c.requires.ready c.args.items.now refl) c.items.done c.items-test.true) c.item_at-in-items.result c.item_at-in-items.ensures
    c.raise_item-in-items.new.draft.model (ap (λ (x : DraftJournal). x.model) c.in_ok-raise_item-2.ensures.ok)

pub items-preserved : goal.items-preserved
items-preserved c = record {
  inside = more _ _ (raised.how_many _ _ _ _ _ _ c.requires.ready c.args.items.now refl) c.items.done c.items-test.true;
  steps = step_after _ _ _ _ _ (step_after _ _ _ _ _ c.items.invariant.steps c.in_ok-raise_item-2.ensures.ok) c.in_ok-close_side.ensures.ok
      ∙ ap (after_steps c.args.draft.now) (raised.round_is _ _ _ _ _ _ c.requires.ready c.args.items.now refl c.items.done c.items.draft.model (steps_make _ _ _ c.items.invariant.steps) (more _ _ (raised.how_many _ _ _ _ _ _ c.requires.ready c.args.items.now refl) c.items.done c.items-test.true) c.item_at-in-items.result c.item_at-in-items.ensures);
  further = further_on _ _ _ (further_on _ _ _ c.items.invariant.further c.in_ok-raise_item-2.ensures.further) c.in_ok-close_side.ensures.further;
}

pub close_last-requires-clause-some : goal.close_last-requires-clause-some
close_last-requires-clause-some c = let t = two_items _ _ _ _ _ _ c.requires.ready in omega (arith, t, raised.how_many _ _ _ _ _ _ c.requires.ready c.args.items.now refl)

ends : (n k : ℕ) → k ≡ n → (i : ℕ) → k ≤ i + 1 → n ≤ i + 1
ends n k e i h = omega arith

pub close_last-requires-clause-accepted : goal.close_last-requires-clause-accepted
close_last-requires-clause-accepted c = ap (λ n. first_false c.items.draft.model (close_last (taken_of c.args.taken.now) n (n - 1))) (raised.how_many _ _ _ _ _ _ c.requires.ready c.args.items.now refl)
    ∙ raised.closes_last _ _ _ _ _ _ c.requires.ready c.args.items.now refl c.items.done c.items.draft.model (steps_make _ _ _ c.items.invariant.steps) c.items.invariant.inside (ends _ _ (raised.how_many _ _ _ _ _ _ c.requires.ready c.args.items.now refl) c.items.done c.items-test.false)

pub returns-clause-steps : goal.returns-clause-steps
returns-clause-steps c = on_ok_weaker c.close_last.result (λ step.
    step_after _ _ _ _ _ c.items.invariant.steps step
    ∙ ap (after_steps c.args.draft.now) (raised.all_is _ _ _ _ _ _ c.requires.ready c.args.items.now refl c.items.done c.items.draft.model (steps_make _ _ _ c.items.invariant.steps) c.items.invariant.inside (ends _ _ (raised.how_many _ _ _ _ _ _ c.requires.ready c.args.items.now refl) c.items.done c.items-test.false))) c.close_last.ensures.ok
