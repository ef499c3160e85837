use Rattle.undo_journal.proofs.Prelude.{refl, sym, subst, ap, ◌∙◌, arith, ◌≡◌, ◌<◌, ◌-◌, List, [], ◌∷◌, length, take, length-take-le, Op, AreAccepted, Store, AllHaveRoom, all_after, taken_back}
use Rattle.undo_journal.proofs.Inverses.{first_accepted, first_room, others_accepted, others_room, others_after}
use Rattle.undo_journal.proofs.told.replay_back.Goals as goal

pub replay_one-kept-requires : goal.replay_one-kept-requires
replay_one-kept-requires c =
    let kept = c.ops.invariant in record {
      ready = kept.ready;
      accepted = first_accepted c.ops.arena c.ops.rest.now c.ops.kept.now _ c.in-len1-up.len_at_least c.op-item.is kept.accepted;
      room = first_room c.ops.arena c.ops.rest.now c.ops.kept.now _ c.in-len1-up.len_at_least c.op-item.is kept.room;
    }

abbrev others : (c : goal.After-replay_one-kept) → List Op
others c = take (length c.ops.rest.now - 1) c.ops.rest.now

abbrev left_of : (c : goal.After-replay_one-kept) → List Op
left_of c = c.replay_one-kept.result.now

pub ops-preserved : goal.ops-preserved
ops-preserved c =
    let kept = c.ops.invariant in let some = c.in-len1-up.len_at_least in let left = c.replay_one-kept.ensures.left in let next = c.replay_one-kept.ensures.effects in record {
      accepted = subst (λ (s : Store). AreAccepted s.model (taken_back (others c) (left_of c))) (sym next) (others_accepted c.ops.arena c.ops.rest.now c.ops.kept.now (left_of c) _ some c.op-item.is left kept.accepted);
      room = subst (λ (s : Store). AllHaveRoom s (taken_back (others c) (left_of c))) (sym next) (others_room c.ops.arena c.ops.rest.now c.ops.kept.now (left_of c) _ some c.op-item.is left kept.room);
      effects = ap (λ (s : Store). all_after s (taken_back (others c) (left_of c))) next ∙ others_after c.ops.arena c.ops.rest.now c.ops.kept.now (left_of c) _ some c.op-item.is left ∙ kept.effects;
      ready = c.replay_one-kept.ensures.ready;
      within = omega (arith, kept.within, length-take-le (length c.ops.rest.now - 1) c.ops.rest.now (omega arith));
    }

nothing : (ops : List Op) → length ops < 1 → ops ≡ []
nothing [] h = refl
nothing (o ∷ ops) h = absurd (omega arith)

pub returns : goal.returns
returns c = record {
  effects = ap (λ (ops : List Op). all_after c.ops.arena (taken_back ops c.ops.kept.now)) (sym (nothing c.ops.rest.now c.in_default.len_below)) ∙ c.ops.invariant.effects;
  ready = c.ops.invariant.ready;
}

pub offset_bounds-rest-rest : goal.offset_bounds-rest-rest
offset_bounds-rest-rest c = omega (arith, c.ops.invariant.within, c.well_formed.1.0.1)
