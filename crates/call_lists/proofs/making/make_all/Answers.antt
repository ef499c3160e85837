use Rattle.call_lists.proofs.Prelude.{◌≡◌, ◌∷◌, [], List, length, refl, sym, ap, subst, ◌∙◌, append_assoc, append-nil, arith, into_iter_items, Call, AreTold}
use Rattle.std.proofs.Common.{vec_len}
use Rattle.std.proofs.lemmas.List.{nil_from_length}
use Rattle.call_lists.proofs.Lists.{told_more}
use Rattle.call_lists.proofs.making.make_all.Goals as goal

pub loop-call-init : goal.loop-call-init
loop-call-init c =
    let gives : into_iter_items c.into_iter-call-iterator.result ≡ c.args.calls.items = c.into_iter-call-iterator.ensures.into_iter_gives.0 in
    let counted : vec_len c.args.calls ≡ length c.args.calls.items = omega (arith, c.args.calls.ok.0) in
    record {
      all = refl;
      many = c.into_iter-call-iterator.ensures.into_iter_gives.1 ∙ counted ∙ sym (ap length gives);
      told = ([], c.reserve.ensures.items ∙ sym (append-nil _), refl);
      room = let short = ap length gives in let wide = rw c.in_default.is at c.reserve.ensures.ok in let many = c.len.ensures in omega (arith, short, wide, many, counted);
    }

pub loop-call-preserved : goal.loop-call-preserved
loop-call-preserved c =
    let at = c.loop-call in
    let call = c.in-Some.call in
    let steps : into_iter_items at.call-iterator ≡ call ∷ into_iter_items c.next.new.self = c.in-Some.ensures.steps.0 in
    let short = ap length steps in
    record {
      all = append_assoc at.yielded (call ∷ []) _ ∙ rw (← steps) at.invariant.all;
      many = let was = at.invariant.many in let gone = c.in-Some.ensures.steps.1 in omega arith;
      told = told_more _ _ _ _ _ _ _ call _ at.invariant.told (rw c.unwrap.ensures at c.push.ensures.items) c.make-next.ensures.told;
      room = let was = at.invariant.room in let long = rw c.unwrap.ensures at c.push.ensures.len in let wide = c.push.ensures.capacity in omega (arith, was, long, wide, short);
    }

pub returns : goal.returns
returns c =
    let at = c.loop-call in
    let empty : into_iter_items at.call-iterator ≡ [] = nil_from_length _ (sym at.invariant.many ∙ c.in-None.ensures.steps.0) in
    let all : at.yielded ≡ c.args.calls.items = sym (append-nil at.yielded) ∙ rw empty at at.invariant.all ∙ c.into_iter-call-iterator.ensures.into_iter_gives.0 in
    record {
      made = subst (λ (calls : List Call). AreTold c.args.stage calls c.args.told.now.items at.told.items at.stage) all at.invariant.told;
      err = tt;
      whole = c.stays_whole-2.ensures;
    }
