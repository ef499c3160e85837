use Rattle.arena_rows.proofs.Prelude.{◌≡◌, Bool, true, Result, Ok, Err, OnOk, refl, ◌∙◌, arith, false≢true}
use Rattle.arena_rows.proofs.ring_spots_laws.LabelEdges.{labelled-room, loops-room}
use Rattle.arena_rows.proofs.ring_spots.links.room_edge.Goals as goal

pub returns-in_err-reach-clause-whole : goal.returns-in_err-reach-clause-whole
returns-in_err-reach-clause-whole c = labelled-room _ _ _ c.requires.whole _ c.reach.ensures.grown _ refl _ (λ q k. k) (λ q k. let r = c.requires.whole.room.room q k in let m = c.reach.ensures.grown.room in omega (arith, r, m))

pub returns-in_err-reach-clause-spots : goal.returns-in_err-reach-clause-spots
returns-in_err-reach-clause-spots c = loops-room _ _ _ c.requires.whole _ c.reach.ensures.grown _ refl

pub room_code-requires-clause-whole : goal.room_code-requires-clause-whole
room_code-requires-clause-whole c = labelled-room _ _ _ c.requires.whole _ c.reach.ensures.grown _ refl _ (λ q k. k) (λ q k. let r = c.requires.whole.room.room q k in let m = c.reach.ensures.grown.room in omega (arith, r, m))

pub room_code-requires-clause-label : goal.room_code-requires-clause-label
room_code-requires-clause-label c = let r = c.in_ok-reach.ensures.ok in omega (arith, r)

pub returns-in_err-room_code-clause-spots : goal.returns-in_err-room_code-clause-spots
returns-in_err-room_code-clause-spots c = loops-room _ _ _ c.requires.whole _ c.reach.ensures.grown _ c.room_code.ensures.spots

pub returns-in_err-room_code-clause-only : goal.returns-in_err-room_code-clause-only
returns-in_err-room_code-clause-only c q n m = c.room_code.ensures.only q n

pub returns-in_err-reach-clause-known : goal.returns-in_err-reach-clause-known
returns-in_err-reach-clause-known c = λ first second. absurd (false≢true (c.in_err-reach.ensures.known (c.requires.whole.room.room _ second)))

pub returns-in_err-room_code-clause-known : goal.returns-in_err-room_code-clause-known
returns-in_err-room_code-clause-known c = λ first second. absurd (false≢true (c.in_err-room_code.ensures.known first))

both_known : {X E : Type 0} (p m : Bool) (r : Result X E) → p ≡ true → OnOk r (m ≡ true) → OnOk r ((p ≡ true) × (m ≡ true))
both_known p m (Ok x) first second = (first, second)
both_known p m (Err e) first second = tt

pub returns : goal.returns
returns c = record {
  whole = c.room_code-2.ensures.whole;
  spots = loops-room _ _ _ c.requires.whole _ c.reach.ensures.grown _ (c.room_code-2.ensures.spots ∙ c.room_code.ensures.spots);
  kept = λ q k. c.room_code-2.ensures.kept q (c.room_code.ensures.kept q k);
  only = λ q n m. c.room_code-2.ensures.only q m ∙ c.room_code.ensures.only q n;
  ok = both_known _ _ c.room_code-2.result (c.room_code-2.ensures.kept _ c.in_ok-room_code.ensures.ok) c.room_code-2.ensures.ok;
  known = λ first second. c.room_code-2.ensures.known (c.room_code.ensures.kept _ second);
}
