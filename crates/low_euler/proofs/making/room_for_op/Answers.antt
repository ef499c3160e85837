use Rattle.low_euler.proofs.Prelude.{refl, sym, subst, OnOk, Op, HasRoomFor, made, AllFit}
use Rattle.low_euler.proofs.Made.{made_fit}
use Rattle.low_euler.proofs.making.room_for_op.Goals as goal

pub room_for_solid-requires : goal.room_for_solid-requires
room_for_solid-requires c = subst (λ (o : Op). AllFit (made o)) c.in-Mvfs.is (made_fit _ _ c.requires.ready.sound c.requires.accepted)

pub room_for_two-requires : goal.room_for_two-requires
room_for_two-requires c = subst (λ (o : Op). AllFit (made o)) c.in-Mev.is (made_fit _ _ c.requires.ready.sound c.requires.accepted)

pub room_for_three-requires : goal.room_for_three-requires
room_for_three-requires c = subst (λ (o : Op). AllFit (made o)) c.in-Mef.is (made_fit _ _ c.requires.ready.sound c.requires.accepted)

pub room_for_one-requires : goal.room_for_one-requires
room_for_one-requires c = subst (λ (o : Op). AllFit (made o)) c.in-Kemr.is (made_fit _ _ c.requires.ready.sound c.requires.accepted)

pub room_for_one-requires-in-Mekr : goal.room_for_one-requires-in-Mekr
room_for_one-requires-in-Mekr c = subst (λ (o : Op). AllFit (made o)) c.in-Mekr.is (made_fit _ _ c.requires.ready.sound c.requires.accepted)

pub room_for_one-requires-in-Mfkrh : goal.room_for_one-requires-in-Mfkrh
room_for_one-requires-in-Mfkrh c = subst (λ (o : Op). AllFit (made o)) c.in-Mfkrh.is (made_fit _ _ c.requires.ready.sound c.requires.accepted)

pub room_for_one-requires-in-Part : goal.room_for_one-requires-in-Part
room_for_one-requires-in-Part c = subst (λ (o : Op). AllFit (made o)) c.in-Part.is (made_fit _ _ c.requires.ready.sound c.requires.accepted)

pub returns-in-Mev-clause-ok : goal.returns-in-Mev-clause-ok
returns-in-Mev-clause-ok c = subst (λ (o : Op). OnOk c.room_for_two.result (HasRoomFor c.room_for_two.new.arena o)) (sym c.in-Mev.is) c.room_for_two.ensures.ok

pub returns-in-Mev-clause-known : goal.returns-in-Mev-clause-known
returns-in-Mev-clause-known c = λ all. c.room_for_two.ensures.known (subst (HasRoomFor c.args.arena.now) c.in-Mev.is all)

pub returns-in-Kvfs-clause-known : goal.returns-in-Kvfs-clause-known
returns-in-Kvfs-clause-known c = λ all. refl
