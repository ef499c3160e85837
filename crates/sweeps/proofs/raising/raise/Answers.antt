use Rattle.sweeps.proofs.Prelude.{◌≡◌, ◌∙◌, Ok, ap, sym, subst, true, ◌∷◌, arith, YieldsList-from_first, has, rings_of, Sound, taken_in, face_there, sweep_is_prism, taken_of, further_none, further_on, steps_make}
use Rattle.std.proofs.lemmas.Iterator.{items_from_collect}
use Rattle.sweeps.proofs.RaisedLoops as raised
use Rattle.sweeps.proofs.RaisedLoops.{Sweeping}
use Rattle.sweeps.proofs.raising.raise.Goals as goal
use Rattle.sweeps.proofs.raising.raise.Goals.{In_ok-rings}

pub outer-outer-requires : goal.outer-outer-requires
outer-outer-requires c = subst (λ X. has X.faces c.args.f ≡ true) (sym c.arena-arena.ensures.model)
    (face_there c.args.draft.now.model c.args.f c.args.shift (subst Sound c.arena-arena.ensures.model c.arena-arena.ensures.ready.sound) c.requires.accepted)

pub rings_of-requires-clause-there : goal.rings_of-requires-clause-there
rings_of-requires-clause-there c = subst (λ X. has X.faces c.args.f ≡ true) (sym c.arena-arena.ensures.model)
    (face_there c.args.draft.now.model c.args.f c.args.shift (subst Sound c.arena-arena.ensures.model c.arena-arena.ensures.ready.sound) c.requires.accepted)

-- before the outer loop is swept
begins : (c : In_ok-rings) → Sweeping c.args.draft.now c.args.draft.now (taken_of c.args.taken.now) c.args.f c.args.shift (c.outer-outer.result ∷ c.in_ok-rings.rings.items)
begins c =
    let D = c.args.draft.now in let A = c.arena-arena.result.now.model in let f = c.args.f in let d = c.args.shift in
    let S = c.arena-arena.ensures.ready.sound in
    let k = taken_of c.args.taken.now in let outer = c.outer-outer.result in let rs = c.in_ok-rings.rings.items in
    let counted = c.requires.taken ∙ ap taken_in (sym c.arena-arena.ensures.model) in
    let rings = items_from_collect {E = Unit {0}} (Ok c.in_ok-rings.rings) c.in_ok-rings.ensures.ran (YieldsList-from_first (λ l. l) (λ left. left) (rings_of A f) c.rings_of.ensures) in
    raised.begun D k f d (outer ∷ rs) (raised.all_going D.model A c.arena-arena.ensures.model S f d c.requires.accepted k counted outer c.outer-outer.ensures rs rings)
    (raised.all_ops D.model A c.arena-arena.ensures.model S f d c.requires.accepted k counted outer c.outer-outer.ensures rs rings)

pub raise_loop-requires : goal.raise_loop-requires
raise_loop-requires c = let D = c.args.draft.now in raised.loop_ready D D (taken_of c.args.taken.now) c.args.f c.args.shift c.outer-outer.result c.in_ok-rings.rings.items (begins (goal.at.raise_loop-requires c).In_ok-rings)

pub rings-init : goal.rings-init
rings-init c =
    let D = c.args.draft.now in let X = c.raise_loop.new.draft in let t = taken_of c.in_ok-taken.taken in
    record {
      sweeping = subst (Sweeping D X t c.args.f c.args.shift) (sym c.as_slice-rest.ensures.value)
          (raised.loop_next D D (taken_of c.args.taken.now) c.args.f c.args.shift c.outer-outer.result c.in_ok-rings.rings.items (begins (goal.at.rings-init c).In_ok-rings) X c.in_ok-taken.ensures.steps t c.in_ok-taken.ensures.counters);
      further = c.in_ok-taken.ensures.further;
    }

pub raise_loop-requires-in-len1-up : goal.raise_loop-requires-in-len1-up
raise_loop-requires-in-len1-up c =
    let D = c.args.draft.now in let E = c.rings.draft in let k = taken_of c.rings.taken in let rest = c.rings.rest.now in
    raised.loop_ready D E k c.args.f c.args.shift (raised.first rest) (raised.others rest) (raised.going_on D E k c.args.f c.args.shift rest c.in-len1-up.len_at_least c.rings.invariant.sweeping)

pub rings-preserved : goal.rings-preserved
rings-preserved c =
    let D = c.args.draft.now in let E = c.rings.draft in let k = taken_of c.rings.taken in let rest = c.rings.rest.now in let f = c.args.f in let d = c.args.shift in
    record {
      sweeping = raised.loop_next D E k f d (raised.first rest) (raised.others rest) (raised.going_on D E k f d rest c.in-len1-up.len_at_least c.rings.invariant.sweeping)
          c.raise_loop-in-len1-up.new.draft c.in_ok-taken-2.ensures.steps (taken_of c.in_ok-taken-2.taken) c.in_ok-taken-2.ensures.counters;
      further = further_on _ _ _ c.rings.invariant.further c.in_ok-taken-2.ensures.further;
    }

pub returns-in_err-rings-clause-further : goal.returns-in_err-rings-clause-further
returns-in_err-rings-clause-further c = further_none _

pub returns-clause-steps : goal.returns-clause-steps
returns-clause-steps c = raised.all_swept c.args.draft.now c.rings.draft (taken_of c.rings.taken) c.args.f c.args.shift c.rings.rest.now (omega (arith, c.in_default.len_below)) c.rings.invariant.sweeping

pub returns-clause-model : goal.returns-clause-model
returns-clause-model c = steps_make _ _ _ (returns-clause-steps c) ∙ sweep_is_prism c.args.draft.now.model c.args.f c.args.shift (subst Sound c.arena-arena.ensures.model c.arena-arena.ensures.ready.sound) c.requires.accepted
