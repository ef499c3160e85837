use Rattle.split_sections.proofs.Prelude.{◌≡◌, ◌∙◌, ◌&&◌, ℕ, Bool, cond, List, [], ◌∷◌, ◌++◌, map, not, ap, sym, length, arith, count, count-append, SameItems, HasHalf, Model, Plane, Sound, after, tail, finish, code, mate, cycle_of, has_half, is_above, point_of, rotate_to, rotate_to-rotates, start, stays_low, low_mates, edge_fits, to_come, cycle_apart, item_there, item_in, start_is, goes_on, comes_back, coded}
use Rattle.split_sections.proofs.section_edges_laws.Mates.{mates_turned, one_mate, mates_joined, more_met}
use Rattle.split_sections.proofs.section_edges.halves.push_mates_round.Goals as goal

pub round-init : goal.round-init
round-init c =
    let M = c.args.arena.now.model in let sound = c.requires.ready.sound in let h = c.code-first.result in let there = ap (has_half M) c.code-first.ensures ∙ c.requires.there in
    let hs = cycle_of M h in let had = map code c.args.mates.now.items in
    let whole : SameItems (low_mates M c.args.plane (h ∷ to_come h hs h)) (low_mates M c.args.plane hs) =
    λ x. ap (λ ks. count x (low_mates M c.args.plane ks)) (sym (start_is h hs (cycle_apart M sound h there) (item_in M sound h there))) ∙ mates_turned M c.args.plane hs (rotate_to h hs) (rotate_to-rotates h hs) x in
    record {
      at_in = item_in M sound h there;
      sides = c.starts_low-low.ensures.sides;
      low = c.starts_low-low.ensures.is;
      mates = λ x. omega (arith, whole x, count-append x had (low_mates M c.args.plane (h ∷ to_come h hs h)), count-append x had (low_mates M c.args.plane hs));
    }

pub code-first-requires : goal.code-first-requires
code-first-requires c = edge_fits c.args.arena.now.model c.requires.ready.sound c.args.h c.requires.there

pub next_code-next-requires-clause-there : goal.next_code-next-requires-clause-there
next_code-next-requires-clause-there c =
    item_there c.args.arena.now.model c.requires.ready.sound c.code-first.result (ap (has_half c.args.arena.now.model) c.code-first.ensures ∙ c.requires.there) c.round.at c.round.invariant.at_in

-- what was added is the mate of one half-edge that doesn't reach above, or nothing
added : (M : Model) (sound : Sound M) (p : Plane) (at next mated : ℕ) (low next_low : Bool) (had now : List ℕ) → HasHalf M at → next ≡ after M at → low ≡ not (is_above p (start M at)) → next_low ≡ not (is_above p (start M next)) → mated ≡ mate at
    → now ≡ had ++ cond (low && next_low) (mated ∷ []) [] → now ≡ had ++ low_mates M p (at ∷ [])
added M sound p at next mated low next_low had now there goes is next_is paired e =
    let ends : not (is_above p (start M next)) ≡ not (is_above p (finish M at)) = ap (λ v. not (is_above p (point_of M v))) (ap (tail M) goes ∙ sound.ends_meet at there) in
    let wanted : stays_low M p at ≡ low && next_low = λ i. sym is i && sym (next_is ∙ ends) i in
    e ∙ (λ i. had ++ cond (low && next_low) (paired i ∷ []) []) ∙ ap (λ (ms : List ℕ). had ++ ms) (sym (one_mate M p at (low && next_low) wanted))

pub returns-then-next-first-clause-mates : goal.returns-then-next-first-clause-mates
returns-then-next-first-clause-mates c = λ x.
    let M = c.args.arena.now.model in let sound = c.requires.ready.sound in let p = c.args.plane in let h = c.code-first.result in let there = ap (has_half M) c.code-first.ensures ∙ c.requires.there in
    let at = c.round.at in let had = map code c.round.mates.items in
    let back = comes_back M sound h there at c.next_code-next.result c.round.invariant.at_in (λ _. c.next_code-next.ensures.next) c.if-next-first.true in
    ap (count x) (added M sound p at c.next_code-next.result (code c.mate.result) c.round.low c.starts_low-next_low.result had (map code c.push_if.new.found.items)
    (item_there M sound h there at c.round.invariant.at_in) c.next_code-next.ensures.next c.round.invariant.low c.starts_low-next_low.ensures.is
    (c.mate.ensures ∙ ap mate (coded c.of_code.result at c.of_code.ensures)) c.in_ok-push_if.ensures)
    ∙ ap (λ (ks : List ℕ). count x (had ++ low_mates M p (at ∷ ks))) (sym back.0) ∙ c.round.invariant.mates x
    ∙ ap (λ k. count x (map code c.args.mates.now.items ++ low_mates M p (cycle_of M k))) c.code-first.ensures

pub round-smaller : goal.round-smaller
round-smaller c =
    let on = goes_on c.args.arena.now.model c.requires.ready.sound c.code-first.result (ap (has_half c.args.arena.now.model) c.code-first.ensures ∙ c.requires.there) c.round.at c.next_code-next.result c.round.invariant.at_in (λ _. c.next_code-next.ensures.next) (c.if-next-first.false) in
    omega (arith, ap length on.1)

pub round-preserved : goal.round-preserved
round-preserved c =
    let M = c.args.arena.now.model in let sound = c.requires.ready.sound in let p = c.args.plane in let h = c.code-first.result in let there = ap (has_half M) c.code-first.ensures ∙ c.requires.there in
    let at = c.round.at in let next = c.next_code-next.result in let had = map code c.round.mates.items in let hs = cycle_of M h in let rest = next ∷ to_come h hs next in
    let on = goes_on M sound h there at next c.round.invariant.at_in (λ _. c.next_code-next.ensures.next) c.if-next-first.false in
    let more = added M sound p at next (code c.mate.result) c.round.low c.starts_low-next_low.result had (map code c.push_if.new.found.items)
    (item_there M sound h there at c.round.invariant.at_in) c.next_code-next.ensures.next c.round.invariant.low c.starts_low-next_low.ensures.is
    (c.mate.ensures ∙ ap mate (coded c.of_code.result at c.of_code.ensures)) c.in_ok-push_if.ensures in
    let parted : low_mates M p (at ∷ []) ++ low_mates M p rest ≡ low_mates M p (at ∷ to_come h hs at) = sym (mates_joined M p (at ∷ []) rest) ∙ ap (λ (ks : List ℕ). low_mates M p (at ∷ ks)) (sym on.1) in
    record {
      at_in = on.0;
      sides = c.starts_low-next_low.ensures.sides;
      low = c.starts_low-next_low.ensures.is;
      mates = more_met _ had (low_mates M p (at ∷ [])) (low_mates M p rest) _ (λ x. ap (count x) more) (λ x. ap (λ (ms : List ℕ). count x (had ++ ms)) parted ∙ c.round.invariant.mates x);
    }
