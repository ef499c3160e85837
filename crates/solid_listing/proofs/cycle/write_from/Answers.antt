use Rattle.solid_listing.proofs.Prelude.{◌∙◌, ap, sym, ◌∷◌, map, length, arith, refl, err_from_is_err_and, code, spaced, half_word, outgoing, codes_same, codes_differ, item_in, from_least, goes_on, comes_back}
use Rattle.solid_listing.proofs.TellingLaws.{none_yet, told_more, breaks_inside, all_told}
use Rattle.solid_listing.proofs.cycle.write_from.Goals as goal

pub round-init : goal.round-init
round-init g c =
    let M = c.args.arena.now.model in
    let h = code c.args.first in
    record {
      at_in = item_in M c.requires.sound h c.requires.there;
      written = none_yet _ _ _ (ap (λ hs. spaced (map half_word hs)) (from_least M c.requires.sound h c.requires.there c.requires.least));
    }

pub returns-in_err-put_half : goal.returns-in_err-put_half
returns-in_err-put_half g c =
    let d = outgoing (g.W.Write.contents c.put_half.new.writer) c.put_half.new.text in
    let p = err_from_is_err_and c.from_residual.result c.from_residual.ensures.1 in
    rw p.1 (breaks_inside _ _ d _ _ _ (32 ∷ half_word (code c.round.at)) c.round.invariant.written c.in_err-put_half.ensures refl)

pub returns-then-eq : goal.returns-then-eq
returns-then-eq g c =
    let back = comes_back c.args.arena.now.model c.requires.sound (code c.args.first) c.requires.there (code c.round.at) (code c.next-at.result) c.round.invariant.at_in c.next-at.ensures.in_loop (codes_same c.next-at.result c.args.first (sym c.eq.ensures ∙ c.if-eq.true)) in
    all_told _ _ _ _ (told_more _ _ _ _ _ _ _ c.round.invariant.written c.in_ok-put_half.ensures refl) (ap (λ zs. spaced (map half_word zs)) back.0)

pub round-smaller : goal.round-smaller
round-smaller g c =
    let on = goes_on c.args.arena.now.model c.requires.sound (code c.args.first) c.requires.there (code c.round.at) (code c.next-at.result) c.round.invariant.at_in c.next-at.ensures.in_loop (codes_differ c.next-at.result c.args.first (sym c.eq.ensures ∙ c.if-eq.false)) in
    omega (arith, ap length on.1)

pub round-preserved : goal.round-preserved
round-preserved g c =
    let on = goes_on c.args.arena.now.model c.requires.sound (code c.args.first) c.requires.there (code c.round.at) (code c.next-at.result) c.round.invariant.at_in c.next-at.ensures.in_loop (codes_differ c.next-at.result c.args.first (sym c.eq.ensures ∙ c.if-eq.false)) in
    record {
      at_in = on.0;
      written = told_more _ _ _ _ _ _ _ c.round.invariant.written c.in_ok-put_half.ensures (ap (λ zs. spaced (map half_word (code c.round.at ∷ zs))) on.1);
    }
