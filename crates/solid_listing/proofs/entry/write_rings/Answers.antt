use Rattle.solid_listing.proofs.Prelude.{◌≡◌, ◌∙◌, ap, sym, subst, ℕ, List, [], ◌∷◌, map, length, decimal, arith, refl, err_from_is_err_and, rings_of, spaced, Gathers, outgoing, next_ring, no_ring, rings_from_zero}
use Rattle.solid_listing.proofs.TellingLaws.{Gathers-nil, none_yet, told_more, breaks_inside, all_told}
use Rattle.solid_listing.proofs.entry.write_rings.Goals as goal

pub loop-l-init : goal.loop-l-init
loop-l-init g c = none_yet _ _ _ (ap (λ ns. spaced (map decimal ns)) (sym (rings_from_zero c.args.arena.now.model c.args.f c.requires.sound)))

pub returns-in_err-put_spaced : goal.returns-in_err-put_spaced
returns-in_err-put_spaced g c =
    let d = outgoing (g.W.Write.contents c.put_spaced.new.writer) c.put_spaced.new.text in
    let p = err_from_is_err_and c.from_residual.result c.from_residual.ensures.1 in
    rw p.1 (breaks_inside _ _ d _ _ _ (32 ∷ decimal c.in-Some.l) c.loop-l.invariant c.in_err-put_spaced.ensures
    (ap (λ ns. spaced (map decimal ns)) (next_ring c.args.arena.now.model c.args.f c.loop-l.above c.in-Some.l c.in-Some.ensures)))

pub loop-l-smaller : goal.loop-l-smaller
loop-l-smaller g c = let next = next_ring c.args.arena.now.model c.args.f c.loop-l.above c.in-Some.l c.in-Some.ensures in omega (arith, ap length next)

pub loop-l-preserved : goal.loop-l-preserved
loop-l-preserved g c =
    told_more _ _ _ _ _ _ _ c.loop-l.invariant c.in_ok-put_spaced.ensures
    (ap (λ ns. spaced (map decimal ns)) (next_ring c.args.arena.now.model c.args.f c.loop-l.above c.in-Some.l c.in-Some.ensures))

pub returns : goal.returns
returns g c = all_told _ _ _ _ c.loop-l.invariant (ap (λ ns. spaced (map decimal ns)) (no_ring c.args.arena.now.model c.args.f c.loop-l.above c.in_default.ensures))

none_are : (ns : List ℕ) → length ns ≡ 0 → [] ≡ ns
none_are [] e = refl
none_are (n ∷ ns) e = absurd (omega arith)

pub returns-then-ring_count-eq0 : goal.returns-then-ring_count-eq0
returns-then-ring_count-eq0 g c =
    let w = outgoing (g.W.Write.contents c.args.writer.now) c.args.text.now in
    subst (λ ns. Gathers w w (spaced (map decimal ns))) (none_are (rings_of c.args.arena.now.model c.args.f) (sym c.ring_count.ensures ∙ c.if-ring_count-eq0.true)) (Gathers-nil w)
