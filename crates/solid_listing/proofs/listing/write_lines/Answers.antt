use Rattle.solid_listing.proofs.Prelude.{◌≡◌, ◌∙◌, ◌<◌, ◌+◌, ap, refl, ℕ, List, ◌++◌, drop, get_or, arith, flat_map, drop_more, err_from_is_err_and, Solid, Model, line_text, text_of, kind_lines, kinds, lines, outgoing}
use Rattle.std.proofs.lemmas.List.Concat.{flat_map-append}
use Rattle.solid_listing.proofs.TellingLaws.{none_yet, told_more, breaks_inside, all_told}
use Rattle.solid_listing.proofs.listing.write_lines.Goals as goal

rest : Model → ℕ → List ℕ
rest M i = text_of (flat_map (kind_lines M) (drop i kinds))

-- the lines of the next kind, and those of the later ones
next : (M : Model) (i : ℕ) → i < 5 → rest M i ≡ text_of (kind_lines M (get_or kinds i Solid)) ++ rest M (i + 1)
unfolding rest
next M i h = ap (λ ks. text_of (flat_map (kind_lines M) ks)) (drop_more kinds i Solid h) ∙ flat_map-append line_text (kind_lines M (get_or kinds i Solid)) (flat_map (kind_lines M) (drop (i + 1) kinds))

pub loop-kind-init : goal.loop-kind-init
unfolding lines
loop-kind-init g c = none_yet _ _ _ refl

pub returns-in_err-write_kind : goal.returns-in_err-write_kind
unfolding rest
returns-in_err-write_kind g c =
    let M = c.args.arena.now.model in
    let i = c.loop-kind.kind-index in
    let d = outgoing (g.W.Write.contents c.write_kind.new.writer) c.write_kind.new.text in
    let p = err_from_is_err_and c.from_residual.result c.from_residual.ensures.1 in
    rw p.1 (breaks_inside _ _ d _ _ _ (text_of (kind_lines M (get_or kinds i Solid))) c.loop-kind.invariant c.in_err-write_kind.ensures (next M i c.loop-kind-test.true))

pub loop-kind-preserved : goal.loop-kind-preserved
unfolding rest
loop-kind-preserved g c = told_more _ _ _ _ _ _ _ c.loop-kind.invariant c.in_ok-write_kind.ensures (next c.args.arena.now.model c.loop-kind.kind-index c.loop-kind-test.true)

pub returns : goal.returns
unfolding rest
returns g c =
    let all : c.loop-kind.kind-index ≡ 5 = omega arith in
    all_told _ _ _ _ c.loop-kind.invariant (ap (rest c.args.arena.now.model) all)
