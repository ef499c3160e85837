use Rattle.split_checks.proofs.Prelude.{◌∙◌, ◌-◌, length, slice_index_or, map, sym, ap, insert_entry, code, half-code, sorted, key}
use Rattle.split_checks.proofs.cut_places_laws.Lists.{no_half, fewer, last_code}
use Rattle.split_checks.proofs.place_order_laws.Sorting.{key_cmp, place_in, one_met, one_more, met_is}
use Rattle.split_checks.proofs.place_order.order.in_order.Goals as goal

pub place_point-requires-clause-place : goal.place_point-requires-clause-place
place_point-requires-clause-place c =
    let M = c.args.arena.now.model in let p = c.args.plane in let hs = c.places.rest.now in let h = slice_index_or hs (length hs - 1) no_half in
    c.requires.whole (code h) (place_in M p (map code hs) (map code c.args.places.now) c.places.order.entries c.places.invariant.sorting (code h) (map code (fewer hs)) (last_code hs no_half c.in-len1-up.len_at_least))

pub returns-then-is_some-clause-order : goal.returns-then-is_some-clause-order
returns-then-is_some-clause-order c =
    let M = c.args.arena.now.model in let p = c.args.plane in let s = c.places.invariant.sorting in let hs = c.places.rest.now in let h = slice_index_or hs (length hs - 1) no_half in
    one_met M p (map code hs) (map code c.args.places.now) c.places.order.entries s (code h) (map code (fewer hs)) (last_code hs no_half c.in-len1-up.len_at_least)
    (sym (met_is M p (code h) (sorted M p s.done) c.places.order.entries c.key_of.result c.in_ok-met.met s.placed (c.key_of.ensures ∙ ap key c.place_point.ensures.is) c.in_ok-met.ensures.old) ∙ sym c.is_some.ensures ∙ c.if-is_some.true)

pub places-preserved : goal.places-preserved
places-preserved c =
    let M = c.args.arena.now.model in let p = c.args.plane in let s = c.places.invariant.sorting in let hs = c.places.rest.now in let h = slice_index_or hs (length hs - 1) no_half in
    record {
      sides = c.place_point.ensures.sides;
      sorting = one_more M p (map code hs) (map code c.args.places.now) c.places.order.entries s (code h) (map code (fewer hs)) (last_code hs no_half c.in-len1-up.len_at_least)
          (sym (met_is M p (code h) (sorted M p s.done) c.places.order.entries c.key_of.result c.in_ok-met.met s.placed (c.key_of.ensures ∙ ap key c.place_point.ensures.is) c.in_ok-met.ensures.old) ∙ sym c.is_some.ensures ∙ c.if-is_some.false)
          c.insert.new.self.entries (c.in_ok-met.ensures.entries ∙ (λ i. insert_entry key_cmp c.places.order.entries ((c.key_of.ensures ∙ ap key c.place_point.ensures.is) i) (sym (half-code h) i)));
    }
