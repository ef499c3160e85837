use Rattle.split_checks.proofs.Prelude.{◌≡◌, List, ℕ, ◌++◌, true, false, not, map, slice_index_or, sym, ap, subst, arith, refl, Ok, IfOk, code, tick_same, some_meet, sorted, in_pairs, up_first, codes, ArePlacesAlong, entries_of, places_of}
use Rattle.split_checks.proofs.place_order_laws.Ordered.{at_some, at_none, held_in_order, order_there}
use Rattle.split_checks.proofs.cut_places_laws.Lists.{no_half, two_codes}
use Rattle.split_checks.proofs.face_pairs_laws.Meetings.{crossed_by, ordered, two_crossed}
use Rattle.split_checks.proofs.face_pairs.pairs.push_pairs.Goals as goal

pub push_only_pair-requires-clause-first : goal.push_only_pair-requires-clause-first
push_only_pair-requires-clause-first c =
    let M = c.args.arena.now.model in let p = c.args.plane in let met = c.args.places.now in
    let is = two_codes met (map code met) c.in-len2.len_at_least (omega (arith, c.in-len2.len_below)) refl in
    subst (ArePlacesAlong M p c.args.crossings.edges.now) (sym is) c.requires.whole (code (slice_index_or met 0 no_half)) (omega (arith, tick_same (code (slice_index_or met 0 no_half))))

pub push_only_pair-requires-clause-second : goal.push_only_pair-requires-clause-second
push_only_pair-requires-clause-second c =
    let M = c.args.arena.now.model in let p = c.args.plane in let met = c.args.places.now in
    let is = two_codes met (map code met) c.in-len2.len_at_least (omega (arith, c.in-len2.len_below)) refl in
    subst (ArePlacesAlong M p c.args.crossings.edges.now) (sym is) c.requires.whole (code (slice_index_or met 1 no_half)) (omega (arith, tick_same (code (slice_index_or met 1 no_half))))

pub returns-in-len2-clause-crossed : goal.returns-in-len2-clause-crossed
returns-in-len2-clause-crossed c =
    let M = c.args.arena.now.model in let p = c.args.plane in let met = c.args.places.now in
    let is = two_codes met (map code met) c.in-len2.len_at_least (omega (arith, c.in-len2.len_below)) refl in
    subst (λ b. IfOk c.push_only_pair.result (λ paired. not paired ≡ b)) (two_crossed M p (code (slice_index_or met 0 no_half)) (code (slice_index_or met 1 no_half)) (map code met) is) c.push_only_pair.ensures.crossed

pub returns-in-len2-clause-pairs : goal.returns-in-len2-clause-pairs
returns-in-len2-clause-pairs c =
    let M = c.args.arena.now.model in let p = c.args.plane in let met = c.args.places.now in
    let is = two_codes met (map code met) c.in-len2.len_at_least (omega (arith, c.in-len2.len_below)) refl in
    subst (λ qs. (c.push_only_pair.result ≡ Ok true) → (map codes c.push_only_pair.new.pairs.items ≡ map codes c.args.pairs.now.items ++ qs)) (ap (λ hs. map (up_first M p) (in_pairs (sorted M p hs))) is) c.push_only_pair.ensures.pairs

pub push_in_order-requires-clause-there : goal.push_in_order-requires-clause-there
push_in_order-requires-clause-there c =
    let M = c.args.arena.now.model in let p = c.args.plane in let hs : List ℕ = map code c.args.places.now in
    let fact = at_some c.in_ok-order.field-0 c.in-Some.order (some_meet M p hs ≡ true) (λ order. (some_meet M p hs ≡ false) × (order.entries ≡ entries_of M p (sorted M p hs))) c.in-Some.is c.in_ok-order.ensures.order in
    order_there M p hs c.in-Some.order.entries fact.1 c.args.crossings.edges.now c.requires.whole

pub returns-in-Some-clause-crossed : goal.returns-in-Some-clause-crossed
returns-in-Some-clause-crossed c =
    let M = c.args.arena.now.model in let p = c.args.plane in let hs : List ℕ = map code c.args.places.now in
    let fact = at_some c.in_ok-order.field-0 c.in-Some.order (some_meet M p hs ≡ true) (λ order. (some_meet M p hs ≡ false) × (order.entries ≡ entries_of M p (sorted M p hs))) c.in-Some.is c.in_ok-order.ensures.order in
    subst (λ b. IfOk c.push_in_order.result (λ paired. not paired ≡ b)) (ordered M p hs (places_of c.in-Some.order.entries) fact.0 (held_in_order M p hs c.in-Some.order.entries fact.1)) c.push_in_order.ensures.crossed

pub returns-in-Some-clause-pairs : goal.returns-in-Some-clause-pairs
returns-in-Some-clause-pairs c =
    let M = c.args.arena.now.model in let p = c.args.plane in let hs : List ℕ = map code c.args.places.now in
    let fact = at_some c.in_ok-order.field-0 c.in-Some.order (some_meet M p hs ≡ true) (λ order. (some_meet M p hs ≡ false) × (order.entries ≡ entries_of M p (sorted M p hs))) c.in-Some.is c.in_ok-order.ensures.order in
    subst (λ qs. (c.push_in_order.result ≡ Ok true) → (map codes c.push_in_order.new.pairs.items ≡ map codes c.args.pairs.now.items ++ qs))
    (ap (λ ks. map (up_first M p) (in_pairs ks)) (held_in_order M p hs c.in-Some.order.entries fact.1)) c.push_in_order.ensures.pairs

pub returns-in-None-clause-crossed : goal.returns-in-None-clause-crossed
returns-in-None-clause-crossed c =
    let M = c.args.arena.now.model in let p = c.args.plane in let hs : List ℕ = map code c.args.places.now in
    crossed_by M p hs (at_none c.in_ok-order.field-0 (some_meet M p hs ≡ true) (λ order. (some_meet M p hs ≡ false) × (order.entries ≡ entries_of M p (sorted M p hs))) c.in-None.is c.in_ok-order.ensures.order)
