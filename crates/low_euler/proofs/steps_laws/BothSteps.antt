-- Two loose half-edges put before one half-edge, in either order.
use Rattle.low_euler.proofs.Prelude.{◌≡◌, ◌≢◌, ℕ, true, List, [], ◌∷◌, refl, sym, ap, ◌∙◌, subst, count, joined, put_ring, HalfEdge, At, code, mate, Table, Model, LoopContent, cycle, items_of, content, has_half, loop_of, cycle_of, before, StandsIn, mate_other, mate-mate, holds_in, Store, with_loop, loose_key, join, LoopsStandApart, IsStanding, IsLoose, IsUnused, with_edge, put_before}
use Rattle.euler_operators.specs.Table as table
use Rattle.low_euler.proofs.steps_laws.Spots.{spots}
use Rattle.low_euler.proofs.steps_laws.RingSteps.{joined_twice}
use Rattle.low_euler.proofs.steps_laws.StoreSteps.{JoinsAlone, join_is, joins_after, was_joined, edge_turned, content_written, written_again}
use Rattle.low_euler.proofs.steps_laws.LoopsApart.{stays-put, before_stands}
use Rattle.low_euler.proofs.steps_laws.EdgeSteps.{first_loose, second_loose, loose_made}

-- x is put before g, and then y before g
abbrev both_put : Store → ℕ → ℕ → ℕ → Table (List ℕ) → Store
both_put t g x y z = record t { model = with_loop t.model (loop_of t.model g) (cycle (put_ring y g (put_ring x g (cycle_of t.model g)))); loose = z }

module _ (t : Store) (g x y : ℕ) (z : Table (List ℕ)) (placed : LoopsStandApart t.model) (stands : IsStanding t.model g) (alone : IsLoose t x) (other : IsLoose (put_before t g x) y)
    (gone : table.remove (put_before t g x).loose (loose_key (put_before t g x) y) ≡ z) where
  open spots t g use {r, xs, p}

  abbrev one_in : Store
  one_in = put_before t g x

  -- what stood in the loop stands there still
  stays : (k : ℕ) → StandsIn t.model k r → loop_of one_in.model k ≡ r
  stays k i = stays-put t placed g x stands.stands alone k r i

  pub last_stays : loop_of one_in.model p ≡ r
  last_stays = stays p (before_stands t.model placed g stands.stands)

  pub last_there : has_half one_in.model p ≡ true
  unfolding put_before
  last_there = stands.before_there

  -- another ring for the loop then
  again : (f : List ℕ → List ℕ) (w : Table (List ℕ)) →
      record one_in { model = with_loop one_in.model r (cycle (f (items_of (content one_in.model r)))); loose = w } ≡ record t { model = with_loop t.model r (cycle (f (put_ring x g xs))); loose = w }
  unfolding put_before
  again f w =
      let ring : LoopContent = cycle (put_ring x g xs) in
      ap (λ c. record t { model = with_loop (with_loop t.model r ring) r (cycle (f (items_of c))); loose = w }) (content_written t.model r ring)
      ∙ ap (λ (N : Model). record t { model = N; loose = w }) (written_again t.model r ring (cycle (f (put_ring x g xs))))

  -- y put before the same one
  pub put_both : put_before one_in g y ≡ both_put t g x y z
  unfolding put_before
  put_both =
      ap (λ l. record one_in { model = with_loop one_in.model l (cycle (put_ring y g (items_of (content one_in.model l)))); loose = table.remove one_in.loose (loose_key one_in y) }) (stays g stands.stands)
      ∙ again (put_ring y g) (table.remove one_in.loose (loose_key one_in y)) ∙ ap (both_put t g x y) gone

  -- y joined after what stood before g at first: as if y had been put first
  pub joined_both : y ≢ x → count y xs ≡ 0 → join one_in p y ≡ both_put t g y x z
  unfolding before
  joined_both ne none =
      join_is one_in p r y last_there last_stays stands.looped other
      ∙ again (λ ys. joined p y ys (y ∷ [])) (table.remove one_in.loose (loose_key one_in y))
      ∙ ap (λ ys. record t { model = with_loop t.model r (cycle ys); loose = table.remove one_in.loose (loose_key one_in y) })
      (joined_twice xs stands.apart g (holds_in g (content t.model r) stands.stands) y x ne none (alone.nowhere r))
      ∙ ap (both_put t g y x) gone

-- the mate of a new edge's half-edge put before another one, and then half joined after what stood before that one at first
module _ (s : Store) (half from : HalfEdge) (a b : ℕ) (unused : IsUnused s (code half)) (placed : LoopsStandApart (with_edge s (code half) a b).model) (first : IsStanding (with_edge s (code half) a b).model (code from)) where
  open spots s (code half) use {h, m}
  open spots s (code from) use {h as g}

  abbrev edged : Store
  edged = with_edge s h a b

  unused_mate : IsUnused s m
  unused_mate = record { bare = unused.bare; first = unused.second; second = λ l. ap (λ k. count k (items_of (content s.model l))) (mate-mate h) ∙ unused.first l }

  pub mate_loose : IsLoose edged m
  mate_loose = subst (λ t. IsLoose t m) (edge_turned s h a b) (first_loose s m b a unused_mate)

  half_left : IsLoose (put_before edged g m) h
  half_left = subst (IsLoose (put_before edged g m)) (mate-mate h) (subst (λ t. IsLoose (put_before t g m) (mate m)) (edge_turned s h a b) (second_loose s m b a unused_mate (At from)))

  none_left : table.remove (put_before edged g m).loose (loose_key (put_before edged g m) h) ≡ s.loose
  none_left = subst (λ k. table.remove (put_before edged g m).loose (loose_key (put_before edged g m) k) ≡ s.loose) (mate-mate h)
      (subst (λ t. table.remove (put_before t g m).loose (loose_key (put_before t g m) (mate m)) ≡ s.loose) (edge_turned s h a b) (loose_made s m b a unused_mate (At from)))

  there : has_half (put_before edged g m).model (before edged.model g) ≡ true
  there = last_there edged g m h s.loose placed first mate_loose half_left none_left

  near : loop_of (put_before edged g m).model (before edged.model g) ≡ loop_of edged.model g
  near = last_stays edged g m h s.loose placed first mate_loose half_left none_left

  module _ (q : Store) (n : ℕ) (e : q ≡ put_before edged g m) (en : n ≡ before edged.model g) where
    pub half_asks : JoinsAlone q n h
    half_asks = joins_after (put_before edged g m) (before edged.model g) (loop_of edged.model g) h there near first.looped half_left q n h e en refl

    pub half_was : (u : Store) → u ≡ join q n h → u ≡ put_before (put_before edged g h) g m
    half_was u d =
        was_joined (put_before edged g m) (before edged.model g) (loop_of edged.model g) h there near first.looped half_left q u n h e en refl d
        ∙ joined_both edged g m h s.loose placed first mate_loose half_left none_left (mate_other h) ((first_loose s h a b unused).nowhere (loop_of edged.model g))
        ∙ sym (put_both edged g h m s.loose placed first (first_loose s h a b unused) (second_loose s h a b unused (At from)) (loose_made s h a b unused (At from)))
