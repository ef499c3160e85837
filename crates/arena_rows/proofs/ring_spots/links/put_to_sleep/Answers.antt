use Rattle.arena_rows.proofs.Prelude.{ap, ◌∙◌, ◌≡◌, ℕ, Some, cond, ne_eqb, None, sym, contains_key, insert, RingMap, Spot, spot, of_spot, next_of, IsLive-next, plus, minus, plus_other, asleep}
use Rattle.arena_rows.proofs.ring_spots_laws.RingMaps.{spot-insert, spot-asleep, known-same, live_known}
use Rattle.arena_rows.proofs.ring_spots.links.put_to_sleep.Goals as goal

still : (m new : RingMap) (e : ℕ) → new ≡ insert m (plus e) None → next_of m (minus e) ≡ Some (minus e) → next_of new (minus e) ≡ Some (minus e)
still m new e is h = ap (λ (k : RingMap). next_of k (minus e)) is ∙ ap (of_spot (λ (s : Spot). s.next)) (spot-insert m (plus e) None (minus e) ∙ ap (λ b. cond b None (spot m (minus e))) (ne_eqb (minus e) (plus e) (λ q. plus_other e (sym q)))) ∙ h

pub sleep-requires-2 : goal.sleep-requires-2
sleep-requires-2 c = still _ _ _ c.sleep.ensures c.requires.second

pub returns : goal.returns
returns c =
    let k = known-same c.args.rings.now (plus c.args.e) None (live_known _ _ (IsLive-next _ _ _ c.requires.first)) in
    record {
      spots = ap (λ (m : RingMap). spot m) c.sleep-2.ensures ∙ spot-asleep _ _ ∙ ap (λ sp. asleep sp (minus c.args.e)) (ap (λ (m : RingMap). spot m) c.sleep.ensures ∙ spot-asleep _ _);
      known = ap (λ (m : RingMap). contains_key m) c.sleep-2.ensures
          ∙ known-same c.sleep.new.self (minus c.args.e) None (live_known _ _ (IsLive-next _ _ _ (still _ _ _ c.sleep.ensures c.requires.second)))
          ∙ ap (λ (m : RingMap). contains_key m) c.sleep.ensures ∙ k;
    }
