-- A walk round a ring: where it begins, and what its steps read.
use Rattle.raw_ring.proofs.Prelude.{◌≡◌, ℕ, List, Some, IsSome, refl, sym, ap, ◌∙◌, subst, same_Some, Node, Row, row_at, Cell, node_at, of_node, next_at, code_at, or_zero, next_of, IsLive, Rows, code_of, ring_map, IsTied, IsPlace}
use denote.RawPtr.{Ptr}
use Rattle.raw_ring.proofs.Mapping.{is_live}
use Rattle.raw_ring.proofs.Tying.{node_there, goes, next_is, permutes}

module _ (rows : Rows) (cs : List Cell) (c : ℕ) (r : Row) (e : row_at rows c ≡ Some r) (I : IsTied rows cs) where
  pub walk_begins : IsLive (ring_map rows cs) c → IsPlace rows cs r.at.ptr
  walk_begins live = record { tied = I; there = (c, r, e, is_live rows cs c r live e, refl) }

  pub code_there : code_of cs (Some r.at.ptr) ≡ c
  code_there = ap or_zero (I.places.placed c r e)

module _ (rows : Rows) (cs : List Cell) (p : Ptr) (P : IsPlace rows cs p) where
  pub walk_there : IsSome (node_at cs p)
  walk_there = subst (λ (q : Ptr). IsSome (node_at cs q)) P.there.4 (node_there rows cs P.tied.places P.there.0 P.there.1 P.there.2)

  module _ (n : Node) (read : node_at cs p ≡ Some n) where
    abbrev next_code : ℕ
    next_code = (goes rows cs P.tied P.there.0 P.there.1 P.there.2).1

    goes_on : next_of (ring_map rows cs) P.there.0 ≡ Some next_code
    goes_on =
        let g = goes rows cs P.tied P.there.0 P.there.1 P.there.2 in
        next_is rows cs P.tied P.there.0 g.1 P.there.1 g.2 P.there.2 g.5 (g.3 ∙ ap Some (sym g.6)) P.there.3

    led_to : (goes rows cs P.tied P.there.0 P.there.1 P.there.2).0 ≡ n.next
    led_to = same_Some _ _ (sym (goes rows cs P.tied P.there.0 P.there.1 P.there.2).3 ∙ ap (next_at cs) P.there.4 ∙ ap (of_node (λ k. k.next)) read)

    pub walk_on : IsPlace rows cs n.next
    walk_on =
        let g = goes rows cs P.tied P.there.0 P.there.1 P.there.2 in
        record { tied = P.tied; there = (g.1, g.2, g.5, is_live rows cs g.1 g.2 ((permutes rows cs P.tied).live P.there.0 g.1 goes_on) g.5, g.6 ∙ led_to) }

    pub walk_next : next_of (ring_map rows cs) (code_of cs (Some p)) ≡ Some (code_of cs (Some n.next))
    walk_next =
        let g = goes rows cs P.tied P.there.0 P.there.1 P.there.2 in
        ap (λ (q : Ptr). next_of (ring_map rows cs) (code_of cs (Some q))) (sym P.there.4)
        ∙ ap (next_of (ring_map rows cs)) (code_there rows cs P.there.0 P.there.1 P.there.2 P.tied)
        ∙ goes_on
        ∙ ap (λ (d : ℕ). Some d) (sym (ap or_zero (ap (code_at cs) (sym led_to) ∙ g.4)))
