use Rattle.raw_ring.proofs.Prelude.{◌≡◌, Some, subst, next_of, IsPermutation, code_of, Place}
use Rattle.raw_ring.proofs.Linking.{IsSome-next}
use Rattle.raw_ring.proofs.Tying.{permutes}
use Rattle.raw_ring.proofs.Walking.{walk_there, walk_on, walk_next}
use Rattle.raw_ring.proofs.walk.Walk.step.Goals as goal

pub read-here-requires : goal.read-here-requires
read-here-requires c = walk_there _ _ _ c.self.invariant

pub read-requires : goal.read-requires
read-requires c = IsSome-next _ _ _ c.self.invariant.tied.linked c.read-here.ensures

pub invariant_of-self : goal.invariant_of-self
invariant_of-self c = walk_on _ _ _ c.self.invariant _ c.read-here.ensures

pub returns-clause-next : goal.returns-clause-next
returns-clause-next c =
    subst (λ (w : Place). next_of w.rings w.code ≡ Some (code_of c.self.inside.nodes.now (Some c.read-here.result.next))) c.self.view_is (walk_next _ _ _ c.self.invariant _ c.read-here.ensures)

pub returns-clause-permutation : goal.returns-clause-permutation
returns-clause-permutation c = subst (λ (w : Place). IsPermutation w.rings) c.self.view_is (permutes _ _ c.self.invariant.tied)
