-- The operators that open a solid along all cycles of its section, in turn.
use Rattle.split_laws.proofs.Prelude.{ℕ, List, [], ◌∷◌, Plane, Opening, next_opened, all_opened, CanBeOpenedInTurn, can_open, others_on, openings_ops, Leads, leads_none, leads_on}
use Rattle.split_opening_laws.specs.opening.OpeningOps.{opening_ops}
use Rattle.split_opening_laws.proofs.opening.Whole.{opening_leads}

-- none of the operators is refused, and they open the solid along all cycles
pub openings_go : (above : List ℕ) (s : ℕ) (p : Plane) (o : Opening) (cs : List (List ℕ)) → CanBeOpenedInTurn above s o cs → Leads o.model (all_opened p above s o cs).model (openings_ops above s p o cs)
unfolding next_opened
openings_go above s p o [] w = leads_none o.model
openings_go above s p o (bs ∷ cs) w =
    let n : Opening = next_opened p above s o bs in
    leads_on o.model n.model (all_opened p above s n cs).model (opening_ops o.model s o.taken bs) (openings_ops above s p n cs)
    (opening_leads o.model above s o.taken bs (can_open above s o bs cs w)) (openings_go above s p n cs (others_on above s p o bs cs w))
