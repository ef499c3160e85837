use Rattle.euler_laws.proofs.Common.{ring_there, ring_number}
use Rattle.euler_conditions.proofs.Borders.{rings_met, rings_done}
use Rattle.euler_conditions.proofs.torn.rings_lead_out.Goals as goal

pub rings-preserved : goal.rings-preserved
rings-preserved c =
    let M = c.args.arena.now.model in let f = c.args.f in let ring = c.in-Some.ring in
    record {
      most = ring_number M c.requires.ready.sound ring (ring_there M f ring c.in-Some.ensures.1).0;
      met = rings_met M c.args.listed_faces.now f c.rings.last ring c.in-Some.ensures c.rings.invariant.met (c.loop_leads_out.ensures.within c.if-loop_leads_out.false);
    }

pub returns-clause-within : goal.returns-clause-within
returns-clause-within c = λ _. rings_done c.args.arena.now.model c.args.listed_faces.now c.args.f c.rings.last c.in_default.ensures c.rings.invariant.met
