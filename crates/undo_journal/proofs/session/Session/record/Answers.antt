use Rattle.undo_journal.proofs.Prelude.{◌<◌, ◌+◌, length, arith, ap, ◌∙◌, List, slice_index_or, Record, model_at, LeadsBothWays}
use Rattle.undo_journal.proofs.Seen.{within, leads_seen, records_seen}
use Rattle.undo_journal.proofs.session.Session.record.Goals as goal

pub index-requires : goal.index-requires
index-requires c =
    let h : c.args.index < length c.self.inside.records.items = within _ _ _ _ c.self.invariant c.self.view_is c.args.index c.requires in
    omega (arith, h, c.self.inside.records.ok.0)

leads : (c : goal.After-index) → LeadsBothWays (model_at c.args.self.now.machine c.args.index) c.index.result.now (model_at c.args.self.now.machine (c.args.index + 1))
leads c = leads_seen _ _ _ _ c.self.invariant c.self.view_is c.args.index _ (within _ _ _ _ c.self.invariant c.self.view_is c.args.index c.requires) c.index.ensures

pub returns : goal.returns
returns c = let lead = leads c in record {
  exact = c.index.ensures ∙ ap (λ (rs : List Record). slice_index_or rs c.args.index c.index.result.now) (records_seen _ _ _ _ c.self.invariant c.self.view_is);
  forward_goes = lead.forward_goes;
  forward = lead.forward;
  back_goes = lead.back_goes;
  back = lead.back;
}
