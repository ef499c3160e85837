use Rattle.undo_journal.proofs.Prelude.{sym, subst, ap, ◌∙◌, ◌≡◌, ◌+◌, ◌++◌, List, [], ◌∷◌, take, inverse, Store, HasGrown, Record, one_record, IsStepped, journal_of, IsKept}
use Rattle.undo_journal.proofs.Kept.{kept_act, kept_grown}
use Rattle.undo_journal.proofs.Seen.{goes_seen, act_seen}
use Rattle.undo_journal.proofs.session.Session.accept.Goals as goal

pub invariant_of-self-in_err-act_one : goal.invariant_of-self-in_err-act_one
invariant_of-self-in_err-act_one c =
    subst (λ (rs : List Record). IsKept c.act_one.new.arena rs c.self.inside.place) (sym (c.in_err-act_one.ensures.err_records ∙ c.place_for_one.ensures.items))
    (kept_grown _ _ _ _ (subst (λ (s : Store). HasGrown s c.act_one.new.arena) c.deref_mut.ensures.value c.in_err-act_one.ensures.err) c.self.invariant)

abbrev records : (c : goal.After-self-2-1) → c.act_one.new.records.items ≡ take c.self.inside.place c.self.inside.records.items ++ one_record c.args.op (inverse c.self.inside.arena.value.model c.args.op) ∷ []
records c =
    c.in_ok-act_one.ensures.records
    ∙ (λ i. take c.self.inside.place (c.place_for_one.ensures.items i) ++ one_record c.args.op (inverse (c.deref_mut.ensures.value i).model c.args.op) ∷ [])

abbrev stepped : (c : goal.After-self-2-1) → IsStepped c.self.inside.arena.value c.args.op c.act_one.new.arena
stepped c = subst (λ (s : Store). IsStepped s c.args.op c.act_one.new.arena) c.deref_mut.ensures.value c.in_ok-act_one.ensures.stepped

pub invariant_of-self-2 : goal.invariant_of-self-2
invariant_of-self-2 c =
    subst (λ (rs : List Record). IsKept c.act_one.new.arena rs (c.self.inside.place + 1)) (sym (records c))
    (kept_act _ _ _ _ _ c.self.invariant (goes_seen _ _ _ _ c.self.invariant c.self.view_is _ c.requires) (stepped c))

pub returns-clause-ok : goal.returns-clause-ok
returns-clause-ok c =
    ap (λ (rs : List Record). journal_of c.act_one.new.arena.model rs (c.self.inside.place + 1)) (records c)
    ∙ act_seen _ _ _ _ c.self.invariant c.self.view_is _ _ (goes_seen _ _ _ _ c.self.invariant c.self.view_is _ c.requires) (stepped c)
