use Rattle.std.specs.Result.{is_ok}
use Rattle.commands.proofs.Prelude.{◌≡◌, ◌∙◌, Bool, List, Result, cond, ap, rules, sym, subst, Change, Failure, Journal, Point, TellsSession, told_of}
use Rattle.call_types.specs.declared.command.Change.TheVariants as change
use Rattle.call_types.specs.declared.command.Command.TheVariants as command
use Rattle.commands.specs.Known.{IsKnown}
use Rattle.commands.proofs.Knowing.{now_known}
use Rattle.commands.proofs.Settling.{settled, settled_exactly}
use Rattle.commands.proofs.known.KnownSession.change.Goals as goal
use Rattle.commands.proofs.known.KnownSession.change.Goals.{in-Act, in-Lamina, in-Block, in-Sweep, in-Glue, in-Split, then-is_ok, else-is_ok}

-- a change may end so, and leave this session
abbrev Ends : Journal → Change → Journal × Result (Unit {0}) Failure → Type 0
Ends s d r = TellsSession s (command.Change d) (told_of r.1) r.0

ends : (s : Journal) (d e : Change) (r q : Journal × Result (Unit {0}) Failure) → r ≡ q → d ≡ e → Ends s e q → Ends s d r
ends s d e r q same is h = subst (λ (x : Change). Ends s x r) (sym is) (subst (Ends s e) (sym same) h)

told : (c : goal.Joined-is_ok) → Ends c.self.inside.session c.args.wanted c.match-wanted.session
told c = let s = c.self.inside.session in elim c.match-wanted.branch [
  | in-Act w ↦ ends s _ _ _ _ w.session-is w.in-Act.is w.act.ensures
  | in-Lamina w ↦ ends s _ _ _ _ w.session-is w.in-Lamina.is
      (subst (λ (ps : List Point). Ends s (change.Lamina w.in-Lamina.solid ps) w.lamina.result) w.points.ensures
      (settled_exactly _ _ _ _ w.lamina.result.1 w.lamina.ensures.ok w.lamina.ensures.record w.lamina.ensures.refused w.lamina.ensures.err))
  | in-Block w ↦ ends s _ _ _ _ w.session-is w.in-Block.is (search rules)
  | in-Sweep w ↦ ends s _ _ _ _ w.session-is w.in-Sweep.is (settled_exactly _ _ _ _ w.sweep.result.1 w.sweep.ensures.ok w.sweep.ensures.record w.sweep.ensures.refused w.sweep.ensures.err)
  | in-Glue w ↦ let g = w.glue_with_flat in ends s _ _ _ _ w.session-is w.in-Glue.is (settled _ _ _ _ _ g.result.1 g.ensures.ok g.ensures.record g.ensures.refused g.ensures.memory g.ensures.err)
  | in-Split w ↦ ends s _ _ _ _ w.session-is w.in-Split.is (search rules)
]

pub glue_with_flat-requires : goal.glue_with_flat-requires
glue_with_flat-requires c = record { flat = c.flat_of-flat.ensures c.self.inside.session c.self.invariant }

pub returns : goal.returns
returns c = subst (λ (s : Journal). Ends s c.args.wanted c.match-wanted.session) c.self.view_is (told c)

pub invariant_of-result : goal.invariant_of-result
invariant_of-result c =
    let s = c.self.inside.session in let o = c.self.inside.known in let k = c.known_next-next.result in let r = c.match-wanted.session in
    let is : c.if-is_ok.known ≡ cond (is_ok r.1) k o = elim c.if-is_ok.branch [
      | then-is_ok w ↦ w.known-is ∙ ap (λ (b : Bool). cond b k o) (sym w.if-is_ok.true ∙ c.is_ok.ensures.value)
      | else-is_ok w ↦ w.known-is ∙ ap (λ (b : Bool). cond b k o) (sym w.if-is_ok.false ∙ c.is_ok.ensures.value)
    ] in
    subst (IsKnown r.0) (sym is) (now_known s r.0 o k c.arena.result.now.model c.args.wanted r.1 c.arena.ensures.ready.sound c.arena.ensures.model c.self.invariant c.known_next-next.ensures (told c))
