use Rattle.std.proofs.Common.{ap, subst, map, ◌∙◌, string_bytes}
use Rattle.std.proofs.lemmas.Result.{IfOk-weaker}
use Rattle.clap.specs.Words.{App, is_simple, matches_of}
use Rattle.clap.specs.Faults.{fault_of, is_simple_and_free}
use Rattle.clap.specs.Kinds.{FailsBy}
use Rattle.command_line.proofs.CommandLine.{is_taken_whole, is_free}
use Rattle.command_line.proofs.words.parse.Goals as goal

pub returns-clause-matches : goal.returns-clause-matches
returns-clause-matches c =
    let is = c.in_ok-command.ensures in
    IfOk-weaker c.try_get_matches_from.result _ _ (λ m h. (h (ap is_simple is ∙ is_taken_whole)).0 ∙ ap (λ (a : App). matches_of a (map string_bytes c.args.words.now)) is) c.try_get_matches_from.ensures.matches

pub returns-clause-fault : goal.returns-clause-fault
returns-clause-fault c =
    let is = c.in_ok-command.ensures in
    subst (λ (a : App). FailsBy (fault_of a (map string_bytes c.args.words.now)) c.try_get_matches_from.result) is (c.try_get_matches_from.ensures.kinds (ap is_simple_and_free is ∙ is_free))
