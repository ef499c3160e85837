use Rattle.std.proofs.Common.{◌≡◌, ◌⊎◌, ◌∙◌, inl, inr, ap, sym, false, rules, Bool}
use Rattle.clap.specs.Words.{kind_of}
use Rattle.clap.specs.declared.error.Error.{Error}
use Rattle.clap.specs.declared.error.kind.ErrorKind.{ErrorKind}
use Rattle.clap.specs.declared.error.kind.ErrorKind.TheVariants as kind
use Rattle.script_running.specs.declared.running.RunFault.TheVariants as fault
use Rattle.command_line.specs.Endings.{text_trouble, trouble_told}
use Rattle.command_line.specs.declared.ending.Trouble.TheVariants as trouble
use Rattle.command_line.proofs.ending.Trouble.told.Goals as goal
use Rattle.command_line.proofs.ending.Trouble.told.Goals.{in_default-via-in-DisplayHelp+else-not-is_printed, in_default-via-in_default}

-- a text that was asked for and not written is a write fault
unwritten : (e : Error) (b : Bool) (k : ErrorKind) → (k ≡ kind.DisplayHelp) ⊎ (k ≡ kind.DisplayVersion) → k ≡ kind_of e → b ≡ false → trouble.Run fault.Write ≡ trouble_told e b
unwritten e b k (inl help) is unprinted = sym (ap (trouble_told e) unprinted ∙ ap (text_trouble e) (sym is ∙ help))
unwritten e b k (inr version) is unprinted = sym (ap (trouble_told e) unprinted ∙ ap (text_trouble e) (sym is ∙ version))

pub returns-in-DisplayHelp : goal.returns-in-DisplayHelp
returns-in-DisplayHelp c = unwritten c.args.error c.args.is_printed c.kind.result c.in-DisplayHelp.is c.kind.ensures c.if-not-is_printed.true

pub returns-in_default : goal.returns-in_default
returns-in_default c = elim c.in_default.branch [
  | in_default-via-in-DisplayHelp+else-not-is_printed w ↦ sym (ap (trouble_told c.args.error) w.if-not-is_printed.false)
  | in_default-via-in_default w ↦ search rules
]
