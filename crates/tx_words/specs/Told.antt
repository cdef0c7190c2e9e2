-- What `clap` is told of an argument and of a command.
use Rattle.std.specs.Prelude.{◌≡◌, false, IfOk, Result}
use Rattle.clap.specs.Words.{App, Rule, app_of, rule_of}
use Rattle.clap.specs.declared.builder.arg.Arg.{Arg}
use Rattle.clap.specs.declared.builder.command.Command.{Command}
use Rattle.clap.specs.declared.builder.command.Command.TheViews.{out-Command as fields_of}

-- an argument of these rules, which is its command's alone
pub record IsArg (rule : Rule) (arg : Arg) : Type 0 where
  pub told : rule_of arg ≡ rule
  pub local : arg.global ≡ false

-- a command that is told so, whose arguments are its own alone
pub record IsTold (app : App) (command : Command) : Type 0 where
  pub told : app_of command ≡ app
  pub local : (fields_of command).has_globals ≡ false

-- such a command, unless memory was wanting
abbrev pub Makes : {E : Type 0} → App → Result Command E → Type 0
Makes app made = IfOk made (IsTold app)
