-- What is promised of a command.
use Rattle.format.specs.Sound.{PlainFields}
use Rattle.std.specs.Prelude.{IfOk, Result}
use Rattle.command.specs.declared.Command.{Command}
use Rattle.command.specs.declared.Command.TheVariants.{Record}
use Rattle.command.specs.declared.Misuse.{Misuse}

-- Each field of a record that a command gives is what its byte stands for, so the record is read again from its bytes.
abbrev pub Plain : Command → Type 0
Plain (Record r) = PlainFields r
Plain other = Unit {0}

-- A command that a line gives is plain.
abbrev pub SaysPlain : Result Command Misuse → Type 0
SaysPlain r = IfOk r Plain
