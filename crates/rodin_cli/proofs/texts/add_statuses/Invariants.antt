use Rattle.std.proofs.Common.{◌≡◌, ◌++◌, take}
use Rattle.std.specs.Prelude.{string_bytes}
use Rattle.rodin_cli.specs.Texts.{status_lines}
use Rattle.rodin_cli.proofs.texts.add_statuses.Given as goal

abbrev pub invariant-loop-name : goal.invariant-loop-name
invariant-loop-name l = string_bytes l.text ≡ string_bytes l.initial.text ++ status_lines (take l.name-index l.shown)
