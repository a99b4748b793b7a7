use Rattle.std.proofs.Common.{◌≡◌, ◌++◌, take}
use Rattle.std.specs.Prelude.{string_bytes}
use Rattle.std.specs.List.{flat_map}
use Rattle.reply_text.specs.Statuses.{status_line}
use Rattle.reply_text.proofs.statuses.add_status_lines.Given as goal

abbrev pub invariant-loop-name : goal.invariant-loop-name
invariant-loop-name l = string_bytes l.out ≡ string_bytes l.initial.out ++ flat_map (λ x. status_line x.0 x.1 x.2) (take l.name-index l.shown)
