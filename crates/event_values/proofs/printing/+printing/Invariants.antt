use Rattle.std.proofs.Common.{◌≡◌, ◌++◌, string_bytes, map, drop, false}
use Rattle.event_values.specs.Text.{value_text, with_commas}
use Rattle.event_values.proofs.printing.+printing.Given as goal

abbrev pub invariant-print_members-loop-member : goal.invariant-print_members-loop-member
invariant-print_members-loop-member l =
    string_bytes l.out ++ with_commas l.begun (map value_text (drop l.member-index l.members)) ≡ string_bytes l.initial.out ++ with_commas false (map value_text l.members)
