use Rattle.std.proofs.Common.{◌≡◌, ◌++◌, string_bytes, drop}
use Rattle.component_print.specs.Printed.{names_text}
use Rattle.component_print.proofs.sections.print_names.Given as goal

abbrev pub invariant-loop-reference : goal.invariant-loop-reference
invariant-loop-reference l = string_bytes l.out ++ names_text (drop l.reference-index l.names) ≡ string_bytes l.initial.out ++ names_text l.names
