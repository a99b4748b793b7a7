use Rattle.std.proofs.Common.{◌≡◌, ◌++◌, string_bytes, drop}
use Rattle.component_print.specs.Printed.{labelled_lines}
use Rattle.component_print.proofs.sections.print_section.Given as goal

abbrev pub invariant-loop-line : goal.invariant-loop-line
invariant-loop-line l = string_bytes l.out ++ labelled_lines l.margin (drop l.line-index l.lines) ≡ string_bytes l.initial.out ++ labelled_lines l.margin l.lines
