use Rattle.std.proofs.Common.{◌≡◌, ◌++◌, ◌+◌, string_bytes, drop}
use Rattle.token_text.specs.Pieces.{text_of, separated_pieces}
use Rattle.formula_print.specs.Printing.{printed_declarations}
use Rattle.formula_print.proofs.Texts.{behind_so_many}
use Rattle.formula_print.proofs.printing.print_declarations.Given as goal

abbrev pub invariant-loop-index : goal.invariant-loop-index
invariant-loop-index l =
    string_bytes l.out ++ text_of (behind_so_many l.index (printed_declarations l.around.names.now (drop l.index l.types) (l.around.depth + l.index)))
    ≡ string_bytes l.initial.out ++ text_of (separated_pieces (printed_declarations l.around.names.now l.types l.around.depth))
