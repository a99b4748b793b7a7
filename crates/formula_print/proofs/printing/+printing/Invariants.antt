use Rattle.std.proofs.Common.{◌≡◌, ◌++◌, string_bytes, map, drop, false}
use Rattle.token_text.specs.Pieces.{text_of, separated_pieces}
use Rattle.formula_print.specs.Printing.{printed}
use Rattle.formula_print.proofs.Texts.{behind_so_many}
use Rattle.formula_print.proofs.printing.+printing.Given as goal

abbrev pub invariant-print_separated-loop-index : goal.invariant-print_separated-loop-index
invariant-print_separated-loop-index l =
    string_bytes l.out ++ text_of (behind_so_many l.index (map (λ f. printed l.around.names.now f false l.around.depth) (drop l.index l.items)))
    ≡ string_bytes l.initial.out ++ text_of (separated_pieces (map (λ f. printed l.around.names.now f false l.around.depth) l.items))
