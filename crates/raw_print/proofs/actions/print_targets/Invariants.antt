use Rattle.std.proofs.Common.{◌≡◌, ◌++◌, string_bytes, map, drop}
use Rattle.token_text.specs.Pieces.{text_of, behind_commas}
use Rattle.raw_print.specs.Printing.{target}
use Rattle.raw_print.proofs.actions.print_targets.Given as goal

abbrev pub invariant-loop-name : goal.invariant-loop-name
invariant-loop-name l =
    string_bytes l.out ++ text_of (behind_commas (map target (drop l.name-index l.rest))) ≡ string_bytes l.initial.out ++ text_of (behind_commas (map target l.rest))
