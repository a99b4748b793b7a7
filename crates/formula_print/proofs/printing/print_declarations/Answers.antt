use Rattle.std.proofs.Common.{rules, ◌≡◌, ◌++◌, ◌+◌, string_bytes}
use Rattle.token_text.specs.Pieces.{text_of}
use Rattle.formula_print.specs.Printing.{name_at, printed_declaration}
use Rattle.formula_print.specs.Private.{comma_after}
use Rattle.formula_print.proofs.Texts.{one_more_declaration}
use Rattle.formula_print.proofs.printing.print_declarations.Goals as goal

pub loop-index-preserved : goal.loop-index-preserved
loop-index-preserved c =
    let comma : string_bytes c.print_comma.new.out ≡ string_bytes c.loop-index.out ++ text_of (comma_after c.loop-index.index) = search rules in
    let more : string_bytes c.print_declaration.new.out ≡ string_bytes c.print_comma.new.out ++ text_of (printed_declaration (name_at c.args.around.now.names.now (c.args.around.now.depth + c.loop-index.index)) c.index-types-index.result) = search rules in
    one_more_declaration c.args.around.now.names.now c.args.types.now c.loop-index.index c.args.around.now.depth c.index-types-index.result _ _ _ _ c.loop-index-test.true c.index-types-index.is comma more c.loop-index.invariant
