use Rattle.std.proofs.Common.{rules, arith, ◌≡◌, ◌∙◌, ap, sym, ◌-◌, ◌++◌, ◌∷◌, [], false, map, string_bytes}
use Rattle.std.specs.Fmt.{signed_decimal}
use Rattle.std.proofs.lemmas.List.{append-nil}
use Rattle.formula_core.specs.declared.formula.Formula.{Formula}
use Rattle.token_text.specs.Pieces.{text_of, close_brace_piece, operator_piece, separated_pieces}
use Rattle.token_text.proofs.Pieces.{text-append}
use Rattle.math_grammar.specs.Characters.{bytes}
use Rattle.formula_print.specs.Printing.{printed, printed_bind, name_at, printed_body, printed_operand, printed_second, printed_operator}
use Rattle.formula_print.specs.Private.{printed_parts, comma_after}
use Rattle.formula_print.specs.declared.levels.Side.TheVariants as side
use Rattle.formula_print.proofs.Equations.{printed-Int, printed-Free, printed-Bound, printed-Bind}
use Rattle.formula_print.proofs.Texts.{on_ok, two_pieces, three_pieces, one_more, parts-alone, one_part, two_parts, operator-one, operator-two, operator-more}
use Rattle.formula_print.proofs.printing.+printing.Goals as goal

pub print-returns-in-Int : goal.print-returns-in-Int
print-returns-in-Int t c =
    let e : text_of (printed c.args.around.now.names.now c.args.formula.now c.args.denied c.args.around.now.depth) ≡ signed_decimal c.in-Int.n
    = ap (λ f. text_of (printed c.args.around.now.names.now f c.args.denied c.args.around.now.depth)) c.in-Int.is ∙ ap text_of (printed-Int _ _ _ _) ∙ append-nil _ in
    rw e (search rules)

pub print-returns-in-Free : goal.print-returns-in-Free
print-returns-in-Free t c =
    let e : text_of (printed c.args.around.now.names.now c.args.formula.now c.args.denied c.args.around.now.depth) ≡ c.as_text.result.now
    = ap (λ f. text_of (printed c.args.around.now.names.now f c.args.denied c.args.around.now.depth)) c.in-Free.is ∙ ap text_of (printed-Free _ _ _ _ _) ∙ append-nil _ ∙ sym c.as_text.ensures.text in
    rw e (search rules)

pub print-returns-in-Bound : goal.print-returns-in-Bound
print-returns-in-Bound t c =
    let e : text_of (printed c.args.around.now.names.now c.args.formula.now c.args.denied c.args.around.now.depth) ≡ name_at c.args.around.now.names.now c.saturating_sub-at.result
    = ap (λ f. text_of (printed c.args.around.now.names.now f c.args.denied c.args.around.now.depth)) c.in-Bound.is ∙ ap text_of (printed-Bound _ _ _ _ _) ∙ append-nil _
    ∙ ap (name_at c.args.around.now.names.now) (sym (c.saturating_sub-at.ensures ∙ ap (λ n. n - c.in-Bound.at) c.saturating_sub.ensures)) in
    rw e (search rules)

pub print-returns-in-Bind : goal.print-returns-in-Bind
print-returns-in-Bind t c =
    let e : text_of (printed c.args.around.now.names.now c.args.formula.now c.args.denied c.args.around.now.depth)
    ≡ text_of (printed_bind c.args.around.now.names.now c.in-Bind.binder c.items-in-Bind-2.result.now (printed_parts c.args.around.now.names.now c.items-in-Bind.result.now) c.args.denied c.args.around.now.depth)
    = ap (λ f. text_of (printed c.args.around.now.names.now f c.args.denied c.args.around.now.depth)) c.in-Bind.is ∙ ap text_of (printed-Bind _ _ _ _ _ _ _)
    ∙ (λ i. text_of (printed_bind c.args.around.now.names.now c.in-Bind.binder (sym c.items-in-Bind-2.ensures i) (printed_parts c.args.around.now.names.now (sym c.items-in-Bind.ensures i)) c.args.denied c.args.around.now.depth)) in
    rw e c.print_bind.ensures

pub print_body-returns-in_ok-push_str-in-len2 : goal.print_body-returns-in_ok-push_str-in-len2
print_body-returns-in_ok-push_str-in-len2 t c =
    let p : Formula = c.p-item-then-parts-lt3.result in
    let e : Formula = c.e-item.result in
    let parts : c.args.parts.now ≡ p ∷ e ∷ [] = two_parts c.args.parts.now p e (omega arith) (omega arith) c.p-item-then-parts-lt3.is c.e-item.is in
    let one : string_bytes c.print-in-len2.new.out ≡ string_bytes c.args.out.now ++ text_of (printed c.args.around.now.names.now p false c.args.around.now.depth) = search rules in
    let two : string_bytes c.push_str.new.self ≡ string_bytes c.print-in-len2.new.out ++ bytes " ∣ " = search rules in
    on_ok c.print-in-len2-2.result
    (λ three. three_pieces _ _ _ _ (text_of (printed c.args.around.now.names.now p false c.args.around.now.depth)) (bytes " ∣ ") (text_of (printed c.args.around.now.names.now e false c.args.around.now.depth)) one two three
    ∙ ap (λ text. string_bytes c.args.out.now ++ text) (sym (text-append (printed c.args.around.now.names.now p false c.args.around.now.depth) _))
    ∙ ap (λ ps. string_bytes c.args.out.now ++ text_of (printed_body (printed_parts c.args.around.now.names.now ps) c.args.around.now.depth)) (sym parts))
    c.print-in-len2-2.ensures

pub print_members-returns : goal.print_members-returns
print_members-returns t c =
    let one : string_bytes c.push_str.new.self ≡ string_bytes c.args.out.now ++ bytes "{" = search rules in
    let two : string_bytes c.print_separated.new.out ≡ string_bytes c.push_str.new.self ++ text_of (separated_pieces (map (λ f. printed c.args.around.now.names.now f false c.args.around.now.depth) c.args.parts.now)) = search rules in
    let three : string_bytes c.push_str-2.new.self ≡ string_bytes c.print_separated.new.out ++ bytes "}" = search rules in
    rw (parts-alone c.args.around.now.names.now c.args.parts.now c.args.around.now.depth)
    (three_pieces _ _ _ _ (bytes "{") _ (bytes "}") one two three
    ∙ ap (λ text. string_bytes c.args.out.now ++ (bytes "{" ++ text)) (sym (text-append (separated_pieces (map (λ f. printed c.args.around.now.names.now f false c.args.around.now.depth) c.args.parts.now)) (close_brace_piece ∷ []))))

pub print_separated-loop-index-preserved : goal.print_separated-loop-index-preserved
print_separated-loop-index-preserved t c =
    let comma : string_bytes c.print_comma.new.out ≡ string_bytes c.loop-index.out ++ text_of (comma_after c.loop-index.index) = search rules in
    let more : string_bytes c.print.new.out ≡ string_bytes c.print_comma.new.out ++ text_of (printed c.args.around.now.names.now c.index-items-index.result false c.args.around.now.depth) = search rules in
    one_more (λ f. printed c.args.around.now.names.now f false c.args.around.now.depth) c.args.items.now c.loop-index.index c.index-items-index.result _ _ _ _ c.loop-index-test.true c.index-items-index.is comma more c.loop-index.invariant

pub print_operator-returns-in-len1 : goal.print_operator-returns-in-len1
print_operator-returns-in-len1 t c =
    let parts : c.args.parts.now ≡ c.a-item.result ∷ [] = one_part c.args.parts.now c.a-item.result (omega arith) (omega arith) c.a-item.is in
    on_ok c.print_unary.result
    (λ one. one ∙ ap (λ ps. string_bytes c.args.out.now ++ text_of ps) (sym (operator-one c.args.op (operator_piece c.args.written) _ c.args.ty.now c.args.around.now.depth c.in_default.not-SetExtension))
    ∙ ap (λ ps. string_bytes c.args.out.now ++ text_of (printed_operator c.args.op (operator_piece c.args.written) (printed_parts c.args.around.now.names.now ps) c.args.ty.now c.args.around.now.depth)) (sym parts))
    c.print_unary.ensures

pub print_operator-returns-in_ok-print_operand-in-len2 : goal.print_operator-returns-in_ok-print_operand-in-len2
print_operator-returns-in_ok-print_operand-in-len2 t c =
    let a : Formula = c.a-item-then-parts-lt3.result in
    let b : Formula = c.b-item.result in
    let parts : c.args.parts.now ≡ a ∷ b ∷ [] = two_parts c.args.parts.now a b (omega arith) (omega arith) c.a-item-then-parts-lt3.is c.b-item.is in
    let one : string_bytes c.print_operand.new.out ≡ string_bytes c.args.out.now ++ text_of (printed_operand c.args.op side.Left (a, printed c.args.around.now.names.now a) c.args.around.now.depth) = search rules in
    on_ok c.print_second.result
    (λ two. two_pieces _ _ _ (text_of (printed_operand c.args.op side.Left (a, printed c.args.around.now.names.now a) c.args.around.now.depth)) _ one two
    ∙ ap (λ text. string_bytes c.args.out.now ++ text)
    (sym (text-append (printed_operand c.args.op side.Left (a, printed c.args.around.now.names.now a) c.args.around.now.depth) (printed_second c.args.op (operator_piece c.args.written) (b, printed c.args.around.now.names.now b) c.args.around.now.depth)))
    ∙ ap (λ ps. string_bytes c.args.out.now ++ text_of ps)
    (sym (operator-two c.args.op (operator_piece c.args.written) (a, printed c.args.around.now.names.now a) (b, printed c.args.around.now.names.now b) c.args.ty.now c.args.around.now.depth c.in_default.not-SetExtension))
    ∙ ap (λ ps. string_bytes c.args.out.now ++ text_of (printed_operator c.args.op (operator_piece c.args.written) (printed_parts c.args.around.now.names.now ps) c.args.ty.now c.args.around.now.depth)) (sym parts))
    c.print_second.ensures

pub print_operator-returns-in_default-parts : goal.print_operator-returns-in_default-parts
print_operator-returns-in_default-parts t c =
    rw (operator-more c.args.op (operator_piece c.args.written) c.args.around.now.names.now c.args.parts.now c.args.ty.now c.args.around.now.depth c.in_default.not-SetExtension (omega arith)) (sym (append-nil _))
