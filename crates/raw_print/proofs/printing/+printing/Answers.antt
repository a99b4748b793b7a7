use Rattle.std.proofs.Common.{rules, arith, ◌≡◌, ◌∙◌, ap, sym, subst, ◌+◌, ◌≤◌, ◌++◌, ◌∷◌, [], map, length, string_bytes, drop}
use Rattle.std.proofs.lemmas.List.{append-nil, drop-drop}
use Rattle.formula_core.specs.declared.raw.Raw.{Raw}
use Rattle.math_grammar.specs.declared.symbols.Symbol.TheVariants as symbol
use Rattle.math_grammar.specs.Characters.{bytes}
use Rattle.token_text.specs.Pieces.{Token, text_of}
use Rattle.raw_print.specs.Printing.{pieces, body_pieces, operation_pieces, operand_pieces, second, side, pattern_name_count}
use Rattle.raw_print.specs.Private.{with_pieces, declared, with_pattern}
use Rattle.math_grammar.specs.Operators.{raw_sign_of, raw_class_of}
use Rattle.raw_print.proofs.Texts.{on_ok, two_pieces, three_pieces, one_more, all_parts, two_parts, if_ok, call_text, set_text, names_in-pair, none_named, pattern_text, names_in-other, pattern-other}
use Rattle.token_text.proofs.Pieces.{text-append}
use Rattle.raw_print.proofs.Weights.{weight, weights, bound_weight, bound_weights, weight_of_part, weight_of_name, weight_of_rest, weight-Node}
use Rattle.raw_print.proofs.printing.+printing.Goals as goal

pub print_declarations-returns-after-loop-name : goal.print_declarations-returns-after-loop-name
print_declarations-returns-after-loop-name t c =
    let one : string_bytes c.print_declaration.new.out ≡ string_bytes c.args.out.now ++ text_of (declared c.in-Some.first.now) = search rules in
    all_parts declared c.args.names.now c.in-Some.rest.now c.in-Some.first.now c.loop-name.name-index _ _ _ c.in-Some.ensures.cases.0 c.loop-name-test.false one c.loop-name.invariant

pub print_declarations-loop-name-preserved : goal.print_declarations-loop-name-preserved
print_declarations-loop-name-preserved t c =
    let comma : string_bytes c.push_str.new.self ≡ string_bytes c.loop-name.out ++ bytes ", " = search rules in
    let more : string_bytes c.print_declaration-in-loop-name.new.out ≡ string_bytes c.push_str.new.self ++ text_of (declared c.name-item.result) = search rules in
    one_more declared c.in-Some.rest.now c.loop-name.name-index c.name-item.result _ _ _ _ c.loop-name-test.true c.name-item.is comma more c.loop-name.invariant

pub print_declarations-print_declaration-requires-in-loop-name : goal.print_declarations-print_declaration-requires-in-loop-name
print_declarations-print_declaration-requires-in-loop-name t c =
    let all : bound_weights c.args.names.now ≡ bound_weights (c.in-Some.first.now ∷ c.in-Some.rest.now) = ap bound_weights c.in-Some.ensures.cases.0 in
    let one : bound_weight c.name-item.result ≤ bound_weights c.in-Some.rest.now = weight_of_name c.in-Some.rest.now c.loop-name.name-index c.name-item.result c.loop-name-test.true c.name-item.is in
    (omega (arith, c.decreases), tt)

pub print_separated-returns-after-loop-part : goal.print_separated-returns-after-loop-part
print_separated-returns-after-loop-part t c =
    let one : string_bytes c.print_formula.new.out ≡ string_bytes c.args.out.now ++ text_of (pieces c.in-Some.first.now) = search rules in
    all_parts pieces c.args.parts.now c.in-Some.rest.now c.in-Some.first.now c.loop-part.part-index _ _ _ c.in-Some.ensures.cases.0 c.loop-part-test.false one c.loop-part.invariant

pub print_separated-loop-part-preserved : goal.print_separated-loop-part-preserved
print_separated-loop-part-preserved t c =
    let comma : string_bytes c.push_str.new.self ≡ string_bytes c.loop-part.out ++ bytes ", " = search rules in
    let more : string_bytes c.print_formula-in-loop-part.new.out ≡ string_bytes c.push_str.new.self ++ text_of (pieces c.part-item.result) = search rules in
    one_more pieces c.in-Some.rest.now c.loop-part.part-index c.part-item.result _ _ _ _ c.loop-part-test.true c.part-item.is comma more c.loop-part.invariant

pub print_separated-print_formula-requires-in-loop-part : goal.print_separated-print_formula-requires-in-loop-part
print_separated-print_formula-requires-in-loop-part t c =
    let all : weights c.args.parts.now ≡ weights (c.in-Some.first.now ∷ c.in-Some.rest.now) = ap weights c.in-Some.ensures.cases.0 in
    let one : weight c.part-item.result ≤ weights c.in-Some.rest.now = weight_of_part c.in-Some.rest.now c.loop-part.part-index c.part-item.result c.loop-part-test.true c.part-item.is in
    (omega (arith, c.decreases), tt)

pub print_body-returns-in_ok-push_str-in-len2 : goal.print_body-returns-in_ok-push_str-in-len2
print_body-returns-in_ok-push_str-in-len2 t c =
    let parts : c.args.parts.now ≡ c.p-item-then-parts-lt3.result ∷ c.e-item.result ∷ []
    = two_parts c.args.parts.now c.p-item-then-parts-lt3.result c.e-item.result (omega arith) (omega arith) c.p-item-then-parts-lt3.is c.e-item.is in
    let one : string_bytes c.print_formula-in-len2.new.out ≡ string_bytes c.args.out.now ++ text_of (pieces c.p-item-then-parts-lt3.result) = search rules in
    let two : string_bytes c.push_str.new.self ≡ string_bytes c.print_formula-in-len2.new.out ++ bytes " ∣ " = search rules in
    on_ok c.print_formula-in-len2-2.result
    (λ three. three_pieces _ _ _ _ (text_of (pieces c.p-item-then-parts-lt3.result)) (bytes " ∣ ") (text_of (pieces c.e-item.result)) one two three
    ∙ ap (λ t. string_bytes c.args.out.now ++ t) (sym (text-append (pieces c.p-item-then-parts-lt3.result) _))
    ∙ ap (λ ps. string_bytes c.args.out.now ++ text_of (body_pieces (map with_pieces ps))) (sym parts))
    c.print_formula-in-len2-2.ensures

pub print_operands-returns-in_ok-print_operand-in-len2 : goal.print_operands-returns-in_ok-print_operand-in-len2
print_operands-returns-in_ok-print_operand-in-len2 t c =
    let a : Raw = c.a-item-then-parts-lt3.result in
    let b : Raw = c.b-item.result in
    let parts : c.args.parts.now ≡ a ∷ b ∷ [] = two_parts c.args.parts.now a b (omega arith) (omega arith) c.a-item-then-parts-lt3.is c.b-item.is in
    let one : string_bytes c.print_operand.new.out ≡ string_bytes c.args.out.now ++ text_of (operand_pieces (with_pieces a)) = search rules in
    on_ok c.print_second.result
    (λ two. two_pieces _ _ _ (text_of (operand_pieces (with_pieces a))) _ one two
    ∙ ap (λ t. string_bytes c.args.out.now ++ t) (sym (text-append (operand_pieces (with_pieces a)) (second c.args.symbol (Token c.args.symbol c.args.sign.now) (with_pieces b))))
    ∙ ap (λ ps. string_bytes c.args.out.now ++ text_of (operation_pieces c.args.symbol (Token c.args.symbol c.args.sign.now) (map with_pieces ps))) (sym parts))
    c.print_second.ensures

pub print_node-returns-in_ok-push_str-in-Call : goal.print_node-returns-in_ok-push_str-in-Call
print_node-returns-in_ok-push_str-in-Call t c =
    let one : string_bytes c.push_str.new.self ≡ string_bytes c.args.out.now ++ raw_sign_of c.args.op = search rules in
    on_ok c.print_list.result
    (λ two. two_pieces _ _ _ (raw_sign_of c.args.op) _ one two
    ∙ ap (λ t. string_bytes c.args.out.now ++ t) (sym (call_text (raw_class_of c.args.op) _ _ _ (raw_sign_of c.args.op) c.args.parts.now (sym c.raw_class_of.ensures ∙ c.in-Call.is))))
    c.print_list.ensures

pub print_node-returns-in-Open-Brace : goal.print_node-returns-in-Open-Brace
print_node-returns-in-Open-Brace t c =
    on_ok c.print_list-in-Open-Brace.result
    (λ one. one ∙ ap (λ t. string_bytes c.args.out.now ++ t) (sym (set_text (raw_class_of c.args.op) _ (raw_sign_of c.args.op) c.args.parts.now (sym c.raw_class_of.ensures ∙ c.in-Open-Brace.is ∙ ap symbol.Open c.in-Open-Brace.field-0-is))))
    c.print_list-in-Open-Brace.ensures

pub print_pattern-returns-then-parts-ne2-clause-text : goal.print_pattern-returns-then-parts-ne2-clause-text
print_pattern-returns-then-parts-ne2-clause-text t c =
    let other : length c.in-Node.parts ≡ 2 → ⊥ = λ h. let same : length c.items-parts.result.now ≡ 2 = ap length c.items-parts.ensures ∙ h in omega arith in
    sym (ap (λ u. string_bytes c.args.out.now ++ u) (pattern-other c.args.tree.now _ _ _ c.in-Node.is other (map declared c.args.names.now)) ∙ append-nil _)

pub print_pattern-returns-then-parts-ne2-clause-left : goal.print_pattern-returns-then-parts-ne2-clause-left
print_pattern-returns-then-parts-ne2-clause-left t c =
    let other : length c.in-Node.parts ≡ 2 → ⊥ = λ h. let same : length c.items-parts.result.now ≡ 2 = ap length c.items-parts.ensures ∙ h in omega arith in
    sym (ap (λ n. drop n c.args.names.now) (names_in-other c.args.tree.now _ _ _ c.in-Node.is other))

pub print_pattern-print_side-requires-in-Node : goal.print_pattern-print_side-requires-in-Node
print_pattern-print_side-requires-in-Node t c =
    let l : Raw = c.index-parts-0.result in
    let r : Raw = c.index-parts-1.result in
    let parts : c.items-parts.result.now ≡ l ∷ r ∷ [] = two_parts c.items-parts.result.now l r (omega arith) (omega arith) c.index-parts-0.is c.index-parts-1.is in
    let whole : weight c.args.tree.now ≡ 1 + (weight l + (weight r + 0)) = ap weight c.in-Node.is ∙ weight-Node _ _ _ ∙ ap (λ ps. 1 + weights ps) (sym c.items-parts.ensures ∙ parts) in
    let rest : bound_weights c.in_ok-names-in-Node.names.now ≤ bound_weights c.args.names.now
    = subst (λ ns. bound_weights ns ≤ bound_weights c.args.names.now) (sym c.in_ok-names-in-Node.ensures.left) (weight_of_rest (pattern_name_count l) c.args.names.now) in
    (omega (arith, c.decreases), tt)

pub print_pattern-returns-in_ok-push_str-in-Node-clause-text : goal.print_pattern-returns-in_ok-push_str-in-Node-clause-text
print_pattern-returns-in_ok-push_str-in-Node-clause-text t c =
    let l : Raw = c.index-parts-0.result in
    let r : Raw = c.index-parts-1.result in
    let parts : c.in-Node.parts ≡ l ∷ r ∷ [] = sym c.items-parts.ensures ∙ two_parts c.items-parts.result.now l r (omega arith) (omega arith) c.index-parts-0.is c.index-parts-1.is in
    let one : string_bytes c.print_side.new.out ≡ string_bytes c.args.out.now ++ text_of (side (with_pattern l) (map declared c.args.names.now)) = search rules in
    let two : string_bytes c.push_str.new.self ≡ string_bytes c.print_side.new.out ++ bytes " ↦ " = search rules in
    on_ok c.print_side-in-Node.result
    (λ three. three_pieces _ _ _ _ (text_of (side (with_pattern l) (map declared c.args.names.now))) (bytes " ↦ ") _ one two three
    ∙ ap (λ ns. string_bytes c.args.out.now ++ (text_of (side (with_pattern l) (map declared c.args.names.now)) ++ (bytes " ↦ " ++ text_of (side (with_pattern r) (map declared ns))))) c.in_ok-names-in-Node.ensures.left
    ∙ ap (λ t. string_bytes c.args.out.now ++ t) (sym (pattern_text c.args.tree.now l r _ _ _ c.in-Node.is parts c.args.names.now)))
    c.print_side-in-Node.ensures.text

pub print_pattern-returns-in_ok-push_str-in-Node-clause-left : goal.print_pattern-returns-in_ok-push_str-in-Node-clause-left
print_pattern-returns-in_ok-push_str-in-Node-clause-left t c =
    let l : Raw = c.index-parts-0.result in
    let r : Raw = c.index-parts-1.result in
    let parts : c.in-Node.parts ≡ l ∷ r ∷ [] = sym c.items-parts.ensures ∙ two_parts c.items-parts.result.now l r (omega arith) (omega arith) c.index-parts-0.is c.index-parts-1.is in
    if_ok c.print_side-in-Node.result _ _
    (λ rest is. is ∙ ap (drop (pattern_name_count r)) c.in_ok-names-in-Node.ensures.left ∙ drop-drop (pattern_name_count r) (pattern_name_count l) c.args.names.now
    ∙ ap (λ n. drop n c.args.names.now) (sym (names_in-pair c.args.tree.now l r _ _ _ c.in-Node.is parts)))
    c.print_side-in-Node.ensures.left

pub print_pattern-returns-in-None-clause-text : goal.print_pattern-returns-in-None-clause-text
print_pattern-returns-in-None-clause-text t c =
    sym (ap (λ t. string_bytes c.args.out.now ++ t) (none_named c.args.tree.now _ _ c.args.names.now c.in-Name.is c.in-None.ensures.cases) ∙ append-nil _)
