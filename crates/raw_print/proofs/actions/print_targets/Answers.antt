use Rattle.std.proofs.Common.{rules, ◌≡◌, ◌∙◌, ap, sym, ◌++◌, string_bytes}
use Rattle.std.proofs.lemmas.List.{append-nil}
use Rattle.math_grammar.specs.Characters.{bytes}
use Rattle.token_text.specs.Pieces.{text_of}
use Rattle.raw_print.specs.Printing.{target}
use Rattle.raw_print.proofs.Texts.{one_more, all_parts}
use Rattle.raw_print.proofs.actions.print_targets.Goals as goal

pub returns-after-loop-name : goal.returns-after-loop-name
returns-after-loop-name c =
    let one : string_bytes c.push_str.new.self ≡ string_bytes c.args.out.now ++ text_of (target c.in-Some.first.now)
    = c.in_ok-push_str.ensures.bytes ∙ ap (λ t. string_bytes c.args.out.now ++ t) (c.as_text.ensures.text ∙ sym (append-nil _)) in
    all_parts target c.args.names.now c.in-Some.rest.now c.in-Some.first.now c.loop-name.name-index _ _ _ c.in-Some.ensures.cases.0 c.loop-name-test.false one c.loop-name.invariant

pub loop-name-preserved : goal.loop-name-preserved
loop-name-preserved c =
    let comma : string_bytes c.push_str-in-loop-name.new.self ≡ string_bytes c.loop-name.out ++ bytes ", " = search rules in
    let more : string_bytes c.push_str-in-loop-name-2.new.self ≡ string_bytes c.push_str-in-loop-name.new.self ++ text_of (target c.name-item.result)
    = c.in_ok-push_str-3.ensures.bytes ∙ ap (λ t. string_bytes c.push_str-in-loop-name.new.self ++ t) (c.as_text-in-loop-name.ensures.text ∙ sym (append-nil _)) in
    one_more target c.in-Some.rest.now c.loop-name.name-index c.name-item.result _ _ _ _ c.loop-name-test.true c.name-item.is comma more c.loop-name.invariant
