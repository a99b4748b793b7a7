use Rattle.std.proofs.Common.{◌≡◌, ◌∙◌, ap, sym, Err}
use Rattle.std.proofs.lemmas.Result.{err_from_is_err_and}
use Rattle.check_input.specs.declared.input.InputFault.TheVariants as fault
use Rattle.check_input.specs.Headings.{is_blank_text}
use Rattle.check_input.proofs.Inputs.{some_outcome, no_heading, outcome_fault}
use Rattle.check_input.proofs.parts.parts_of_text.Goals as goal

pub returns-in_err-parts-clause-fault : goal.returns-in_err-parts-clause-fault
returns-in_err-parts-clause-fault c =
    let written = ap is_blank_text (sym c.as_bytes.ensures.value) ∙ (sym c.is_blank_text.ensures ∙ c.if-is_blank_text.false) in
    let exit = err_from_is_err_and c.from_residual.result c.from_residual.ensures.1 in
    let error = c.in_err-parts.was in
    λ f is. outcome_fault c.args.text.now written f (c.cut_parts.ensures.fault f (cc (exit.1, exit.2, error, is)))

pub returns-then-is_empty-clause-fault : goal.returns-then-is_empty-clause-fault
returns-then-is_empty-clause-fault c =
    let written = ap is_blank_text (sym c.as_bytes.ensures.value) ∙ (sym c.is_blank_text.ensures ∙ c.if-is_blank_text.false) in
    let none = no_heading c.args.text.now written c.in_ok-parts.parts.items c.in_ok-parts.parts.len c.in_ok-parts.parts.ok.0 c.if-is_empty.ensures c.in_ok-parts.ensures.parts in
    λ f is. let same : fault.NoHeading ≡ f = cc in none ∙ ap Err same

pub returns-clause-parts : goal.returns-clause-parts
returns-clause-parts c =
    let written = ap is_blank_text (sym c.as_bytes.ensures.value) ∙ (sym c.is_blank_text.ensures ∙ c.if-is_blank_text.false) in
    some_outcome c.args.text.now written c.in_ok-parts.parts.items c.in_ok-parts.parts.len c.in_ok-parts.parts.ok.0 c.if-is_empty.ensures c.in_ok-parts.ensures.parts
