use Rattle.std.proofs.Common.{◌∙◌, ap, sym}
use Rattle.formula_core.specs.Names.{is_identifier}
use Rattle.check_input.proofs.HeadingLines.{heading_is_identifier}
use Rattle.check_input.proofs.headings.heading_name.Goals as goal

pub text_of-requires : goal.text_of-requires
text_of-requires c = heading_is_identifier c.as_bytes.result.now c.in_ok-name.name.now (sym c.in_ok-name.ensures)

pub returns-clause-identifier : goal.returns-clause-identifier
returns-clause-identifier c = ap is_identifier c.text_of.ensures ∙ heading_is_identifier c.as_bytes.result.now c.in_ok-name.name.now (sym c.in_ok-name.ensures)
