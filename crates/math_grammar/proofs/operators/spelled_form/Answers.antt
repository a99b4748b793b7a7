use Rattle.std.proofs.Common.{◌∙◌, ap, sym, refl, length}
use Rattle.std.specs.Option.{option_map_or}
use Rattle.std.proofs.lemmas.Option.{slice_get_read, slice_get_past}
use borrow.Author.Tests.{ltb-true}
use Rattle.math_grammar.specs.declared.operators.Form.TheVariants as form
use Rattle.math_grammar.proofs.Rows.{form_there}
use Rattle.math_grammar.proofs.operators.spelled_form.Goals as goal

pub returns-in-Some : goal.returns-in-Some
returns-in-Some c =
    sym (form_there c.args.table.now c.args.at
    ∙ ap (λ found. option_map_or (λ row. row.2) found form.Constant)
    (slice_get_read c.args.table.now (length c.args.table.now) c.args.at c.in-Some.row.now refl (ltb-true c.args.at (length c.args.table.now) (sym c.in-Some.ensures.lookup.0)) c.in-Some.ensures.lookup.1))

pub returns-in-None : goal.returns-in-None
returns-in-None c =
    sym (form_there c.args.table.now c.args.at
    ∙ ap (λ found. option_map_or (λ row. row.2) found form.Constant) (slice_get_past c.args.table.now c.args.at c.in-None.ensures.lookup.3))
