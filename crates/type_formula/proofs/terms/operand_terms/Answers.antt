use Rattle.std.proofs.Common.{ap, sym, subst, ◌≡◌, ◌∙◌, IfOk, map}
use Rattle.formula_core.specs.Schemes.{operand_schemes}
use Rattle.formula_core.specs.SchemeView.{scheme_of}
use Rattle.unification.specs.Terms.{instance_from}
use Rattle.type_formula.specs.PrivateViews.{open_terms}
use Rattle.type_formula.proofs.Entries.{copies-instances}
use Rattle.type_formula.proofs.terms.operand_terms.Goals as goal

pub returns-in_ok-member-in-SetExtension : goal.returns-in_ok-member-in-SetExtension
returns-in_ok-member-in-SetExtension c =
    let row = sym c.in-SetExtension.is ∙ c.row.ensures in
    let schemes = sym (c.of_set_extension.ensures.member c.args.count) ∙ ap (λ r. operand_schemes r c.args.count) row in
    let terms = copies-instances c.args.first _ _ (scheme_of c.of_set_extension.result.0) _ c.saturating_sub.ensures c.in_ok-member-in-SetExtension.ensures ∙ ap (map (instance_from c.args.first)) schemes in
    subst (λ ts. IfOk c.copies.result (λ v. open_terms v.items ≡ ts)) terms c.copies.ensures
