use Rattle.std.proofs.Common.{ap, subst, ◌≡◌, ◌∙◌, ◌∷◌, ◌-◌, IfOk, map, replicate}
use Rattle.formula_core.specs.Schemes.{Scheme}
use Rattle.formula_core.specs.SchemeView.{scheme_of}
use Rattle.unification.specs.Terms.{instance_from}
use Rattle.type_formula.specs.PrivateViews.{open_terms}
use Rattle.type_formula.proofs.Entries.{copies-instances}
use Rattle.type_formula.proofs.terms.partition_terms.Goals as goal

pub returns : goal.returns
returns c =
    let scheme = ap (λ (p : Scheme × Scheme × Scheme). p.0) c.scheme.ensures in
    let terms = copies-instances c.args.first _ _ (scheme_of c.scheme.result.0) _ c.saturating_sub.ensures c.in_ok-set.ensures ∙ ap (λ s. map (instance_from c.args.first) (s ∷ replicate (c.args.count - 1) s)) scheme in
    subst (λ ts. IfOk c.copies.result (λ v. open_terms v.items ≡ ts)) terms c.copies.ensures
