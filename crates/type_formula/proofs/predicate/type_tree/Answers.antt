use Rattle.std.proofs.Common.{◌∙◌, subst}
use Rattle.std.specs.Option.{option_copied}
use Rattle.type_formula.specs.Answers.{IsTheFormula, HasNoFormula, HasTwoFormulas}
use Rattle.type_formula.specs.Views.{bare_of}
use Rattle.type_formula.proofs.NeededNames.{one_formula, no_formula, two_formulas}
use Rattle.type_formula.proofs.Standing.{if_ok, formulas_stand}
use Rattle.type_formula.proofs.predicate.type_tree.Goals as goal

pub returns-clause-typed : goal.returns-clause-typed
returns-clause-typed c =
    if_ok _ _ c.type_over.result
    (λ f h. one_formula c.args.env.now c.args.wanted.now (bare_of c.args.tree.now) (option_copied c.args.expected) f
    (subst (λ names. IsTheFormula c.args.env.now names (bare_of c.args.tree.now) (option_copied c.args.expected) f) (c.deref.ensures.value ∙ c.in_ok-names.ensures) h))
    c.type_over.ensures.typed

pub returns-clause-clash : goal.returns-clause-clash
returns-clause-clash c h =
    no_formula c.args.env.now c.args.wanted.now (bare_of c.args.tree.now) (option_copied c.args.expected)
    (subst (λ names. HasNoFormula c.args.env.now names (bare_of c.args.tree.now) (option_copied c.args.expected)) (c.deref.ensures.value ∙ c.in_ok-names.ensures) (c.type_over.ensures.clash h))

pub returns-clause-untyped : goal.returns-clause-untyped
returns-clause-untyped c h =
    two_formulas c.args.env.now c.args.wanted.now (bare_of c.args.tree.now) (option_copied c.args.expected)
    (subst (λ names. HasTwoFormulas c.args.env.now names (bare_of c.args.tree.now) (option_copied c.args.expected)) (c.deref.ensures.value ∙ c.in_ok-names.ensures) (c.type_over.ensures.untyped h))

pub returns-clause-standing : goal.returns-clause-standing
returns-clause-standing c has k =
    if_ok _ _ c.type_over.result
    (λ f h. formulas_stand c.args.env.now c.args.wanted.now (bare_of c.args.tree.now) (option_copied c.args.expected) f
    (one_formula c.args.env.now c.args.wanted.now (bare_of c.args.tree.now) (option_copied c.args.expected) f
    (subst (λ names. IsTheFormula c.args.env.now names (bare_of c.args.tree.now) (option_copied c.args.expected) f) (c.deref.ensures.value ∙ c.in_ok-names.ensures) h)) has k)
    c.type_over.ensures.typed
