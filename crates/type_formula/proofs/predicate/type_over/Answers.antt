use Rattle.std.proofs.Common.{ap, Err, ◌∙◌, add-one, length}
use Rattle.std.specs.Option.{option_copied}
use Rattle.type_formula.specs.Answers.{IsTheFormula}
use Rattle.type_formula.specs.Views.{bare_of}
use Rattle.type_formula.proofs.Answered.{none_typed, one_typed, two_typed, known_is}
use Rattle.type_formula.proofs.WellTyped.{formula_well}
use Rattle.type_formula.proofs.predicate.type_over.Goals as goal

pub returns-in-Err-NoSolution-clause-clash : goal.returns-in-Err-NoSolution-clause-clash
returns-in-Err-NoSolution-clause-clash c _ = none_typed _ _ _ _ _ c.in_ok-equations.ensures (c.in-Err-NoSolution.ensures.no_solution (ap Err c.in-Err-NoSolution.field-0-is))

pub returns-in-Ok-build-clause-typed : goal.returns-in-Ok-build-clause-typed
returns-in-Ok-build-clause-typed c =
    one_typed _ _ _ _ _ c.in_ok-equations.ensures c.in-Ok.types.items _ c.in-Ok.ensures.known
    (known_is _ _ _ (bare_of c.args.tree.now) _ _ c.deref.ensures.value c.new-scope.ensures.items (add-one (length c.args.wanted.now)) ∙ c.in-Ok-build.ensures.ok)

pub returns-in-Ok-build-clause-well : goal.returns-in-Ok-build-clause-well
returns-in-Ok-build-clause-well c =
    let the : IsTheFormula c.args.env.now c.args.wanted.now (bare_of c.args.tree.now) (option_copied c.args.expected) c.in-Ok-build.formula =
    one_typed _ _ _ _ _ c.in_ok-equations.ensures c.in-Ok.types.items _ c.in-Ok.ensures.known
    (known_is _ _ _ (bare_of c.args.tree.now) _ _ c.deref.ensures.value c.new-scope.ensures.items (add-one (length c.args.wanted.now)) ∙ c.in-Ok-build.ensures.ok) in
    (formula_well c.args.env.now c.args.wanted.now (bare_of c.args.tree.now) (option_copied c.args.expected) c.in-Ok-build.formula the.typed).0

pub returns-in-Ok-build-clause-is_of_type : goal.returns-in-Ok-build-clause-is_of_type
returns-in-Ok-build-clause-is_of_type c =
    let the : IsTheFormula c.args.env.now c.args.wanted.now (bare_of c.args.tree.now) (option_copied c.args.expected) c.in-Ok-build.formula =
    one_typed _ _ _ _ _ c.in_ok-equations.ensures c.in-Ok.types.items _ c.in-Ok.ensures.known
    (known_is _ _ _ (bare_of c.args.tree.now) _ _ c.deref.ensures.value c.new-scope.ensures.items (add-one (length c.args.wanted.now)) ∙ c.in-Ok-build.ensures.ok) in
    (formula_well c.args.env.now c.args.wanted.now (bare_of c.args.tree.now) (option_copied c.args.expected) c.in-Ok-build.formula the.typed).1

pub returns-in-Err-Untyped-clause-untyped : goal.returns-in-Err-Untyped-clause-untyped
returns-in-Err-Untyped-clause-untyped c _ =
    two_typed _ _ _ _ _ c.in_ok-equations.ensures c.in-Ok.types.items c.in-Ok.ensures.known
    (known_is _ _ _ (bare_of c.args.tree.now) _ _ c.deref.ensures.value c.new-scope.ensures.items (add-one (length c.args.wanted.now)) ∙ c.in-Err-Untyped.ensures.untyped (ap Err c.in-Err-Untyped.field-0-is))
