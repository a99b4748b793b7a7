use Rattle.std.proofs.Common.{ap, sym, subst, ◌≡◌, ◌∙◌, ◌++◌, ◌+◌, map, OnOk}
use Rattle.formula_core.specs.Rows.{row_of}
use Rattle.formula_core.specs.Schemes.{operand_schemes, result_scheme}
use Rattle.unification.specs.Terms.{term_of, instance_from}
use Rattle.type_formula.specs.Bare.{part_count}
use Rattle.unification.specs.Solutions.{equations_of}
use Rattle.type_formula.specs.PrivateGenerated.{condition, all_generated}
use Rattle.type_formula.specs.Views.{bares_of}
use Rattle.type_formula.specs.PrivateViews.{scope_of, free_scope, open_terms}
use Rattle.type_formula.proofs.Entries.{end_condition, collected_form}
use Rattle.type_formula.proofs.collect.+collect.Goals as goal

pub collect_all-returns-in-End-clause-equations : goal.collect_all-returns-in-End-clause-equations
collect_all-returns-in-End-clause-equations t c =
    let none = ap (λ bs. all_generated c.args.around.now.env.now (scope_of c.args.scope.now.items) (free_scope c.args.around.now.env.now c.args.around.now.wanted.now) bs c.args.system.now.next (open_terms c.args.expected.now)) (sym (ap bares_of c.in-End.is)) in
    let ends = ap condition c.is_empty.ensures ∙ end_condition c.args.around.now.env.now (scope_of c.args.scope.now.items) (free_scope c.args.around.now.env.now c.args.around.now.wanted.now) c.args.system.now.next c.args.expected.now ∙ none in
    subst (λ es. OnOk c.add_condition.result (equations_of c.add_condition.new.equations.items ≡ equations_of c.args.system.now.equations.items ++ es)) ends c.add_condition.ensures

pub collect_form-returns-clause-equations : goal.collect_form-returns-clause-equations
collect_form-returns-clause-equations t c =
    let schemes = operand_schemes (row_of c.args.op) in
    let left = ap (λ t. (t, term_of c.args.expected)) (c.in_ok-result_term.ensures ∙ ap (λ n. instance_from n (result_scheme (row_of c.args.op))) c.in_ok-first.ensures.first) in
    let operands : open_terms c.deref.result.now ≡ map (instance_from c.args.system.now.next) (schemes (part_count (bares_of c.args.parts.now))) =
    ap open_terms c.deref.ensures.value ∙ c.in_ok-operands.ensures ∙ (λ i. map (instance_from (c.in_ok-first.ensures.first i)) (schemes (c.in_ok-count_parts.ensures i))) in
    let made = all_generated c.args.around.now.env.now (scope_of c.args.scope.now.items) (free_scope c.args.around.now.env.now c.args.around.now.wanted.now) (bares_of c.args.parts.now) in
    let parts : made c.take_variables.new.next (open_terms c.deref.result.now) ≡ made (c.args.system.now.next + 4) (map (instance_from c.args.system.now.next) (schemes (part_count (bares_of c.args.parts.now)))) =
    λ i. made (c.in_ok-first.ensures.next i) (operands i) in
    subst (λ es. OnOk c.collect_all.result (equations_of c.collect_all.new.system.equations.items ≡ es))
    (collected_form (equations_of c.args.system.now.equations.items) _ _ _ _ _ c.in_ok-add.ensures left parts) c.collect_all.ensures.equations
