use Rattle.std.proofs.Common.{rules, subst, ap, sym, ◌≡◌, ◌∙◌, IfOk, map, length}
use Rattle.type_formula.specs.Bare.{Broken, Binding}
use Rattle.type_formula.specs.CoreForms.{core_form, core_of_unnamed, turned, bounds}
use Rattle.type_formula.specs.PrivateViews.{bound_part, with_core, in_a_row}
use Rattle.type_formula.specs.Views.{bare_of, bounds_of}
use Rattle.type_formula.proofs.CoreEquations.{read_node, read_plain, read_lambda, read_named, read_unnamed, unnamed_broken, unnamed_two}
use Rattle.type_formula.proofs.reading.+read.Goals as goal

pub read-returns-in_ok-read_all-in-Node : goal.read-returns-in_ok-read_all-in-Node
read-returns-in_ok-read_all-in-Node t c =
    let row = c.in_ok-read_all-in-Node.ensures ∙ ap (λ ps. in_a_row (map core_form ps)) c.items.ensures in
    subst (λ b. IfOk c.make_form.result (λ t. bare_of t ≡ b)) (read_node _ _ _ _ _ c.in-Node.is row) c.make_form.ensures

pub read-returns-in_ok-read_all-in-Plain : goal.read-returns-in_ok-read_all-in-Plain
read-returns-in_ok-read_all-in-Plain t c =
    let names = c.in_ok-names-in-Bind.ensures ∙ ap (λ bs. bounds (map bound_part bs)) c.items-in-Bind.ensures in
    let row = c.in_ok-read_all-in-Plain.ensures ∙ ap (λ ps. in_a_row (map core_form ps)) c.items-in-Plain.ensures in
    subst (λ b. IfOk c.binding.result (λ t. bare_of t ≡ b)) (read_plain _ _ _ _ _ c.in-Bind.is _ names _ _ c.in-Plain.is row) c.binding.ensures

pub read-returns-in_ok-read_all-in-Lambda : goal.read-returns-in_ok-read_all-in-Lambda
read-returns-in_ok-read_all-in-Lambda t c =
    let names = c.in_ok-names-in-Bind.ensures ∙ ap (λ bs. bounds (map bound_part bs)) c.items-in-Bind.ensures in
    let row = c.in_ok-read_all-in-Lambda.ensures ∙ ap (λ ps. in_a_row (map core_form ps)) c.items-in-Lambda.ensures in
    subst (λ b. IfOk c.lambda.result (λ t. bare_of t ≡ b)) (read_lambda _ _ _ _ _ c.in-Bind.is _ names _ c.in-Lambda.is row) c.lambda.ensures

pub read-returns-then-has_names : goal.read-returns-then-has_names
read-returns-then-has_names t c =
    let names = c.in_ok-names-in-Bind.ensures ∙ ap (λ bs. bounds (map bound_part bs)) c.items-in-Bind.ensures in
    let row = c.in_ok-read_all-in-Implicit.ensures ∙ ap (λ ps. in_a_row (map core_form ps)) c.items-then-has_names.ensures in
    subst (λ b. IfOk c.broken.result (λ t. bare_of t ≡ b)) (read_named _ _ _ _ _ c.in-Bind.is _ names _ _ c.in-Implicit.is (sym c.if-has_names.ensures) row) c.broken.ensures

pub read-returns-else-has_names : goal.read-returns-else-has_names
read-returns-else-has_names t c =
    let names = c.in_ok-names-in-Bind.ensures ∙ ap (λ bs. bounds (map bound_part bs)) c.items-in-Bind.ensures in
    let form = ap (λ ps. core_of_unnamed c.in-Implicit.binder (map with_core ps)) c.items-in-Implicit.ensures ∙ read_unnamed _ _ _ _ _ c.in-Bind.is _ names _ c.in-Implicit.is (sym c.if-has_names.ensures) in
    subst (λ b. IfOk c.read_unnamed.result (λ t. bare_of t ≡ b)) form c.read_unnamed.ensures

pub read_unnamed-returns-then-parts-ne2 : goal.read_unnamed-returns-then-parts-ne2
read_unnamed-returns-then-parts-ne2 t c =
    subst (λ b. IfOk c.broken.result (λ t. bare_of t ≡ b)) (ap Broken c.in_ok-read_all.ensures ∙ sym (unnamed_broken _ _ c.if-parts-ne2.true)) c.broken.ensures

pub read_unnamed-returns : goal.read_unnamed-returns
read_unnamed-returns t c =
    let two_parts : length c.args.parts.now ≡ 2 = search rules in
    let row = c.in_ok-parts.ensures ∙ ap turned c.in_ok-read_all-2.ensures in
    let form = ap (λ ps. Binding c.args.binder (bounds_of c.in_ok-names.names) ps) row
    ∙ sym (unnamed_two c.args.binder c.args.parts.now c.index-parts-0.result (bounds_of c.in_ok-names.names) two_parts c.index-parts-0.is c.in_ok-names.ensures) in
    subst (λ b. IfOk c.binding.result (λ t. bare_of t ≡ b)) form c.binding.ensures
