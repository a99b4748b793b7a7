use Rattle.std.proofs.Common.{ap, sym, subst, ◌≡◌, ◌∙◌, OnOk}
use Rattle.type_formula.specs.Bare.{plain, typed}
use Rattle.type_formula.specs.Views.{bare_of, bounds_of}
use Rattle.type_formula.specs.PrivateViews.{scope_of}
use Rattle.type_formula.proofs.Entries.{bind_plain, bind_typed, kept_step, on_ok}
use Rattle.type_formula.proofs.collect.+bind_names.Goals as goal

pub returns-in_ok-bind_name-in-Plain-clause-scope : goal.returns-in_ok-bind_name-in-Plain-clause-scope
returns-in_ok-bind_name-in-Plain-clause-scope t c =
    subst (λ s. OnOk c.bind_names.result (scope_of c.bind_names.new.scope.items ≡ s)) (bind_plain _ _ _ c.args.first c.args.scope.now.items _ (ap bounds_of c.in-Plain.is ∙ ap (λ r. plain c.in-Plain.name (bounds_of r)) (sym c.deref.ensures)) c.in_ok-bind_name-in-Plain.ensures) c.bind_names.ensures.scope

pub returns-in_ok-bind_name-in-Plain-clause-kept : goal.returns-in_ok-bind_name-in-Plain-clause-kept
returns-in_ok-bind_name-in-Plain-clause-kept t c = on_ok _ (kept_step c.args.scope.now.items _ c.bind_names.new.scope.items _ c.in_ok-bind_name-in-Plain.ensures) c.bind_names.ensures.kept

pub returns-in_ok-bind_name-in-Typed-clause-scope : goal.returns-in_ok-bind_name-in-Typed-clause-scope
returns-in_ok-bind_name-in-Typed-clause-scope t c =
    subst (λ s. OnOk c.bind_names-in-Typed.result (scope_of c.bind_names-in-Typed.new.scope.items ≡ s)) (bind_typed _ _ _ _ c.args.first c.args.scope.now.items _ (ap bounds_of c.in-Typed.is ∙ ap (λ r. typed c.in-Typed.name (bare_of c.in-Typed.field-1.value) (bounds_of r)) (sym c.deref-in-Typed.ensures)) c.in_ok-bind_name-in-Typed.ensures) c.bind_names-in-Typed.ensures.scope

pub returns-in_ok-bind_name-in-Typed-clause-kept : goal.returns-in_ok-bind_name-in-Typed-clause-kept
returns-in_ok-bind_name-in-Typed-clause-kept t c = on_ok _ (kept_step c.args.scope.now.items _ c.bind_names-in-Typed.new.scope.items _ c.in_ok-bind_name-in-Typed.ensures) c.bind_names-in-Typed.ensures.kept
