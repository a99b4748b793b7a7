use Rattle.std.proofs.Common.{ap, ◌≡◌, ◌∙◌, ◌++◌, map, subst, OnOk}
use Rattle.type_formula.specs.CoreForms.{free_names, free_in_binder}
use Rattle.formula_core.specs.declared.raw.RawBound.{RawBound}
use Rattle.type_formula.proofs.CoreEquations.{free_at_binder}
use Rattle.type_formula.proofs.free.+free.Goals as goal

pub collect_free-returns-in_ok-names-in-Bind : goal.collect_free-returns-in_ok-names-in-Bind
collect_free-returns-in_ok-names-in-Bind t c =
    let names = c.in_ok-names-in-Bind.ensures ∙ ap (map (λ (b : RawBound). b.name)) c.items-in-Bind.ensures in
    let same : free_in_binder c.in-Bind.binder c.deref.result.now (map free_names c.items-in-Bind-2.result.now) ≡ free_in_binder c.in-Bind.binder c.in_ok-names-in-Bind.names.items (map free_names c.in-Bind.parts) =
    λ i. free_in_binder c.in-Bind.binder (c.deref.ensures.value i) (map free_names (c.items-in-Bind-2.ensures i)) in
    subst (λ xs. OnOk c.collect_binder.result (c.collect_binder.new.found.items ≡ c.args.found.now.items ++ xs)) (same ∙ free_at_binder _ _ _ _ _ _ c.in-Bind.is names) c.collect_binder.ensures
