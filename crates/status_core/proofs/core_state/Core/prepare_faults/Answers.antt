use Rattle.std.proofs.Common.{◌∙◌, sym, ap, subst, refl}
use Rattle.std.specs.FinMap.{entries}
use Rattle.build_core.specs.Projects.{Project}
use Rattle.build_core.specs.Tables.{AreFaultsOf, AreWarningsOf}
use Rattle.core_steps.specs.State.{State}
use Rattle.status_core.proofs.Made.{as_made}
use Rattle.status_core.proofs.core_state.Core.prepare_faults.Goals as goal

pub returns : goal.returns
returns c =
    let s = c.args.self.now in
    let faults = c.in_ok-faults.faults.items in
    let warnings = c.in_ok-warnings.warnings.items in
    let built = c.self.invariant.0 ∙ ap (λ (z : State). entries z.durable.built) c.self.view_is in
    let are_faults = subst (λ (p : Project). AreFaultsOf p faults) built (subst (AreFaultsOf c.self.inside.builder) (sym c.in_ok-faults.ensures) c.faults.ensures.faults) in
    let are_warnings =
    subst (λ (p : Project). AreWarningsOf p warnings) built (subst (AreWarningsOf c.self.inside.builder) (sym c.in_ok-warnings.ensures) c.warnings.ensures.warnings) in
    as_made s _ c.tell.result _ (rw (c.of.ensures, c.of-2.ensures) at c.tell.ensures)
    (c.has_table.ensures.0, c.has_table.ensures.1, (faults, warnings, are_faults, are_warnings, refl))
