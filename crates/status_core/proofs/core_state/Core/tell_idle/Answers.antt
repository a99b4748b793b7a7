use Rattle.std.proofs.Common.{◌≡◌, subst, []}
use Rattle.std.specs.Prelude.{IsTrue, ◌↔◌, None}
use Rattle.core_steps.specs.State.{State}
use Rattle.status_core.proofs.Made.{as_made}
use Rattle.status_core.proofs.Finding.{idle_told}
use Rattle.status_core.proofs.core_state.Core.tell_idle.Goals as goal

pub returns : goal.returns
returns c =
    let s = c.args.self.now in
    let table = c.has_table.ensures.0 in
    let of = c.has_table.ensures.1 in
    let is =
    subst (λ (z : State). IsTrue c.is_idle-idle.result ↔ ((c.args.found ≡ None) × (z.out ≡ []))) c.self.view_is (rw c.deref.ensures.value at c.is_idle-idle.ensures) in
    as_made s _ c.tell.result _ c.tell.ensures (table, of, idle_told s table c.args.found c.is_idle-idle.result (c.requires table of) is)
