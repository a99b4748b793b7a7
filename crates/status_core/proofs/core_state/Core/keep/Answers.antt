use Rattle.std.proofs.Common.{◌≡◌, ◌<◌, sym, subst}
use Rattle.std.specs.Prelude.{false}
use Rattle.std.specs.FinMap.{contains_key, len}
use Rattle.proof_entries.specs.declared.Entry.TheVariants.{SetProof}
use Rattle.core_steps.specs.State.{State}
use Rattle.core_steps.specs.Outcomes.{entering}
use Rattle.status_core.specs.PrivateParts.{ComesAs}
use Rattle.status_core.proofs.Readied.{comes_keeping}
use Rattle.status_core.proofs.core_state.Core.keep.Goals as goal

pub returns : goal.returns
returns c =
    let p = c.keeping.result in
    let reply = c.args.reply in
    let storing = c.args.storing in
    let fits = subst (λ (s : State). contains_key s.durable.proofs storing.name ≡ false → len s.durable.proofs < storing.room) (sym c.self.view_is) c.requires.room in
    subst (λ (s : State). ComesAs s (λ x. x ≡ entering s reply (SetProof storing.name storing.proof)) p) c.self.view_is
    (comes_keeping _ p c.self.invariant.1 reply storing.name storing.proof storing.room c.keeping.ensures.prepared fits)
