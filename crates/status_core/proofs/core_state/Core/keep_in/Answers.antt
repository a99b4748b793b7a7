use Rattle.std.proofs.Common.{◌≡◌, ◌<◌, sym, subst, length}
use Rattle.std.specs.Prelude.{false}
use Rattle.std.specs.FinMap.{contains_key, len}
use Rattle.proof_entries.specs.declared.Entry.TheVariants.{SetProof}
use Rattle.core_steps.specs.State.{State}
use Rattle.core_steps.specs.Outcomes.{entering}
use Rattle.status_core.specs.PrivateParts.{without_at, ComesAs}
use Rattle.status_core.proofs.Readied.{comes_keeping_in}
use Rattle.status_core.proofs.core_state.Core.keep_in.Goals as goal

pub returns : goal.returns
returns c =
    let p = c.taking_in.result in
    let reply = c.args.reply in
    let storing = c.args.storing in
    let at = c.args.at in
    let fits = subst (λ (s : State). contains_key s.durable.proofs storing.name ≡ false → len s.durable.proofs < storing.room) (sym c.self.view_is) c.requires.room in
    let lt = subst (λ (s : State). at < length s.out) (sym c.self.view_is) c.requires.within in
    subst (λ (s : State). ComesAs s (λ x. x ≡ entering (without_at s at) reply (SetProof storing.name storing.proof)) p) c.self.view_is
    (comes_keeping_in _ p c.self.invariant.1 reply c.keeping.result storing.name storing.proof storing.room at c.taking_in.ensures.prepared c.keeping.ensures.prepared fits lt)
