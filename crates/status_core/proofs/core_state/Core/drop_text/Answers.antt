use Rattle.std.proofs.Common.{◌≡◌, ◌∙◌, subst, refl}
use Rattle.proof_entries.specs.declared.Entry.TheVariants.{Drop}
use Rattle.core_steps.specs.declared.events.Reply.TheVariants.{Deleted}
use Rattle.core_steps.specs.State.{State}
use Rattle.core_steps.specs.Outcomes.{entering}
use Rattle.core_steps.proofs.Projects.{remove_small}
use Rattle.prepared_events.specs.Making.{dropping}
use Rattle.status_core.specs.PrivateParts.{ComesAs}
use Rattle.status_core.proofs.Readied.{comes_dropping}
use Rattle.status_core.proofs.core_state.Core.drop_text.Goals as goal

pub returns : goal.returns
returns c =
    let p = c.dropping.result in
    let name = c.args.name.now in
    let reply = Deleted c.args.told in
    let is : p ≡ dropping reply name = c.dropping.ensures.prepared ∙ rw c.in_ok-name.ensures refl in
    subst (λ (s : State). ComesAs s (λ x. x ≡ entering s reply (Drop name)) p) c.self.view_is
    (comes_dropping _ p c.self.invariant.1 reply name is (remove_small c.self.inside.durable.texts name c.self.invariant.1))
