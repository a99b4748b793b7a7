use Rattle.std.proofs.Common.{◌≡◌, ◌∙◌, sym, subst, refl}
use Rattle.proof_entries.specs.declared.Entry.TheVariants.{Put}
use Rattle.core_steps.specs.declared.events.Reply.TheVariants.{Edited}
use Rattle.core_steps.specs.Editing.{IsFullFor}
use Rattle.core_steps.specs.State.{State}
use Rattle.core_steps.specs.Outcomes.{entering}
use Rattle.core_steps.proofs.Projects.{put_small}
use Rattle.prepared_events.specs.Making.{putting}
use Rattle.status_core.specs.PrivateParts.{ComesAs}
use Rattle.status_core.proofs.Readied.{comes_putting}
use Rattle.status_core.proofs.core_state.Core.put_text.Goals as goal

pub returns : goal.returns
returns c =
    let p = c.putting.result in
    let name = c.args.name.now in
    let text = c.args.text.now in
    let room = c.in_ok-room.room in
    let is : p ≡ putting (Edited name) name text room = c.putting.ensures.prepared ∙ rw (c.in_ok-edited.ensures, c.in_ok-name.ensures, c.in_ok-text.ensures) refl in
    let full = subst (λ (s : State). IsFullFor s.durable.texts name → ⊥) (sym c.self.view_is) c.requires.room in
    let small = put_small c.self.inside.durable.texts name text c.self.invariant.1 c.requires.short full in
    subst (λ (s : State). ComesAs s (λ x. x ≡ entering s (Edited name) (Put name text)) p) c.self.view_is
    (comes_putting _ p c.self.invariant.1 (Edited name) name text room is small c.in_ok-room.ensures)
