use Rattle.std.proofs.Common.{◌≡◌, ◌∙◌, sym, ap, subst, refl, length, rules}
use Rattle.std.specs.Prelude.{vec_len}
use Rattle.std.specs.FinMap.{entries}
use Rattle.build_core.specs.Projects.{Project}
use Rattle.build_core.specs.Tables.{IsTableOf}
use Rattle.proof_entries.specs.declared.Entry.TheVariants.{Purge}
use Rattle.core_steps.specs.declared.events.Reply.{Reply}
use Rattle.core_steps.specs.declared.events.Reply.TheVariants.{Purged}
use Rattle.core_steps.specs.Durable.{IsSmallProject}
use Rattle.core_steps.specs.Editing.{lacking}
use Rattle.core_steps.specs.Outcomes.{entering}
use Rattle.core_steps.specs.State.{State}
use Rattle.prepared_events.specs.Making.{purging}
use Rattle.status_core.proofs.Made.{as_made}
use Rattle.status_core.proofs.Readied.{comes_purging}
use Rattle.status_core.proofs.core_state.Core.prepare_purge.Goals as goal

pub returns : goal.returns
returns c =
    let s = c.args.self.now in
    let p = c.purging.result in
    let table = c.has_table.ensures.0 in
    let of = c.has_table.ensures.1 in
    let small = subst (λ (z : State). IsSmallProject z.durable.texts) c.self.view_is c.self.invariant.1 in
    let built = c.self.invariant.0 ∙ ap (λ (z : State). entries z.durable.built) c.self.view_is in
    let of_builder = subst (λ (q : Project). IsTableOf q table) (sym built) of in
    let names = lacking s.durable.proofs table in
    let names_is : c.in_ok-names.names.items ≡ names =
    c.in_ok-names.ensures.names table of_builder ∙ ap (λ (z : State). lacking z.durable.proofs table) c.self.view_is in
    let whole : vec_len c.in_ok-names.names ≡ length c.in_ok-names.names.items = search rules in
    let told : Purged c.len.result ≡ Purged (length names) = ap Purged (c.len.ensures ∙ whole ∙ ap length names_is) in
    let is : p ≡ purging (Purged (length names)) names =
    c.purging.ensures.prepared ∙ ap (λ (r : Reply). purging r c.of.result) told ∙ ap (purging (Purged (length names))) (c.of.ensures ∙ names_is) in
    as_made s _ p (entering s (Purged (length names)) (Purge names)) (comes_purging s p small (Purged (length names)) names is) (table, of, refl)
