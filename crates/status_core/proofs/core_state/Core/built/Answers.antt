use Rattle.std.proofs.Common.{◌≡◌, ◌∙◌, sym, ap, subst, refl, inr, map, length, arith}
use Rattle.std.proofs.lemmas.List.{length-map}
use Rattle.std.specs.Arc.{arc_value}
use Rattle.std.specs.FinMap.{entries, len, len-entries}
use Rattle.build_core.specs.Projects.{Project}
use Rattle.build_core.specs.Tables.{IsTableOf, AreFaultsOf}
use Rattle.proof_entries.specs.declared.Entry.TheVariants.{Build}
use Rattle.core_steps.specs.Durable.{IsSmallProject}
use Rattle.core_steps.specs.declared.events.Reply.{Reply}
use Rattle.core_steps.specs.declared.events.Reply.TheVariants.{Built}
use Rattle.core_steps.specs.Outcomes.{entering}
use Rattle.core_steps.specs.State.{State}
use Rattle.core_steps.proofs.Projects.{len_small}
use Rattle.prepared_events.specs.Making.{building}
use Rattle.status_core.proofs.Made.{as_made}
use Rattle.status_core.proofs.Readied.{comes_building}
use Rattle.status_core.proofs.Sizes.{table_within}
use Rattle.status_core.proofs.core_state.Core.built.Goals as goal

pub overflow_cast-components : goal.overflow_cast-components
overflow_cast-components c =
    let small = subst (λ (z : State). IsSmallProject z.durable.texts) c.self.view_is c.self.invariant.1 in
    omega (arith, c.len-components.ensures, ap len c.requires.project, len_small c.args.self.now.durable.texts small)

pub overflow_cast-faulted : goal.overflow_cast-faulted
overflow_cast-faulted c =
    let small = subst (λ (z : State). IsSmallProject z.durable.texts) c.self.view_is c.self.invariant.1 in
    omega (
      arith,
      c.few_faults.ensures c.args.builder c.faults.result.now c.faults.ensures.faults,
      ap length c.requires.builder,
      len-entries c.args.project,
      ap len c.requires.project,
      len_small c.args.self.now.durable.texts small,
    )

pub overflow_cast-obligations : goal.overflow_cast-obligations
overflow_cast-obligations c = omega (arith, table_within (map arc_value c.table.result.now) c.table.ensures.fits, length-map c.table.result.now arc_value)

pub returns : goal.returns
returns c =
    let s = c.args.self.now in
    let project = c.args.project in
    let texts = s.durable.texts in
    let faults = c.faults.result.now in
    let table = map arc_value c.table.result.now in
    let reply = Built (len texts) (length faults) (length table) in
    let same : c.args.builder ≡ entries texts = c.requires.builder ∙ ap entries c.requires.project in
    let told : Built c.len-components.result (length faults) (length c.table.result.now) ≡ reply =
    ap (λ n. Built n (length faults) (length c.table.result.now)) (c.len-components.ensures ∙ ap len c.requires.project)
    ∙ ap (λ n. Built (len texts) (length faults) n) (sym (length-map c.table.result.now arc_value)) in
    let is : c.building.result ≡ building reply texts = c.building.ensures.prepared ∙ ap (λ (r : Reply). building r project) told ∙ ap (building reply) c.requires.project in
    let small = subst (λ (z : State). IsSmallProject z.durable.texts) c.self.view_is c.self.invariant.1 in
    let is_table = subst (λ (p : Project). IsTableOf p table) same c.table.ensures.table in
    let are_faults = subst (λ (p : Project). AreFaultsOf p faults) same c.faults.ensures.faults in
    as_made s _ c.building.result (entering s reply Build) (comes_building s c.building.result small reply is)
    (c.has_table.ensures.0, c.has_table.ensures.1, inr (table, faults, (is_table, c.table.ensures.fits), are_faults, refl))
