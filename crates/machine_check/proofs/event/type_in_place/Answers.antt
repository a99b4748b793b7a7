use Rattle.std.proofs.Common.{◌∙◌, ◌≤◌, ap, refl, rules, map, length, drop}
use Rattle.std.proofs.Math.Nat.{le_refl}
use Rattle.std.proofs.lemmas.Slice.{between_to_end}
use Rattle.model_core.specs.Faults.{earlier}
use Rattle.check_rules.specs.Contexts.{names_of}
use Rattle.machine_check.specs.PrivateTyped.{event_env_from, event_from}
use Rattle.machine_check.proofs.Events.{event_typed, witnesses_behind}
use Rattle.machine_check.proofs.Growing.{by_guards, no_shorter}
use Rattle.machine_check.proofs.event.type_in_place.Goals as goal

pub slice_bounds-added-count : goal.slice_bounds-added-count
slice_bounds-added-count c =
    let begun = c.in_ok-add_event_names.ensures ∙ ap (λ rs. event_env_from rs c.args.event.now c.args.env.now) (ap (map (λ x. x.now)) c.deref.ensures.value ∙ c.in_ok-refined.ensures) in
    let more = by_guards c.args.component.now c.args.events.now c.args.event.now c.deref-2.result.now c.args.env.now c.add_event_names.new.env c.items-2.result.now
    c.in_ok-guards.guards.typed.items c.in_ok-guards.guards.first c.type_all.new.env begun c.in_ok-guards.ensures in
    let h : length c.entries-len.result.now ≤ length c.entries.result.now = no_shorter c.args.env.now c.type_all.new.env c.entries.result.now (length c.entries-len.result.now) more
    (ap length c.entries-len.ensures.entries) c.entries.ensures.entries in
    search rules

pub slice_bounds-added-start : goal.slice_bounds-added-start
slice_bounds-added-start c =
    let begun = c.in_ok-add_event_names.ensures ∙ ap (λ rs. event_env_from rs c.args.event.now c.args.env.now) (ap (map (λ x. x.now)) c.deref.ensures.value ∙ c.in_ok-refined.ensures) in
    let more = by_guards c.args.component.now c.args.events.now c.args.event.now c.deref-2.result.now c.args.env.now c.add_event_names.new.env c.items-2.result.now
    c.in_ok-guards.guards.typed.items c.in_ok-guards.guards.first c.type_all.new.env begun c.in_ok-guards.ensures in
    let h : length c.entries-len.result.now ≤ length c.entries.result.now = no_shorter c.args.env.now c.type_all.new.env c.entries.result.now (length c.entries-len.result.now) more
    (ap length c.entries-len.ensures.entries) c.entries.ensures.entries in
    search rules

pub returns : goal.returns
returns c =
    let component = c.args.component.now in
    let m = c.args.events.now in
    let env = c.args.env.now in
    let primed = c.args.primed.now in
    let e = c.args.event.now in
    let guards = c.in_ok-guards.guards in
    let witnesses = c.in_ok-witnesses.witnesses in
    let actions = c.in_ok-actions.actions in
    let start = c.add_event_names.new.env in
    let last = c.type_all.new.env in
    let len = length c.entries-len.result.now in
    let begun = c.in_ok-add_event_names.ensures ∙ ap (λ rs. event_env_from rs e env) (ap (map (λ x. x.now)) c.deref.ensures.value ∙ c.in_ok-refined.ensures) in
    let more = by_guards component m e c.deref-2.result.now env start c.items-2.result.now guards.typed.items guards.first last begun c.in_ok-guards.ensures in
    record {
      typed = λ names h.
          let t = event_typed component m names env start last last e c.deref-2.result.now
          c.items-2.result.now c.items-3.result.now c.items-4.result.now guards.typed.items witnesses.typed.items actions.typed.items
          guards.first c.in_ok-untyped.untyped witnesses.first actions.first c.in_ok-typed.typed
          begun (c.deref-2.ensures.value ∙ c.in_ok-params.ensures ∙ ap names_of c.items.ensures) c.items-2.ensures c.items-3.ensures c.items-4.ensures
          refl c.in_ok-guards.ensures c.in_ok-untyped.ensures
          (witnesses_behind component m names env primed last e (map (λ x. x.now) c.deref-3.result.now) _ len witnesses.typed.items witnesses.first h
          (ap (map (λ x. x.now)) c.deref-3.ensures.value ∙ c.in_ok-refined.ensures) (ap length c.entries-len.ensures.entries) more
          (between_to_end c.entries.result.now len (length c.entries.result.now) (le_refl _) ∙ ap (drop len) c.entries.ensures.entries) c.in_ok-witnesses.ensures.typed)
          c.in_ok-actions.ensures
          (c.in_ok-typed.ensures
          ∙ ap (λ rs. event_from e rs last guards.typed.items witnesses.typed.items actions.typed.items) (ap (map (λ x. x.now)) c.deref-4.ensures.value ∙ c.in_ok-refined.ensures)) in
          (t.0, t.1, c.earlier-first.ensures ∙ ap (λ f. earlier f actions.first) (c.earlier-2.ensures ∙ ap (λ f. earlier f witnesses.first) c.earlier.ensures) ∙ t.2);
      grown = more;
      primed_kept = c.in_ok-witnesses.ensures.kept;
    }
