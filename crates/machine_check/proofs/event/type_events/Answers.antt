use Rattle.std.proofs.Common.{◌∙◌, [], sym, ap, refl, subst}
use Rattle.check_rules.specs.Events.{primed_env}
use Rattle.machine_check.specs.PrivateTyped.{IsTypedSoFar}
use Rattle.machine_check.proofs.Events.{events_more}
use Rattle.machine_check.proofs.event.type_events.Goals as goal

pub loop-event-init : goal.loop-event-init
loop-event-init c = (refl, c.in_ok-primed.ensures, ([], (c.new-typed.ensures.items, refl), refl))

pub loop-event-preserved : goal.loop-event-preserved
loop-event-preserved c =
    let variables = c.args.variables.now in
    let same = c.loop-event.invariant.0 in
    let primed = c.loop-event.invariant.1 in (
      c.in_ok-one.ensures.kept ∙ same,
      c.in_ok-one.ensures.primed_kept ∙ primed,
      events_more c.args.component.now c.args.events.now variables c.args.env.now c.args.written.now c.loop-event.event-index c.event-item.result c.loop-event-test.true c.event-item.is
          c.loop-event.typed.items c.push.new.self.items c.in_ok-one.one c.loop-event.first c.in_ok-one.here c.earlier-first.result
          c.loop-event.invariant.2
          (subst (λ x. IsTypedSoFar c.args.component.now c.args.events.now variables x c.event-item.result c.in_ok-one.one c.in_ok-one.here) same
          (c.in_ok-one.ensures.typed variables (primed ∙ ap (λ x. primed_env x variables) (sym same))))
          c.in_ok-push.ensures.items c.earlier-first.ensures,
    )
