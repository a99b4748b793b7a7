use Rattle.std.proofs.Common.{sym, ap, arith}
use Rattle.core_steps.specs.Editing.{edited}
use Rattle.core_steps.specs.State.{State}
use Rattle.status_core.proofs.Made.{if_ok, as_made, so_made}
use Rattle.status_core.proofs.core_state.Core.prepare_edit.Goals as goal

pub returns-in-Some : goal.returns-in-Some
returns-in-Some c =
    as_made _ _ c.tell.result _ c.tell.ensures
    (c.has_table.ensures.0, c.has_table.ensures.1, c.in-Some.ensures c.args.self.now (ap (λ (z : State). z.durable.texts) (sym c.self.view_is)))

pub put_text-requires : goal.put_text-requires
put_text-requires c = record {
  short = c.in-None.ensures.1;
  room = rw (← c.self.view_is) c.in-None.ensures.2;
}

pub returns-in-None : goal.returns-in-None
returns-in-None c =
    if_ok _ _ _
    (λ p m. so_made _ _ _ p
    (λ x e. (
      c.has_table.ensures.0,
      c.has_table.ensures.1,
      edited c.in-None.ensures.0 (λ long. absurd (omega (arith, c.in-None.ensures.1, long))) (rw (← c.self.view_is) c.in-None.ensures.2) e,
    )) m) c.put_text.ensures
