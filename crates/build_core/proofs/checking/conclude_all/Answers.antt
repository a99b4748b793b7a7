use Rattle.std.proofs.Common.{sym, subst, [], bytes_eq, arith}
use Rattle.std.specs.List.{IsDistinct}
use Rattle.static_check.specs.Settling.{ReferencesFirst}
use Rattle.build_core.specs.Private.{HaveNames}
use Rattle.build_core.proofs.Moving.{no_steps}
use Rattle.build_core.proofs.Setting.{sorted_names}
use Rattle.build_core.proofs.checking.conclude_all.Goals as goal

pub conclude_sorted-requires-clause-names : goal.conclude_sorted-requires-clause-names
conclude_sorted-requires-clause-names g c =
    subst (HaveNames c.args.sources.now.components.now) (sym c.items-sorted.ensures) (sorted_names c.args.sources.now.components.now c.in_ok-order.order c.in_ok-order.ensures)

pub conclude_sorted-requires-clause-order : goal.conclude_sorted-requires-clause-order
conclude_sorted-requires-clause-order g c =
    subst (ReferencesFirst c.args.sources.now.components.now []) (sym c.items-sorted.ensures) c.in_ok-order.ensures.references_first

pub conclude_sorted-requires-clause-once : goal.conclude_sorted-requires-clause-once
conclude_sorted-requires-clause-once g c = subst (IsDistinct bytes_eq) (sym c.items-sorted.ensures) c.in_ok-order.ensures.once

pub returns-in_err-order-clause-steps : goal.returns-in_err-order-clause-steps
returns-in_err-order-clause-steps g c = no_steps c.args.before.now.texts.now.entries c.args.sources.now.texts.now.entries c.args.steps.now c.args.steps.now (omega arith)
