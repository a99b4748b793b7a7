use Rattle.std.proofs.Common.{ap, subst, Err}
use Rattle.core_steps.specs.declared.durable.Durable.{Durable}
use Rattle.core_steps.specs.Table.{IsTooLarge}
use Rattle.core_steps.proofs.Projects.{empty_small}
use Rattle.rodin_cli.proofs.Building.{empty_buildable, empty_fits}
use Rattle.rodin_cli.proofs.session.start.Goals as goal

pub start-requires-clause-texts : goal.start-requires-clause-texts
start-requires-clause-texts g c = rw c.empty.ensures empty_small

pub start-requires-clause-built : goal.start-requires-clause-built
start-requires-clause-built g c = rw c.empty.ensures empty_buildable

pub unreachable-requires : goal.unreachable-requires
unreachable-requires g c =
    empty_fits c.in-Err-TableFull.field-0-0 (subst (λ (d : Durable). IsTooLarge d.built c.in-Err-TableFull.field-0-0) c.empty.ensures
    (c.in-Err-TableFull.ensures.full c.in-Err-TableFull.field-0-0 (ap Err c.in-Err-TableFull.field-0-is)))
