use Rattle.std.proofs.Common.{◌≤◌, ◌+◌, ◌∙◌, ap, sym, subst}
use Rattle.std.specs.FinMap.{len}
use Rattle.prepared_events.specs.Prepared.{changed_by}
use Rattle.rodin_rows.proofs.cores.act.Goals as goal

pub returns-clause-few : goal.returns-clause-few
returns-clause-few g c =
    let p = c.in-Ok.prepared in
    let old = c.args.core.now in
    let new = c.commit-reply.ensures.changed ∙ ap (changed_by p) c.prepare.ensures.same in
    let grown = c.grows_slowly.ensures old c.args.event.now p.reply p.entry (changed_by p old) c.in-Ok.ensures.does in
    subst (λ s. len s.durable.proofs ≤ len old.durable.proofs + 1) (sym new) grown.1
