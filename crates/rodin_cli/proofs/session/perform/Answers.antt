use Rattle.std.proofs.Common.{◌∙◌, ap, sym, subst, [], ◌∷◌, ◌++◌}
use Rattle.core_steps.specs.Step.{Does}
use Rattle.prepared_events.specs.Prepared.{changed_by}
use Rattle.rodin_cli.proofs.session.perform.Goals as goal

pub returns-clause-done : goal.returns-clause-done
returns-clause-done g c =
    let p = c.in_ok-prepared.prepared in
    let old = c.args.session.now.core in
    let new = c.commit-reply.ensures.changed ∙ ap (changed_by p) c.prepare.ensures.same in
    let does = subst (λ r. Does old c.args.event r p.entry (changed_by p old)) (sym c.commit-reply.ensures.reply) c.in_ok-prepared.ensures.does in (
      (p.entry, subst (λ s. Does old c.args.event c.commit-reply.result p.entry s) (sym new) does),
      c.note.ensures ∙ ap (λ h. h ++ (0, c.args.event) ∷ []) c.reserve.ensures.items,
    )
