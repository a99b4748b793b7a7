use Rattle.std.proofs.Common.{◌∙◌, sym, ap, subst}
use Rattle.std.specs.Prelude.{IfSome}
use Rattle.static_check.specs.Settling.{own_name}
use Rattle.build_core.specs.Tables.{refined_in}
use Rattle.build_core.specs.Private.{AreMade, abstraction_in, found, own_list}
use Rattle.build_core.proofs.Collecting.{if_found}
use Rattle.build_core.proofs.Taken.{obligations_kept}
use Rattle.build_core.proofs.gathering.kept_own.Goals as goal

pub returns-then-keeps_obligations : goal.returns-then-keeps_obligations
returns-then-keeps_obligations c checked e =
    let owns = c.args.before.now.owns.now.entries in
    let raw = c.args.raw.now in
    let outcomes = c.args.progress.now.outcomes in
    subst (λ o. IfSome o (AreMade checked (abstraction_in outcomes (refined_in raw)))) (sym (c.get.ensures.value ∙ ap (λ h. found owns h.name) c.heading.ensures))
    (if_found (AreMade checked (abstraction_in outcomes (refined_in raw))) (found owns (own_name raw)) (λ own f.
    let given = c.requires.owns (own_name raw) own f in (
      obligations_kept c.args.before.now.texts.now.entries c.args.before.now.outcomes.now c.requires.before c.args.texts.now.entries c.requires.once raw outcomes
          c.args.progress.now.kept.entries c.requires.steady c.requires.read (sym c.keeps_obligations.ensures ∙ c.if-keeps_obligations.true) checked e (own_list own) given.0,
      given.1,
    )))
