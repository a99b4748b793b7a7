use Rattle.std.proofs.Common.{ℕ, List, sym, ◌∙◌, ap, [], ◌∷◌, ◌++◌, append_assoc}
use Rattle.build_core.specs.Tables.{warnings_in}
use Rattle.build_core.proofs.Gathers.{given_more}
use Rattle.build_core.proofs.gathering.warnings_in.Goals as goal

pub loop-name-preserved : goal.loop-name-preserved
loop-name-preserved c =
    let done = c.loop-name.invariant.0 in
    let e : List ℕ × List ℕ = (c.in-Some.name.now, c.in-Some.field-0-1.now) in (
      done ++ e ∷ [],
      append_assoc done (e ∷ []) c.next.new.self ∙ ap (λ rest. done ++ rest) (sym c.in-Some.ensures.steps) ∙ c.loop-name.invariant.1,
      given_more warnings_in c.args.outcomes.now done e _ c.loop-name.warnings.items c.add_warnings.new.warnings.items c.get.ensures c.loop-name.invariant.2 (c.in_ok-add_warnings.ensures c.in-Some.field-0-1.now),
    )
