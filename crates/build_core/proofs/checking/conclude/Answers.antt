use Rattle.std.proofs.Common.{◌∙◌, sym, subst}
use Rattle.build_core.specs.Private.{ConcludesIn}
use Rattle.build_core.proofs.Setting.{concludes_fault}
use Rattle.build_core.proofs.Taken.{told_steady}
use Rattle.build_core.proofs.checking.conclude.Goals as goal

pub returns-in_ok-told-in-Some-clause-outcome : goal.returns-in_ok-told-in-Some-clause-outcome
returns-in_ok-told-in-Some-clause-outcome g c =
    subst (ConcludesIn c.args.raw.now c.args.progress.now.outcomes) (sym c.in_ok-told-in-Some.ensures.outcome)
    (concludes_fault c.args.raw.now c.args.progress.now.outcomes c.in-Some.fault (sym c.in-Some.is ∙ c.in_ok-first.ensures))

pub returns-in_ok-told-in-Some-clause-steady : goal.returns-in_ok-told-in-Some-clause-steady
returns-in_ok-told-in-Some-clause-steady g c = told_steady _ _ c.in-Some.fault _ c.in_ok-told-in-Some.ensures.outcome c.in_ok-told-in-Some.ensures.kept
