use Rattle.std.proofs.Common.{◌∙◌, sym, ap, arith}
use Rattle.std.specs.Option.{option_copied}
use Rattle.static_check.specs.Settling.{references}
use Rattle.static_check.specs.PrivateSorting.{waiting_for}
use Rattle.static_check.proofs.Turns.{open_found, none_found}
use Rattle.static_check.proofs.sorting.first_open_from.Goals as goal

pub returns-in-Some-clause-some : goal.returns-in-Some-clause-some
returns-in-Some-clause-some c =
    open_found (waiting_for c.args.names.now) (references c.args.component.now) c.loop-index.index c.in-Some.reference.now
    (sym (ap option_copied c.in-Some.is) ∙ c.open_at.ensures)

pub returns-clause-none : goal.returns-clause-none
returns-clause-none c = λ zero _.
    none_found (waiting_for c.args.names.now) (references c.args.component.now)
    (λ k lt. c.loop-index.invariant k (omega (arith, zero)) (omega (arith, lt, c.loop-index-test.false, c.count_references-index-end.ensures)))
