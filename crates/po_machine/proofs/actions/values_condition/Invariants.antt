use Rattle.std.proofs.Common.{◌≡◌, fold, map, take}
use Rattle.well_defined.specs.Conditions.{wd_of}
use Rattle.well_defined.specs.Connectives.{conjoined}
use Rattle.well_defined.specs.Predicates.{top}
use Rattle.po_machine.proofs.actions.values_condition.Given as goal

abbrev pub invariant-loop-pair : goal.invariant-loop-pair
invariant-loop-pair l = l.all ≡ fold conjoined top (map (λ x. wd_of x.1) (take l.pair-index l.pairs))
