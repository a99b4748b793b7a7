use Rattle.std.proofs.Common.{◌≡◌, drop}
use Rattle.std.specs.List.{list_any}
use Rattle.refine_check.specs.Private.{is_other_there}
use Rattle.refine_check.proofs.param_types.has_other_there.Given as goal

abbrev pub invariant-loop-param : goal.invariant-loop-param
invariant-loop-param l = list_any (is_other_there l.types) (drop l.param-index l.params) ≡ list_any (is_other_there l.types) l.params
