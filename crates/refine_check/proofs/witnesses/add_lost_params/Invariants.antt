use Rattle.std.proofs.Common.{◌≡◌, ◌++◌, not, take}
use Rattle.std.specs.List.{filter}
use Rattle.model_core.specs.Each.{is_among}
use Rattle.check_rules.specs.Visible.{names}
use Rattle.refine_check.proofs.witnesses.add_lost_params.Given as goal

abbrev pub invariant-loop-param : goal.invariant-loop-param
invariant-loop-param l = l.found.items ≡ l.initial.found.items ++ filter (λ p. not (is_among l.kept p)) (names (take l.param-index l.params))
