use Rattle.std.proofs.Common.{◌≡◌, ◌++◌, not, take}
use Rattle.std.specs.List.{filter}
use Rattle.model_core.specs.Each.{is_among}
use Rattle.po_machine.proofs.parts.add_lost_params.Given as goal

abbrev pub invariant-loop-param : goal.invariant-loop-param
invariant-loop-param l = l.env ≡ l.initial.env ++ filter (λ x. not (is_among l.kept x.0)) (take l.param-index l.params)
