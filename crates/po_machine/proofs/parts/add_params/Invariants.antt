use Rattle.std.proofs.Common.{◌≡◌, ◌++◌, take}
use Rattle.po_machine.proofs.parts.add_params.Given as goal

abbrev pub invariant-loop-param : goal.invariant-loop-param
invariant-loop-param l = l.env ≡ l.initial.env ++ take l.param-index l.params
