use Rattle.std.proofs.Common.{◌≡◌, ◌++◌, map}
use Rattle.formula_core.specs.Names.{with_prime}
use Rattle.po_machine.proofs.parts.add_primed.Given as goal

abbrev pub invariant-loop-target : goal.invariant-loop-target
invariant-loop-target l = l.env ≡ l.initial.env ++ map with_prime l.yielded
