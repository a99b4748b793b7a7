use Rattle.std.proofs.Common.{◌≡◌, take, map}
use Rattle.rule_kernel.proofs.read.copy_names.Given as goal

abbrev pub invariant-loop-identifier : goal.invariant-loop-identifier
invariant-loop-identifier l = l.names.items ≡ map (λ x. x.0) (take l.identifier-index l.idents)
