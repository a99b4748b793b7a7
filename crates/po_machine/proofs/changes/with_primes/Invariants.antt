use Rattle.std.proofs.Common.{◌≡◌, map, take}
use Rattle.formula_core.specs.Names.{with_prime}
use Rattle.po_machine.proofs.changes.with_primes.Given as goal

abbrev pub invariant-loop-identifier : goal.invariant-loop-identifier
invariant-loop-identifier l = l.out.items ≡ map with_prime (take l.identifier-index l.identifiers)
