use Rattle.std.proofs.Common.{◌≡◌, map, take}
use Rattle.type_formula.proofs.free.names_of.Given as goal

abbrev pub invariant-loop-b : goal.invariant-loop-b
invariant-loop-b l = l.names.items ≡ map (λ b. b.name) (take l.b-index l.bound)
