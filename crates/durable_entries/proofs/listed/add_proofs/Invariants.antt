use Rattle.std.proofs.Common.{◌≡◌, ◌++◌, map, take}
use Rattle.proof_entries.specs.declared.Entry.TheVariants.{SetProof}
use Rattle.durable_entries.proofs.listed.add_proofs.Given as goal

abbrev pub invariant-loop-name : goal.invariant-loop-name
invariant-loop-name l = l.listed.items ≡ l.initial.listed.items ++ map (λ e. SetProof e.0 e.1) (take l.name-index l.name-items)
