use Rattle.std.proofs.Common.{◌≡◌}
use Rattle.po_refine.proofs.Growing.{chained}
use Rattle.po_refine.proofs.chains.chain.Given as goal

abbrev pub invariant-loop-formula : goal.invariant-loop-formula
invariant-loop-formula l = l.front ≡ chained l.op l.yielded
