use Rattle.proof_codec.specs.Private.{IsReadAs, AreItems, items_bytes}
use Rattle.proof_codec.proofs.coded.items.Given as goal

abbrev pub invariant-loop : goal.invariant-loop
invariant-loop g l = IsReadAs (AreItems g.T.Coded.IsGood l.counter) (items_bytes g.T.Coded.bytes_of) l.fn.from l.items.items l.from
