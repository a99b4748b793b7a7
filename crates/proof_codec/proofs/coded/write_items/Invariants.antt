use Rattle.std.proofs.Common.{take}
use Rattle.std.specs.List.{AllByRecursion}
use Rattle.proof_codec.specs.Private.{IsWrittenAs, items_bytes}
use Rattle.proof_codec.proofs.coded.write_items.Given as goal

abbrev pub invariant-loop-item : goal.invariant-loop-item
invariant-loop-item g l = IsWrittenAs (AllByRecursion g.T.Coded.IsGood) (items_bytes g.T.Coded.bytes_of) (take l.item-index l.items) l.initial.out.items l.out.items
