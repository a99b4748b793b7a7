use Rattle.std.proofs.Common.{◌≡◌, ℕ, List, take}
use Rattle.model_core.specs.Each.{is_among}
use Rattle.model_core.specs.Borrowed.{texts, has}
use Rattle.po_refine.proofs.targets.index_of.Given as goal

abbrev pub invariant-loop-name : goal.invariant-loop-name
invariant-loop-name l = (name : List ℕ) → has l.index name ≡ is_among (texts (take l.name-index l.list)) name
