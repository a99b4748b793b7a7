use Rattle.std.proofs.Common.{◌≡◌, take, map}
use Rattle.formula_core.specs.declared.Formula.{Formula}
use Rattle.rule_table.specs.Rewriting.{replaced}
use Rattle.instance_size.specs.Extents.{extent_of}
use Rattle.instance_size.specs.Private.{extent_of_parts}
use Rattle.instance_size.proofs.replaced.+replace.Given as goal

abbrev pub invariant-extent_of_all-loop-item : goal.invariant-extent_of_all-loop-item
invariant-extent_of_all-loop-item l = (g : Formula) → l.new ≡ extent_of g → l.all ≡ extent_of_parts (map (replaced l.old g) (take l.item-index l.items))
