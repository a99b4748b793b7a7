use Rattle.std.proofs.Common.{◌≡◌, ℕ, ◌^◌, min, take, map}
use Rattle.formula_core.specs.Formulas.{instantiated}
use Rattle.instance_size.specs.Private.{extent_of_parts}
use Rattle.instance_size.proofs.instantiated.+count.Given as goal

abbrev pub invariant-extent_of_all-loop-item : goal.invariant-extent_of_all-loop-item
invariant-extent_of_all-loop-item l = (d : ℕ) → l.depth ≡ min d (2 ^ 32) → l.all ≡ extent_of_parts (map (instantiated l.terms d) (take l.item-index l.items))
