use Rattle.std.proofs.Common.{take}
use Rattle.rule_making.specs.Make.{AreTerms}
use Rattle.rule_making.proofs.terms.typed_terms.Given as goal

abbrev pub invariant-loop-i : goal.invariant-loop-i
invariant-loop-i l = AreTerms l.env l.types (take l.i l.raws) l.terms.items
