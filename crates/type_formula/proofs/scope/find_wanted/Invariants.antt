use Rattle.std.proofs.Common.{◌≡◌, drop}
use Rattle.type_formula.specs.Scopes.{position_of}
use Rattle.type_formula.specs.PrivateViews.{numbered_scope, found_of}
use Rattle.type_formula.proofs.scope.find_wanted.Given as goal

abbrev pub invariant-loop-i : goal.invariant-loop-i
invariant-loop-i l = found_of (position_of l.name (numbered_scope (drop l.i l.wanted) l.i)) ≡ found_of (position_of l.name (numbered_scope l.wanted 0))
