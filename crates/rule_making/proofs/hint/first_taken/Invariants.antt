use Rattle.std.proofs.Common.{◌≡◌, [], take, drop}
use Rattle.rule_making.specs.Make.{first_taken}
use Rattle.rule_making.proofs.hint.first_taken.Given as goal

abbrev pub invariant-loop-i : goal.invariant-loop-i
invariant-loop-i l = first_taken l.env (take l.i l.names) (drop l.i l.names) ≡ first_taken l.env [] l.names
