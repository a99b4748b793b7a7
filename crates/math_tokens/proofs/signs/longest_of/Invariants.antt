-- the best of the forms so far
use Rattle.std.proofs.Common.{take}
use Rattle.math_tokens.specs.Private.{Best, table}
use Rattle.math_tokens.proofs.signs.longest_of.Given as goal

abbrev pub invariant-loop-form : goal.invariant-loop-form
invariant-loop-form l = Best (table (take l.form-index l.forms)) l.bytes l.best
