-- the models so far, and the last number
use Rattle.std.proofs.Common.{◌≡◌}
use Rattle.demo_models.specs.Models.{models, number_at}
use Rattle.demo_models.proofs.making.models.Given as goal

abbrev pub invariant-loop-i : goal.invariant-loop-i
invariant-loop-i l = (l.models.items ≡ models l.seed l.i) × (l.number ≡ number_at l.seed l.i)
