use Rattle.std.proofs.Common.{refl}
use Rattle.formula_core.proofs.TypedIn.{stands_more, typed_more}
use Rattle.formula_core.proofs.laws.typed_in_larger.Goals as goal

pub returns-clause-typed : goal.returns-clause-typed
returns-clause-typed c = λ new within h. (typed_more c.args.env.now new within c.args.f.now h, refl)

pub returns-clause-longer : goal.returns-clause-longer
returns-clause-longer c = stands_more c.args.env.now c.args.more.now
