use Rattle.std.proofs.Common.{◌≡◌, drop, take, length}
use Rattle.type_formula.specs.Answers.{with_names_typed}
use Rattle.type_formula.proofs.predicate.add_names.Given as goal

abbrev pub invariant-loop-name : goal.invariant-loop-name
invariant-loop-name l =
    (with_names_typed l.env (drop l.name-index l.wanted) l.formula ≡ with_names_typed l.initial.env l.wanted l.formula)
    × (take (length l.initial.env) l.env ≡ l.initial.env)
