use Rattle.std.proofs.lemmas.Result.{err_from_is_err_and}
use Rattle.type_formula.proofs.Answered.{the_typing, no_typing}
use Rattle.type_formula.proofs.Standing.{predicates_stand}
use Rattle.type_formula.proofs.predicate.type_predicate.Goals as goal

pub returns-in_err-formula-clause-clash : goal.returns-in_err-formula-clause-clash
returns-in_err-formula-clause-clash c e =
    let p = err_from_is_err_and c.from_residual.result c.from_residual.ensures.1 in
    let a = p.1 in
    let b = p.2 in
    no_typing _ _ _ (c.in_err-formula.ensures.clash (cc))

pub returns-clause-typed : goal.returns-clause-typed
returns-clause-typed c =
    the_typing c.args.env.now c.args.wanted.now c.args.raw.now c.in_ok-formula.formula _ c.in_ok-formula.ensures.typed
    c.in_ok-extend.ensures.extended

pub returns-clause-standing : goal.returns-clause-standing
returns-clause-standing c has =
    predicates_stand c.args.env.now c.args.wanted.now c.args.raw.now c.in_ok-formula.formula _
    (the_typing c.args.env.now c.args.wanted.now c.args.raw.now c.in_ok-formula.formula _ c.in_ok-formula.ensures.typed
    c.in_ok-extend.ensures.extended) has
