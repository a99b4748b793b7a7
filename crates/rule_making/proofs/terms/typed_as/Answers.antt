use Rattle.std.specs.Option.{option_copied}
use Rattle.std.proofs.lemmas.Result.{IfOk-weaker, MatchResult-from_both}
use Rattle.type_formula.specs.Views.{bare_of}
use Rattle.rule_making.proofs.TermPlaces.{none_typed, not_typed, Typed, both_ok}
use Rattle.rule_making.proofs.terms.typed_as.Goals as goal

pub returns-in-Err : goal.returns-in-Err
returns-in-Err c = IfOk-weaker c.no_term.result _ _ (λ o h. none_typed c.args.env.now (bare_of c.args.tree.now) (option_copied c.args.expected) o h.0
    (not_typed c.args.env.now (bare_of c.args.tree.now) (option_copied c.args.expected) c.in-Err.fault h.1 c.in-Err.ensures.clash c.in-Err.ensures.untyped c.in-Err.ensures.unknown))
    (both_ok c.no_term.result _ _ c.no_term.ensures.none c.no_term.ensures.known)
