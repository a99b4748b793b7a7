use Rattle.std.proofs.Common.{ap}
use Rattle.std.specs.Option.{option_copied}
use Rattle.std.proofs.lemmas.Result.{IfOk-weaker}
use Rattle.type_formula.specs.Views.{bare_of}
use Rattle.rule_making.proofs.TermPlaces.{as_term, alone_term}
use Rattle.rule_making.proofs.terms.typed_term.Goals as goal

pub returns-in-Some : goal.returns-in-Some
returns-in-Some c = IfOk-weaker c.typed_as.result _ _ (λ o h. as_term c.args.env.now (option_copied c.args.expected) c.in-Some.ty.now c.args.raw.now (bare_of c.in_ok-tree.tree) o c.in_ok-tree.ensures (ap option_copied c.in-Some.is) h) c.typed_as.ensures

pub returns : goal.returns
returns c = IfOk-weaker c.typed_alone.result _ _ (λ o h. alone_term c.args.env.now (option_copied c.args.expected) c.args.raw.now (bare_of c.in_ok-tree.tree) o c.in_ok-tree.ensures (ap option_copied c.in-None.is) h) c.typed_alone.ensures
