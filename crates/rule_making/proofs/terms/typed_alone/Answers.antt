use Rattle.std.proofs.lemmas.Result.{IfOk-weaker}
use Rattle.type_formula.specs.Views.{bare_of}
use Rattle.rule_making.proofs.TermPlaces.{at_none, either}
use Rattle.rule_making.proofs.terms.typed_alone.Goals as goal

pub returns : goal.returns
returns c = IfOk-weaker c.typed_as-2.result _ _ (λ o h. either c.args.env.now (bare_of c.args.tree.now) o (at_none c.in_ok-f.field-0 _ _ c.in_default.is c.in_ok-f.ensures) h) c.typed_as-2.ensures
