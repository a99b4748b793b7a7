use Rattle.std.proofs.Common.{ap, sym, subst, ◌≡◌, IfOk}
use Rattle.type_formula.specs.TypeExpressions.{denoted}
use Rattle.type_formula.specs.Views.{bare_of}
use Rattle.type_formula.specs.PrivateViews.{scope_of}
use Rattle.type_formula.proofs.denote.+denote.Goals as goal

pub denote-returns-in-Identifier : goal.denote-returns-in-Identifier
denote-returns-in-Identifier t c =
    subst (λ b. IfOk c.denote_name.result (λ t. t ≡ denoted c.args.env.now (scope_of c.args.scope.now) b)) (sym (ap bare_of c.in-Identifier.is)) (c.denote_name.ensures c.in-Identifier.field-1)
