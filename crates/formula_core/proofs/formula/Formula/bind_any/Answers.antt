use Rattle.std.proofs.Common.{◌∙◌, ap, refl, [], ◌∷◌, ◌++◌, length}
use Rattle.formula_core.specs.Shifting.{abstracted}
use Rattle.formula_core.proofs.formula.Formula.bind_any.Goals as goal

pub returns : goal.returns
returns c =
    let made = abstracted c.args.identifiers.now 0 c.args.self.now in
    c.only_of.ensures made (c.in_ok-bind_onto.ensures 0 refl ∙ ap (λ before. before ++ made ∷ []) c.new-out.ensures.items)

pub only_of-requires : goal.only_of-requires
only_of-requires c =
    let made = abstracted c.args.identifiers.now 0 c.args.self.now in
    ap length (c.in_ok-bind_onto.ensures 0 refl ∙ ap (λ before. before ++ made ∷ []) c.new-out.ensures.items)
