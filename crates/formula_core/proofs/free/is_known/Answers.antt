use Rattle.std.proofs.Common.{◌∙◌, sym, subst}
use Rattle.formula_core.specs.PrivatePlaces.{IsPlaceOf}
use Rattle.formula_core.proofs.Places.{none_known, known}
use Rattle.formula_core.proofs.free.is_known.Goals as goal

pub returns-in-None : goal.returns-in-None
returns-in-None c =
    sym (none_known c.args.identifiers.now c.args.name.now c.args.ty.now (subst (IsPlaceOf c.args.identifiers.now c.args.name.now) c.in-None.is c.requires))

pub returns-then-has_type_at : goal.returns-then-has_type_at
returns-then-has_type_at c =
    c.if-has_type_at.true
    ∙ sym (known c.args.identifiers.now c.in-Some.at c.args.name.now c.args.ty.now
    (subst (IsPlaceOf c.args.identifiers.now c.args.name.now) c.in-Some.is c.requires)
    (sym c.has_type_at.ensures ∙ c.if-has_type_at.true))
