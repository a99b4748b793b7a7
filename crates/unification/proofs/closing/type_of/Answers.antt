use Rattle.std.proofs.Common.{◌∙◌, sym, None}
use Rattle.unification.proofs.KnownTypes.{type_at-get, type_at-past}
use Rattle.unification.proofs.closing.type_of.Goals as goal

pub returns-in-Some : goal.returns-in-Some
returns-in-Some c =
    let inside = c.in-Some.ensures.lookup.3 in
    c.as_ref.ensures.value ∙ inside.1 None ∙ sym (type_at-get _ _ inside.0)

pub returns-in-None : goal.returns-in-None
returns-in-None c = sym (type_at-past _ _ c.in-None.ensures.lookup.3)
