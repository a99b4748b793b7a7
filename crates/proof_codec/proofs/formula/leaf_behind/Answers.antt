use Rattle.std.proofs.Common.{◌∷◌, sym, subst}
use Rattle.std.specs.Int.{w128}
use Rattle.std.proofs.lemmas.Int.{to_z-of_z}
use Rattle.formula_core.specs.declared.Formula.TheVariants.{Int}
use Rattle.proof_codec.specs.Private.{IsReadAs, IsFormulaWithin}
use Rattle.proof_codec.specs.Formulas.{formula_bytes}
use Rattle.proof_codec.proofs.Literals.{fits_of}
use Rattle.proof_codec.proofs.Formulae.{int_behind, free_behind, bound_behind}
use Rattle.proof_codec.proofs.formula.leaf_behind.Goals as goal

pub returns-in_ok-integer-in-0 : goal.returns-in_ok-integer-in-0
returns-in_ok-integer-in-0 c = λ depth some.
    let read = int_behind c.args.tag _ _ depth some c.in-0.is _ c.in_ok-integer-in-0.ensures in
    subst (λ n. IsReadAs (IsFormulaWithin depth) formula_bytes (c.args.tag ∷ c.args.from.now) (Int n) c.integer.new.self)
    (sym (to_z-of_z w128 c.in_ok-integer-in-0.field-0 (fits_of _ c.in_ok-integer-in-0.ensures.here.good))) read

pub returns-in_ok-name-in-1 : goal.returns-in_ok-name-in-1
returns-in_ok-name-in-1 c = λ depth some. free_behind c.args.tag _ _ depth some c.in-1.is _ _ c.in_ok-name-in-1.ensures

pub returns-in_ok-at-in-2 : goal.returns-in_ok-at-in-2
returns-in_ok-at-in-2 c = λ depth some. bound_behind c.args.tag _ _ depth some c.in-2.is _ _ c.in_ok-at-in-2.ensures
