-- What laws of one shape share.
use Rattle.std.specs.Prelude.{[], ◌∷◌, Option, Some}
use Rattle.formula_core.specs.declared.Op.{Op}
use Rattle.formula_core.specs.declared.Op.TheVariants as op
use Rattle.formula_core.specs.declared.Binder.{Binder}
use Rattle.formula_core.specs.declared.Formula.{Formula}
use Rattle.well_defined.specs.Predicates.{conjunction, member, quantified}
use Rattle.rule_table.specs.Shapes.{on_two, under_two, of_set, binary}
use Rattle.rule_table.specs.SetLaws.{in_one, in_two, in_arrow, is_in, totality, is_onto, goes_back, below, below_all, new}

-- E ∈ S, where S is this operator on T and U: E ∈ T and E ∈ U, connected
abbrev pub in_both : Op → Op → Formula → Option Formula
in_both o connective h = in_two o h (λ e s t. Some (binary connective (member e s) (member e t)))

-- E ∈ S, where S is this operator on U: a quantifier over s, with s ∈ U and E ∈ s connected
abbrev pub over_members : Op → Binder → Op → Formula → Option Formula
over_members o quantifier connective h = in_one o h (λ e u. of_set u (λ σ. Some (quantified quantifier (σ ∷ [])
    (binary connective (member (new σ) (below u)) (member (below e) (new σ))))))

-- E ∈ S, where S is this binder over P and F: a quantifier over its identifiers, with P and `E r F` connected
abbrev pub over_bound : Binder → Binder → Op → Op → Formula → Option Formula
over_bound binder quantifier connective r h =
    on_two op.Member h (λ e set. under_two binder set (λ types p f. Some (quantified quantifier types
    (binary connective p (binary r (below_all types e) f)))))

-- r ∈ S a T: r ∈ S b T, and dom(r) = S, or ran(r) = T, or r∼ ∈ T ⇸ S
abbrev pub in_and_total : Op → Op → Formula → Option Formula
in_and_total a b h = in_arrow a h (λ r s t α β. conjunction (is_in b r s t α β) (totality r s α))

abbrev pub in_and_onto : Op → Op → Formula → Option Formula
in_and_onto a b h = in_arrow a h (λ r s t α β. conjunction (is_in b r s t α β) (is_onto r t β))

abbrev pub in_and_back : Op → Op → Formula → Option Formula
in_and_back a b h = in_arrow a h (λ r s t α β. conjunction (is_in b r s t α β) (goes_back r s t α β))
