use Rattle.math_print.proofs.OtherPlaces.{typed_again, formula_again}
use Rattle.math_print.proofs.laws.typed_at_other_places.Goals as goal

pub returns : goal.returns
returns c = record { typings = typed_again; the_formula = formula_again }
