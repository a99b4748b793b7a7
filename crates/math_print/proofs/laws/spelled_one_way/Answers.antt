use Rattle.std.proofs.Common.{None}
use Rattle.formula_parse.proofs.Place.{one_tree}
use Rattle.formula_print.specs.Written.{raw_of}
use Rattle.math_print.specs.Grades.{items_of_formula, place_for}
use Rattle.math_print.proofs.Back.{spelled}
use Rattle.math_print.proofs.laws.spelled_one_way.Goals as goal

pub returns : goal.returns
returns c f t well names counted other = one_tree None (place_for f) (items_of_formula f) t (raw_of f) other (spelled f well names counted)
