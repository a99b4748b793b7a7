-- How values are written.
use Rattle.std.specs.Prelude.{ℕ, Bool, true, false, List, [], ◌∷◌, ◌++◌, codes}
use Rattle.std.specs.Fmt.{decimal, signed_decimal}
use Rattle.event_values.specs.declared.value.Value.{Value}
use Rattle.event_values.specs.declared.value.Value.TheOpen.{Value-F, Int, Truth, Elem, Pair, Set}
use Rattle.event_values.specs.declared.value.Value.TheFolds.{fold-Value}

abbrev pub truth_text : Bool → List ℕ
truth_text true = codes "TRUE"
truth_text false = codes "FALSE"

-- the carrier set, # and the number of the element
abbrev pub element_text : List ℕ → ℕ → List ℕ
element_text set k = set ++ codes "#" ++ decimal k

-- what stands before a text: a comma behind another one
abbrev pub comma : Bool → List ℕ
comma true = codes ","
comma false = []

-- texts with commas between them, and before the first one where others stand before it
abbrev pub with_commas : Bool → List (List ℕ) → List ℕ
with_commas begun [] = []
with_commas begun (x ∷ xs) = comma begun ++ x ++ with_commas true xs

abbrev pub value_text_step : Value-F (List ℕ) → List ℕ
value_text_step (Int n) = signed_decimal n
value_text_step (Truth b) = truth_text b
value_text_step (Elem set k) = element_text set k
value_text_step (Pair left right) = codes "(" ++ left ++ codes "," ++ right ++ codes ")"
value_text_step (Set members) = codes "{" ++ with_commas false members ++ codes "}"

-- without blanks
abbrev pub value_text : Value → List ℕ
value_text = fold-Value (List ℕ) value_text_step
