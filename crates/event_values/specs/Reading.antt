-- How texts are read as values of a type.
use Rattle.std.specs.Prelude.{ℕ, suc, ℤ, pos, neg_ℤ, ◌+◌, ◌-◌, ◌*◌, ◌^◌, Bool, true, false, ◌&&◌, ◌||◌, ◌==◌, nat_lt, nat_le, List, [], ◌∷◌, length, take, drop, bytes_eq, codes, Option, Some, None, if◌then◌else◌}
use Rattle.std.specs.Option.{option_map, option_and_then}
use Rattle.std.specs.Str.{all_ascii_digits}
use Rattle.std.specs.Map.{lookup}
use Rattle.formula_core.specs.declared.ty.Ty.{Ty}
use Rattle.formula_core.specs.declared.ty.Ty.TheOpen.{Ty-F, Int as Integer, Bool as Boolean, Given, Pow, Pair as Product, Truth as Predicate}
use Rattle.formula_core.specs.declared.ty.Ty.TheFolds.{fold-Ty}
use Rattle.event_values.specs.declared.value.Value.{Value}
use Rattle.event_values.specs.declared.value.Value.TheVariants as value
use Rattle.event_values.specs.Order.{ascending, value_nodes}

-- NUMBERS

abbrev pub number_after : ℕ → List ℕ → ℕ
number_after n [] = n
number_after n (c ∷ cs) = number_after (10 * n + (c - 48)) cs

-- what digits write, at least one
abbrev pub text_digits : List ℕ → Option ℕ
text_digits [] = None
text_digits (c ∷ cs) = if all_ascii_digits (c ∷ cs) then Some (number_after 0 (c ∷ cs)) else None

abbrev pub number_below : ℕ → Option ℕ → Option ℕ
number_below bound None = None
number_below bound (Some n) = if nat_lt n bound then Some n else None

abbrev pub minus : ℕ
minus = 45

-- a decimal of 128 bits, with - before it or without
abbrev pub text_number : List ℕ → Option ℤ
text_number [] = None
text_number (c ∷ cs) =
    if c == minus then option_map (λ n. neg_ℤ (pos n)) (number_below (2 ^ 127 + 1) (text_digits cs))
    else option_map pos (number_below (2 ^ 127) (text_digits (c ∷ cs)))

-- PARTS OF TEXTS

-- what stands behind this front
abbrev pub text_behind : List ℕ → List ℕ → Option (List ℕ)
text_behind front text = if bytes_eq (take (length front) text) front then Some (drop (length front) text) else None

-- what stands before this end
abbrev pub text_before : List ℕ → List ℕ → Option (List ℕ)
text_before end text = if bytes_eq (drop (length text - length end) text) end then Some (take (length text - length end) text) else None

-- what stands between two brackets, the first and the last sign of the text
abbrev pub between_signs : List ℕ → List ℕ → List ℕ → Option (List ℕ)
between_signs open_sign close_sign text = option_and_then (text_before close_sign) (text_behind open_sign text)

-- ( and {
abbrev pub opens_bracket : ℕ → Bool
opens_bracket c = (c == 40) || (c == 123)

-- ) and }
abbrev pub closes_bracket : ℕ → Bool
closes_bracket c = (c == 41) || (c == 125)

-- in how many brackets the next sign stands
abbrev pub depth_after : ℕ → ℕ → ℕ
depth_after depth c = if opens_bracket c then suc depth else if closes_bracket c then depth - 1 else depth

-- a comma in no brackets
abbrev pub is_cut_at : ℕ → ℕ → Bool
is_cut_at depth c = (c == 44) && (depth == 0)

abbrev pub in_front : ℕ → List (List ℕ) → List (List ℕ)
in_front c [] = []
in_front c (p ∷ ps) = (c ∷ p) ∷ ps

-- a text cut at its commas in no brackets, from within so many brackets on
abbrev pub comma_pieces : ℕ → List ℕ → List (List ℕ)
comma_pieces depth [] = [] ∷ []
comma_pieces depth (c ∷ cs) = if is_cut_at depth c then [] ∷ comma_pieces 0 cs else in_front c (comma_pieces (depth_after depth c) cs)

-- the length of the first piece
abbrev pub piece_end : ℕ → List ℕ → ℕ
piece_end depth [] = 0
piece_end depth (c ∷ cs) = if is_cut_at depth c then 0 else suc (piece_end (depth_after depth c) cs)

-- VALUES

abbrev pub text_truth : List ℕ → Option Value
text_truth text = if bytes_eq text (codes "TRUE") then Some (value.Truth true) else
    if bytes_eq text (codes "FALSE") then Some (value.Truth false) else None

-- the number of an element, below the size of the carrier set, behind # and the name of the set
abbrev pub text_element_number : List ℕ → ℕ → List ℕ → Option ℕ
text_element_number set size text = option_and_then (λ digits. number_below size (text_digits digits)) (option_and_then (text_behind (codes "#")) (text_behind set text))

abbrev pub text_element : List (List ℕ × ℕ) → List ℕ → List ℕ → Option Value
text_element sizes set text =
    option_and_then (λ size. option_map (value.Elem set) (text_element_number set size text)) (lookup (bytes_eq set) sizes)

-- each text is one that is read
abbrev pub text_values : (List ℕ → Option Value) → List (List ℕ) → Option (List Value)
text_values read [] = Some []
text_values read (x ∷ xs) = option_and_then (λ v. option_map (λ vs. v ∷ vs) (text_values read xs)) (read x)

-- none, or members with commas between them
abbrev pub text_members : (List ℕ → Option Value) → List ℕ → Option (List Value)
text_members read [] = Some []
text_members read (c ∷ cs) = text_values read (comma_pieces 0 (c ∷ cs))

-- members in any order, as a set
abbrev pub text_set : (List ℕ → Option Value) → List ℕ → Option Value
text_set read text = option_map (λ vs. value.Set (ascending vs)) (text_members read text)

-- two values with a comma between them
abbrev pub text_pair : (List ℕ → Option Value) → (List ℕ → Option Value) → List ℕ → Option Value
text_pair left right text =
    if nat_lt (piece_end 0 text) (length text)
    then option_and_then (λ v. option_map (value.Pair v) (right (drop (piece_end 0 text + 1) text))) (left (take (piece_end 0 text) text))
    else None

abbrev pub text_value_step : List (List ℕ × ℕ) → Ty-F (List ℕ → Option Value) → List ℕ → Option Value
text_value_step sizes Integer text = option_map value.Int (text_number text)
text_value_step sizes Boolean text = text_truth text
text_value_step sizes (Given set) text = text_element sizes set text
text_value_step sizes (Pow member) text = option_and_then (text_set member) (between_signs (codes "{") (codes "}") text)
text_value_step sizes (Product left right) text = option_and_then (text_pair left right) (between_signs (codes "(") (codes ")") text)
text_value_step sizes Predicate text = text_truth text

-- the value of the type that the text writes, where carrier sets have these sizes
abbrev pub text_value : List (List ℕ × ℕ) → Ty → List ℕ → Option Value
text_value sizes = fold-Ty (List ℕ → Option Value) (text_value_step sizes)

-- the most nodes of a value
abbrev pub most_nodes : ℕ
most_nodes = 65536

abbrev pub unless_large : Option Value → Option Value
unless_large None = None
unless_large (Some v) = if nat_le (value_nodes v) most_nodes then Some v else None

-- the same, of a value that isn't too large
abbrev pub read_as : List (List ℕ × ℕ) → Ty → List ℕ → Option Value
read_as sizes ty text = unless_large (text_value sizes ty text)
