-- The items of a step, as they are written.
use Rattle.std.specs.Prelude.{ℕ, ◌==◌, ◌&&◌, List, [], ◌∷◌, Option, Some, None, bytes_eq, codes, if◌then◌else◌}
use Rattle.std.specs.Option.{option_map, option_and_then}
use Rattle.formula_core.specs.Names.{is_name}
use Rattle.session_lines.specs.Words.{after_blanks, first_word, behind_word}
use Rattle.session_lines.specs.Commands.{only_word}
use Rattle.step_items.specs.declared.item.Item.{Item}
use Rattle.step_items.specs.declared.item.Item.TheVariants.{Hyp, Multiplied, Fresh, Expression, Predicate, Law}
use Rattle.step_items.specs.Numbers.{number_at_most, multiplier_of}
use Rattle.step_items.specs.Paths.{onto_first, all_of, path_of}

-- what follows the first word, from the next one on
abbrev pub behind_first : List ℕ → List ℕ
behind_first words = after_blanks (behind_word words)

-- a hypothesis, and its multiplier where a word follows
abbrev pub multiplied : ℕ → List ℕ → Option Item
multiplied number [] = Some (Hyp number)
multiplied number (c ∷ rest) = option_map (Multiplied number) (option_and_then multiplier_of (only_word (c ∷ rest)))

-- `h N` or `h N K`
abbrev pub hyp_item : List ℕ → Option Item
hyp_item words = option_and_then (λ number. multiplied number (behind_first words)) (number_at_most 4294967295 (first_word words))

-- the word, where it is a name
abbrev pub name_of : List ℕ → Option (List ℕ)
name_of word = if is_name word then Some word else None

-- `n NAME`
abbrev pub name_item : List ℕ → Option Item
name_item words = option_map Fresh (option_and_then name_of (only_word words))

-- `w LAW PLACE`
abbrev pub law_item : List ℕ → Option Item
law_item words =
    option_and_then (λ law. option_map (Law law) (option_and_then path_of (only_word (behind_first words)))) (number_at_most 255 (first_word words))

-- an item by its letter and what follows it
abbrev pub lettered : List ℕ → List ℕ → Option Item
lettered letter rest =
    if bytes_eq letter (codes "h") then hyp_item rest
    else (if bytes_eq letter (codes "n") then name_item rest
    else (if bytes_eq letter (codes "e") then Some (Expression rest)
    else (if bytes_eq letter (codes "p") then Some (Predicate rest)
    else (if bytes_eq letter (codes "w") then law_item rest
    else None))))

-- the item that the bytes are
abbrev pub item_in : List ℕ → Option Item
item_in bytes = lettered (first_word (after_blanks bytes)) (behind_first (after_blanks bytes))

-- the parts between double semicolons, from the left
abbrev pub between_marks : List ℕ → List (List ℕ)
between_marks [] = [] ∷ []
between_marks (c ∷ []) = (c ∷ []) ∷ []
between_marks (c ∷ d ∷ rest) = if c == 59 && d == 59 then [] ∷ between_marks rest else onto_first c (between_marks (d ∷ rest))

-- the items of a step as they are written, of which there may be none
abbrev pub written_items : List ℕ → Option (List Item)
written_items [] = Some []
written_items (c ∷ bytes) = all_of item_in (between_marks (c ∷ bytes))
