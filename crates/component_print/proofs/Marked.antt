-- The tokens of the printed text of a component, with every place 0.
use Rattle.std.proofs.Common.{◌≡◌, ◌∙◌, ap, ℕ, List, [], ◌∷◌, ◌++◌, Bool, true, false, map, refl}
use Rattle.std.specs.Prelude.{Option, Some, None, codes}
use Rattle.std.specs.Option.{option_to_list}
use Rattle.formula_core.specs.declared.raw.Ref.{Ref}
use Rattle.math_grammar.specs.declared.symbols.Symbol.TheVariants as symbol
use Rattle.math_grammar.specs.Tokens.{Item}
use Rattle.math_grammar.specs.Grammar.{item}
use Rattle.model_core.specs.declared.component.Convergence.{Convergence}
use Rattle.model_core.specs.declared.component.Convergence.TheVariants.{Ordinary, Convergent, Anticipated}
use Rattle.model_core.specs.declared.component.RawLabelled.{RawLabelled}
use Rattle.model_core.specs.declared.component.RawVariant.{RawVariant}
use Rattle.model_core.specs.declared.component.RawStep.{RawStep}
use Rattle.model_core.specs.declared.component.RawEvent.{RawEvent}
use Rattle.model_core.specs.declared.component.RawComponent.{RawComponent}
use Rattle.model_core.specs.declared.component.RawComponent.TheVariants.{Context, Machine}
use Rattle.component_text.specs.Marks.{Mark, word, label, plain}
use Rattle.math_places.specs.Places.{unplaced_item}
use Rattle.raw_print.specs.Printing.{raw_tokens, action_tokens}

abbrev pub name_mark : Ref → Mark
name_mark r = plain (item symbol.Word 0 r.name)

abbrev pub names_marks : List ℕ → List Ref → List Mark
names_marks w [] = []
names_marks w (r ∷ rs) = word w 0 ∷ map name_mark (r ∷ rs)

abbrev pub theorem_marks : Bool → List Mark
theorem_marks true = word (codes "theorem") 0 ∷ []
theorem_marks false = []

abbrev pub labelled_marks : RawLabelled → List Mark
labelled_marks l = label l.label 0 ∷ map plain (raw_tokens l.formula)

abbrev pub line_marks : RawLabelled → List Mark
line_marks l = theorem_marks l.theorem ++ labelled_marks l

abbrev pub lines_marks : List RawLabelled → List Mark
lines_marks [] = []
lines_marks (l ∷ ls) = line_marks l ++ lines_marks ls

abbrev pub section_marks : List ℕ → List RawLabelled → List Mark
section_marks w [] = []
section_marks w (l ∷ ls) = word w 0 ∷ lines_marks (l ∷ ls)

abbrev pub step_marks : RawStep → List Mark
step_marks s = label s.label 0 ∷ map plain (action_tokens s.action)

abbrev pub step_lines_marks : List RawStep → List Mark
step_lines_marks [] = []
step_lines_marks (s ∷ ss) = step_marks s ++ step_lines_marks ss

abbrev pub steps_marks : List RawStep → List Mark
steps_marks [] = []
steps_marks (s ∷ ss) = word (codes "then") 0 ∷ step_lines_marks (s ∷ ss)

abbrev pub convergence_marks : Convergence → List Mark
convergence_marks Ordinary = []
convergence_marks Convergent = word (codes "convergent") 0 ∷ []
convergence_marks Anticipated = word (codes "anticipated") 0 ∷ []

abbrev pub abstract_word : Bool → List ℕ
abstract_word true = codes "extends"
abstract_word false = codes "refines"

abbrev pub end_marks : List Mark
end_marks = word (codes "end") 0 ∷ []

abbrev pub event_body_marks : RawEvent → List Mark
event_body_marks e =
    word (codes "event") 0 ∷ (name_mark e.name
    ∷ (names_marks (abstract_word e.extended) e.refines ++ (names_marks (codes "any") e.params
    ++ (section_marks (codes "where") e.guards ++ (section_marks (codes "with") e.witnesses ++ (steps_marks e.actions ++ end_marks))))))

abbrev pub event_marks : RawEvent → List Mark
event_marks e = convergence_marks e.convergence ++ event_body_marks e

abbrev pub event_list_marks : List RawEvent → List Mark
event_list_marks [] = []
event_list_marks (e ∷ es) = event_marks e ++ event_list_marks es

abbrev pub events_marks : List RawEvent → List Mark
events_marks [] = []
events_marks (e ∷ es) = word (codes "events") 0 ∷ event_list_marks (e ∷ es)

abbrev pub variant_marks : Option RawVariant → List Mark
variant_marks None = []
variant_marks (Some v) = word (codes "variant") 0 ∷ map plain (raw_tokens v.formula)

abbrev pub component_marks : RawComponent → List Mark
component_marks (Context name extends sets constants axioms) =
    word (codes "context") 0 ∷ (name_mark name
    ∷ (names_marks (codes "extends") extends ++ (names_marks (codes "sets") sets ++ (names_marks (codes "constants") constants ++ (section_marks (codes "axioms") axioms ++ end_marks)))))
component_marks (Machine name refines sees variables invariants variant events) =
    word (codes "machine") 0 ∷ (name_mark name
    ∷ (names_marks (codes "refines") (option_to_list refines) ++ (names_marks (codes "sees") sees ++ (names_marks (codes "variables") variables
    ++ (section_marks (codes "invariants") invariants ++ (variant_marks variant ++ (events_marks events ++ end_marks)))))))

abbrev pub unplaced_mark : Mark → Mark
unplaced_mark (word w p) = word w 0
unplaced_mark (label l p) = label l 0
unplaced_mark (plain x) = plain (unplaced_item x)

-- what the tokens at their places are
pub split_one : (s : List Mark) (m : Mark) (ms : List Mark) → map unplaced_mark s ≡ m ∷ ms → (x : Mark) × (xs : List Mark) × (s ≡ x ∷ xs) × (unplaced_mark x ≡ m) × (map unplaced_mark xs ≡ ms)
split_one [] m ms e = cc
split_one (x ∷ xs) m ms e = (x, xs, refl, cc, cc)

pub split_both : (s a b : List Mark) → map unplaced_mark s ≡ a ++ b → (front : List Mark) × (back : List Mark) × (s ≡ front ++ back) × (map unplaced_mark front ≡ a) × (map unplaced_mark back ≡ b)
split_both s [] b e = ([], s, refl, refl, e)
split_both s (m ∷ a) b e =
    let one = split_one s m (a ++ b) e in
    let more = split_both one.1 a b one.4 in
    (one.0 ∷ more.0, more.1, one.2 ∙ ap (λ t. one.0 ∷ t) more.2, (λ i. one.3 i ∷ more.3 i), more.4)

pub none_left : (s : List Mark) → map unplaced_mark s ≡ [] → s ≡ []
none_left [] e = refl
none_left (x ∷ s) e = cc

pub word_placed : (x : Mark) (w : List ℕ) → unplaced_mark x ≡ word w 0 → (p : ℕ) × (x ≡ word w p)
word_placed (word v p) w e = let same : v ≡ w = cc in (p, ap (λ u. word u p) same)
word_placed (label l p) w e = cc
word_placed (plain y) w e = cc

pub label_placed : (x : Mark) (l : List ℕ) → unplaced_mark x ≡ label l 0 → (p : ℕ) × (x ≡ label l p)
label_placed (label v p) l e = let same : v ≡ l = cc in (p, ap (λ u. label u p) same)
label_placed (word v p) l e = cc
label_placed (plain y) l e = cc

pub plain_placed : (x : Mark) (y : Item) → unplaced_mark x ≡ plain y → (z : Item) × (x ≡ plain z) × (unplaced_item z ≡ y)
plain_placed (plain z) y e = (z, refl, cc)
plain_placed (word v p) y e = cc
plain_placed (label v p) y e = cc

pub items_placed : (s : List Mark) (ys : List Item) → map unplaced_mark s ≡ map plain ys → (zs : List Item) × (s ≡ map plain zs) × (map unplaced_item zs ≡ ys)
items_placed [] [] e = ([], refl, refl)
items_placed [] (y ∷ ys) e = cc
items_placed (x ∷ s) [] e = cc
items_placed (x ∷ s) (y ∷ ys) e =
    let head : unplaced_mark x ≡ plain y = cc in
    let tail : map unplaced_mark s ≡ map plain ys = cc in
    let one = plain_placed x y head in
    let more = items_placed s ys tail in
    (one.0 ∷ more.0, (λ i. one.1 i ∷ more.1 i), (λ i. one.2 i ∷ more.2 i))
