-- The counts are those of the bytes.
use Rattle.std.proofs.Common.{◌≡◌, ◌∙◌, sym, ap, subst, refl, ℕ, ℤ, ◌+◌, ◌*◌, ◌%◌, ◌/◌, ◌^◌, Option, Some, None, List, [], ◌∷◌, ◌++◌, length, length-append, map, sum, arith}
use Rattle.std.specs.Int.{w128, cast_unsigned}
use Rattle.std.specs.List.{flat_map}
use Rattle.std.proofs.lemmas.List.Concat.{flat_map-cons}
use Rattle.std.proofs.lemmas.List.Sums.{sum_by-cons}
use Rattle.formula_core.specs.Formulas.{joined}
use Rattle.formula_core.specs.declared.Ty.{Ty, roll-Ty}
use Rattle.formula_core.specs.declared.Ty.TheOpen.{Ty-F, Int as IntT, Bool as BoolT, Given, Pow, Pair, Truth}
use Rattle.formula_core.specs.declared.Ty.TheFolds.{map-Ty, fold-roll-Ty, ind-Ty}
use Rattle.formula_core.specs.declared.Formula.{Formula, roll-Formula}
use Rattle.formula_core.specs.declared.Formula.TheOpen.{Formula-F, Int, Free, Bound, Node as Operation, Bind}
use Rattle.formula_core.specs.declared.Formula.TheFolds.{map-Formula, fold-roll-Formula, ind-Formula}
use Rattle.rule_table.specs.declared.kind.RuleKind.{RuleKind}
use Rattle.rule_table.specs.declared.kind.RuleKind.TheVariants as kind
use Rattle.rule_table.specs.declared.rule.Antecedent.{Antecedent}
use Rattle.rule_table.specs.declared.rule.Rule.{Rule}
use Rattle.sequent_core.specs.declared.tree.Tree.{Tree, roll-Tree}
use Rattle.sequent_core.specs.declared.tree.Tree.TheOpen.{Tree-F, Leaf, Node}
use Rattle.sequent_core.specs.declared.tree.Tree.TheFolds.{map-Tree, fold-roll-Tree, ind-Tree}
use Rattle.proof_codec.specs.Numbers.{byte, number_bytes, wide, integer, text_bytes}
use Rattle.proof_codec.specs.Parts.{pair_bytes, option_bytes, list_bytes}
use Rattle.proof_codec.specs.Types.{type_bytes_step, type_bytes}
use Rattle.proof_codec.specs.Formulas.{parts_bytes, formula_bytes_step, formula_bytes}
use Rattle.proof_codec.specs.Rules.{kind_bytes, identifier_bytes, antecedent_bytes, rule_bytes}
use Rattle.proof_codec.specs.ProofTrees.{tree_bytes_step, tree_bytes}
use Rattle.event_weights.specs.Private.{type_size_step, type_size, formula_size_step, formula_size, identifier_size, goal_size, antecedent_size, kind_size, rule_size, tree_size_step, tree_size}

-- NUMBERS, TEXTS AND LISTS

sum-cons : (n : ℕ) (ns : List ℕ) → sum (n ∷ ns) ≡ n + sum ns
sum-cons n ns = sum_by-cons (λ k. k) n ns

number_length : (n : ℕ) → length (number_bytes n) ≡ 4
number_length n = refl

wide_length : (n : ℕ) → length (wide n) ≡ 8
wide_length n = refl

integer_length : (z : ℤ) → length (integer z) ≡ 16
integer_length z = let n = cast_unsigned w128 z in omega (arith, length-append (wide (n % 2 ^ 64)) (wide (n / 2 ^ 64)), wide_length (n % 2 ^ 64), wide_length (n / 2 ^ 64))

text_length : (text : List ℕ) → length (text_bytes text) ≡ length text + 4
text_length text = omega (arith, length-append (number_bytes (length text)) text, number_length (length text))

module _ {A : Type 0} (f : A → List ℕ) where
  items_length : (size : A → ℕ) → ((x : A) → length (f x) ≡ size x) → (xs : List A) → length (flat_map f xs) ≡ sum (map size xs)
  items_length size each [] = refl
  items_length size each (x ∷ xs) = omega (arith, ap length (flat_map-cons f x xs), length-append (f x) (flat_map f xs), each x, items_length size each xs, sum-cons (size x) (map size xs))

  list_length : (size : A → ℕ) → ((x : A) → length (f x) ≡ size x) → (xs : List A) → length (list_bytes f xs) ≡ sum (map size xs) + 4
  list_length size each xs = omega (arith, length-append (number_bytes (length xs)) (flat_map f xs), number_length (length xs), items_length size each xs)

fours : (xs : List ℕ) → sum (map (λ n. 4) xs) ≡ 4 * length xs
fours [] = omega arith
fours (x ∷ xs) = omega (arith, sum-cons 4 (map (λ n. 4) xs), fours xs)

sixteens : (xs : List ℤ) → sum (map (λ z. 16) xs) ≡ 16 * length xs
sixteens [] = omega arith
sixteens (x ∷ xs) = omega (arith, sum-cons 16 (map (λ z. 16) xs), sixteens xs)

-- TYPES

abbrev SizedType : Type 0
SizedType = (t : Ty) × (length (type_bytes t) ≡ type_size t)

type_step : (y : Ty-F SizedType) → length (type_bytes_step (map-Ty Ty (List ℕ) type_bytes (map-Ty SizedType Ty (λ e. e.0) y))) ≡ type_size_step (map-Ty Ty ℕ type_size (map-Ty SizedType Ty (λ e. e.0) y))
type_step IntT = refl
type_step BoolT = refl
type_step (Given name) = omega (arith, text_length name)
type_step (Pow e) = omega (arith, e.1)
type_step (Pair e f) = omega (arith, e.1, f.1, length-append (type_bytes e.0) (type_bytes f.0))
type_step Truth = refl

type_length : (t : Ty) → length (type_bytes t) ≡ type_size t
type_length = ind-Ty (λ t. length (type_bytes t) ≡ type_size t) (λ x y is.
    let Q : Ty-F Ty → Type 0 = λ z. length (type_bytes (roll-Ty z)) ≡ type_size (roll-Ty z) in
    let z : Ty-F Ty = map-Ty SizedType Ty (λ e. e.0) y in
    subst Q is (ap length (fold-roll-Ty (List ℕ) type_bytes_step z) ∙ type_step y ∙ sym (fold-roll-Ty ℕ type_size_step z)))

-- FORMULAS

abbrev Sized : Type 0
Sized = (f : Formula) × (length (formula_bytes f) ≡ formula_size f)

each_part : (es : List Sized) → length (joined (map formula_bytes (map (λ e. e.0) es))) ≡ sum (map formula_size (map (λ e. e.0) es))
each_part [] = refl
each_part (e ∷ es) =
    let fs : List Formula = map (λ e. e.0) es in
    omega (arith, e.1, each_part es, length-append (formula_bytes e.0) (joined (map formula_bytes fs)), sum-cons (formula_size e.0) (map formula_size fs))

parts_length : (es : List Sized) → length (parts_bytes (map formula_bytes (map (λ e. e.0) es))) ≡ sum (map formula_size (map (λ e. e.0) es)) + 4
parts_length es =
    let ps : List (List ℕ) = map formula_bytes (map (λ e. e.0) es) in
    omega (arith, each_part es, length-append (number_bytes (length ps)) (joined ps), number_length (length ps))

formula_step : (y : Formula-F Sized) → length (formula_bytes_step (map-Formula Formula (List ℕ) formula_bytes (map-Formula Sized Formula (λ e. e.0) y)))
    ≡ formula_size_step (map-Formula Formula ℕ formula_size (map-Formula Sized Formula (λ e. e.0) y))
formula_step (Int n) = omega (arith, integer_length n)
formula_step (Free name ty) = omega (arith, length-append (text_bytes name) (type_bytes ty), text_length name, type_length ty)
formula_step (Bound at ty) = omega (arith, length-append (number_bytes at) (type_bytes ty), number_length at, type_length ty)
formula_step (Operation op es ty) =
    let ps : List ℕ = parts_bytes (map formula_bytes (map (λ e. e.0) es)) in
    omega (arith, length-append ps (type_bytes ty), parts_length es, type_length ty)
formula_step (Bind binder types es ty) =
    let ps : List ℕ = parts_bytes (map formula_bytes (map (λ e. e.0) es)) in
    omega (arith, length-append (list_bytes type_bytes types) (ps ++ type_bytes ty), length-append ps (type_bytes ty), list_length type_bytes type_size type_length types, parts_length es, type_length ty)

formula_length : (f : Formula) → length (formula_bytes f) ≡ formula_size f
formula_length = ind-Formula (λ f. length (formula_bytes f) ≡ formula_size f) (λ x y is.
    let Q : Formula-F Formula → Type 0 = λ z. length (formula_bytes (roll-Formula z)) ≡ formula_size (roll-Formula z) in
    let z : Formula-F Formula = map-Formula Sized Formula (λ e. e.0) y in
    subst Q is (ap length (fold-roll-Formula (List ℕ) formula_bytes_step z) ∙ formula_step y ∙ sym (fold-roll-Formula ℕ formula_size_step z)))

-- RULES

identifier_length : (x : List ℕ × Ty) → length (identifier_bytes x) ≡ identifier_size x
identifier_length x = omega (arith, length-append (text_bytes x.0) (type_bytes x.1), text_length x.0, type_length x.1)

goal_length : (goal : Option Formula) → length (option_bytes formula_bytes goal) ≡ goal_size goal
goal_length None = refl
goal_length (Some goal) = omega (arith, formula_length goal)

formulas_length : (fs : List Formula) → length (list_bytes formula_bytes fs) ≡ sum (map formula_size fs) + 4
formulas_length = list_length formula_bytes formula_size formula_length

identifiers_length : (xs : List (List ℕ × Ty)) → length (list_bytes identifier_bytes xs) ≡ sum (map identifier_size xs) + 4
identifiers_length = list_length identifier_bytes identifier_size identifier_length

antecedent_length : (a : Antecedent) → length (antecedent_bytes a) ≡ antecedent_size a
antecedent_length a =
    let idents : List ℕ = list_bytes identifier_bytes a.idents in
    let hyps : List ℕ = list_bytes formula_bytes a.hyps in
    let goal : List ℕ = option_bytes formula_bytes a.goal in
    omega (arith, length-append idents (hyps ++ goal), length-append hyps goal, identifiers_length a.idents, formulas_length a.hyps, goal_length a.goal)

place_length : (place : List ℕ) → length (list_bytes number_bytes place) ≡ 4 * length place + 4
place_length place = omega (arith, list_length number_bytes (λ n. 4) number_length place, fours place)

rewriting_length : (law : ℕ) (place : List ℕ) → length (pair_bytes byte (list_bytes number_bytes) (law, place)) ≡ 4 * length place + 5
rewriting_length law place = omega (arith, length-append (byte law) (list_bytes number_bytes place), place_length place)

multipliers_length : (ms : List ℤ) → length (list_bytes integer ms) ≡ 16 * length ms + 4
multipliers_length ms = omega (arith, list_length integer (λ z. 16) integer_length ms, sixteens ms)

kind_length : (k : RuleKind) → length (kind_bytes k) ≡ kind_size k
kind_length (kind.AllL terms) = omega (arith, formulas_length terms)
kind_length (kind.ExR terms) = omega (arith, formulas_length terms)
kind_length (kind.RwGoal law place) = omega (arith, rewriting_length law place)
kind_length (kind.RwHyp law place) = omega (arith, rewriting_length law place)
kind_length (kind.Linear multipliers) = omega (arith, multipliers_length multipliers)
kind_length kind.Hyp = refl
kind_length _ = refl

rule_length : (r : Rule) → length (rule_bytes r) ≡ rule_size r
rule_length r =
    let k : List ℕ = kind_bytes r.kind in
    let goal : List ℕ = option_bytes formula_bytes r.needed_goal in
    let hyps : List ℕ = list_bytes formula_bytes r.needed_hyps in
    let used : List ℕ = list_bytes identifier_bytes r.used in
    let ants : List ℕ = list_bytes antecedent_bytes r.antecedents in
    omega (
      arith,
      length-append k (goal ++ (hyps ++ (used ++ ants))),
      length-append goal (hyps ++ (used ++ ants)),
      length-append hyps (used ++ ants),
      length-append used ants,
      kind_length r.kind,
      goal_length r.needed_goal,
      formulas_length r.needed_hyps,
      identifiers_length r.used,
      list_length antecedent_bytes antecedent_size antecedent_length r.antecedents,
    )

-- TREES

abbrev SizedTree : Type 0
SizedTree = (t : Tree) × (length (tree_bytes t) ≡ tree_size t)

each_child : (es : List SizedTree) → length (joined (map tree_bytes (map (λ e. e.0) es))) ≡ sum (map tree_size (map (λ e. e.0) es))
each_child [] = refl
each_child (e ∷ es) =
    let ts : List Tree = map (λ e. e.0) es in
    omega (arith, e.1, each_child es, length-append (tree_bytes e.0) (joined (map tree_bytes ts)), sum-cons (tree_size e.0) (map tree_size ts))

tree_step : (y : Tree-F SizedTree) → length (tree_bytes_step (map-Tree Tree (List ℕ) tree_bytes (map-Tree SizedTree Tree (λ e. e.0) y))) ≡ tree_size_step (map-Tree Tree ℕ tree_size (map-Tree SizedTree Tree (λ e. e.0) y))
tree_step Leaf = refl
tree_step (Node r es) =
    let cs : List (List ℕ) = map tree_bytes (map (λ e. e.0) es) in
    omega (arith, length-append (rule_bytes r) (number_bytes (length cs) ++ joined cs), length-append (number_bytes (length cs)) (joined cs), number_length (length cs), rule_length r, each_child es)

pub tree_length : (t : Tree) → length (tree_bytes t) ≡ tree_size t
tree_length = ind-Tree (λ t. length (tree_bytes t) ≡ tree_size t) (λ x y is.
    let Q : Tree-F Tree → Type 0 = λ z. length (tree_bytes (roll-Tree z)) ≡ tree_size (roll-Tree z) in
    let z : Tree-F Tree = map-Tree SizedTree Tree (λ e. e.0) y in
    subst Q is (ap length (fold-roll-Tree (List ℕ) tree_bytes_step z) ∙ tree_step y ∙ sym (fold-roll-Tree ℕ tree_size_step z)))
