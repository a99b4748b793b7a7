-- What the rows of one event share: its environment, its hypotheses, and the values of the variables after it.
use Rattle.std.specs.Prelude.{ℕ, Bool, not, ◌&&◌, ◌==◌, if◌then◌else◌, List, [], ◌∷◌, ◌++◌, map, codes, bytes_eq}
use Rattle.std.specs.Option.{option_to_list}
use Rattle.std.specs.List.{filter}
use Rattle.formula_core.specs.declared.ty.Ty.{Ty}
use Rattle.formula_core.specs.declared.formula.Formula.{Formula}
use Rattle.formula_core.specs.declared.formula.Formula.TheVariants as formula
use Rattle.formula_core.specs.declared.raw.Action.{Action}
use Rattle.formula_core.specs.declared.raw.Action.TheVariants.{Assign, ChooseIn, ChooseSuch}
use Rattle.formula_core.specs.Names.{with_prime}
use Rattle.formula_core.specs.Formulas.{substituted}
use Rattle.formula_core.specs.Types.{members}
use Rattle.formula_core.specs.Wellness.{type_of}
use Rattle.well_defined.specs.Predicates.{member}
use Rattle.model_core.specs.declared.checked.Labelled.{Labelled}
use Rattle.model_core.specs.declared.checked.CheckedMachine.{CheckedMachine}
use Rattle.model_core.specs.declared.checked.CheckedEvent.{CheckedEvent}
use Rattle.model_core.specs.Each.{for_each, is_among}
use Rattle.model_core.specs.Refined.{params_left_out}

-- `path` is the front of the names. `choices` are the before-after predicates of the nondeterministic actions. In `witnesses` each primed variable is
-- replaced by its value after the event. `after` has the new value of each variable that is changed, own or lost.
pub record EventParts : Type 0 where
  pub path : List ℕ
  pub env : List (List ℕ × Ty)
  pub base : List Formula
  pub choices : List Formula
  pub witnesses : List (List ℕ × Formula)
  pub after : List (List ℕ × Formula)

abbrev pub path_with : List ℕ → List ℕ → List ℕ
path_with path word = path ++ 47 ∷ word

abbrev pub formulas : List Labelled → List Formula
formulas labelled = map (λ l. l.formula) labelled

abbrev pub initialises : CheckedEvent → Bool
initialises e = bytes_eq e.name (codes "INITIALISATION")

-- It inherits guards or actions. One that extends an event without these is in no row different from one that refines it.
abbrev pub is_extended : CheckedEvent → Bool
is_extended e = not (e.own_guards_from == 0 && e.own_actions_from == 0)

abbrev pub actions_of : CheckedEvent → List Action
actions_of e = map (λ a. a.1) e.actions

-- the actions of the abstract event, of the first one where there are several; a new event has none
abbrev pub actions_of_first : List CheckedEvent → List Action
actions_of_first [] = []
actions_of_first (r ∷ refined) = actions_of r

-- the targets whose new values an action does not give, with their types
abbrev pub open_targets : Action → List (List ℕ × Ty)
open_targets (Assign pairs) = []
open_targets (ChooseIn x s) = map (λ t. (x, t)) (option_to_list (members (type_of s)))
open_targets (ChooseSuch targets p) = targets

abbrev pub as_term : List ℕ × Ty → Formula
as_term x = formula.Free x.0 x.1

-- the targets of an action with their new values: E where it is `x ≔ E`, and x' where it is nondeterministic
abbrev pub new_values : Action → List (List ℕ × Formula)
new_values (Assign pairs) = pairs
new_values (ChooseIn x s) = map (λ y. (y.0, as_term (with_prime y))) (open_targets (ChooseIn x s))
new_values (ChooseSuch targets p) = map (λ y. (y.0, as_term (with_prime y))) targets

-- the before-after predicate of a nondeterministic action
abbrev pub before_after : Action → List Formula
before_after (Assign pairs) = []
before_after (ChooseIn x s) = map (λ y. member (as_term (with_prime y)) s) (open_targets (ChooseIn x s))
before_after (ChooseSuch targets p) = p ∷ []

-- Each variable that is changed, own or lost, with its value after the event. That of a lost one comes from the abstract event.
abbrev pub after_pairs : CheckedMachine → CheckedEvent → List CheckedEvent → List (List ℕ × Formula)
after_pairs m e refined =
    for_each new_values (actions_of e) ++ filter (λ p. is_among m.lost p.0) (for_each new_values (actions_of_first refined))

-- own and lost variables, with their types
abbrev pub variables_of : CheckedMachine → List (List ℕ × Ty)
variables_of m = filter (λ x. is_among (m.variables ++ m.lost) x.0) m.env

-- each primed variable with the variable's value after the event, which is the variable itself where it is not changed
abbrev pub primed_values : CheckedMachine → List (List ℕ × Formula) → List (List ℕ × Formula)
primed_values m after = map (λ x. ((with_prime x).0, substituted after (as_term x))) (variables_of m)

-- The names with which formulas of an event may be written: carrier sets and constants, variables from the most abstract machine on, parameters, lost abstract parameters,
-- and the primed names of variables that are assigned nondeterministically, own ones before lost ones.
abbrev pub obligation_env : CheckedMachine → CheckedEvent → List CheckedEvent → List (List ℕ × Ty)
obligation_env m e refined =
    m.env ++ e.params ++ params_left_out e refined
    ++ map with_prime (for_each open_targets (actions_of e) ++ filter (λ x. is_among m.lost x.0) (for_each open_targets (actions_of_first refined)))

-- axioms and invariants
abbrev pub machine_hyps : CheckedMachine → List Formula
machine_hyps m = formulas m.axioms ++ formulas m.invariants

-- axioms, invariants and guards, for INITIALISATION the axioms alone
abbrev pub base : CheckedMachine → CheckedEvent → List Formula
base m e = if initialises e then formulas m.axioms else (machine_hyps m ++ formulas e.guards)

abbrev pub parts_of : CheckedMachine → CheckedEvent → List CheckedEvent → EventParts
parts_of m e refined = record {
  path = path_with m.name e.name;
  env = obligation_env m e refined;
  base = base m e;
  choices = for_each before_after (actions_of e);
  witnesses = map (λ w. (w.0, substituted (primed_values m (after_pairs m e refined)) w.1)) e.witnesses;
  after = after_pairs m e refined;
}
