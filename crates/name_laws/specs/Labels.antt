-- What makes the names of a component's obligations differ: no name and no label has a slash, and each label stands
-- once.
use Rattle.std.specs.Prelude.{◌≢◌, ℕ, List, ◌++◌, map, drop, bytes_eq}
use Rattle.std.specs.List.{AllByRecursion, IsDistinct}
use Rattle.formula_core.specs.declared.formula.Formula.{Formula}
use Rattle.formula_core.specs.declared.raw.Action.{Action}
use Rattle.model_core.specs.declared.checked.Checked.{Checked}
use Rattle.model_core.specs.declared.checked.Checked.TheVariants.{Context, Machine}
use Rattle.model_core.specs.declared.checked.CheckedContext.{CheckedContext}
use Rattle.model_core.specs.declared.checked.CheckedEvent.{CheckedEvent}
use Rattle.model_core.specs.declared.checked.CheckedMachine.{CheckedMachine}
use Rattle.model_core.specs.declared.checked.Labelled.{Labelled}

-- no slash stands in a text
abbrev pub IsPlain : List ℕ → Type 0
IsPlain text = AllByRecursion (λ c. c ≢ 47) text

abbrev pub labels : List Labelled → List (List ℕ)
labels labelled = map (λ l. l.label) labelled

abbrev pub action_labels : List (List ℕ × Action) → List (List ℕ)
action_labels actions = map (λ a. a.0) actions

abbrev pub names_of_witnesses : List (List ℕ × Formula) → List (List ℕ)
names_of_witnesses witnesses = map (λ w. w.0) witnesses

abbrev pub own_axioms : CheckedContext → List Labelled
own_axioms c = drop c.own_from c.axioms

abbrev pub own_invariants : CheckedMachine → List Labelled
own_invariants m = drop m.own_from m.invariants

pub record HasPlainNamesInContext (c : CheckedContext) : Type 0 where
  pub name : IsPlain c.name
  pub axioms : AllByRecursion IsPlain (labels (own_axioms c))

pub record HasPlainNamesInEvent (e : CheckedEvent) : Type 0 where
  pub name : IsPlain e.name
  pub guards : AllByRecursion IsPlain (labels e.guards)
  pub witnesses : AllByRecursion IsPlain (names_of_witnesses e.witnesses)
  pub actions : AllByRecursion IsPlain (action_labels e.actions)

pub record HasPlainNamesInMachine (m : CheckedMachine) : Type 0 where
  pub name : IsPlain m.name
  pub invariants : AllByRecursion IsPlain (labels (own_invariants m))
  pub variables : AllByRecursion IsPlain m.variables
  pub events : AllByRecursion HasPlainNamesInEvent m.events

-- no name and no label of the component has a slash
abbrev pub HasPlainNames : Checked → Type 0
HasPlainNames (Context c) = HasPlainNamesInContext c
HasPlainNames (Machine m) = HasPlainNamesInMachine m

-- no text stands twice
abbrev pub AreOnce : List (List ℕ) → Type 0
AreOnce texts = IsDistinct bytes_eq texts

pub record HasDistinctLabelsInEvent (e : CheckedEvent) : Type 0 where
  pub labels : AreOnce (labels e.guards ++ action_labels e.actions)
  pub witnesses : AreOnce (names_of_witnesses e.witnesses)

pub record HasDistinctLabelsInMachine (m : CheckedMachine) : Type 0 where
  pub invariants : AreOnce (labels (own_invariants m))
  pub variables : AreOnce m.variables
  pub names : AreOnce (map (λ e. e.name) m.events)
  pub events : AllByRecursion HasDistinctLabelsInEvent m.events

-- Each label of an own axiom or own invariant stands once, as do names of events and variables. In an event each label
-- of a guard or an action stands once, and so does each name of a witness.
abbrev pub HasDistinctLabels : Checked → Type 0
HasDistinctLabels (Context c) = AreOnce (labels (own_axioms c))
HasDistinctLabels (Machine m) = HasDistinctLabelsInMachine m
