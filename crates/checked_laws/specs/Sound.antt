-- Checked components whose formulas are typed in the environments of their places, and whose events assign their variables.
use Rattle.std.specs.Prelude.{⊤, ◌≡◌, ◌≢◌, ℕ, true, ◌||◌, List, [], ◌++◌, map, take, drop, length, is_some, IfSome, IsTrue, bytes_eq}
use Rattle.std.specs.List.{AllByRecursion, IsDistinct}
use Rattle.formula_core.specs.declared.ty.Ty.{Ty}
use Rattle.formula_core.specs.declared.formula.Formula.{Formula}
use Rattle.formula_core.specs.declared.raw.Action.{Action}
use Rattle.formula_core.specs.declared.raw.Action.TheVariants.{Assign, ChooseIn, ChooseSuch}
use Rattle.formula_core.specs.Identifiers.{carriers}
use Rattle.formula_core.specs.Names.{is_identifier}
use Rattle.formula_core.specs.Typed.{Stands, IsTypedIn, IsPredicateIn, IsGoodEnv}
use Rattle.formula_core.specs.Types.{is_integer, members}
use Rattle.formula_core.specs.Wellness.{type_of}
use Rattle.model_core.specs.declared.checked.Checked.{Checked}
use Rattle.model_core.specs.declared.checked.Checked.TheVariants.{Context, Machine}
use Rattle.model_core.specs.declared.checked.CheckedContext.{CheckedContext}
use Rattle.model_core.specs.declared.checked.CheckedEvent.{CheckedEvent}
use Rattle.model_core.specs.declared.checked.CheckedMachine.{CheckedMachine}
use Rattle.model_core.specs.declared.checked.Labelled.{Labelled}
use Rattle.model_core.specs.Each.{is_among}
use Rattle.check_rules.specs.Assignments.{all_assigned}
use Rattle.check_rules.specs.Events.{initialisation}
use Rattle.check_rules.specs.Typed.{Entries, LabelledAction}
use Rattle.type_action.specs.Laws.{IsActionIn}

-- no name has a prime
abbrev pub HasIdentifiers : Entries → Type 0
HasIdentifiers env = AllByRecursion (λ x. IsTrue (is_identifier x.0)) env

abbrev pub ArePredicatesIn : Entries → List Labelled → Type 0
ArePredicatesIn env labelled = AllByRecursion (λ l. IsPredicateIn env l.formula) labelled

-- a predicate on new values speaks of some
abbrev pub HasTargets : Action → Type 0
HasTargets (Assign pairs) = ⊤
HasTargets (ChooseIn x s) = ⊤
HasTargets (ChooseSuch targets p) = targets ≢ []

abbrev pub AreActionsIn : Entries → List LabelledAction → Type 0
AreActionsIn env actions = AllByRecursion (λ a. IsActionIn env a.1 × HasTargets a.1) actions

-- a variant is an integer or a set
abbrev pub IsVariantIn : Entries → Formula → Type 0
IsVariantIn env v = IsTypedIn env v × ((is_integer (type_of v) || is_some (members (type_of v))) ≡ true)

-- each carrier set of the types stands among the constants
abbrev pub HasCarriersAmong : Entries → Entries → Type 0
HasCarriersAmong constants env = AllByRecursion (λ x. AllByRecursion (Stands constants) (carriers x.1)) env

-- the name stands there with some type
abbrev pub IsNamedIn : Entries → List ℕ → Type 0
IsNamedIn env name = (t : Ty) × Stands env (name, t)

pub record IsSoundContext (c : CheckedContext) : Type 0 where
  pub env : IsGoodEnv c.env
  pub names : HasIdentifiers c.env
  pub origins : length c.env_of ≡ length c.env
  pub axioms : ArePredicatesIn c.env c.axioms

-- An event over the constants and the environment of its machine: its parameters, guards and actions.
pub record IsSoundEvent (constants env : Entries) (e : CheckedEvent) : Type 0 where
  pub good : IsGoodEnv (env ++ e.params)
  pub sets : HasCarriersAmong constants e.params
  pub names : HasIdentifiers e.params
  pub guards : ArePredicatesIn (env ++ e.params) e.guards
  pub actions : AreActionsIn (env ++ e.params) e.actions

-- INITIALISATION has no parameters and no guards
abbrev pub StartsPlainly : CheckedEvent → Type 0
StartsPlainly e = bytes_eq initialisation e.name ≡ true → (e.params ≡ []) × (e.guards ≡ [])

-- What an event assigns are variables of its machine, each once, and INITIALISATION assigns all of them.
pub record AssignsVariables (variables : List (List ℕ)) (e : CheckedEvent) : Type 0 where
  pub targets : AllByRecursion (λ n. is_among variables n ≡ true) (all_assigned e.actions)
  pub once : IsDistinct bytes_eq (all_assigned e.actions)
  pub all : bytes_eq initialisation e.name ≡ true → AllByRecursion (λ n. is_among (all_assigned e.actions) n ≡ true) variables

-- In the environment variables stand behind the constants. Own and lost variables, and events, are there once each.
pub record IsSoundMachine (m : CheckedMachine) : Type 0 where
  pub env : IsGoodEnv m.env
  pub sets : HasCarriersAmong (take m.variables_from m.env) m.env
  pub names : HasIdentifiers m.env
  pub origins : length m.env_of ≡ length m.env
  pub axioms : ArePredicatesIn m.env m.axioms
  pub invariants : ArePredicatesIn m.env m.invariants
  pub variant : IfSome m.variant (IsVariantIn m.env)
  pub variables : AllByRecursion (IsNamedIn m.env) (m.variables ++ m.lost)
  pub behind : AllByRecursion (IsNamedIn (drop m.variables_from m.env)) (m.variables ++ m.lost)
  pub once : IsDistinct bytes_eq (m.variables ++ m.lost)
  pub events : AllByRecursion (IsSoundEvent (take m.variables_from m.env) m.env) m.events
  pub event_names : IsDistinct bytes_eq (map (λ e. e.name) m.events)
  pub has_start : is_among (map (λ e. e.name) m.events) initialisation ≡ true
  pub start : AllByRecursion StartsPlainly m.events
  pub assigns : AllByRecursion (AssignsVariables m.variables) m.events

abbrev pub IsSoundComponent : Checked → Type 0
IsSoundComponent (Context c) = IsSoundContext c
IsSoundComponent (Machine m) = IsSoundMachine m
