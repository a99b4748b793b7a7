-- What the table rests on, so that each of its obligations is a sequent: formulas typed in the environments of their
-- places.
use Rattle.std.specs.Prelude.{⊤, ◌≡◌, ◌≢◌, ℕ, List, [], ◌++◌, map, Option, IfSome, true, bytes_eq, ◌||◌, is_some}
use Rattle.std.specs.List.{AllByRecursion, IsDistinct, filter}
use Rattle.std.specs.Map.{keys_of}
use Rattle.formula_core.specs.declared.ty.Ty.{Ty}
use Rattle.formula_core.specs.declared.ty.Ty.TheVariants.{Pow}
use Rattle.formula_core.specs.declared.formula.Formula.{Formula}
use Rattle.formula_core.specs.declared.raw.Action.{Action}
use Rattle.formula_core.specs.declared.raw.Action.TheVariants.{Assign, ChooseIn, ChooseSuch}
use Rattle.formula_core.specs.Typed.{Stands, IsTypedIn, IsPredicateIn, IsGoodEnv}
use Rattle.formula_core.specs.Types.{is_integer, members}
use Rattle.formula_core.specs.Wellness.{type_of}
use Rattle.model_core.specs.declared.checked.Checked.{Checked}
use Rattle.model_core.specs.declared.checked.Checked.TheVariants.{Context, Machine}
use Rattle.model_core.specs.declared.checked.CheckedContext.{CheckedContext}
use Rattle.model_core.specs.declared.checked.CheckedEvent.{CheckedEvent}
use Rattle.model_core.specs.declared.checked.CheckedMachine.{CheckedMachine}
use Rattle.model_core.specs.declared.checked.Labelled.{Labelled}
use Rattle.model_core.specs.Each.{for_each, is_among}
use Rattle.po_rules.specs.Parts.{actions_of, actions_of_first, variables_of, open_targets, new_values, before_after, parts_of}
use Rattle.formula_core.specs.Names.{with_prime}
use Rattle.model_core.specs.Refined.{refined_by, params_left_out}
use Rattle.po_rules.specs.Sequents.{IsNewValueIn, AreGoodParts}

abbrev pub Environment : Type 0
Environment = List (List ℕ × Ty)

abbrev pub AreTypedPredicates : Environment → List Labelled → Type 0
AreTypedPredicates env labelled = AllByRecursion (λ l. IsPredicateIn env l.formula) labelled

-- integers, or sets
abbrev pub IsVariantType : Ty → Type 0
IsVariantType t = (is_integer t || is_some (members t)) ≡ true

abbrev pub IsTypedVariantIn : Environment → Formula → Type 0
IsTypedVariantIn env v = IsTypedIn env v × IsVariantType (type_of v)

-- The sides of an action are typed where it stands: new values have the types of their targets, `:∈` has a set of
-- values of its target's type, and the predicate of `:∣` speaks of some targets, which stand there with their primes.
abbrev pub IsActionAt : Environment → Action → Type 0
IsActionAt env (Assign pairs) = AllByRecursion (IsNewValueIn env) pairs
IsActionAt env (ChooseIn x s) = IsTypedIn env s × ((t : Ty) × (type_of s ≡ Pow t) × Stands env (x, t))
IsActionAt env (ChooseSuch targets q) =
    (targets ≢ []) × AllByRecursion (λ x. Stands env (with_prime x)) targets × IsPredicateIn env q

abbrev pub AreNewValues : Environment → Action → Type 0
AreNewValues env (Assign pairs) = AllByRecursion (IsNewValueIn env) pairs
AreNewValues env a = ⊤

-- An abstract action speaks of variables of the environment: its new values are typed there, and its before-after
-- predicate where its targets with their primes stand in front.
pub record IsAbstractActionAt (env : Environment) (a : Action) : Type 0 where
  pub values : AreNewValues env a
  pub targets : AllByRecursion (Stands env) (open_targets a)
  pub choices : AllByRecursion (IsPredicateIn (map with_prime (open_targets a) ++ env)) (before_after a)

-- What the rows of an event read besides its parts, typed in their environment: axioms and invariants, the variant,
-- guards and actions, and those of the events that it refines.
pub record IsReadIn (env : Environment) (m : CheckedMachine) (e : CheckedEvent) (refined : List CheckedEvent) : Type 0 where
  pub axioms : AreTypedPredicates env m.axioms
  pub invariants : AreTypedPredicates env m.invariants
  pub variant : IfSome m.variant (IsTypedVariantIn env)
  pub guards : AreTypedPredicates env e.guards
  pub actions : AllByRecursion (λ a. IsActionAt env a.1) e.actions
  pub refined_guards : AllByRecursion (λ r. AreTypedPredicates env r.guards) refined
  pub refined_actions : AllByRecursion (IsAbstractActionAt env) (actions_of_first refined)

-- the parts of an event are good, and what its rows read is typed
abbrev pub HasGoodParts : CheckedMachine → List CheckedEvent → CheckedEvent → Type 0
HasGoodParts m refined e = AreGoodParts (parts_of m e refined) × IsReadIn (parts_of m e refined).env m e refined

pub record IsWellTypedContext (c : CheckedContext) : Type 0 where
  pub env : IsGoodEnv c.env
  pub axioms : AreTypedPredicates c.env c.axioms

-- a machine beside its abstraction
pub record IsGoodMachine (m : CheckedMachine) (abstraction : Option CheckedMachine) : Type 0 where
  pub env : IsGoodEnv m.env
  pub axioms : AreTypedPredicates m.env m.axioms
  pub invariants : AreTypedPredicates m.env m.invariants
  pub variant : IfSome m.variant (IsTypedVariantIn m.env)
  pub events : AllByRecursion (λ e. HasGoodParts m (refined_by abstraction e) e) m.events

abbrev pub IsGoodComponent : Checked → Option CheckedMachine → Type 0
IsGoodComponent (Context c) abstraction = IsWellTypedContext c
IsGoodComponent (Machine m) abstraction = IsGoodMachine m abstraction

-- Where the formulas of an event stand: the environment of its machine, with the parameters of the event and those that
-- it lacks,
abbrev pub params_env : CheckedMachine → CheckedEvent → List CheckedEvent → Environment
params_env m e refined = m.env ++ e.params ++ params_left_out e refined

-- and, for witnesses, with the machine's variables with a prime.
abbrev pub witnesses_env : CheckedMachine → CheckedEvent → List CheckedEvent → Environment
witnesses_env m e refined = params_env m e refined ++ map with_prime (variables_of m)

-- An action's targets stand in the environment with the types of their new values, and its formulas are typed there;
-- the predicate of `:∣`, which has some targets, where these stand with their primes, too.
abbrev pub IsTypedActionIn : Environment → Action → Type 0
IsTypedActionIn env (Assign pairs) = AllByRecursion (IsNewValueIn env) pairs
IsTypedActionIn env (ChooseIn x s) = IsTypedIn env s × ((t : Ty) × (type_of s ≡ Pow t) × Stands env (x, t))
IsTypedActionIn env (ChooseSuch targets q) =
    (targets ≢ []) × AllByRecursion (Stands env) targets × IsPredicateIn (env ++ map with_prime targets) q

-- the lost variables that the abstract event assigns nondeterministically
abbrev pub lost_chosen : CheckedMachine → List CheckedEvent → Environment
lost_chosen m refined = filter (λ x. is_among m.lost x.0) (for_each open_targets (actions_of_first refined))

-- a parameter that the event lacks, or a lost variable with its prime
abbrev pub wants_witness : CheckedMachine → CheckedEvent → List CheckedEvent → Environment
wants_witness m e refined = params_left_out e refined ++ map with_prime (lost_chosen m refined)

-- the variables that the actions assign
abbrev pub targets_of_all : List Action → List (List ℕ)
targets_of_all actions = keys_of (for_each new_values actions)

abbrev pub AreAmong : List (List ℕ) → List (List ℕ) → Type 0
AreAmong names all = AllByRecursion (λ n. is_among all n ≡ true) names

-- An event beside those that it refines: its formulas and theirs are typed in the environments of their places. It
-- assigns variables of its machine, each once; the first of the refined events assigns own and lost ones. With a prime,
-- variables are new beside all parameters.
pub record IsWellTypedEvent (m : CheckedMachine) (refined : List CheckedEvent) (e : CheckedEvent) : Type 0 where
  pub primed : IsGoodEnv (witnesses_env m e refined)
  pub guards : AreTypedPredicates (m.env ++ e.params) e.guards
  pub actions : AllByRecursion (IsTypedActionIn (m.env ++ e.params)) (actions_of e)
  pub targets : AreAmong (targets_of_all (actions_of e)) m.variables
  pub once : IsDistinct bytes_eq (targets_of_all (actions_of e))
  pub witnesses : AllByRecursion (λ w. IsPredicateIn (witnesses_env m e refined) w.1) e.witnesses
  pub witness_names : AreAmong (keys_of e.witnesses) (keys_of (wants_witness m e refined))
  pub refined_guards : AllByRecursion (λ r. AreTypedPredicates (params_env m e refined) r.guards) refined
  pub refined_actions : AllByRecursion (IsTypedActionIn (params_env m e refined)) (actions_of_first refined)
  pub refined_targets : AreAmong (targets_of_all (actions_of_first refined)) (m.variables ++ m.lost)
  pub refined_once : IsDistinct bytes_eq (targets_of_all (actions_of_first refined))

-- A machine beside its abstraction, and its events beside theirs. Own and lost variables stand in its environment, and
-- each of them is one or the other.
pub record IsWellTypedMachine (m : CheckedMachine) (abstraction : Option CheckedMachine) : Type 0 where
  pub env : IsGoodEnv m.env
  pub axioms : AreTypedPredicates m.env m.axioms
  pub invariants : AreTypedPredicates m.env m.invariants
  pub variant : IfSome m.variant (IsTypedVariantIn m.env)
  pub variables : AllByRecursion (λ n. (t : Ty) × Stands m.env (n, t)) (m.variables ++ m.lost)
  pub once : IsDistinct bytes_eq (m.variables ++ m.lost)
  pub events : AllByRecursion (λ e. IsWellTypedEvent m (refined_by abstraction e) e) m.events

abbrev pub IsWellTypedComponent : Checked → Option CheckedMachine → Type 0
IsWellTypedComponent (Context c) abstraction = IsWellTypedContext c
IsWellTypedComponent (Machine m) abstraction = IsWellTypedMachine m abstraction
