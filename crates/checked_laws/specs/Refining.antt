-- The events of a machine beside those of its abstraction, and their witnesses.
use Rattle.std.specs.Prelude.{ℕ, List, [], ◌++◌, map, Option, ◌≡◌, true, IfSome, slice_get}
use Rattle.std.specs.List.{AllByRecursion, filter}
use Rattle.std.specs.Map.{keys_of}
use Rattle.formula_core.specs.Typed.{Stands, IsPredicateIn, IsGoodEnv}
use Rattle.type_action.specs.CoreActions.{primed}
use Rattle.model_core.specs.declared.checked.Checked.{Checked}
use Rattle.model_core.specs.declared.checked.Checked.TheVariants.{Context, Machine}
use Rattle.model_core.specs.declared.checked.CheckedEvent.{CheckedEvent}
use Rattle.model_core.specs.declared.checked.CheckedMachine.{CheckedMachine}
use Rattle.model_core.specs.Each.{is_among}
use Rattle.check_rules.specs.Typed.{Entries}
use Rattle.formula_core.specs.Laws.{IsWithin}
use Rattle.formula_core.specs.Env.{HasDistinctNames}
use Rattle.check_rules.specs.Refinements.{all_chosen, without_labels}
use Rattle.std.specs.Option.{option_map_or}
use Rattle.checked_laws.specs.Sound.{ArePredicatesIn, AreActionsIn, IsNamedIn}
use Rattle.model_core.specs.Refined.{refined_by, params_left_out}
use Rattle.formula_core.specs.Names.{with_prime}

-- the environment of a machine, with the parameters of an event and those that it lacks
abbrev pub env_with_params : Entries → List CheckedEvent → CheckedEvent → Entries
env_with_params env refined e = env ++ e.params ++ params_left_out e refined

-- The environment of an event's witnesses, in which the machine's variables stand with a prime, too: own and lost ones.
abbrev pub env_of_witnesses : Entries → List (List ℕ) → List CheckedEvent → CheckedEvent → Entries
env_of_witnesses env variables refined e =
    env_with_params env refined e ++ map with_prime (filter (λ x. is_among variables x.0) env)

-- An event's parameters stand there, and its guards and actions are typed there.
pub record IsEventIn (env : Entries) (e : CheckedEvent) : Type 0 where
  pub params : AllByRecursion (Stands env) e.params
  pub guards : ArePredicatesIn env e.guards
  pub actions : AreActionsIn env e.actions

-- the variables that the first of the refined events assigns nondeterministically
abbrev pub chosen_by_first : List CheckedEvent → List (List ℕ)
chosen_by_first refined = all_chosen (option_map_or (λ r. without_labels r.actions) (slice_get refined 0) [])

-- the names that want a witness: parameters that it lacks, and such lost variables with a prime
abbrev pub witness_names : List (List ℕ) → List CheckedEvent → CheckedEvent → List (List ℕ)
witness_names lost refined e =
    keys_of (params_left_out e refined) ++ map primed (filter (is_among (chosen_by_first refined)) lost)

-- An event beside those that it refines, which are there under their names. Each of the names that want a witness has one, and
-- no other; witnesses are predicates. With a prime, names of the machine are new beside all parameters.
pub record IsSoundRefinement (env : Entries) (variables lost : List (List ℕ)) (refined : List CheckedEvent) (e : CheckedEvent) : Type 0 where
  pub good : IsGoodEnv (env_of_witnesses env variables refined e)
  pub some_primed : (xs : Entries) → HasDistinctNames xs → AllByRecursion (Stands env) xs →
      IsGoodEnv (env_with_params env refined e ++ map with_prime xs)
  pub witnesses : AllByRecursion (λ w. IsPredicateIn (env_of_witnesses env variables refined e) w.1) e.witnesses
  pub names : AllByRecursion (λ w. IsNamedIn (env_of_witnesses env variables refined e) w.0) e.witnesses
  pub wanted : AllByRecursion (λ w. is_among (witness_names lost refined e) w.0 ≡ true) e.witnesses
  pub given : AllByRecursion (λ n. is_among (keys_of e.witnesses) n ≡ true) (witness_names lost refined e)
  pub found : map (λ r. r.name) refined ≡ e.refines
  pub abstract : AllByRecursion (IsEventIn (env_with_params env refined e)) refined

-- What stands in the environment of the abstraction stands in that of the machine, which has its variables or loses them.
pub record IsSoundOver (abstract m : CheckedMachine) : Type 0 where
  pub env : IsWithin abstract.env m.env
  pub variables : AllByRecursion (λ n. is_among (m.variables ++ m.lost) n ≡ true) abstract.variables

-- beside the abstraction, if there is one
abbrev pub IsSoundBeside : Option CheckedMachine → Checked → Type 0
IsSoundBeside abstraction (Context c) = Unit {0}
IsSoundBeside abstraction (Machine m) =
    IfSome abstraction (λ abstract. IsSoundOver abstract m)
    × AllByRecursion (λ e. IsSoundRefinement m.env (m.variables ++ m.lost) m.lost (refined_by abstraction e) e) m.events
