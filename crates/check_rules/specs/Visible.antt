-- What a component sees of others: their identifiers and axioms, each with the component in which it stands.
use Rattle.std.specs.Prelude.{ℕ, not, ◌&&◌, List, [], ◌∷◌, ◌++◌, map, take, drop, bytes_eq}
use Rattle.std.specs.List.{filter, list_any, zip}
use Rattle.formula_core.specs.declared.ty.Ty.{Ty}
use Rattle.model_core.specs.declared.checked.CheckedContext.{CheckedContext}
use Rattle.model_core.specs.declared.checked.CheckedMachine.{CheckedMachine}
use Rattle.model_core.specs.declared.checked.Labelled.{Labelled}
use Rattle.model_core.specs.Each.{is_among}

-- a value and the component in which it stands
abbrev pub WithOrigin : Type 0 → Type 0
WithOrigin X = X × List ℕ

abbrev pub Identifiers : Type 0
Identifiers = List (WithOrigin (List ℕ × Ty))

-- `constants` are carrier sets too. `variables` are those of all abstractions, the most abstract machine's first.
pub record Visible : Type 0 where
  pub contexts : List (List ℕ)
  pub constants : Identifiers
  pub variables : Identifiers
  pub axioms : List (WithOrigin Labelled)

abbrev pub nothing : Visible
nothing = record { contexts = []; constants = []; variables = []; axioms = [] }

abbrev pub all_visible : Visible → Identifiers
all_visible v = v.constants ++ v.variables

abbrev pub entries : Identifiers → List (List ℕ × Ty)
entries xs = map (λ x. x.0) xs

abbrev pub origins : {X : Type 0} → List (WithOrigin X) → List (List ℕ)
origins xs = map (λ x. x.1) xs

abbrev pub names : List (List ℕ × Ty) → List (List ℕ)
names env = map (λ e. e.0) env

-- what stands there, and then what comes from contexts that don't stand there yet
abbrev pub with_new : {X : Type 0} → List (WithOrigin X) → List (WithOrigin X) → List (WithOrigin X)
with_new old more = old ++ filter (λ x. not (is_among (origins old) x.1)) more

abbrev pub of_context : CheckedContext → Identifiers
of_context c = zip c.env c.env_of

-- with one context more, and those above it
abbrev pub with_context : Visible → CheckedContext → Visible
with_context v c = record {
  contexts = v.contexts ++ filter (λ n. not (is_among v.contexts n)) (c.ancestors ++ c.name ∷ []);
  constants = with_new v.constants (of_context c);
  variables = v.variables;
  axioms = with_new v.axioms (zip c.axioms c.axioms_of);
}

-- each context once, in the order of the references
abbrev pub seen_from : Visible → List CheckedContext → Visible
seen_from v [] = v
seen_from v (c ∷ contexts) = seen_from (with_context v c) contexts

abbrev pub of_machine : CheckedMachine → Visible
of_machine m = record {
  contexts = [];
  constants = take m.variables_from (zip m.env m.env_of);
  variables = drop m.variables_from (zip m.env m.env_of);
  axioms = zip m.axioms m.axioms_of;
}

-- the identifiers that have a name of another component
abbrev pub clashing : Identifiers → Identifiers → Identifiers
clashing old more = filter (λ x. list_any (λ y. bytes_eq x.0.0 y.0.0 && not (bytes_eq x.1 y.1)) old) more
