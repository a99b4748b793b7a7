-- The entries that lead from nothing to what lasts of a project.
use Rattle.std.specs.Prelude.{ℕ, List, [], ◌∷◌, ◌++◌, map, bytes_eq, Option, Some, None, if◌then◌else◌}
use Rattle.std.specs.List.{flat_map}
use Rattle.std.specs.FinMap.{entries, keys, get, insert, empty}
use Rattle.proof_entries.specs.declared.Entry.{Entry}
use Rattle.proof_entries.specs.declared.Entry.TheVariants.{Put, Drop, Build, SetProof}
use Rattle.core_steps.specs.Durable.{ProjectMap}
use Rattle.core_steps.specs.declared.durable.Durable.{Durable}

-- how the present text of a name differs from the built one
abbrev pub entries_for_change : Option (List ℕ) → Option (List ℕ) → List ℕ → List Entry
entries_for_change None None name = []
entries_for_change (Some built) None name = Drop name ∷ []
entries_for_change None (Some text) name = Put name text ∷ []
entries_for_change (Some built) (Some text) name = if bytes_eq built text then [] else Put name text ∷ []

-- a build, where there are built texts
abbrev pub build_of : List (List ℕ × List ℕ) → List Entry
build_of [] = []
build_of (e ∷ es) = Build ∷ []

-- a project with an empty text under each of these names too
abbrev pub with_names_of : ProjectMap → List (List ℕ × List ℕ) → ProjectMap
with_names_of names [] = names
with_names_of names (e ∷ es) = with_names_of (insert names e.0 []) es

-- the names of two projects, each once, in byte order
abbrev pub names_of_both : ProjectMap → ProjectMap → List (List ℕ)
names_of_both built texts = keys (with_names_of (with_names_of empty (entries built)) (entries texts))

-- The state's entries: each built text by name, a build if there is one; then, by name, the built names that are gone and
-- the texts that differ; then the proofs by name.
abbrev pub state_entries : Durable → List Entry
state_entries d = map (λ e. Put e.0 e.1) (entries d.built)
    ++ (build_of (entries d.built)
    ++ (flat_map (λ name. entries_for_change (get d.built name) (get d.texts name) name) (names_of_both d.built d.texts)
    ++ map (λ e. SetProof e.0 e.1) (entries d.proofs)))
