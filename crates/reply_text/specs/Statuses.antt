-- The printed statuses.
use Rattle.std.specs.Prelude.{ℕ, List, [], ◌∷◌, ◌++◌, length, codes, Bool, true, false, Option, Some, None}
use Rattle.std.specs.Fmt.{decimal}
use Rattle.std.specs.List.{flat_map, count_by}
use Rattle.proof_entries.specs.declared.Origin.{Origin}
use Rattle.proof_entries.specs.declared.Origin.TheVariants.{Unknown, User, Prover}
use Rattle.core_steps.specs.declared.Status.{Status}
use Rattle.core_steps.specs.declared.Status.TheVariants.{Unattempted, Pending, Reviewed, Discharged, Broken}

-- a line feed behind the words
abbrev pub line : List ℕ → List ℕ
line words = words ++ 10 ∷ []

abbrev pub status_word : Status → List ℕ
status_word Unattempted = codes "unattempted"
status_word Pending = codes "pending"
status_word Reviewed = codes "reviewed"
status_word Discharged = codes "discharged"
status_word Broken = codes "broken"

-- an obligation's name, a blank and its status
abbrev pub named_status : List ℕ → Status → List ℕ
named_status name status = name ++ 32 ∷ status_word status

-- who made a proof
abbrev pub origin_mark : Option Origin → List ℕ
origin_mark None = []
origin_mark (Some Unknown) = codes " (unknown)"
origin_mark (Some User) = codes " (user)"
origin_mark (Some Prover) = codes " (prover)"

abbrev pub status_line : List ℕ → Status → Option Origin → List ℕ
status_line name status origin = line (named_status name status ++ origin_mark origin)

-- the two are the same
abbrev pub is_same : Status → Status → Bool
is_same Unattempted Unattempted = true
is_same Pending Pending = true
is_same Reviewed Reviewed = true
is_same Discharged Discharged = true
is_same Broken Broken = true
is_same _ _ = false

-- how many obligations have the status
abbrev pub count_with : Status → List (List ℕ × Status × Option Origin) → ℕ
count_with status shown = count_by (λ x. is_same status x.1) shown

-- how many obligations there are, and how many of each status
abbrev pub summary : List (List ℕ × Status × Option Origin) → List ℕ
summary shown =
    line (decimal (length shown) ++ codes " obligations: " ++ decimal (count_with Unattempted shown) ++ codes " unattempted, "
    ++ decimal (count_with Pending shown) ++ codes " pending, " ++ decimal (count_with Reviewed shown) ++ codes " reviewed, "
    ++ decimal (count_with Discharged shown) ++ codes " discharged, " ++ decimal (count_with Broken shown) ++ codes " broken")

-- a line for each obligation, and the summary
abbrev pub statuses_text : List (List ℕ × Status × Option Origin) → List ℕ
statuses_text shown = flat_map (λ x. status_line x.0 x.1 x.2) shown ++ summary shown
