-- What is shown discharged is true in every classical universe, and what is said to follow in every reading.
use Rattle.std.specs.Prelude.{◌≡◌, ⊤, ℕ, List, Option, Some, None}
use Rattle.std.specs.List.{AllZip}
use Rattle.sequent_core.specs.declared.Sequent.{Sequent}
use Rattle.sequent_core.specs.declared.Obligation.{Obligation}
use Rattle.true_rules.specs.Validity.{IsValid}
use Rattle.plain_rules.specs.Derivations.{IsTrueEverywhere}
use Rattle.readings_core.specs.declared.Follows.{Follows}
use Rattle.readings_core.specs.declared.Follows.TheVariants.{Yes}
use Rattle.proof_entries.specs.declared.Origin.{Origin}
use Rattle.core_steps.specs.declared.durable.Durable.{Durable}
use Rattle.core_steps.specs.declared.events.Reply.{Reply}
use Rattle.core_steps.specs.declared.events.Reply.TheVariants.{Now, NotOpen, Noted, NoMemory, Stored, Refused, Stale, Statuses, Shown, Followed}
use Rattle.core_steps.specs.declared.events.Status.{Status}
use Rattle.core_steps.specs.declared.events.Status.TheVariants.{Discharged}
use Rattle.core_steps.specs.Durable.{ProjectMap}
use Rattle.core_steps.specs.Laws.{TellsRebuilt}
use Rattle.core_steps.specs.Status.{IsRebuilt}
use Rattle.core_steps.specs.Table.{IsTable, IsPresent}

-- where the obligation is shown discharged, it is true
abbrev pub IsTrueWhereDischarged : Obligation → List ℕ × Status × Option Origin → Type 0
IsTrueWhereDischarged o shown = (shown.0 ≡ o.name) × (shown.1 ≡ Discharged → IsValid o.sequent)

-- every obligation of the built texts that is shown discharged is true
abbrev pub AreTrueMarks : ProjectMap → List (List ℕ × Status × Option Origin) → Type 0
AreTrueMarks built shown = (table : List Obligation) × IsTable built table × AllZip IsTrueWhereDischarged table shown

-- the law of the list of all statuses
abbrev pub MarksAreTrue : Type 0
MarksAreTrue =
    (d : Durable) (shown : List (List ℕ × Status × Option Origin)) → IsRebuilt d shown → AreTrueMarks d.built shown

-- the built texts have an obligation of this name, and where the status is discharged it is true
abbrev pub IsTrueMark : ProjectMap → List ℕ → Status → Type 0
IsTrueMark built name status =
    (table : List Obligation) × (sequent : Sequent) × IsTable built table × IsPresent table name (Some sequent)
    × (status ≡ Discharged → IsValid sequent)

abbrev pub IsTrueMarkIf : ProjectMap → List ℕ → Option Status → Type 0
IsTrueMarkIf built name None = ⊤
IsTrueMarkIf built name (Some status) = IsTrueMark built name status

-- the built texts have an obligation of this name, and where it is said to follow it is true in each reading
abbrev pub IsTrueIfFollows : ProjectMap → List ℕ → Follows → Type 0
IsTrueIfFollows built name answer =
    (table : List Obligation) × (sequent : Sequent) × IsTable built table × IsPresent table name (Some sequent)
    × (answer ≡ Yes → IsTrueEverywhere sequent)

-- what a reply shows discharged is true, and what it says to follow is true in each reading
abbrev pub TellsTrue : ProjectMap → Reply → Type 0
TellsTrue built (Now name status) = IsTrueMark built name status
TellsTrue built (NotOpen name status) = IsTrueMark built name status
TellsTrue built (Noted name status) = IsTrueMarkIf built name status
TellsTrue built (NoMemory name status) = IsTrueMarkIf built name status
TellsTrue built (Stored name status) = IsTrueMarkIf built name status
TellsTrue built (Refused name status) = IsTrueMarkIf built name status
TellsTrue built (Stale name status) = IsTrueMarkIf built name status
TellsTrue built (Statuses shown) = AreTrueMarks built shown
TellsTrue built (Shown name status sequent) = IsTrueMark built name status
TellsTrue built (Followed name answer) = IsTrueIfFollows built name answer
TellsTrue built reply = ⊤

-- the law of the replies
abbrev pub TellsTruth : Type 0
TellsTruth = (d : Durable) (reply : Reply) → TellsRebuilt d reply → TellsTrue d.built reply
