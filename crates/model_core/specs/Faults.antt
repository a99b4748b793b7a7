-- The kinds of faults, and the first fault of a phase.
use Rattle.std.specs.Prelude.{ℕ, Bool, ◌&&◌, ◌||◌, ◌==◌, nat_lt, if◌then◌else◌, List, [], ◌∷◌, Option, Some, None}
use Rattle.model_core.specs.declared.fault.Fault.{Fault}
use Rattle.model_core.specs.declared.fault.FaultKind.{FaultKind}
use Rattle.model_core.specs.declared.fault.FaultKind.TheVariants as kind

-- the number of a kind in the table of faults
abbrev pub number : FaultKind → ℕ
number kind.BadSign = 1
number kind.NumberTooWide = 2
number kind.Unexpected = 3
number kind.FormulaTooLarge = 4
number kind.CommentNotClosed = 5
number kind.WrongName = 6
number kind.NoComponent = 7
number kind.Cyclic = 8
number kind.Blocked = 9
number kind.DeclaredTwice = 10
number kind.LabelTwice = 11
number kind.WrongKind = 12
number kind.Unknown = 13
number kind.TypesClash = 14
number kind.NoSingleType = 15
number kind.NoType = 16
number kind.NoVariable = 17
number kind.AssignedTwice = 18
number kind.BadInitialisation = 19
number kind.NoAbstractEvent = 20
number kind.MergedDiffer = 21
number kind.BadWitness = 22
number kind.Lost = 23
number kind.BadConvergence = 24

-- of one phase: an earlier place, or a lower number on one place
abbrev pub comes_before : Fault → Fault → Bool
comes_before a b = nat_lt a.place b.place || a.place == b.place && nat_lt (number a.kind) (number b.kind)

-- the earlier of two, and of two that tie the first
abbrev pub earlier : Option Fault → Option Fault → Option Fault
earlier None second = second
earlier (Some first) None = Some first
earlier (Some first) (Some second) = if comes_before second first then Some second else Some first

-- the first of one phase
abbrev pub first_by_place : List Fault → Option Fault
first_by_place [] = None
first_by_place (fault ∷ faults) = earlier (Some fault) (first_by_place faults)

abbrev pub fault_at : List ℕ → FaultKind → ℕ → List ℕ → Fault
fault_at component k place words = record { component = component; kind = k; place = place; words = words }
