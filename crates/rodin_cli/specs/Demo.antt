-- What `demo` did: its status, its history, and what it wrote.
use Rattle.std.specs.Prelude.{◌≡◌, ◌⊎◌, ℕ, Bool, true, false, List, [], ◌∷◌, ◌++◌, length, map, filter, codes, Option}
use Rattle.std.specs.Fmt.{decimal}
use Rattle.sequent_core.specs.declared.Sequent.{Sequent}
use Rattle.sequent_core.specs.declared.Attempt.{Attempt}
use Rattle.proof_entries.specs.declared.Origin.{Origin}
use Rattle.core_steps.specs.declared.Status.{Status}
use Rattle.core_steps.specs.declared.Status.TheVariants.{Unattempted, Pending, Reviewed, Discharged, Broken}
use Rattle.core_steps.specs.declared.Event.TheVariants.{Ask}
use Rattle.core_steps.specs.declared.Question.TheVariants.{Statuses as AskStatuses}
use Rattle.core_steps.specs.declared.Reply.TheVariants.{Statuses}
use Rattle.core_steps.specs.declared.Durable.{Durable}
use Rattle.core_steps.specs.State.{no_texts, after}
use Rattle.core_steps.specs.Run.{Exchange}
use Rattle.check_input.specs.Inputs.{Component}
use Rattle.demo_models.specs.Models.{models, edited_machine}
use Rattle.rodin_cli.specs.declared.outcome.Part.{Part}
use Rattle.rodin_cli.specs.declared.demo.Counted.{Counted}
use Rattle.rodin_cli.specs.declared.demo.Round.{Round}
use Rattle.rodin_cli.specs.declared.demo.Round.TheVariants.{Models, Edit}
use Rattle.rodin_cli.specs.declared.round.Numbers.{Numbers}
use Rattle.rodin_cli.specs.Check.{LeadsToPart}
use Rattle.session_run.specs.Completeness.{LeavesNothingSure}
use Rattle.rodin_cli.specs.Script.{IsRound, IsRoundFront, IsFullScript}
use Rattle.session_streams.specs.Streams.{Writing, Writes, WritesCut}
use Rattle.session_ends.specs.Written.{WritesOrFails}

abbrev pub is_discharged : Status → Bool
is_discharged Discharged = true
is_discharged Unattempted = false
is_discharged Pending = false
is_discharged Reviewed = false
is_discharged Broken = false

-- how many statuses are shown discharged
abbrev pub discharged_in : List (List ℕ × Status × Option Origin) → ℕ
discharged_in shown = length (filter (λ x. is_discharged x.1) shown)

-- the components that a round edits: all models, or the last machine alone
abbrev pub edited_in : Round → List Component
edited_in (Models seed n) = models seed n
edited_in (Edit n) = edited_machine n ∷ []

-- the line that is printed after a round
abbrev pub line_after : Round → Counted → List ℕ
line_after (Models seed n) c =
    codes "demo " ++ decimal seed ++ codes " " ++ decimal n ++ codes ": " ++ decimal c.components ++ codes " components, "
    ++ decimal c.obligations ++ codes " obligations, " ++ decimal c.discharged ++ codes " discharged\n"
line_after (Edit n) c = codes "after one edit: " ++ decimal c.obligations ++ codes " obligations, " ++ decimal c.discharged ++ codes " discharged\n"

-- A whole round, with the numbers of its replies: edits, a build, turns until nothing is left to take, and the question
-- for the statuses.
pub record Counts (answers : Sequent → Attempt → Type 0) (sure : Sequent → Type 0) (round : Round) (counted : Counted) (exchanges : List Exchange) : Type 0 where
  pub numbers : Numbers
  pub statuses : Exchange
  pub shown : List (List ℕ × Status × Option Origin)
  pub whole : IsRound answers sure (edited_in round) numbers (statuses ∷ []) exchanges
  pub statuses_is : (statuses.event ≡ Ask AskStatuses) × (statuses.reply ≡ Statuses shown)
  pub components : counted.components ≡ numbers.components
  pub obligations : counted.obligations ≡ numbers.obligations
  pub discharged : counted.discharged ≡ discharged_in shown

-- what lasts after these exchanges from the empty project
abbrev pub lasting : List Exchange → Durable
lasting exchanges = after no_texts (map (λ x. x.entry) exchanges)

-- The round begins after these exchanges, with this text written: the first one at once, the second one after the first.
abbrev pub ComesAfter : (Sequent → Attempt → Type 0) → (Sequent → Type 0) → ℕ → ℕ → Round → List Exchange → List ℕ → Type 0
ComesAfter answers sure seed n round done text =
    ((round ≡ Models seed n) × (done ≡ []) × (text ≡ []))
    ⊎ ((counted : Counted) × (round ≡ Edit n) × Counts answers sure (Models seed n) counted done
    × LeavesNothingSure sure (lasting done) done × (text ≡ line_after (Models seed n) counted))

-- both rounds are whole, and both lines are written
pub record ShowsBoth (answers : Sequent → Attempt → Type 0) (sure : Sequent → Type 0) (seed n : ℕ) (sink : Writing) (part : Part) : Type 0 where
  pub done : List Exchange
  pub text : List ℕ
  pub exchanges : List Exchange
  pub counted : Counted
  pub begins : ComesAfter answers sure seed n (Edit n) done text
  pub counts : Counts answers sure (Edit n) counted exchanges
  pub leads : LeadsToPart part (done ++ exchanges)
  pub complete : LeavesNothingSure sure part.last (done ++ exchanges)
  pub status_is : part.status ≡ 0
  pub written : Writes sink (text ++ line_after (Edit n) counted)

-- the sink failed on the line of a round: the lines up to it are written, cut
pub record ShowsCut (answers : Sequent → Attempt → Type 0) (sure : Sequent → Type 0) (seed n : ℕ) (sink : Writing) (part : Part) : Type 0 where
  pub round : Round
  pub done : List Exchange
  pub text : List ℕ
  pub exchanges : List Exchange
  pub counted : Counted
  pub begins : ComesAfter answers sure seed n round done text
  pub counts : Counts answers sure round counted exchanges
  pub leads : LeadsToPart part (done ++ exchanges)
  pub complete : LeavesNothingSure sure part.last (done ++ exchanges)
  pub status_is : part.status ≡ 4
  pub written : WritesCut sink (text ++ line_after round counted)

-- the build of a round was refused for its table's size: the lines before it are written, and then the last line
pub record ShowsFull (answers : Sequent → Attempt → Type 0) (sure : Sequent → Type 0) (seed n : ℕ) (sink : Writing) (part : Part) : Type 0 where
  pub round : Round
  pub done : List Exchange
  pub text : List ℕ
  pub exchanges : List Exchange
  pub begins : ComesAfter answers sure seed n round done text
  pub full : IsFullScript (edited_in round) exchanges
  pub leads : LeadsToPart part (done ++ exchanges)
  pub status_is : part.status ≡ 7
  pub written : WritesOrFails sink (text ++ codes "full: table\n")

-- memory ran out in a round: the lines of the rounds before it are written
pub record ShowsFront (answers : Sequent → Attempt → Type 0) (sure : Sequent → Type 0) (seed n : ℕ) (sink : Writing) (part : Part) : Type 0 where
  pub round : Round
  pub done : List Exchange
  pub text : List ℕ
  pub exchanges : List Exchange
  pub begins : ComesAfter answers sure seed n round done text
  pub front : IsRoundFront answers sure (edited_in round) (AskStatuses ∷ []) exchanges
  pub leads : LeadsToPart part (done ++ exchanges)
  pub status_is : part.status ≡ 9
  pub written : Writes sink text

module _ (answers : Sequent → Attempt → Type 0) (sure : Sequent → Type 0) (seed n : ℕ) (sink : Writing) (part : Part) where
  -- What `demo` did with this seed and this many models: both rounds are whole, or one stopped, for the sink, for the
  -- size of its table, or for want of memory.
  pub data Demonstrates : Type 0 where
    shows_both : (both : ShowsBoth answers sure seed n sink part) → Demonstrates
    shows_cut : (cut : ShowsCut answers sure seed n sink part) → Demonstrates
    shows_full : (full : ShowsFull answers sure seed n sink part) → Demonstrates
    shows_front : (lacking : ShowsFront answers sure seed n sink part) → Demonstrates

-- The exit statuses of a `demo` whose sink didn't fail.
pub data IsUnfailedDemoStatus (status : ℕ) : Type 0 where
  demo_whole : status ≡ 0 → IsUnfailedDemoStatus status
  demo_too_large : status ≡ 7 → IsUnfailedDemoStatus status
  demo_without_memory : status ≡ 9 → IsUnfailedDemoStatus status
