-- The events of `check` and of a round of `demo`: an edit for each part, a build, turns of taking and finishing until
-- nothing is left to take, and questions.
use Rattle.std.specs.Prelude.{◌≡◌, ◌⊎◌, ℕ, List, [], ◌∷◌, ◌++◌, ⊤, Option, None}
use Rattle.sequent_core.specs.declared.Sequent.{Sequent}
use Rattle.sequent_core.specs.declared.Ticket.{Ticket}
use Rattle.sequent_core.specs.declared.Attempt.{Attempt}
use Rattle.sequent_core.specs.Provers.{IsFair}
use Rattle.build_core.specs.declared.FaultLine.{FaultLine}
use Rattle.proof_entries.specs.declared.Origin.{Origin}
use Rattle.core_steps.specs.declared.Status.{Status}
use Rattle.core_steps.specs.declared.Event.TheVariants.{Edit, Build, Take, Finish, Ask}
use Rattle.core_steps.specs.declared.Question.{Question}
use Rattle.core_steps.specs.declared.Question.TheVariants.{Statuses as AskStatuses, Faults as AskFaults}
use Rattle.core_steps.specs.declared.Reply.{Reply}
use Rattle.core_steps.specs.declared.Reply.TheVariants.{Built, TableFull, Nothing, Taken, Statuses, Faults}
use Rattle.core_steps.specs.Run.{Exchange}
use Rattle.check_input.specs.Inputs.{Component}
use Rattle.rodin_cli.specs.declared.round.Numbers.{Numbers}

-- an edit for each part
abbrev pub AreEdits : List Component → List Exchange → Type 0
AreEdits [] [] = ⊤
AreEdits [] (x ∷ exchanges) = ⊥
AreEdits (part ∷ parts) [] = ⊥
AreEdits (part ∷ parts) (x ∷ exchanges) = (x.event ≡ Edit part.0 part.1) × AreEdits parts exchanges

-- edits for the first of the parts
abbrev pub AreFirstEdits : List Component → List Exchange → Type 0
AreFirstEdits parts [] = ⊤
AreFirstEdits [] (x ∷ exchanges) = ⊥
AreFirstEdits (part ∷ parts) (x ∷ exchanges) = (x.event ≡ Edit part.0 part.1) × AreFirstEdits parts exchanges

-- a ticket was taken, and finished with a fair attempt at its sequent
abbrev pub IsTurn : (Sequent → Attempt → Type 0) → (Sequent → Type 0) → Exchange → Exchange → Type 0
IsTurn answers sure x y =
    (ticket : Ticket) × (attempt : Attempt) × (x.event ≡ Take None) × (x.reply ≡ Taken ticket) × (y.event ≡ Finish ticket.number attempt)
    × IsFair (answers ticket.sequent attempt) (sure ticket.sequent) attempt ticket.sequent

abbrev pub AreTurns : (Sequent → Attempt → Type 0) → (Sequent → Type 0) → List Exchange → Type 0
AreTurns answers sure [] = ⊤
AreTurns answers sure (x ∷ []) = ⊥
AreTurns answers sure (x ∷ y ∷ exchanges) = IsTurn answers sure x y × AreTurns answers sure exchanges

-- questions, these in order or the first of them
abbrev pub AreFirstAsks : List Question → List Exchange → Type 0
AreFirstAsks questions [] = ⊤
AreFirstAsks [] (x ∷ exchanges) = ⊥
AreFirstAsks (question ∷ questions) (x ∷ exchanges) = (x.event ≡ Ask question) × AreFirstAsks questions exchanges

-- what comes after the turns, or a front of it: nothing is left to take, and the questions
abbrev pub IsEndFront : List Question → List Exchange → Type 0
IsEndFront questions [] = ⊤
IsEndFront questions (x ∷ []) = x.event ≡ Take None
IsEndFront questions (x ∷ y ∷ exchanges) = (x.event ≡ Take None) × (x.reply ≡ Nothing) × AreFirstAsks questions (y ∷ exchanges)

-- the texts were built
abbrev pub IsBuiltReply : Reply → Type 0
IsBuiltReply reply = (components faulted obligations : ℕ) × (reply ≡ Built components faulted obligations)

-- edits of these parts, and a build that is refused for its table's size
pub record IsFullScript (parts : List Component) (exchanges : List Exchange) : Type 0 where
  pub edits : List Exchange
  pub build : Exchange
  pub nodes : ℕ
  pub in_order : exchanges ≡ edits ++ build ∷ []
  pub edits_are : AreEdits parts edits
  pub build_is : (build.event ≡ Build) × (build.reply ≡ TableFull nodes)

-- edits of these parts, a build with these numbers, turns until nothing is left to take, and what is asked then
pub record IsRound (answers : Sequent → Attempt → Type 0) (sure : Sequent → Type 0) (parts : List Component) (numbers : Numbers) (asked : List Exchange) (exchanges : List Exchange) : Type 0 where
  pub edits : List Exchange
  pub build : Exchange
  pub turns : List Exchange
  pub nothing : Exchange
  pub in_order : exchanges ≡ (edits ++ build ∷ turns) ++ nothing ∷ asked
  pub edits_are : AreEdits parts edits
  pub build_is : (build.event ≡ Build) × (build.reply ≡ Built numbers.components numbers.faulted numbers.obligations)
  pub turns_are : AreTurns answers sure turns
  pub nothing_is : (nothing.event ≡ Take None) × (nothing.reply ≡ Nothing)

-- a front of such a round, in which these questions are asked at its end
abbrev pub IsRoundFront : (Sequent → Attempt → Type 0) → (Sequent → Type 0) → List Component → List Question → List Exchange → Type 0
IsRoundFront answers sure parts questions exchanges =
    AreFirstEdits parts exchanges
    ⊎ ((edits : List Exchange) × (build : Exchange) × (turns : List Exchange) × (end : List Exchange)
    × (exchanges ≡ (edits ++ build ∷ turns) ++ end) × AreEdits parts edits × (build.event ≡ Build) × IsBuiltReply build.reply × AreTurns answers sure turns × IsEndFront questions end)

-- a whole run of `check`, which tells these faults and shows these statuses
pub record IsWholeScript (answers : Sequent → Attempt → Type 0) (sure : Sequent → Type 0) (parts : List Component) (told : List FaultLine) (warned : List (List ℕ × List ℕ)) (shown : List (List ℕ × Status × Option Origin)) (exchanges : List Exchange) : Type 0 where
  pub numbers : Numbers
  pub faults : Exchange
  pub statuses : Exchange
  pub round : IsRound answers sure parts numbers (faults ∷ statuses ∷ []) exchanges
  pub faults_is : (faults.event ≡ Ask AskFaults) × (faults.reply ≡ Faults told warned)
  pub statuses_is : (statuses.event ≡ Ask AskStatuses) × (statuses.reply ≡ Statuses shown)

-- a front of a run of `check`
abbrev pub IsFront : (Sequent → Attempt → Type 0) → (Sequent → Type 0) → List Component → List Exchange → Type 0
IsFront answers sure parts exchanges = IsRoundFront answers sure parts (AskFaults ∷ AskStatuses ∷ []) exchanges
