-- What the log of a tray is, what its entries mean, and what a step does to it.
use Rattle.std.proofs.Common.{◌≡◌, ℕ, ◌≤◌, Bool, true, false, List, [], ◌∷◌, ◌++◌, map, length, Option, Some, None, refl, arith}
use Rattle.sequent_core.specs.declared.Ticket.{Ticket}
use Rattle.sequent_core.specs.declared.Attempt.{Attempt}
use Rattle.sequent_core.specs.declared.Attempt.TheVariants.{Found, NoProof, NoMemory}
use Rattle.prover_pool.specs.Work.{Meaning, HasMarkLast, MarksNoOther}
use Rattle.prover_pool.specs.Marks.{marks_last}
use Rattle.pool_run.specs.declared.tray.Outcome.{Outcome}
use Rattle.pool_run.specs.declared.tray.Outcome.TheVariants as outcome
use Rattle.pool_run.specs.declared.tray.What.{What}
use Rattle.pool_run.specs.declared.tray.What.TheVariants.{Take, Finish}
use Rattle.pool_run.specs.declared.tray.Step.{Step as Action}
use Rattle.pool_run.specs.declared.tray.Entry.{Entry}
use Rattle.pool_run.specs.declared.tray.Entry.TheVariants.{Step, Mark}
use Rattle.pool_run.specs.declared.tray.Tray.{Tray}

-- the mark of the fault, if one is kept
abbrev pub marks_of_action : Option Action → List Entry
marks_of_action None = []
marks_of_action (Some a) = Mark a ∷ []

-- the steps, and after them the mark of the fault
abbrev pub log_of : Tray → List Entry
log_of t = map Step t.steps.items ++ marks_of_action t.fault

abbrev pub chair_of_entry : Entry → ℕ
chair_of_entry (Step a) = a.chair
chair_of_entry (Mark a) = a.chair

abbrev pub outcome_of : Attempt → Outcome
outcome_of (Found tree) = outcome.Proof
outcome_of NoProof = outcome.NoProof
outcome_of NoMemory = outcome.NoMemory

-- the number of the ticket, if one was given
abbrev pub IsNumber : Option ℕ → Option Ticket → Type 0
IsNumber (Some n) (Some ticket) = ticket.number ≡ n
IsNumber None None = Unit {0}
IsNumber _ _ = ⊥

abbrev pub IsTakeOf : What → Option Ticket → Type 0
IsTakeOf (Take number) ticket = IsNumber number ticket
IsTakeOf (Finish n o) ticket = ⊥

abbrev pub IsFinish : What → ℕ → Attempt → Type 0
IsFinish (Take number) n attempt = ⊥
IsFinish (Finish m o) n attempt = (m ≡ n) × (o ≡ outcome_of attempt)

abbrev pub is_mark : Entry → Bool
is_mark (Step a) = false
is_mark (Mark a) = true

abbrev pub StepIsTake : Entry → Option Ticket → Type 0
StepIsTake (Step a) ticket = IsTakeOf a.what ticket
StepIsTake (Mark a) ticket = ⊥

abbrev pub StepIsFinish : Entry → ℕ → Attempt → Type 0
StepIsFinish (Step a) n attempt = IsFinish a.what n attempt
StepIsFinish (Mark a) n attempt = ⊥

-- what the entries mean to workers
abbrev pub tray_meaning : Meaning Entry ℕ
tray_meaning = record {
  is_mark = is_mark;
  is_take = λ base before e ticket. StepIsTake e ticket;
  is_finish = λ base before e n attempt. StepIsFinish e n attempt;
  is_failed_take = λ base before e. (a : Action) × (e ≡ Mark a) × IsTakeOf a.what None;
  is_failed_finish = λ base before e n attempt. (a : Action) × (e ≡ Mark a) × IsFinish a.what n attempt;
}

short : (fault : Option Action) → length (marks_of_action fault) ≤ 1
short None = omega arith
short (Some a) = omega arith

pub tray_marks_last : (t : Tray) → HasMarkLast tray_meaning (log_of t)
tray_marks_last t = marks_last tray_meaning Step (λ a. refl) t.steps.items (marks_of_action t.fault) (short t.fault)

unmarked_take : (e : Entry) (ticket : Option Ticket) → StepIsTake e ticket → is_mark e ≡ false
unmarked_take (Step a) ticket is = refl
unmarked_take (Mark a) ticket is = absurd is

unmarked_finish : (e : Entry) (n : ℕ) (attempt : Attempt) → StepIsFinish e n attempt → is_mark e ≡ false
unmarked_finish (Step a) n attempt is = refl
unmarked_finish (Mark a) n attempt is = absurd is

pub tray_marks_no_other : MarksNoOther tray_meaning
tray_marks_no_other = record {
  take = λ base before e ticket is. unmarked_take e ticket is;
  finish = λ base before e n attempt is. unmarked_finish e n attempt is;
}
