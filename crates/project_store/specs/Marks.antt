-- The log of a store: what it did, and a mark at most at its end, which is neither a take nor a finish.
use Rattle.std.specs.Prelude.{◌≡◌, ℕ, ◌≤◌, Option, Some, None, length}
use Rattle.std.proofs.Common.{refl, arith}
use Rattle.core_steps.specs.declared.events.Event.{Event}
use Rattle.prover_pool.specs.Work.{MarksNoOther, HasMarkLast}
use Rattle.prover_pool.specs.Marks.{marks_last}
use Rattle.store_log.specs.StoreLog.{chair_of, store_meaning, marks}
use Rattle.store_log.specs.declared.logged.Logged.{Logged}
use Rattle.project_store.specs.Store.{StoreState, logged, mark_in, log_in}

short_marks : (mark : Option (ℕ × Event)) → length (marks mark) ≤ 1
short_marks None = omega arith
short_marks (Some act) = omega arith

pub has_mark_last : {D : Type 0} (s : StoreState D) → HasMarkLast store_meaning (log_in s)
has_mark_last s = marks_last store_meaning logged (λ act. refl) s.history (marks (mark_in s.kept)) (short_marks (mark_in s.kept))

pub marks_no_other : MarksNoOther store_meaning
marks_no_other = record { take = λ base before e ticket is. is.0; finish = λ base before e ticket attempt is. is.0 }

-- an entry names its chair
pub names_chair : (e : Logged) → chair_of e ≡ e.chair
names_chair e = refl
