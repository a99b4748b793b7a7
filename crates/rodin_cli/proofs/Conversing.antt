-- What the words `session WORKERS` come to.
use Rattle.std.proofs.Common.{◌≡◌, ◌≢◌, ℕ, List, subst, arith}
use Rattle.outside.specs.Disk.{Sides}
use Rattle.sequent_core.specs.declared.Sequent.{Sequent}
use Rattle.sequent_core.specs.declared.Attempt.{Attempt}
use Rattle.core_steps.specs.declared.Durable.{Durable}
use Rattle.core_steps.specs.declared.Event.{Event}
use Rattle.session_streams.specs.Streams.{SourceState, Writing}
use Rattle.session_ends.specs.Sessions.{Sessions}
use Rattle.session_ends.specs.Statuses.{IsSessionStatus, read_through, edit_left_open, reading_failed, writing_failed, disk_failed, no_project, limit_reached, no_memory}

module _ {D : Type 0} {told : Type 0} {bytes_of : D → Sides} {images : D → Sides → Type 0} {clock : D → ℕ} {moments : D → ℕ → Sides → Type 0} {faults : D → ℕ} {fair : Sequent → Attempt → Type 0} {sure : Sequent → Type 0} where
  -- one number of workers is the other
  pub same_session : (n m : ℕ) → n ≡ m → (old new : D) (untouched : Type 0) (source : SourceState) (sink : Writing) (status : ℕ) (history : List (ℕ × Event)) (last : Durable) →
      Sessions told bytes_of images clock moments faults fair sure n old new untouched source sink status history last →
      Sessions told bytes_of images clock moments faults fair sure m old new untouched source sink status history last
  same_session n m same old new untouched source sink status history last is = subst (λ k. Sessions told bytes_of images clock moments faults fair sure k old new untouched source sink status history last) same is

-- a session doesn't end with the status of words of no form
pub session_not_2 : (status : ℕ) → IsSessionStatus status → status ≢ 2
session_not_2 _ read_through e = omega (arith, e)
session_not_2 _ edit_left_open e = omega (arith, e)
session_not_2 _ reading_failed e = omega (arith, e)
session_not_2 _ writing_failed e = omega (arith, e)
session_not_2 _ disk_failed e = omega (arith, e)
session_not_2 _ no_project e = omega (arith, e)
session_not_2 _ limit_reached e = omega (arith, e)
session_not_2 _ no_memory e = omega (arith, e)
