-- What a take and a finish do to the log of a store.
use Rattle.std.proofs.Common.{◌≡◌, ⊎_elim, inl, inr, subst, refl, ℕ, false, None, List}
use Rattle.sequent_core.specs.declared.Attempt.{Attempt}
use Rattle.sequent_core.specs.declared.Ticket.{Ticket}
use Rattle.sequent_core.specs.Sequents.{IsSequent}
use Rattle.core_steps.specs.declared.events.Event.TheVariants.{Take, Finish}
use Rattle.core_steps.specs.declared.events.Reply.{Reply}
use Rattle.core_steps.specs.declared.events.Reply.TheVariants.{Taken}
use Rattle.core_steps.specs.Step.{Does}
use Rattle.prover_pool.specs.Work.{TakesWork, FinishesWork}
use Rattle.prover_pool.specs.declared.work.Taken.TheVariants as taken
use Rattle.prover_pool.specs.declared.work.Done.TheVariants as done
use Rattle.store_log.specs.StoreLog.{chair_of, store_meaning, PerformsInLog}
use Rattle.store_log.specs.Storing.{failure_mark, RefusesEvent}
use Rattle.store_log.specs.declared.logged.Logged.{Logged}
use Rattle.store_log.specs.declared.logged.StoreBase.{StoreBase}
use Rattle.project_store.proofs.Taking.{nothing_taken}

module _ (base : StoreBase) (chair : ℕ) (found left : List Logged) where
  pub got : (reply : Reply) (ticket : Ticket) → PerformsInLog base chair (Take None) reply found left → reply ≡ Taken ticket → IsSequent ticket.sequent → TakesWork chair_of store_meaning base chair found (taken.Got ticket) left
  got reply ticket p is sequent =
      let e : Logged = record { chair = chair; event = Take None; failed = false } in
      ((e, refl, p.adds, (refl, refl, (p.xs, p.before, p.now, p.log, (p.entry, subst (λ r. Does p.before (Take None) r p.entry p.now) is p.step)))), sequent)

  pub found_nothing : (reply : Reply) → PerformsInLog base chair (Take None) reply found left → ((ticket : Ticket) → reply ≡ Taken ticket → ⊥) → TakesWork chair_of store_meaning base chair found taken.Nothing left
  found_nothing reply p never =
      let e : Logged = record { chair = chair; event = Take None; failed = false } in
      let is = nothing_taken p.before reply p.entry p.now p.step never in
      (e, refl, p.adds, (refl, refl, (p.xs, p.before, p.now, p.log, (p.entry, subst (λ r. Does p.before (Take None) r p.entry p.now) is p.step))))

  pub take_stopped : RefusesEvent chair (Take None) found left → TakesWork chair_of store_meaning base chair found taken.Stop left
  take_stopped r = (⊎_elim (λ same. inl same) (λ adds. inr (failure_mark chair (Take None), refl, adds, (refl, refl))) r.0, r.1)

  pub finish_kept : (reply : Reply) (ticket : ℕ) (attempt : Attempt) → PerformsInLog base chair (Finish ticket attempt) reply found left → FinishesWork chair_of store_meaning base chair ticket attempt found done.Kept left
  finish_kept reply ticket attempt p = let e : Logged = record { chair = chair; event = Finish ticket attempt; failed = false } in (e, refl, p.adds, (refl, refl))

  pub finish_stopped : (ticket : ℕ) (attempt : Attempt) → RefusesEvent chair (Finish ticket attempt) found left → FinishesWork chair_of store_meaning base chair ticket attempt found done.Stop left
  finish_stopped ticket attempt r = (⊎_elim (λ same. inl same) (λ adds. inr (failure_mark chair (Finish ticket attempt), refl, adds, (refl, refl))) r.0, r.1)
