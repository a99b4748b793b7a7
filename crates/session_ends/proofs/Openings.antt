-- What a start of a store says of the opening of a session.
use Rattle.std.proofs.Common.{◌≡◌, ℕ, ◌≤◌, List}
use Rattle.std.specs.Prelude.{⊤, Result, Ok, Err, IfOk, IfErr, MatchResult}
use Rattle.outside.specs.Cause.{Rose}
use Rattle.outside.specs.Disk.{Sides, LeavesOnly}
use Rattle.project_store.specs.declared.fault.OpenFault.{OpenFault}
use Rattle.project_store.specs.declared.fault.OpenFault.TheVariants.{DiskFault}
use Rattle.project_store.specs.Opening.{StoreMeaning, StandsFor, durable, IsCause, IsAnswerFor, StandsAsSome}
use Rattle.project_store.specs.Records.{Recovers}
use Rattle.core_steps.specs.Table.{IsTableWithin}
use Rattle.sequent_core.specs.declared.Obligation.{Obligation}
use Rattle.project_store.specs.Store.{StoreState}
use Rattle.session_ends.specs.Sessions.{Opens, Refuses}

module _ {D : Type 0} (told : Type 0) (bytes_of : D → Sides) (images : D → Sides → Type 0) (clock : D → ℕ) (moments : D → ℕ → Sides → Type 0) (faults : D → ℕ) (old : D) where
  abbrev Result_ : Type 0
  Result_ = Result (StoreState D) (D × OpenFault)

  abbrev Opened : Result_ → Type 0
  Opened r = told → MatchResult r (λ store. Recovers (bytes_of old) store.base) (λ refused. IsCause (bytes_of old) refused.1)

  abbrev Exactly : Result_ → Type 0
  Exactly r = told → (meaning : StoreMeaning) → StandsFor (bytes_of old) meaning →
      MatchResult r (λ store. meaning ≡ durable store.base) (λ refused. IsAnswerFor meaning refused.1)

  pub opens : (r : Result_) → Opened r → Exactly r → IfOk r (λ store. (table : List Obligation) × IsTableWithin store.base.built table) →
      IfOk r (λ store. store.count ≡ faults old) → IfOk r (λ store. Opens told bytes_of images clock moments faults old store)
  opens (Ok store) stood exactly fits count = record { stood = stood; exactly = exactly; fits = fits; counted = count }
  opens (Err refused) stood exactly fits count = tt

  pub refuses : (told → (disk : D) (t : ℕ) (c : Sides) → t ≤ clock disk → images disk c → moments disk t c) →
      (r : Result_) → Opened r → Exactly r →
      (told → MatchResult r (λ store. LeavesOnly clock moments old store.journal.disk (StandsAsSome (images old))) (λ refused. LeavesOnly clock moments old refused.0 (StandsAsSome (images old)))) →
      MatchResult r (λ _. ⊤) (λ refused. refused.1 ≡ DiskFault → Rose (faults old) (faults refused.0)) →
      IfErr r (λ refused. Refuses told bytes_of images clock moments faults old refused.0 refused.1)
  refuses now (Ok store) stood exactly leaves fault = tt
  refuses now (Err refused) cause exactly leaves fault = record {
    cause = cause;
    exactly = exactly;
    disk_fault = fault;
    stands = λ t c image. (leaves t).each c (now t refused.0 _ c (leaves t).later image);
    any_moment = leaves;
  }
