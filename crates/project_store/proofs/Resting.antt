-- Where no fault is one of the disk, what the journal knows of it holds.
use Rattle.std.proofs.Common.{◌≡◌, ℕ, Bool, true, false, refl}
use Rattle.outside.specs.Disk.{Sides}
use Rattle.journal_core.specs.State.{IsKept}
use Rattle.project_store.specs.Store.{StoreState, IsSoundStore, Rests}

not_true : (b : Bool) → (b ≡ true → ⊥) → b ≡ false
not_true true never = absurd (never refl)
not_true false never = refl

module _ {D : Type 0} (told : Type 0) (bytes_of : D → Sides) (images : D → Sides → Type 0) (faults : D → ℕ) (s : StoreState D) where
  pub rests : IsSoundStore told bytes_of images faults s →
      IsKept told bytes_of images s.journal.disk s.journal.side s.journal.gate s.journal.generation s.journal.rest_open s.journal.failed → Rests told bytes_of images s
  rests sound kept t none =
      (kept.within, kept.number, kept.at_rest t (not_true s.journal.failed (λ e. none (sound.failed e))))
