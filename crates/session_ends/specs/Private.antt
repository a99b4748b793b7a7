-- What only private contracts cite.
use Rattle.std.specs.Prelude.{◌≡◌, ◌≤◌, ℕ, List, Option, Bool, true, false, [], codes, Some, None, if◌then◌else◌}
use Rattle.std.specs.Option.{option_map}
use Rattle.outside.specs.Disk.{Sides, LeavesOnly}
use Rattle.sequent_core.specs.declared.Sequent.{Sequent}
use Rattle.sequent_core.specs.declared.Attempt.{Attempt}
use Rattle.store_log.specs.StoreLog.{chair_of, store_meaning}
use Rattle.store_log.specs.declared.fault.StoreFault.{StoreFault}
use Rattle.project_store.specs.Moments.{StoodWithin}
use Rattle.project_store.specs.Store.{StoreState, IsSoundStore, Rests, log_in, base_in}
use Rattle.session_streams.specs.Streams.{SourceState, writing}
use Rattle.session_streams.specs.declared.reading.ReadEnd.TheVariants as reads
use Rattle.session_talk.specs.declared.conversing.Ending.{Ending}
use Rattle.session_talk.specs.declared.conversing.Ending.TheVariants as ending
use Rattle.session_play.specs.Playing.{IsPlayed}
use Rattle.session_ends.specs.Sessions.{IsSession, Opens}
use Rattle.session_ends.specs.Written.{WritesOrFails}
use Rattle.session_ends.specs.Statuses.{fault_status, store_fault_line}

-- where the store met no fault
abbrev pub end_status : Ending → ℕ
end_status (ending.Read reads.Ended) = 0
end_status ending.Quit = 0
end_status ending.CutEdit = 1
end_status (ending.Read reads.ReadFault) = 3
end_status ending.WriteFault = 4
end_status (ending.Read reads.FullInput) = 7
end_status _ = 9

abbrev pub end_line : Ending → List ℕ
end_line ending.CutEdit = codes "input: ended inside an edit\n"
end_line (ending.Read reads.ReadFault) = codes "input: read fault\n"
end_line (ending.Read reads.FullInput) = codes "full: input\n"
end_line _ = []

-- memory ran out between the acts of chair 0
abbrev pub lacks_memory : Ending → Bool
lacks_memory (ending.Read reads.OutOfMemory) = true
lacks_memory ending.OutOfMemory = true
lacks_memory _ = false

-- a fault of the store goes before all but that
abbrev pub status_at : Ending → Option StoreFault → ℕ
status_at end None = end_status end
status_at end (Some fault) = if lacks_memory end then end_status end else fault_status fault

abbrev pub ending_line : Ending → Option StoreFault → List ℕ
ending_line end None = end_line end
ending_line end (Some fault) = if lacks_memory end then end_line end else store_fault_line fault

-- A play of a store, and then the last line that its ending and the store's first fault ask for, make a session.
abbrev pub PlaysEnd : {D : Type 0} (told : Type 0) (bytes_of : D → Sides) (images : D → Sides → Type 0) (clock : D → ℕ) (moments : D → ℕ → Sides → Type 0) (faults : D → ℕ) →
    (Sequent → Attempt → Type 0) → (Sequent → Type 0) → Type 0
PlaysEnd {D} told bytes_of images clock moments faults fair sure =
    (workers : ℕ) (first last : StoreState D) (source : SourceState) (before between after : Option (List ℕ)) (f g h : ℕ) (ending : Ending) (old : D) →
    Opens told bytes_of images clock moments faults old first → base_in last ≡ base_in first → IsSoundStore told bytes_of images faults last →
    Rests told bytes_of images last → (told → LeavesOnly clock moments old last.journal.disk (StoodWithin (images old) last)) →
    IsPlayed chair_of store_meaning fair workers (base_in first) (log_in last) source (writing before between f g) ending →
    WritesOrFails (writing between after g h) (ending_line ending (option_map (λ k. k.fault) last.kept)) → g ≤ h →
    IsSession told bytes_of images clock moments faults fair sure workers old last.journal.disk source (writing before after f h)
    (status_at ending (option_map (λ k. k.fault) last.kept)) last.history last.core.durable
